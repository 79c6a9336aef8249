-- The least place at which something is given.
use Rattle.std.specs.Prelude.{ℕ, ◌<◌, Option, Some, None}

-- The answer is the least place below n at which something is given, or that there is none.
pub data Least (given : ℕ → Type 0) (n : ℕ) : Option ℕ → Type 0 where
  found : {place : ℕ} → place < n → given place → ((earlier : ℕ) → earlier < place → given earlier → ⊥)
      → Least given n (Some place)
  none : ((place : ℕ) → place < n → given place → ⊥) → Least given n None
