-- Tables: lists that hold the values of a function.
use Rattle.std.specs.Prelude.{ℕ, ◌<◌, ◌≡◌, List}
use Rattle.theory.specs.Mesh.{at}

-- The first n entries are those of a function.
pub record Tabulated (g : ℕ → ℕ) (n : ℕ) (table : List ℕ) : Type 0 where
  pub entry : (h : ℕ) → h < n → at table h ≡ g h
