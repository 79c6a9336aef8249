-- The seven places of the roles.
use Prim.Native.Nat.{ℕ, ◌≤◌}
use native.Mathlib.Omega.{arith}
use mathlib.Core.Path.{◌≡◌, refl, ap, ◌∙◌}
use mathlib.Core.List.{List, [], ◌∷◌, ◌++◌}
use lib.ListN.{length, take, replicate, length-take, length-append}
use lib.Seq.{take-take}
use Rattle.theory.specs.Limits.{most_levels}
use Rattle.theory.specs.Mesh.{at}
use Rattle.theory.specs.Choice.{seven_places}

-- six entries, one by one, are the first six
pub first-six : (xs : List ℕ) → 6 ≤ length xs
    → at xs 0 ∷ at xs 1 ∷ at xs 2 ∷ at xs 3 ∷ at xs 4 ∷ at xs 5 ∷ [] ≡ take 6 xs
first-six (a ∷ b ∷ c ∷ d ∷ e ∷ f ∷ xs) l = refl
first-six [] l = absurd (omega arith)
first-six (a ∷ []) l = absurd (omega arith)
first-six (a ∷ b ∷ []) l = absurd (omega arith)
first-six (a ∷ b ∷ c ∷ []) l = absurd (omega arith)
first-six (a ∷ b ∷ c ∷ d ∷ []) l = absurd (omega arith)
first-six (a ∷ b ∷ c ∷ d ∷ e ∷ []) l = absurd (omega arith)

-- there are seven places
pub places-long : (roles : List ℕ) → length (seven_places roles) ≡ most_levels
places-long roles = omega (
  arith,
  length-take 7 (roles ++ replicate 7 0),
  length-append roles (replicate 7 0),
)

-- one role more stands in front of the first six places
pub places-more : (role : ℕ) (roles : List ℕ) {places : List ℕ} → places ≡ seven_places roles
    → role ∷ take 6 places ≡ seven_places (role ∷ roles)
places-more role roles e =
    ap (λ (places : List ℕ). role ∷ take 6 places) e
    ∙ ap (λ (places : List ℕ). role ∷ places) (take-take 6 7 (roles ++ replicate 7 0) (omega arith))
