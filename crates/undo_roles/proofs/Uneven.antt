-- A mesh whose triangles are no multiple of four has no reading, since a splitting has four for each.
use Prim.Native.Nat.{ℕ, ◌*◌, ◌%◌}
use native.Mathlib.Omega.{arith}
use mathlib.Core.Path.{◌≡◌}
use mathlib.Core.Logic.{◌≢◌}
use mathlib.Core.List.{List}
use lib.ListN.{length}
use Rattle.theory.specs.Mesh.{Same}
use Rattle.theory.specs.Reading.{ReadingIn}
use Rattle.theory.specs.Choice.{NoRole}
use Rattle.theory.proofs.Determined.{quarter}

-- it has none in any role
pub uneven-none : {N : ℕ} (F : ℕ) {T : List ℕ} → length T ≡ 3 * F → F % 4 ≢ 0 → NoRole Same N T
uneven-none {N} F {T} whole n = record { none = none }
  where
    none : (role : ℕ) → ReadingIn Same N T role → ⊥
    none role R = omega (arith, n, quarter R.is)
