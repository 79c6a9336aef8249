-- `undo_compare::compare_one` meets its contract: the vertices at the corners of a renamed triangle are the new
-- names of those that stood there.
use Prim.Native.Nat.{ℕ, ◌+◌, ◌*◌, ◌≤◌, ◌<◌}
use native.Mathlib.Omega.{arith}
use mathlib.Core.Path.{◌≡◌}
use mathlib.Core.List.{List}
use lib.ListN.{length}
use Rattle.theory.specs.Mesh.{at}
use Rattle.theory.specs.Reading.{renamed}
use Rattle.theory.proofs.Renaming.{renamed-at, renamed-length}
use Rattle.undo_compare.specs.Compared.{OneLent, ComparedOne, ComparedThree}
use Rattle.undo_compare.specs.declared.Turning.{Turning}
use Rattle.undo_compare.proofs.Comparisons.{three-compared}
use Rattle.undo_compare.proofs.compare_one.Goals as goal

-- what is found of the new names of the three vertices holds of the renamed triangle
renamed-compared : (f T S : List ℕ) (k t : ℕ) {i j h : ℕ} {turning : Turning} → OneLent k T f t S
    → i ≡ at T (3 * k) → j ≡ at T (3 * k + 1) → h ≡ at T (3 * k + 2)
    → ComparedThree (at f i) (at f j) (at f h) (at S (3 * t)) (at S (3 * t + 1)) (at S (3 * t + 2)) turning
    → ComparedOne (renamed f T) k S t turning
renamed-compared f T S k t lent p q r C =
    let l : 3 * k + 3 ≤ length (renamed f T) = omega (arith, lent.listed, renamed-length f T) in
    three-compared (renamed f T) S k t l lent.inside
    (rw (name (3 * k) (omega arith), name (3 * k + 1) (omega arith), name (3 * k + 2) (omega arith), ← p, ← q, ← r) C)
  where
    name : (c : ℕ) → c < 3 * k + 3 → at (renamed f T) c ≡ at f (at T c)
    name c l = renamed-at f T c (omega (arith, lent.listed))

pub returns : goal.returns
returns c = renamed-compared _ _ _ _ _ c.requires c.at.ensures c.at-2.ensures
    c.at-3.ensures c.compare_three.ensures
