-- `mesh_judge::judge_corners` meets its contract: each search gives the least place of its row, or says that there is
-- none, since both rows are given at triangles of the list alone.
use native.Mathlib.Omega.{arith}
use Prim.Native.Nat.{ℕ, ◌<◌}
use mathlib.Core.List.{List}
use Rattle.std.proofs.Common.{None}
use Rattle.theory.specs.Mesh.{On}
use Rattle.theory.specs.Refusals.{CornerNotBelow, EqualCorners}
use Rattle.lists.specs.Places.{Least}
use Rattle.limits.proofs.Judgement.{Nowhere, judged-none, judged-later}
use Rattle.mesh_faults.specs.Faults.{Whole}
use Rattle.mesh_judge.proofs.Places.{judged-found, none-nowhere}
use Rattle.mesh_judge.proofs.judge_corners.Goals as goal

module _ {F : ℕ} {T : List ℕ} (W : Whole F T) where
  -- a vertex stands on triangles of the list
  on_below : {k v : ℕ} → On T k v → k < F
  on_below o = omega (arith, o.inside, o.triangle)

  -- where the search for 6 finds none, it is given nowhere
  all-below : {N : ℕ} → Least (CornerNotBelow N T) F None → Nowhere (CornerNotBelow N T)
  all-below = none-nowhere (λ k f. on_below f.corner)

  -- and so is 7
  all-different : Least (EqualCorners T) F None → Nowhere (EqualCorners T)
  all-different = none-nowhere (λ k f. on_below f.one)

pub returns-in-Some : goal.returns-in-Some
returns-in-Some c = judged-found c.in-Some.ensures

pub returns-in-Some-equal_corners : goal.returns-in-Some-equal_corners
returns-in-Some-equal_corners c = judged-later (all-below c.requires c.in_default.ensures)
    (judged-found c.in-Some-equal_corners.ensures)

pub returns : goal.returns
returns c = judged-later (all-below c.requires c.in_default.ensures)
    (judged-later (all-different c.requires c.in_default-equal_corners.ensures) judged-none)
