-- `index_read::corners::write_corners` meets its contract. The invariant: the runs before the place are right, and
-- their corners stand in front of what was there. The measure is what is left of the text.
use Prim.Native.Nat.{ℕ, ◌-◌}
use mathlib.Core.Path.{◌≡◌}
use mathlib.Core.List.{List}
use lib.ListN.{length}
use lib.Seq.{sets}
use Rattle.index_read.specs.Faces.{CornersLent}
use Rattle.index_read.proofs.Walks.{Walk}
use Rattle.index_read.proofs.corners.write_corners.Given as goal

pub record Turn (text out₀ out : List ℕ) (at corners : ℕ) : Type 0 where
  pub lent : CornersLent text out₀
  pub so_far : List ℕ
  pub face : ℕ
  pub walk : Walk text so_far at corners face
  pub stored : out ≡ sets out₀ 0 so_far

abbrev pub invariant-loop-at : goal.invariant-loop-at
invariant-loop-at l = Turn l.text l.initial.out l.out l.at l.corners

abbrev pub decreases-loop-at : goal.decreases-loop-at
decreases-loop-at l = length l.text - l.at
