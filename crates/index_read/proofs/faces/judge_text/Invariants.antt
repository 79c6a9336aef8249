-- `index_read::faces::judge_text` meets its contract. The invariant: the runs before the place are right. The measure
-- is what is left of the text.
use Prim.Native.Nat.{ℕ, ◌-◌}
use mathlib.Core.List.{List}
use lib.ListN.{length}
use Rattle.index_read.proofs.Walks.{Walk}
use Rattle.index_read.proofs.faces.judge_text.Given as goal

-- the corners of the runs before the place
pub record Turn (text : List ℕ) (at corners face : ℕ) : Type 0 where
  pub so_far : List ℕ
  pub walk : Walk text so_far at corners face

abbrev pub invariant-loop-at : goal.invariant-loop-at
invariant-loop-at l = Turn l.text l.at l.so_far.corners l.so_far.face

abbrev pub decreases-loop-at : goal.decreases-loop-at
decreases-loop-at l = length l.text - l.at
