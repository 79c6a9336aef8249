-- `index_read::runs::next_run` meets its contract. The invariant: the runs from the start on are those from the place
-- on, where no separator stands. The measure is the number of bytes left.
use Prim.Native.Nat.{◌-◌}
use lib.ListN.{length}
use Rattle.index_read.proofs.Stretches.{SeparatorsPassed}
use Rattle.index_read.proofs.runs.next_run.Given as goal

abbrev pub invariant-loop-at : goal.invariant-loop-at
invariant-loop-at l = SeparatorsPassed l.text l.from l.at

abbrev pub decreases-loop-at : goal.decreases-loop-at
decreases-loop-at l = length l.text - l.at
