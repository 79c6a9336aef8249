-- `lists::ranks` meets its contract. The loop's invariant: the ranks of the first i indices stand, and `count` is the
-- next.
use Rattle.lists.specs.Marks.{RanksOf}
use Rattle.lists.proofs.ranks.Given as goal

abbrev pub invariant-loop-i : goal.invariant-loop-i
invariant-loop-i l = RanksOf l.i l.marks l.count l.rank
