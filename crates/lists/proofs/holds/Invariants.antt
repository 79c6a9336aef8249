-- `lists::holds` meets its contract. The loop's invariant: the first p values are found at their keys.
use Rattle.lists.proofs.Keys.{Held}
use Rattle.lists.proofs.holds.Given as goal

abbrev pub invariant-loop-p : goal.invariant-loop-p
invariant-loop-p g l = Held (g.V.Values.value l.fn.values) l.p l.keys l.table
