-- `lists::scatter` meets its contract. The loop's invariant: the first p values stand at their keys.
use Rattle.lists.specs.Keys.{Scattered}
use Rattle.lists.proofs.scatter.Given as goal

abbrev pub invariant-loop-p : goal.invariant-loop-p
invariant-loop-p g l = Scattered (g.V.Values.value l.fn.values) l.p l.keys l.initial.table l.table
