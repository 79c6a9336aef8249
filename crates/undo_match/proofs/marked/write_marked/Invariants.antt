-- `undo_match::marked::write_marked` meets its contract. The loop's invariant: the runs of the first k triangles are
-- stored.
use Rattle.undo_match.specs.Runs.{RunsStored}
use Rattle.undo_match.proofs.marked.write_marked.Given as goal

abbrev pub invariant-loop-k : goal.invariant-loop-k
invariant-loop-k g l = RunsStored g.row.WIDTH (g.R.Runs.run l.runs) l.k l.marks l.count l.out
