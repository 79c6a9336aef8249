-- `mesh_faults::mark_used` meets its contract. The loop's invariant: the marks are those of the corners that were passed.
use Rattle.mesh_faults.specs.Faults.{UsedMarks}
use Rattle.mesh_faults.proofs.mark_used.Given as goal

abbrev pub invariant-loop-corner : goal.invariant-loop-corner
invariant-loop-corner l = UsedMarks l.fn.mesh.vertices l.fn.mesh.list.now l.corner-index l.marks
