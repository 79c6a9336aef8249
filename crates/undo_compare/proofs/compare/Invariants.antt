-- `undo_compare::compare`: the triangles before k have the vertices of their own, and the least of them that is no rotation
-- is known.
use Rattle.undo_compare.proofs.Comparisons.{SameBefore}
use Rattle.undo_compare.proofs.compare.Given as goal

abbrev pub invariant-loop-k : goal.invariant-loop-k
invariant-loop-k l = SameBefore l.k l.list l.vertices l.faces l.splitting l.turned
