-- `frames_read::reading::write_triangles` meets its contract. The invariant: the first k lines are read, and their
-- corners stand in front of what was there.
use Rattle.frames_read.proofs.Triangles.{Written}
use Rattle.frames_read.proofs.reading.write_triangles.Given as goal

abbrev pub invariant-loop-k : goal.invariant-loop-k
invariant-loop-k l = Written l.bytes l.triangles l.k l.rest l.initial.out l.out
