-- `frames_write::writing::put_frames`: the mesh line and the lines of the first triangles are put.
use Rattle.frames_write.specs.Putting.{Put}
use Rattle.frames_write.proofs.Appends.{framed}
use Rattle.frames_write.proofs.writing.put_frames.Given as goal

abbrev pub invariant-loop-k : goal.invariant-loop-k
invariant-loop-k l = Put (framed l.vertices l.list l.k) l.fn.out l.out
