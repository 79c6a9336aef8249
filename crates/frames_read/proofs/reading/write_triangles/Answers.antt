-- `frames_read::reading::write_triangles` meets its contract: no line is wrong, and the corners of each are written.
use native.Mathlib.Omega.{arith}
use Rattle.frames_read.proofs.Triangles.{whole-taken, taken-read, reached-right, more-written, all-written}
use Rattle.frames_read.proofs.reading.write_triangles.Goals as goal

pub unwrap-a-requires : goal.unwrap-a-requires
unwrap-a-requires c =
    taken-read _ _ c.take_triangle.ensures
    (reached-right c.loop-k.invariant.reached c.loop-k-test.true c.requires.right)

pub loop-k-preserved : goal.loop-k-preserved
loop-k-preserved c =
    more-written c.loop-k.invariant c.loop-k-test.true c.requires.room
    (whole-taken _ _ (rw c.unwrap-a.ensures at c.take_triangle.ensures)) c.write_three.ensures

pub returns : goal.returns
returns c = all-written c.loop-k.invariant (omega arith)
