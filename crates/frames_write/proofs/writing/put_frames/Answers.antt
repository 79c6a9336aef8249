-- `frames_write::writing::put_frames` meets its contract.
use native.Mathlib.Omega.{arith}
use Rattle.theory.specs.Frames.{frames}
use Rattle.frames_write.proofs.Appends.{row_room, row_more, framed-row}
use Rattle.frames_write.proofs.writing.put_frames.Goals as goal

pub put_triangle-requires : goal.put_triangle-requires
unfolding frames
put_triangle-requires c = record {
  listed = omega arith;
  room = row_room (framed-row _ _ _) c.requires c.loop-k.invariant c.loop-k-test.true;
}

pub loop-k-preserved : goal.loop-k-preserved
loop-k-preserved c =
    row_more (framed-row _ _ _) c.loop-k-test.true c.loop-k.invariant c.put_triangle.ensures
