-- `program::print::print_reading` meets its contract: the parts of the text, one after the other.
use Rattle.theory.specs.Program.{reading_text}
use Rattle.frames_write.proofs.Appends.{put_next}
use Rattle.program.proofs.print.print_reading.Goals as goal

pub returns : goal.returns
unfolding reading_text
returns c =
    put_next (put_next (put_next c.put_answer.ensures c.put_frames.ensures) c.put_map.ensures)
    c.put_map-2.ensures
