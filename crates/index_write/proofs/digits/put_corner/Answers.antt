-- `index_write::digits::put_corner` meets its contract: the number, and the blank after it.
use Rattle.theory.specs.Index.{corner_text}
use Rattle.frames_write.proofs.Appends.{put_next}
use Rattle.index_write.proofs.digits.put_corner.Goals as goal

pub returns : goal.returns
unfolding corner_text
returns c = put_next c.put_number.ensures c.put_byte.ensures
