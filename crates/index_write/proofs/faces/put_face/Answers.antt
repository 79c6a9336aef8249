-- `index_write::faces::put_face` meets its contract: the parts of the face's text, one after the other.
use Rattle.theory.specs.Index.{face_text}
use Rattle.frames_write.proofs.Appends.{put_next}
use Rattle.index_write.proofs.faces.put_face.Goals as goal

pub returns : goal.returns
unfolding face_text
returns c =
    let first = rw c.at.ensures at c.put_corner.ensures in
    let second = rw c.at-2.ensures at c.put_corner-2.ensures in
    let third = rw c.at-3.ensures at c.put_corner-3.ensures in
    put_next (put_next (put_next (put_next c.put_gap.ensures first) second) third)
    (put_next c.put_byte.ensures c.put_byte-2.ensures)
