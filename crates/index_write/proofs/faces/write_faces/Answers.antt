-- `index_write::faces::write_faces` meets its contract: the texts of the faces, put at the front.
use native.Mathlib.Omega.{arith}
use native.Mathlib.Numerals.{add-one}
use Prim.Native.Nat.{ℕ}
use mathlib.Core.Path.{◌≡◌}
use mathlib.Core.List.{List}
use Rattle.theory.specs.Mesh.{triangles}
use Rattle.theory.specs.Index.{face_text, faces_text, index_text}
use Rattle.frames_write.proofs.Appends.{front-room, put_written, Row, row_room, row_more}
use Rattle.index_write.proofs.faces.write_faces.Goals as goal

-- the faces are a row
row : (T : List ℕ) → Row (faces_text T) (face_text T) (triangles T)
unfolding faces_text
row T = record { more = λ k l. rw (add-one k) }

pub put_face-requires : goal.put_face-requires
unfolding index_text
put_face-requires c =
    let new = c.new-writer.ensures in
    record {
      listed = omega arith;
      room =
          row_room (row _) (front-room new.untouched new.front c.requires) c.loop-k.invariant c.loop-k-test.true;
    }

pub loop-k-preserved : goal.loop-k-preserved
loop-k-preserved c = row_more (row _) c.loop-k-test.true c.loop-k.invariant c.put_face.ensures

pub returns : goal.returns
unfolding index_text
returns c =
    let all : c.loop-k.k ≡ triangles c.args.list.now = omega arith in
    let new = c.new-writer.ensures in
    let e = put_written (rw all at c.loop-k.invariant) new.untouched new.front c.requires in
    grind (arith, e)
