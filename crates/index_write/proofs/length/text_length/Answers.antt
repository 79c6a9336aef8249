-- `index_write::length::text_length` meets its contract.
use native.Mathlib.Omega.{arith}
use Rattle.theory.proofs.Index.{faces_text-length, face_text-length}
use Rattle.index_write.proofs.length.text_length.Goals as goal

pub overflow_add-bytes : goal.overflow_add-bytes
overflow_add-bytes c =
    omega (
      arith,
      faces_text-length c.args.list.now c.loop-k.k,
      face_text-length c.args.list.now c.loop-k.k,
      c.face_length-bytes.ensures,
    )
