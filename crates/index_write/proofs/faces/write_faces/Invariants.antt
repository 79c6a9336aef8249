-- `index_write::faces::write_faces`: the texts of the first k faces are put.
use Rattle.theory.specs.Index.{faces_text}
use Rattle.frames_write.specs.Putting.{Put}
use Rattle.index_write.proofs.faces.write_faces.Given as goal

abbrev pub invariant-loop-k : goal.invariant-loop-k
invariant-loop-k l = Put (faces_text l.list l.k) l.initial.writer l.writer
