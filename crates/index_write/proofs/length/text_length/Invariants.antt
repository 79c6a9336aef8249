-- `index_write::length::text_length`: the bytes of the first k faces are counted.
use Rattle.std.proofs.Common.{◌≡◌, length}
use Rattle.theory.specs.Index.{faces_text}
use Rattle.index_write.proofs.length.text_length.Given as goal

abbrev pub invariant-loop-k : goal.invariant-loop-k
invariant-loop-k l = l.bytes ≡ length (faces_text l.list l.k)
