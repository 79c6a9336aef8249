-- `frames_write::text::put_map`: the lines of the first k entries are put.
use Rattle.frames_write.specs.Putting.{Put}
use Rattle.frames_write.proofs.Appends.{mapped}
use Rattle.frames_write.proofs.text.put_map.Given as goal

abbrev pub invariant-loop-k : goal.invariant-loop-k
invariant-loop-k l = Put (mapped l.kind l.entries l.k) l.initial.out l.out
