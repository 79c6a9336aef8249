-- `frames_write::call::write_frames` meets its contract: a refusal of the numbers or the room is its answer, else `write`
-- writes the frames.
use Prim.Native.Nat.{ℕ}
use native.Mathlib.Omega.{arith}
use mathlib.Core.Path.{◌≡◌, refl}
use mathlib.Core.List.{List}
use lib.ListN.{length}
use Rattle.std.specs.Prelude.{Result, Ok, Err}
use Rattle.std.specs.Result.{IsErrAnd}
use Rattle.theory.specs.Frames.{write_rules, WritesFrames, refuses, accepts}
use Rattle.theory.proofs.FrameDemands.{passed-writable}
use Rattle.limits.specs.declared.refusal.Refusal.{Refusal}
use Rattle.limits.specs.Judged.{JudgedAs}
use Rattle.limits.proofs.Judgement.{judged-ok, judged-err}
use Rattle.answers.specs.declared.counts.Size.{Size}
use Rattle.answers.specs.Said.{frames_said}
use Rattle.frames_write.proofs.call.write_frames.Goals as goal

-- the refusal is the answer
refused : {N : ℕ} {T out : List ℕ} (refusal : Refusal) (result : Result Size Refusal)
    → JudgedAs (write_rules N (length T) (length out)) (Err refusal) → IsErrAnd result (λ e. e ≡ refusal)
    → WritesFrames N T out (frames_said result) out
refused refusal (Ok size) verdict none = absurd none
refused refusal (Err same) verdict e = rw e (refuses _ _ (judged-err refusal verdict) refl refl)

pub returns-in_err-judge_write_size : goal.returns-in_err-judge_write_size
returns-in_err-judge_write_size c = refused _ _ c.in_err-judge_write_size.ensures c.from_residual.ensures.1

pub write-requires : goal.write-requires
write-requires c = (passed-writable _ _ _ (judged-ok c.in_ok-judge_write_size.ensures (omega arith))).fits

pub returns : goal.returns
returns c = accepts (judged-ok c.in_ok-judge_write_size.ensures (omega arith)) refl c.write.ensures
