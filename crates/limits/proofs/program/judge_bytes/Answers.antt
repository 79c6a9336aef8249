-- `limits::program::judge_bytes` meets its contract: the test is the row's condition.
use native.Mathlib.Omega.{arith}
use Rattle.limits.proofs.Judgement.{judged-none, judged-at-0, judged-not}
use Rattle.limits.proofs.program.judge_bytes.Goals as goal

pub returns-then-bytes-gt-PROGRAM_BYTES : goal.returns-then-bytes-gt-PROGRAM_BYTES
returns-then-bytes-gt-PROGRAM_BYTES c = judged-at-0 (omega arith)

pub returns : goal.returns
returns c = judged-not (λ l. omega arith) judged-none
