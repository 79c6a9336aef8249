-- `limits::size::judge_asked` meets its contract: the test is the row's condition.
use native.Mathlib.Omega.{arith}
use Rattle.limits.proofs.Judgement.{judged-none, judged-at-0, judged-not}
use Rattle.limits.proofs.size.judge_asked.Goals as goal

pub returns-then-most-asked : goal.returns-then-most-asked
returns-then-most-asked c = judged-at-0 c.if-most-asked.true

pub returns : goal.returns
returns c = judged-not (λ l. omega arith) judged-none
