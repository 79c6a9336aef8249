-- `limits::size::judge_threes` meets its contract: the test is the row's condition.
use native.Mathlib.Omega.{arith}
use Rattle.limits.proofs.Judgement.{judged-none, judged-at-0, judged-not}
use Rattle.limits.proofs.size.judge_threes.Goals as goal

pub returns-then-entries-ne0 : goal.returns-then-entries-ne0
returns-then-entries-ne0 c = judged-at-0 c.if-entries-ne0.true

pub returns : goal.returns
returns c = judged-not (λ h. h (omega arith)) judged-none
