-- `limits::size::judge_size` meets its contract: 2 by `judge_threes`, 3 by the test, and 4 by `judge_large`.
use native.Mathlib.Omega.{arith}
use Rattle.limits.proofs.Judgement.{judged-at-0, judged-not, judged-then, judged-exit}
use Rattle.limits.proofs.size.judge_size.Goals as goal

pub returns-in_err-judge_threes : goal.returns-in_err-judge_threes
returns-in_err-judge_threes c = judged-exit _ _ _ c.in_err-judge_threes.ensures c.from_residual.ensures.1

pub returns-then-triangles-eq0 : goal.returns-then-triangles-eq0
returns-then-triangles-eq0 c = judged-then _ c.in_ok-judge_threes.ensures (omega arith) (judged-at-0 (omega arith))

pub returns : goal.returns
returns c = judged-then _ c.in_ok-judge_threes.ensures (omega arith) (judged-not (λ e. omega arith) c.judge_large.ensures)
