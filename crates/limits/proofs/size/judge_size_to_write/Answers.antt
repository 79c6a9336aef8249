-- `limits::size::judge_size_to_write` meets its contract: 2 by `judge_threes`, and 4 by `judge_large`.
use native.Mathlib.Omega.{arith}
use Rattle.limits.proofs.Judgement.{judged-then, judged-exit}
use Rattle.limits.proofs.size.judge_size_to_write.Goals as goal

pub returns-in_err-judge_threes : goal.returns-in_err-judge_threes
returns-in_err-judge_threes c = judged-exit _ _ _ c.in_err-judge_threes.ensures c.from_residual.ensures.1

pub returns : goal.returns
returns c = judged-then _ c.in_ok-judge_threes.ensures (omega arith) c.judge_large.ensures
