-- `limits::size::judge_large` meets its contract: the two tests are those of the row's condition.
use native.Mathlib.Omega.{arith}
use mathlib.Core.Logic.{inl, inr, ⊎_elim}
use Rattle.limits.proofs.Judgement.{judged-none, judged-at-0, judged-not}
use Rattle.limits.proofs.size.judge_large.Goals as goal

pub returns-then-most-triangles : goal.returns-then-most-triangles
returns-then-most-triangles c = judged-at-0 (inl (omega arith))

pub returns-then-vertices-gt-VERTICES : goal.returns-then-vertices-gt-VERTICES
returns-then-vertices-gt-VERTICES c = judged-at-0 (inr (omega arith))

pub returns : goal.returns
returns c = judged-not (⊎_elim (λ l. omega arith) (λ l. omega arith)) judged-none
