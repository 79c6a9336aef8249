-- `limits::size::judge_size_to_read` meets its contract: 4 by `judge_large`, and 5 by the test.
use Prim.Native.Nat.{ℕ, ◌≤◌}
use native.Mathlib.Omega.{arith}
use mathlib.Core.List.{[], ◌∷◌}
use mathlib.Core.Logic.{inl, ⊎_elim}
use Rattle.theory.specs.Refusals.{too_large, Short, Passed}
use Rattle.theory.proofs.Refusals.{large-within}
use Rattle.limits.specs.Judged.{Judged}
use Rattle.limits.proofs.Judgement.{judged-none, judged-at-0, judged-not, judged-ok, judged-then, judged-exit}
use Rattle.limits.proofs.size.judge_size_to_read.Goals as goal

-- where 4 is passed, the triangles are few
few : (most N F : ℕ) → Judged (too_large most N F ∷ []) 0 0 → F ≤ most
unfolding Passed
few most N F verdict = (large-within most N F (judged-ok verdict (omega arith)).0).0

pub returns-in_err-judge_large : goal.returns-in_err-judge_large
returns-in_err-judge_large c = judged-exit _ _ _ c.in_err-judge_large.ensures c.from_residual.ensures.1

pub overflow_mul-triangles : goal.overflow_mul-triangles
overflow_mul-triangles c = omega (arith, few _ _ _ c.in_ok-judge_large.ensures)

pub returns-then-out-triangles : goal.returns-then-out-triangles
unfolding Short
returns-then-out-triangles c = judged-then _ c.in_ok-judge_large.ensures (omega arith) (judged-at-0 (inl (omega arith)))

pub returns : goal.returns
unfolding Short
returns c = judged-then _ c.in_ok-judge_large.ensures (omega arith)
    (judged-not (⊎_elim (λ l. omega arith) (λ none. none)) judged-none)
