-- `limits::size::judge_write_size` meets its contract: 2 and 4 by `judge_size_to_write`, and 5 by the test.
use Prim.Native.Nat.{ℕ, ◌/◌, ◌≤◌}
use native.Mathlib.Omega.{arith}
use mathlib.Core.List.{[], ◌∷◌}
use mathlib.Core.Logic.{inl, ⊎_elim}
use Rattle.theory.specs.Refusals.{not_threes, too_large, Short, Passed}
use Rattle.theory.proofs.Refusals.{large-within}
use Rattle.limits.specs.Judged.{Judged}
use Rattle.limits.proofs.Judgement.{judged-none, judged-at-0, judged-not, judged-ok, judged-then, judged-exit}
use Rattle.limits.proofs.size.judge_write_size.Goals as goal

-- where 2 and 4 are passed, the triangles are few
few : (most N entries : ℕ) → Judged (not_threes entries ∷ too_large most N (entries / 3) ∷ []) 0 0 → entries / 3 ≤ most
unfolding Passed
few most N entries verdict = (large-within most N (entries / 3) (judged-ok verdict (omega arith)).1.0).0

pub returns-in_err-judge_size_to_write : goal.returns-in_err-judge_size_to_write
returns-in_err-judge_size_to_write c = judged-exit _ _ _ c.in_err-judge_size_to_write.ensures c.from_residual.ensures.1

pub overflow_mul-entries : goal.overflow_mul-entries
overflow_mul-entries c = omega (arith, few _ _ _ c.in_ok-judge_size_to_write.ensures)

pub overflow_add-entries : goal.overflow_add-entries
overflow_add-entries c = omega (arith, few _ _ _ c.in_ok-judge_size_to_write.ensures)

pub returns-then-out-entries : goal.returns-then-out-entries
unfolding Short
returns-then-out-entries c = judged-then _ c.in_ok-judge_size_to_write.ensures (omega arith)
    (judged-at-0 (inl (omega arith)))

pub returns : goal.returns
unfolding Short
returns c = judged-then _ c.in_ok-judge_size_to_write.ensures (omega arith)
    (judged-not (⊎_elim (λ l. omega arith) (λ none. none)) judged-none)
