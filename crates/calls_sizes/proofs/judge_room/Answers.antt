-- `calls_sizes::judge_room` meets its contract: each test is a buffer's.
use native.Mathlib.Omega.{arith}
use mathlib.Core.Logic.{inl, inr, ⊎_elim}
use Rattle.theory.specs.Refusals.{Short}
use Rattle.limits.proofs.Judgement.{judged-none, judged-at-0, judged-not}
use Rattle.calls_sizes.proofs.judge_room.Goals as goal

pub returns-then-out-needed : goal.returns-then-out-needed
unfolding Short
returns-then-out-needed c = judged-at-0 (inl c.if-out-needed.true)

pub returns-then-work-vertices : goal.returns-then-work-vertices
unfolding Short
returns-then-work-vertices c = judged-at-0 (inr (inl c.if-work-vertices.true))

pub returns : goal.returns
unfolding Short
returns c = judged-not (⊎_elim (λ l. omega arith) (⊎_elim (λ l. omega arith) (λ none. none))) judged-none
