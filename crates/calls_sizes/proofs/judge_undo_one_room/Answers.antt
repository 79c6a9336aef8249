-- `calls_sizes::judge_undo_one_room` meets its contract: each test is a buffer's.
use native.Mathlib.Omega.{arith}
use mathlib.Core.Logic.{inl, inr, ⊎_elim}
use Rattle.theory.specs.Refusals.{Short}
use Rattle.limits.proofs.Judgement.{judged-none, judged-at-0, judged-not}
use Rattle.calls_sizes.proofs.judge_undo_one_room.Goals as goal

pub returns-then-mesh-triangles : goal.returns-then-mesh-triangles
unfolding Short
returns-then-mesh-triangles c = judged-at-0 (inl c.if-mesh-triangles.true)

pub returns-then-vertex_map-vertices : goal.returns-then-vertex_map-vertices
unfolding Short
returns-then-vertex_map-vertices c = judged-at-0 (inr (inl c.if-vertex_map-vertices.true))

pub returns-then-triangle_map-triangles : goal.returns-then-triangle_map-triangles
unfolding Short
returns-then-triangle_map-triangles c = judged-at-0 (inr (inr (inl c.if-triangle_map-triangles.true)))

pub returns-then-work-vertices : goal.returns-then-work-vertices
unfolding Short
returns-then-work-vertices c = judged-at-0 (inr (inr (inr (inl c.if-work-vertices.true))))

pub returns : goal.returns
unfolding Short
returns c = judged-not
    (⊎_elim (λ l. omega arith)
    (⊎_elim (λ l. omega arith) (⊎_elim (λ l. omega arith) (⊎_elim (λ l. omega arith) (λ none. none)))))
    judged-none
