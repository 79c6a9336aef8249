-- `calls_sizes::judge_undo_several_size` meets its contract: 1 by `judge_levels`, 2 to 4 by `judge_size_to_undo`, and 5 by
-- `judge_room`.
use native.Mathlib.Omega.{arith}
use Rattle.limits.proofs.Judgement.{judged-then, judged-exit}
use Rattle.calls_sizes.proofs.Sizes.{judged-sized}
use Rattle.calls_sizes.proofs.judge_undo_several_size.Goals as goal

pub returns-in_err-judge_levels : goal.returns-in_err-judge_levels
returns-in_err-judge_levels c = judged-exit _ _ _ c.in_err-judge_levels.ensures c.from_residual.ensures.1

pub returns-in_err-judge_size_to_undo : goal.returns-in_err-judge_size_to_undo
returns-in_err-judge_size_to_undo c = judged-then _ c.in_ok-judge_levels.ensures (omega arith)
    (judged-exit _ _ _ c.in_err-judge_size_to_undo.ensures c.from_residual-in_err-judge_size_to_undo.ensures.1)

pub judge_room-requires : goal.judge_room-requires
judge_room-requires c = let s = judged-sized _ _ _ c.in_ok-judge_size_to_undo.ensures in
    record { vertices_le_most_vertices = s.low; triangles_le_most_triangles = s.few }

pub returns : goal.returns
returns c = judged-then _ c.in_ok-judge_levels.ensures (omega arith)
    (judged-then _ c.in_ok-judge_size_to_undo.ensures (omega arith) c.judge_room.ensures)
