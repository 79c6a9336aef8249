-- `calls_sizes::judge_undo_one_size` meets its contract: 1 by `judge_role`, 2 to 4 by `judge_size_to_undo`, and 5 by
-- `judge_undo_one_room`.
use native.Mathlib.Omega.{arith}
use Rattle.limits.proofs.Judgement.{judged-then, judged-exit}
use Rattle.calls_sizes.proofs.Sizes.{judged-sized}
use Rattle.calls_sizes.proofs.judge_undo_one_size.Goals as goal

pub returns-in_err-judge_role : goal.returns-in_err-judge_role
returns-in_err-judge_role c = judged-exit _ _ _ c.in_err-judge_role.ensures c.from_residual.ensures.1

pub returns-in_err-judge_size_to_undo : goal.returns-in_err-judge_size_to_undo
returns-in_err-judge_size_to_undo c = judged-then _ c.in_ok-judge_role.ensures (omega arith)
    (judged-exit _ _ _ c.in_err-judge_size_to_undo.ensures c.from_residual-in_err-judge_size_to_undo.ensures.1)

pub judge_undo_one_room-requires : goal.judge_undo_one_room-requires
judge_undo_one_room-requires c = let s = judged-sized _ _ _ c.in_ok-judge_size_to_undo.ensures in
    record { vertices_le_most_vertices = s.low; triangles_le_most_triangles = s.few }

pub returns : goal.returns
returns c = judged-then _ c.in_ok-judge_role.ensures (omega arith)
    (judged-then _ c.in_ok-judge_size_to_undo.ensures (omega arith) c.judge_undo_one_room.ensures)
