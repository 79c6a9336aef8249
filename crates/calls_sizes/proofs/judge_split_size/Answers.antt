-- `calls_sizes::judge_split_size` meets its contract: 2 to 4 by `judge_size_to_split`, and 5 by `judge_room`.
use native.Mathlib.Omega.{arith}
use Rattle.limits.proofs.Judgement.{judged-then, judged-exit}
use Rattle.calls_sizes.proofs.Sizes.{judged-sized}
use Rattle.calls_sizes.proofs.judge_split_size.Goals as goal

pub returns-in_err-judge_size_to_split : goal.returns-in_err-judge_size_to_split
returns-in_err-judge_size_to_split c = judged-exit _ _ _ c.in_err-judge_size_to_split.ensures c.from_residual.ensures.1

pub overflow_mul-triangles : goal.overflow_mul-triangles
overflow_mul-triangles c = omega (arith, judged-sized _ _ _ c.in_ok-judge_size_to_split.ensures)

pub judge_room-requires : goal.judge_room-requires
judge_room-requires c = let s = judged-sized _ _ _ c.in_ok-judge_size_to_split.ensures in
    record { vertices_le_most_vertices = s.low; triangles_le_most_triangles = omega (arith, s) }

pub returns : goal.returns
returns c = judged-then _ c.in_ok-judge_size_to_split.ensures (omega arith) c.judge_room.ensures
