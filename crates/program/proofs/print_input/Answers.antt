-- `program::print_input` meets its contract: 13 comes before anything else, then what reading refuses, then the mesh.
use native.Mathlib.Omega.{arith}
use Rattle.program.proofs.Printed.{refusal-left, answered-by}
use Rattle.program.proofs.Read.{too-long-right, refused-right, mesh-read, mesh-right}
use Rattle.program.proofs.print_input.Goals as goal

pub returns-in_err-judge_bytes : goal.returns-in_err-judge_bytes
returns-in_err-judge_bytes c =
    refusal-left _ _ _ _ c.from_residual.ensures.1 (too-long-right _ c.in_err-judge_bytes.ensures)

pub returns-in_err-size : goal.returns-in_err-size
returns-in_err-size c =
    refusal-left _ _ _ _ c.from_residual-in_err-size.ensures.1
    (refused-right (omega arith) _ c.in_ok-judge_bytes.ensures c.in_err-size.ensures)

pub returns : goal.returns
returns c =
    answered-by _ _ _ (mesh-right c.in_ok-judge_bytes.ensures (mesh-read (omega arith) c.in_ok-size.ensures)) c.print_mesh.ensures
