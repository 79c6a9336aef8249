-- `frames_read::call::read_frames` meets its contract: the parts judge as the rows do, in their order.
use Rattle.frames_read.proofs.Triangles.{whole-taken, refused-not-taken}
use Rattle.frames_read.proofs.Verdicts.{no-first-line, size-refused, line-refused, corners-lent, mesh-read}
use Rattle.frames_read.proofs.call.read_frames.Goals as goal

pub returns-in_default : goal.returns-in_default
returns-in_default c = no-first-line _ (refused-not-taken _ _ c.in_default.ensures)

pub returns-in_err-judge_size_to_read : goal.returns-in_err-judge_size_to_read
returns-in_err-judge_size_to_read c =
    size-refused _ _ (whole-taken _ _ c.in-Some.ensures) _ _ c.from_residual.ensures.1
    c.in_err-judge_size_to_read.ensures

pub returns-in_err-judge_triangles : goal.returns-in_err-judge_triangles
returns-in_err-judge_triangles c =
    line-refused _ _ (whole-taken _ _ c.in-Some.ensures) _ _ c.from_residual-in_err-judge_triangles.ensures.1
    c.in_ok-judge_size_to_read.ensures c.in_err-judge_triangles.ensures

pub write_triangles-requires : goal.write_triangles-requires
write_triangles-requires c =
    corners-lent _ _ (whole-taken _ _ c.in-Some.ensures) c.in_ok-judge_size_to_read.ensures
    c.in_ok-judge_triangles.ensures

pub returns : goal.returns
returns c =
    mesh-read _ _ (whole-taken _ _ c.in-Some.ensures) c.in_ok-judge_size_to_read.ensures
    c.in_ok-judge_triangles.ensures c.write_triangles.ensures
