-- `index_read::call::read_index` meets its contract: the rows of refusals judge one after the other, and where none is
-- given the corners are written.
use Rattle.limits.proofs.Judgement.{judged-err}
use Rattle.index_read.proofs.Verdicts.{refused-said, fault-given, right-judged, corners-lent, right-read}
use Rattle.index_read.proofs.call.read_index.Goals as goal

pub returns-in_err-triangles : goal.returns-in_err-triangles
returns-in_err-triangles c =
    refused-said c.from_residual.result c.in_err-triangles.field-0.0 (fault-given _ _ c.in_err-triangles.ensures)
    c.from_residual.ensures.1

pub returns-in_err-judge_size_to_read : goal.returns-in_err-judge_size_to_read
returns-in_err-judge_size_to_read c =
    refused-said c.from_residual-in_err-judge_size_to_read.result c.in_err-judge_size_to_read.field-0.0
    (judged-err _ (right-judged c.in_ok-triangles.ensures _ _ c.in_err-judge_size_to_read.ensures))
    c.from_residual-in_err-judge_size_to_read.ensures.1

pub write_corners-requires : goal.write_corners-requires
write_corners-requires c = corners-lent c.in_ok-triangles.ensures _ _ c.in_ok-judge_size_to_read.ensures

pub returns : goal.returns
returns c = right-read c.in_ok-triangles.ensures _ _ c.in_ok-judge_size_to_read.ensures c.write_corners.ensures
