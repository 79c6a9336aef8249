-- `index_write::call::write_index` meets its contract: a refusal of the numbers is its answer, and so is 5 by the test of
-- the room, else `write_faces` writes the text that `text_length` counted.
use native.Mathlib.Omega.{arith}
use Rattle.limits.proofs.Judgement.{judged-ok}
use Rattle.index_write.proofs.Judging.{sizes-countable, refuses-size, refuses-room, accepts-room}
use Rattle.index_write.proofs.call.write_index.Goals as goal

pub returns-in_err-judge_size_to_write : goal.returns-in_err-judge_size_to_write
returns-in_err-judge_size_to_write c =
    refuses-size _ _ c.in_err-judge_size_to_write.ensures c.from_residual.ensures.1

pub text_length-bytes-requires : goal.text_length-bytes-requires
text_length-bytes-requires c = sizes-countable _ _ (judged-ok c.in_ok-judge_size_to_write.ensures (omega arith))

pub returns-then-out-bytes : goal.returns-then-out-bytes
returns-then-out-bytes c =
    refuses-room (judged-ok c.in_ok-judge_size_to_write.ensures (omega arith)) c.text_length-bytes.ensures
    c.if-out-bytes.true

pub returns : goal.returns
returns c =
    accepts-room (judged-ok c.in_ok-judge_size_to_write.ensures (omega arith)) c.text_length-bytes.ensures
    c.if-out-bytes.false c.write_faces.ensures
