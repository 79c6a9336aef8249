-- `program::answer` meets its contract: what the input comes to is printed, or the refusal's line.
use native.Mathlib.Omega.{arith}
use Rattle.theory.specs.Program.{Prints}
use Rattle.program.specs.Answering.{TextPut}
use Rattle.program.proofs.Printed.{line-room, line-put, put-printed}
use Rattle.program.proofs.answer.Goals as goal
use Rattle.program.proofs.answer.Goals.{Joined-print_input, in-Err, in_default}

-- a right text was put, in either case
put : (c : Joined-print_input)
    → TextPut (Prints c.args.bytes.now c.args.asked) c.new-out.result c.match-print_input.out
put c =
    elim c.match-print_input.branch [
      | in-Err w ↦
          rw w.out-is
          (line-put w.in-Err.ensures (rw (w.number.ensures, w.place.ensures) at w.put_answer.ensures))
      | in_default w ↦ rw w.out-is w.in_default.ensures
    ]

pub put_answer-requires : goal.put_answer-requires
put_answer-requires c = rw (c.number.ensures, c.place.ensures)
    (line-room (record { fits = grind (arith, c.requires.long, c.new-out.ensures.untouched) }) c.in-Err.ensures)

pub returns : goal.returns
returns c =
    let text = put (goal.at.returns c).Joined-print_input in
    put-printed c.new-out.ensures.untouched c.new-out.ensures.front c.requires text (grind (arith, text.put.same))
