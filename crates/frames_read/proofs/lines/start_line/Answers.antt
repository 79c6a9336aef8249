-- `frames_read::lines::start_line` meets its contract: without enough bytes or its kind there is no line.
use native.Mathlib.Omega.{arith}
use Rattle.frames_read.proofs.Takes.{take_line-short, start-told}
use Rattle.frames_read.proofs.lines.start_line.Goals as goal

pub returns-then-bytes-numbers : goal.returns-then-bytes-numbers
returns-then-bytes-numbers c = take_line-short _ _ _ (omega (arith, c.if-bytes-numbers.true))

pub returns : goal.returns
returns c = start-told _ _ _ _ (omega (arith, c.if-bytes-numbers.false)) c.take_kind.ensures
