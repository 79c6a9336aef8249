-- `frames_read::ends::take_lf` meets its contract: the test is the one that `take_lf` makes.
use native.Mathlib.Omega.{arith}
use mathlib.Core.Path.{sym}
use Rattle.std.proofs.lemmas.Grind.{common_steps}
use Rattle.frames_read.proofs.Takes.{take_lf-wrong, take_lf-here}
use Rattle.frames_read.proofs.ends.take_lf.Goals as goal

pub returns-in-10 : goal.returns-in-10
returns-in-10 c = sym (take_lf-here _ c.in-10.len_at_least (omega arith))

pub returns-in_default : goal.returns-in_default
returns-in_default c = grind (arith, common_steps, take_lf-wrong c.args.bytes.now)
