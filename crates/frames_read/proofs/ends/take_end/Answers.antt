-- `frames_read::ends::take_end` meets its contract: LF, or after a CR what `take_lf` takes.
use native.Mathlib.Omega.{arith}
use mathlib.Core.Path.{◌∙◌, sym}
use Rattle.frames_read.proofs.Takes.{take_lf-wrong, take_lf-here, take_end-no-CR, take_end-CR}
use Rattle.frames_read.proofs.ends.take_end.Goals as goal

pub returns-in-10 : goal.returns-in-10
returns-in-10 c =
    sym (take_end-no-CR _ c.requires (λ is. omega (arith, c.in-10.is)) ∙ take_lf-here _ c.requires c.in-10.is)

pub returns-in-13 : goal.returns-in-13
returns-in-13 c = c.take_lf.ensures ∙ sym (take_end-CR _ c.requires c.in-13.is)

pub returns-in_default : goal.returns-in_default
returns-in_default c = sym (take_end-no-CR _ c.requires (λ is. omega arith) ∙ take_lf-wrong _ (λ l is. omega arith))
