-- `frames_read::numbers::take_number` meets its contract: the four digits are those that `take_digits` takes, or one of
-- them is none.
use native.Mathlib.Omega.{arith}
use mathlib.Core.Path.{sym}
use Rattle.frames_read.proofs.Takes.{given-digit, number-here, number-wrong}
use Rattle.frames_read.proofs.numbers.take_number.Goals as goal

pub returns-then-first-second : goal.returns-then-first-second
returns-then-first-second c =
    sym (number-wrong _ c.requires c.value-first.ensures.given c.value-second.ensures.given c.value-third.ensures.given
    c.value-fourth.ensures.given (omega (arith, c.if-first-second.true)))

pub overflow_mul-number-3 : goal.overflow_mul-number-3
overflow_mul-number-3 c =
    omega (
      arith,
      given-digit c.value-first.ensures.given,
      given-digit c.value-second.ensures.given,
      given-digit c.value-third.ensures.given,
    )

pub overflow_add-number-3 : goal.overflow_add-number-3
overflow_add-number-3 c =
    omega (
      arith,
      given-digit c.value-first.ensures.given,
      given-digit c.value-second.ensures.given,
      given-digit c.value-third.ensures.given,
    )

pub returns : goal.returns
returns c =
    sym (number-here _ c.requires c.value-first.ensures.given c.value-second.ensures.given c.value-third.ensures.given
    c.value-fourth.ensures.given (omega (arith, c.if-first-second.false)))
