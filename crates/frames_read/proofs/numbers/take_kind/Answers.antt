-- `frames_read::numbers::take_kind` meets its contract: the two digits are those of the kind, or it is another kind.
use mathlib.Core.Path.{sym}
use Rattle.frames_read.proofs.Takes.{kind-other-first, kind-other-second, kind-here}
use Rattle.frames_read.proofs.numbers.take_kind.Goals as goal

pub returns-then-value-kind : goal.returns-then-value-kind
returns-then-value-kind c = let lent = c.requires in
    sym (kind-other-first _ lent.small _ lent.there c.value.ensures.given c.if-value-kind.true)

pub returns-then-value-kind-2 : goal.returns-then-value-kind-2
returns-then-value-kind-2 c = let lent = c.requires in
    sym (kind-other-second _ lent.small _ lent.there c.value.ensures.given c.if-value-kind.false c.value-2.ensures.given
    c.if-value-kind-2.true)

pub returns : goal.returns
returns c = let lent = c.requires in
    sym (kind-here _ lent.small _ lent.there c.value.ensures.given c.if-value-kind.false c.value-2.ensures.given
    c.if-value-kind-2.false)
