-- `undo_cover::start::start` meets its contract: the tests are those of `start_of`.
use mathlib.Core.Path.{◌∙◌, refl, sym}
use Rattle.lists.proofs.Decides.{decided-not}
use Rattle.undo_cover.proofs.Starts.{start_of-own, start_of-beside, start_of-none}
use Rattle.undo_cover.proofs.start.start.Goals as goal

pub returns-then-role-eq0-clause-number : goal.returns-then-role-eq0-clause-number
returns-then-role-eq0-clause-number c = c.tile.ensures.number _ ∙ sym (start_of-own _ _ _ _ _ c.if-role-eq0.true)

pub returns-then-not-has_mate-clause-number : goal.returns-then-not-has_mate-clause-number
returns-then-not-has_mate-clause-number c = sym (start_of-none _ _ _ _ _ c.if-role-eq0.false
    (decided-not c.if-not-has_mate.ensures refl))

pub returns-clause-number : goal.returns-clause-number
returns-clause-number c = c.tile-2.ensures.number _ ∙ rw c.at.ensures
    (sym (start_of-beside _ _ _ _ _ c.if-role-eq0.false (c.if-not-has_mate.ensures.sound refl)))
