-- `undo_cover::tiles::write_row` meets its contract: each return is a case of it.
use mathlib.Core.Path.{refl}
use Rattle.undo_cover.specs.Tiles.{different, equal}
use Rattle.lists.proofs.Decides.{false-true}
use Rattle.undo_cover.proofs.tiles.write_row.Goals as goal

pub returns-then-has_equal : goal.returns-then-has_equal
returns-then-has_equal c = rw c.write_three.ensures (equal (c.if-has_equal.ensures.sound refl))

pub returns : goal.returns
returns c = rw c.write_three-2.ensures (different (λ e. false-true (c.if-has_equal.ensures.complete e)))
