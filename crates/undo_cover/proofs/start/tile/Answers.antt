-- `undo_cover::start::tile` meets its contract: the test is that of `tile_of`.
use mathlib.Core.Path.{sym}
use Rattle.undo_cover.proofs.Starts.{tile_of-different, tile_of-equal}
use Rattle.undo_cover.proofs.start.tile.Goals as goal

pub returns-then-rows-k-clause-number : goal.returns-then-rows-k-clause-number
returns-then-rows-k-clause-number c F = sym (tile_of-equal _ _ _ c.if-rows-k.true)

pub returns-clause-number : goal.returns-clause-number
returns-clause-number c F = sym (tile_of-different _ _ _ c.if-rows-k.false)
