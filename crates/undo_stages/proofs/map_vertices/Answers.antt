-- `undo_stages::map_vertices` meets its contract: each selected corner is a corner of the list, so it can be a key of
-- the map, whose length stays.
use mathlib.Core.Path.{◌∙◌}
use Rattle.undo_stages.proofs.Mapped.{corners-lent}
use Rattle.undo_stages.proofs.map_vertices.Goals as goal

pub scatter-requires-2 : goal.scatter-requires-2
scatter-requires-2 c = corners-lent c.requires c.select.ensures c.scatter.auto.table c.select.auto.out

pub holds-requires-2 : goal.holds-requires-2
holds-requires-2 c = corners-lent c.requires c.select.ensures (c.scatter-2.auto.table ∙ c.scatter.auto.table) c.select.auto.out
