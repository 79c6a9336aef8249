-- `undo_stages::map_triangles` meets its contract: what is claimed is one of the triangles, so it can be a key of the
-- map.
use mathlib.Core.Path.{refl}
use Rattle.undo_stages.proofs.Mapped.{claimed-lent}
use Rattle.undo_stages.proofs.map_triangles.Goals as goal

pub scatter-requires : goal.scatter-requires
scatter-requires c = claimed-lent c.requires c.claims.ensures c.claims.auto.out refl

pub holds-requires : goal.holds-requires
holds-requires c = claimed-lent c.requires c.claims.ensures c.claims.auto.out c.scatter.auto.table
