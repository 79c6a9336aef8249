-- `undo_cover::cover::cover` meets its contract: the other half-edges go by the mesh's rings, the rows by these and
-- the third vertices, and the rows are a list of triangles, so they have rings.
use Rattle.undo_cover.proofs.Covered.{cover-rings, cover-made}
use Rattle.undo_cover.proofs.cover.cover.Goals as goal

pub ring_table-requires : goal.ring_table-requires
ring_table-requires c = cover-rings c.requires c.others.ensures c.third_vertices.ensures c.rows.ensures
    c.third_vertices.auto.thirds c.rows.auto.rows

pub returns : goal.returns
returns c = cover-made c.requires c.others.ensures c.third_vertices.ensures c.rows.ensures c.ring_table.ensures
