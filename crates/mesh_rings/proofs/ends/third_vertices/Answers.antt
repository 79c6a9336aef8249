-- `mesh_rings::ends::third_vertices` meets its contract: the corner that a half-edge does not touch is the one before.
use Rattle.std.proofs.Common.{rules}
use Rattle.mesh_rings.specs.Tables.{third}
use Rattle.mesh_rings.proofs.Tables.{third-first, third-second, third_last}
use Rattle.mesh_rings.proofs.ends.third_vertices.Goals as goal

pub returns : goal.returns
returns c = let list = c.args.mesh.list.now in c.tabulate.ensures (third list) (record {
  entries = λ k three l says. rw (third-first list k, third-second list k, third_last list k) (search rules);
})
