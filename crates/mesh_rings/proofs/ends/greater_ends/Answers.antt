-- `mesh_rings::ends::greater_ends` meets its contract: each half-edge runs to the next corner of its triangle.
use Rattle.std.proofs.Common.{rules}
use Rattle.theory.specs.Splitting.{greater}
use Rattle.mesh_rings.proofs.Tables.{next-first, next-second, next_last}
use Rattle.mesh_rings.proofs.ends.greater_ends.Goals as goal

pub returns : goal.returns
returns c = c.tabulate.ensures (greater c.args.mesh.list.now) (record {
  entries = λ k three l says. rw (next-first k, next-second k, next_last k) (search rules);
})
