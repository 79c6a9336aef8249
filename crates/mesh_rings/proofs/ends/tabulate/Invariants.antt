-- `mesh_rings::ends::tabulate`: the entries of the first k triangles are made.
use Rattle.std.proofs.Common.{ℕ, ◌*◌}
use Rattle.lists.specs.Tables.{Tabulated}
use Rattle.mesh_rings.specs.Tables.{EntriesOf}
use Rattle.mesh_rings.proofs.ends.tabulate.Given as goal

abbrev pub invariant-loop-k : goal.invariant-loop-k
invariant-loop-k g l = (f : ℕ → ℕ) → EntriesOf (goal.F-post g l.entries) f l.fn.mesh.triangles l.list → Tabulated f (3 * l.k) l.table
