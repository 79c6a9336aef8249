-- `mesh_counts::count_edges` meets its contract.
use Rattle.std.proofs.Common.{leb, ◌∙◌, rules}
use Rattle.theory.specs.Mesh.{at}
use Rattle.mesh_counts.proofs.Rings.{edges-total}
use Rattle.mesh_counts.proofs.count_edges.Goals as goal

pub returns : goal.returns
returns c = record {
  few = c.count_passing.ensures.few;
  total = λ T whole R.
      c.count_passing.ensures.passing (λ h. leb (at c.args.ring.now h) h) (λ h b l says. search rules)
      ∙ edges-total T whole R;
}
