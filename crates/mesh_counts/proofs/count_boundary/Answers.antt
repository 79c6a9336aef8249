-- `mesh_counts::count_boundary` meets its contract.
use Rattle.std.proofs.Common.{eqb, ◌∙◌, rules}
use Rattle.theory.specs.Mesh.{at}
use Rattle.mesh_counts.proofs.Rings.{boundary-total}
use Rattle.mesh_counts.proofs.count_boundary.Goals as goal

pub returns : goal.returns
returns c = record {
  few = c.count_passing.ensures.few;
  total = λ T whole R.
      c.count_passing.ensures.passing (λ h. eqb (at c.args.ring.now h) h) (λ h b l says. search rules)
      ∙ boundary-total T whole R;
}
