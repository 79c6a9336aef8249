-- `mesh_faults::TwinSearch::meet` meets its contract: the stamp that was there tells whether the third vertex was met
-- before.
use Prim.Native.Nat.{ℕ, min}
use mathlib.Core.Path.{◌≡◌, ◌∙◌, sym, ap}
use mathlib.Core.Logic.{◌≢◌}
use mathlib.Core.List.{List}
use lib.ListN.{set}
use borrow.Author.Rules.{rules}
use Rattle.theory.specs.Mesh.{at}
use Rattle.mesh_faults.specs.Twins.{Met, again, anew}
use Rattle.mesh_faults.proofs.TwinSearch.meet.Goals as goal

module _ {x h least v : ℕ} {thirds stamp : List ℕ} (e : v ≡ at thirds x) where
  -- the stamp was there
  met-again : {found : ℕ} → at stamp v ≡ h → found ≡ min least x → Met x h thirds least stamp found (set stamp v h)
  met-again s q = rw (e, q) (again (ap (at stamp) (sym e) ∙ s))

  -- another was
  met-anew : at stamp v ≢ h → Met x h thirds least stamp least (set stamp v h)
  met-anew ne = rw e (anew (λ s. ne (ap (at stamp) e ∙ s)))

pub returns-then-met-h-clause-met : goal.returns-then-met-h-clause-met
returns-then-met-h-clause-met c = met-again c.at-v.ensures c.if-met-h.true (search rules)

pub returns-clause-met : goal.returns-clause-met
returns-clause-met c = met-anew c.at-v.ensures c.if-met-h.false
