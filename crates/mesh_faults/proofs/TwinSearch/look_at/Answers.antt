-- `mesh_faults::TwinSearch::look_at` meets its contract: where the second link leads back there is at most one other
-- half-edge on the edge; else h is not the last, or the walk tells.
use Prim.Native.Nat.{ℕ, ◌≤◌, ◌<◌, min}
use native.Mathlib.Omega.{arith}
use mathlib.Core.Path.{◌≡◌, ◌∙◌, sym, ap}
use mathlib.Core.Logic.{◌≢◌}
use mathlib.Core.List.{List}
use borrow.Author.Rules.{rules}
use Rattle.theory.specs.Mesh.{at}
use Rattle.mesh_faults.specs.Twins.{TwinLent, TwinMet}
use Rattle.mesh_faults.proofs.Search.{not_last, two-twins, two_none}
use Rattle.mesh_faults.proofs.TwinSearch.look_at.Goals as goal

module _ {h n v : ℕ} {ring thirds stamp : List ℕ} (L : TwinLent h n ring thirds stamp) (e : v ≡ at ring h) where
  -- h is not the last
  not-ending : {least : ℕ} → h < v → TwinMet h n ring thirds least stamp least stamp
  not-ending l = not_last L (omega arith)

  module _ {w : ℕ} (f : w ≡ at ring v) where
    -- the second link leads back
    back : w ≡ h → at ring (at ring h) ≡ h
    back s = ap (at ring) (sym e) ∙ sym f ∙ s

    -- the other one is a twin before h
    twins : {least found : ℕ} → w ≡ h → at thirds v ≡ at thirds h → v < h → found ≡ min least h
        → TwinMet h n ring thirds least stamp found stamp
    twins s same l q = rw q (two-twins L (back s) (omega arith) (ap (at thirds) (sym e) ∙ same))

    -- it is not before h
    no_other : {least : ℕ} → w ≡ h → h ≤ v → TwinMet h n ring thirds least stamp least stamp
    no_other s l = two_none L (back s) (λ b. absurd (omega arith))

    -- it has another third vertex
    no-twin : {least : ℕ} → w ≡ h → at thirds v ≢ at thirds h → TwinMet h n ring thirds least stamp least stamp
    no-twin s ne = two_none L (back s) (λ b same. ne (ap (at thirds) e ∙ same))

pub returns-then-next-h-clause-looked : goal.returns-then-next-h-clause-looked
returns-then-next-h-clause-looked c =
    let thirds = c.args.self.now.thirds.now in
    -- past the second test the two have the same third vertex
    let same : at thirds c.at-next.result ≡ at thirds c.args.h = omega arith in
    twins c.requires c.at-next.ensures c.at.ensures c.if-at-h.true same c.if-next-h.true (search rules)

pub returns-else-next-h-clause-looked : goal.returns-else-next-h-clause-looked
returns-else-next-h-clause-looked c =
    no_other c.requires c.at-next.ensures c.at.ensures c.if-at-h.true c.if-next-h.false

pub returns-else-self-next-clause-looked : goal.returns-else-self-next-clause-looked
returns-else-self-next-clause-looked c =
    no-twin c.requires c.at-next.ensures c.at.ensures c.if-at-h.true c.if-self-next.false

pub returns-then-h-next-clause-looked : goal.returns-then-h-next-clause-looked
returns-then-h-next-clause-looked c = not-ending c.requires c.at-next.ensures c.if-h-next.true
