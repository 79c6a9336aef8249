-- `mesh_mates::others` meets its contract.
use Rattle.std.proofs.Common.{◌≡◌, ◌<◌, ◌+◌, ℕ, List, length, arith, set, subst}
use Rattle.theory.specs.Mesh.{at}
use Rattle.lists.proofs.Lists.{at_set}
use Rattle.mesh_rings.specs.Ring.{Chosen}
use Rattle.mesh_mates.proofs.others.Goals as goal

-- one turn, as the loop reads its numbers
turned : (ring other : List ℕ) {n h next s v : ℕ} → h < length other → next ≡ at ring h → s ≡ at ring next
    → Chosen s h next n v
    → ((g : ℕ) → g < h → Chosen (at ring (at ring g)) g (at ring g) n (at other g))
    → (g : ℕ) → g < h + 1 → Chosen (at ring (at ring g)) g (at ring g) n (at (set other h v) g)
turned ring other {n} {h} {next} {s} {v} room en es C made g b =
    at_set (λ w. Chosen (at ring (at ring g)) g (at ring g) n w) other h v g room (λ e. rw e here) (λ ne. made g (omega arith))
  where
    here : Chosen (at ring (at ring h)) h (at ring h) n v
    here = subst (λ (y : ℕ). Chosen (at ring y) h y n v) en (subst (λ (w : ℕ). Chosen w h next n v) es C)

pub loop-h-preserved : goal.loop-h-preserved
loop-h-preserved c = turned _ _ (omega arith) c.at-next.ensures c.at.ensures c.chosen.ensures c.loop-h.invariant

pub returns : goal.returns
returns c = record { entry = λ g b. c.loop-h.invariant g (omega (arith, c.loop-h.auto.h-end, c.loop-h-test.false)) }
