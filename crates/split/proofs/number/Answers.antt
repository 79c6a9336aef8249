-- `split::number` meets its contract: what is chosen tells which case of it holds.
use Rattle.std.proofs.Common.{◌≡◌, ℕ, ◌+◌, List, set, sym, ◌∙◌}
use Rattle.theory.specs.Mesh.{at}
use Rattle.mesh_rings.specs.Ring.{Chosen, met, new}
use Rattle.split.specs.Numbers.{OneNumbered, next, same}
use Rattle.split.proofs.number.Goals as goal

-- the number and the count are chosen by the same test
chosen-numbered : {h v none N E held x r : ℕ} {numbers : List ℕ} → held ≡ at numbers h → Chosen held none (N + E) held x
    → Chosen held none (E + 1) E r → OneNumbered h v none N E numbers r (set (set numbers h x) v x)
chosen-numbered e (met p) (met q) = next (sym e ∙ p)
chosen-numbered e (met p) (new q) = absurd (q p)
chosen-numbered e (new p) (met q) = absurd (p q)
chosen-numbered e (new p) (new q) = rw e (same (λ s. p (e ∙ s)))

pub returns : goal.returns
returns c = chosen-numbered c.at-held.ensures c.chosen-number.ensures c.chosen.ensures
