-- `split::number_all`: for every list that the rings are those of: of the edges that appear before h, all half-edges
-- below h have the edge's number, and so has the next one; the first half-edge of any other edge has none.
use Rattle.std.proofs.Common.{◌≡◌, ℕ, ◌+◌, ◌≤◌, ◌<◌, List, length}
use Rattle.theory.specs.Mesh.{at}
use Rattle.theory.specs.Counting.{count}
use Rattle.theory.specs.Splitting.{first_on, is_first, edge_no}
use Rattle.mesh_rings.specs.Ring.{RingBy}
use Rattle.split.proofs.number_all.Given as goal

-- Of the edges of T that appear before h, half-edge g has the number if it is below h or the next on its edge from h
-- on; the first on any other edge has none; E edges appear before h.
pub record Handed (N n : ℕ) (T numbers : List ℕ) (E h : ℕ) : Type 0 where
  pub given : (g : ℕ) → g < n → first_on T g < h → ((f : ℕ) → h ≤ f → f < g → first_on T f ≡ first_on T g → ⊥)
      → at numbers g ≡ edge_no N T g
  pub none : (g : ℕ) → h ≤ g → g < n → first_on T g ≡ g → at numbers g ≡ N + n
  pub total : E ≡ count (is_first T) h

abbrev pub invariant-loop-h : goal.invariant-loop-h
invariant-loop-h l =
    (T : List ℕ) → length T ≡ l.halves → RingBy l.halves (first_on T) l.ring
    → Handed l.vertices l.halves T l.numbers l.edges l.h
