-- The edges of a list and its boundary edges, counted over the rings of its edges.
use Rattle.std.specs.Prelude.{ℕ, ◌≤◌, ◌<◌, ◌≡◌, Bool, List, length}
use Rattle.theory.specs.Counting.{count}
use Rattle.theory.specs.Mesh.{at}
use Rattle.theory.specs.Splitting.{first_on}
use Rattle.mesh_rings.specs.Ring.{RingBy}

-- What both are lent: links of n half-edges.
pub record CountLent (n : ℕ) (ring : List ℕ) : Type 0 where
  pub small : n < 65536
  pub room : n ≤ length ring

-- Whatever list the rings are those of: c is how many it has of what is counted, which are its `edges` or its
-- `boundary_edges`, and no more than half-edges.
pub record CountOf (counted : List ℕ → ℕ) (n : ℕ) (ring : List ℕ) (c : ℕ) : Type 0 where
  pub few : c ≤ n
  pub total : (T : List ℕ) → length T ≡ n → RingBy n (first_on T) ring → c ≡ counted T

-- c of n half-edges pass a test, whose answers `answer` tells from where the ring leads from a half-edge, and the
-- half-edge.
pub record PassingOf (answer : ℕ → ℕ → Bool → Type 0) (n : ℕ) (ring : List ℕ) (c : ℕ) : Type 0 where
  pub few : c ≤ n
  pub passing : (test : ℕ → Bool) → ((h : ℕ) (b : Bool) → h < n → answer (at ring h) h b → b ≡ test h)
      → c ≡ count test n
