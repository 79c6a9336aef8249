-- `mesh_rings::ring::link_back`: the heads are the nearest half-edges from the k-th triangle on, and the links of those
-- are made.
use Rattle.std.proofs.Common.{ℕ, suc, ◌*◌, ◌≤◌, ◌<◌, List}
use Rattle.theory.specs.Mesh.{at}
use Rattle.theory.specs.Splitting.{lesser}
use Rattle.mesh_rings.specs.Chains.{Nearest}
use Rattle.mesh_rings.proofs.ring.link_back.Given as goal

-- the chains of the half-edges from i on, of F triangles
pub record Linked (N F : ℕ) (T head link : List ℕ) (i : ℕ) : Type 0 where
  pub heads : (u : ℕ) → u < N → Nearest (lesser T) u i (3 * F) (at head u)
  pub links : (g : ℕ) → i ≤ g → g < 3 * F → Nearest (lesser T) (lesser T g) (suc g) (3 * F) (at link g)

abbrev pub invariant-loop-k : goal.invariant-loop-k
invariant-loop-k l = Linked l.fn.mesh.vertices l.fn.mesh.triangles l.list l.head l.link (3 * l.k)
