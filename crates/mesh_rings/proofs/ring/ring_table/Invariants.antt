-- `mesh_rings::ring::ring_table`: the half-edges whose lesser end is below u are in rings, the others still have the
-- links of the chains, and no stamp is one of u to N - 1.
use Rattle.std.proofs.Common.{◌≡◌, ◌≢◌, ℕ, ◌*◌, ◌≤◌, ◌<◌, List}
use Rattle.theory.specs.Mesh.{at}
use Rattle.theory.specs.Splitting.{lesser}
use Rattle.mesh_rings.specs.Making.{Follows}
use Rattle.mesh_rings.proofs.ring.ring_table.Given as goal

pub record Turn (N F : ℕ) (T highs ring₀ stamp ring : List ℕ) (u : ℕ) : Type 0 where
  pub made : (h : ℕ) → h < 3 * F → lesser T h < u → Follows (3 * F) (lesser T) (at highs) h (at ring h)
  pub rest : (h : ℕ) → h < 3 * F → u ≤ lesser T h → at ring h ≡ at ring₀ h
  pub fresh : (h k : ℕ) → h < 3 * F → u ≤ k → k < N → at stamp (at highs h) ≢ k

abbrev pub invariant-loop-u : goal.invariant-loop-u
invariant-loop-u l = Turn l.mesh.vertices l.mesh.triangles l.mesh.list.now l.greater l.initial.ring l.stamp l.ring l.u
