-- `mesh_rings::ring::join`: by whatever keys the chain is, the walk has come to h, and no stamp but u is new. The
-- measure is what is left of n.
use Rattle.std.proofs.Common.{◌≡◌, ◌≢◌, ℕ, ◌-◌, ◌≤◌, List}
use Rattle.theory.specs.Mesh.{at}
use Rattle.mesh_rings.specs.Making.{Chain}
use Rattle.mesh_rings.proofs.Joining.{Walk}
use Rattle.mesh_rings.proofs.ring.join.Given as goal

pub record Turn (u start n : ℕ) (greater stamp₀ ring₀ stamp last ring : List ℕ) (h : ℕ) : Type 0 where
  pub within : h ≤ n
  pub walks : (low : ℕ → ℕ) → Chain low u start n ring₀ → Walk low u start n greater ring₀ stamp last ring h
  pub stamps : (x : ℕ) → at stamp x ≢ u → at stamp x ≡ at stamp₀ x

abbrev pub invariant-loop-h : goal.invariant-loop-h
invariant-loop-h l = Turn l.u l.start l.n l.greater l.fn.stamp l.fn.ring l.stamp l.last l.ring l.h

abbrev pub decreases-loop-h : goal.decreases-loop-h
decreases-loop-h l = l.n - l.h
