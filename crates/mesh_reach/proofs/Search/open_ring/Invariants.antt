-- `open_ring` of the search meets its contract. The loop's invariant: x is on the ring of h, the triangles of what is
-- behind the walk are marked, and only half-edges of the ring came to the opened ones. The measure is what is left of the
-- round.
use Prim.Native.Nat.{ℕ, ◌*◌, ◌/◌, ◌<◌}
use mathlib.Core.Path.{◌≡◌}
use mathlib.Core.Logic.{◌≢◌, ◌⊎◌}
use mathlib.Core.List.{List}
use Rattle.theory.specs.Mesh.{at}
use Rattle.mesh_rings.specs.Ring.{RingBy}
use Rattle.mesh_reach.specs.declared.Search.{Search}
use Rattle.mesh_reach.specs.Searching.{Same, Grown, HasKey, CrossLent}
use Rattle.mesh_reach.proofs.Rounds.{left, Behind}
use Rattle.mesh_reach.proofs.Search.open_ring.Given as goal

pub record Turn (h F : ℕ) (ring : List ℕ) (s₀ s : Search) (x : ℕ) : Type 0 where
  pub lent : CrossLent h F ring s₀
  pub same : Same s₀ s
  pub within : x < 3 * F
  pub keyed : (key : ℕ → ℕ) → RingBy (3 * F) key ring → key x ≡ key h
  pub grown : (key : ℕ → ℕ) → RingBy (3 * F) key ring → Grown F (HasKey F key h) s₀ s
  pub passed : (key : ℕ → ℕ) → RingBy (3 * F) key ring → (g : ℕ) → g < 3 * F → key g ≡ key h → Behind h x g
      → at s.marks.now (g / 3) ≡ 1
  pub opens : (key : ℕ → ℕ) → RingBy (3 * F) key ring → (g : ℕ) → at s.opened.now g ≢ 0
      → (at s₀.opened.now g ≢ 0) ⊎ (key g ≡ key h)

abbrev pub invariant-loop-x : goal.invariant-loop-x
invariant-loop-x l = Turn l.h l.triangles l.ring l.fn.self l.self l.x

abbrev pub decreases-loop-x : goal.decreases-loop-x
decreases-loop-x l = left l.h (3 * l.triangles) l.x
