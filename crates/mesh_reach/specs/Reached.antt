-- What is reached from a triangle, by the rings of the edges alone: triangles with half-edges on the same edge are
-- joined.
use Rattle.std.specs.Prelude.{ℕ, ◌*◌, ◌/◌, ◌≤◌, ◌<◌, ◌≡◌, ◌⊎◌, List, length}
use Rattle.theory.specs.Mesh.{at}
use Rattle.mesh_rings.specs.Ring.{RingBy}

-- Triangles k and l, of F, each have a half-edge, and these have the same key.
pub record Joined (F : ℕ) (key : ℕ → ℕ) (k l : ℕ) : Type 0 where
  pub mine : ℕ
  pub yours : ℕ
  pub inside_mine : mine < 3 * F
  pub inside_yours : yours < 3 * F
  pub of_mine : mine / 3 ≡ k
  pub of_yours : yours / 3 ≡ l
  pub same : key mine ≡ key yours

-- Triangle l is come to from triangle k by such steps.
pub data Joins (F : ℕ) (key : ℕ → ℕ) (k : ℕ) : ℕ → Type 0 where
  here : Joins F key k k
  step : {l m : ℕ} → Joins F key k l → Joined F key l m → Joins F key k m

-- What `reach` is lent: a start among F triangles, the rings of their half-edges by some key, and room, in the queue
-- for one triangle more.
pub record ReachLent (start F : ℕ) (ring marks queue opened : List ℕ) : Type 0 where
  pub inside : start < F
  pub small : 3 * F < 65536
  pub ring_room : 3 * F ≤ length ring
  pub marks_room : F ≤ length marks
  pub queue_room : F < length queue
  pub opened_room : 3 * F ≤ length opened
  pub key : ℕ → ℕ
  pub ringed : RingBy (3 * F) key ring

-- The marks of the triangles that are come to from `start`: 1 for these, 0 for the others.
pub record Marked (start F : ℕ) (key : ℕ → ℕ) (marks : List ℕ) : Type 0 where
  pub bit : (k : ℕ) → k < F → (at marks k ≡ 0) ⊎ (at marks k ≡ 1)
  pub only : (k : ℕ) → k < F → at marks k ≡ 1 → Joins F key start k
  pub all : (k : ℕ) → k < F → Joins F key start k → at marks k ≡ 1

-- So are the marks, whatever key the rings are by.
pub record Reached (start F : ℕ) (ring marks : List ℕ) : Type 0 where
  pub marked : (key : ℕ → ℕ) → RingBy (3 * F) key ring → Marked start F key marks
