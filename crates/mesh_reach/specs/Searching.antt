-- How the search for what is reached goes: its queue, and the edges that it crosses and opens.
use Rattle.std.specs.Prelude.{ℕ, ◌+◌, ◌-◌, ◌*◌, ◌/◌, ◌≤◌, ◌<◌, ◌≡◌, ◌≢◌, ◌⊎◌, List, length, set}
use Rattle.theory.specs.Mesh.{at}
use Rattle.mesh_rings.specs.Ring.{RingBy}
use Rattle.mesh_reach.specs.Reached.{ReachLent}
use Rattle.mesh_reach.specs.declared.Search.{Search}

-- It holds the same tables, and these keep their lengths.
pub record Same (s s' : Search) : Type 0 where
  pub marks : s'.marks.ghost_name ≡ s.marks.ghost_name
  pub queue : s'.queue.ghost_name ≡ s.queue.ghost_name
  pub opened : s'.opened.ghost_name ≡ s.opened.ghost_name
  pub marks_long : length s'.marks.now ≡ length s.marks.now
  pub queue_long : length s'.queue.now ≡ length s.queue.now
  pub opened_long : length s'.opened.now ≡ length s.opened.now

-- ---- the queue

-- The first `filled` entries of the queue are the marked triangles, of F, each once.
pub record Queued (F : ℕ) (s : Search) : Type 0 where
  pub bit : (k : ℕ) → k < F → (at s.marks.now k ≡ 0) ⊎ (at s.marks.now k ≡ 1)
  pub below : (i : ℕ) → i < s.filled → at s.queue.now i < F
  pub marked : (i : ℕ) → i < s.filled → at s.marks.now (at s.queue.now i) ≡ 1
  pub apart : (i j : ℕ) → i < s.filled → j < s.filled → at s.queue.now i ≡ at s.queue.now j → i ≡ j
  pub held : (k : ℕ) → k < F → at s.marks.now k ≡ 1 → (i : ℕ) × (i < s.filled) × (at s.queue.now i ≡ k)

-- From one such queue to another: the marked triangles stay, and those that come to them are `due`.
pub record Grown (F : ℕ) (due : ℕ → Type 0) (s s' : Search) : Type 0 where
  pub queued : Queued F s'
  pub more : s.filled ≤ s'.filled
  pub front : (i : ℕ) → i < s.filled → at s'.queue.now i ≡ at s.queue.now i
  pub kept : (k : ℕ) → at s.marks.now k ≡ 1 → at s'.marks.now k ≡ 1
  pub only : (k : ℕ) → at s'.marks.now k ≡ 1 → (at s.marks.now k ≡ 1) ⊎ due k

-- What `push` is lent: a triangle whose mark is 0 or 1, and room after the queue.
pub record PushLent (k : ℕ) (s : Search) : Type 0 where
  pub small : k < 65536
  pub inside : k < length s.marks.now
  pub bit : at s.marks.now k ≤ 1
  pub room : s.filled < length s.queue.now

-- The triangle is marked and stands after the queue, which is longer by it if it was not marked.
pub record Pushed (k : ℕ) (s s' : Search) : Type 0 where
  pub counted : s'.filled ≡ s.filled + (1 - at s.marks.now k)
  pub marking : s'.marks.now ≡ set s.marks.now k 1
  pub queueing : s'.queue.now ≡ set s.queue.now s.filled k
  pub opening : s'.opened.now ≡ s.opened.now
  pub same : Same s s'

-- ---- the edges that the search crosses and opens

-- Triangle k, of F, has a half-edge with the key of half-edge h.
pub record HasKey (F : ℕ) (key : ℕ → ℕ) (h k : ℕ) : Type 0 where
  pub half : ℕ
  pub inside : half < 3 * F
  pub same : key half ≡ key h
  pub of : half / 3 ≡ k

-- Each half-edge that is opened has all triangles of its edge marked, whatever key the rings are by.
pub record Complete (F : ℕ) (ring : List ℕ) (s : Search) : Type 0 where
  pub all : (key : ℕ → ℕ) → RingBy (3 * F) key ring → (g : ℕ) → g < 3 * F → at s.opened.now g ≢ 0 → (k : ℕ)
      → HasKey F key g k → at s.marks.now k ≡ 1

-- What `cross` and `open_ring` are lent: a half-edge of a marked triangle, the rings, the queue, the opened half-edges,
-- and room.
pub record CrossLent (h F : ℕ) (ring : List ℕ) (s : Search) : Type 0 where
  pub inside : h < 3 * F
  pub own : at s.marks.now (h / 3) ≡ 1
  pub small : 3 * F < 65536
  pub ring_room : 3 * F ≤ length ring
  pub marks_room : F ≤ length s.marks.now
  pub queue_room : F < length s.queue.now
  pub opened_room : 3 * F ≤ length s.opened.now
  pub key : ℕ → ℕ
  pub ringed : RingBy (3 * F) key ring
  pub queued : Queued F s
  pub complete : Complete F ring s

-- The triangles of the edge are marked, and no others come to those that were, whatever key the rings are by.
pub record Crossed (h F : ℕ) (ring : List ℕ) (s s' : Search) : Type 0 where
  pub grown : (key : ℕ → ℕ) → RingBy (3 * F) key ring → Grown F (HasKey F key h) s s'
  pub all : (key : ℕ → ℕ) → RingBy (3 * F) key ring → (k : ℕ) → HasKey F key h k → at s'.marks.now k ≡ 1
  pub complete : Complete F ring s'
  pub same : Same s s'

-- What `spread` is lent: what `reach` is, with the start alone in the queue and marked, and no half-edge opened.
pub record SpreadLent (F : ℕ) (ring : List ℕ) (s : Search) : Type 0 where
  pub lent : ReachLent (at s.queue.now 0) F ring s.marks.now s.queue.now s.opened.now
  pub alone : s.filled ≡ 1
  pub marked : at s.marks.now (at s.queue.now 0) ≡ 1
  pub others : (k : ℕ) → k < F → k ≢ at s.queue.now 0 → at s.marks.now k ≡ 0
  pub shut : (g : ℕ) → g < 3 * F → at s.opened.now g ≡ 0
