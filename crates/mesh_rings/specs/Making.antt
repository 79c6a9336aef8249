-- What the functions that make the rings are lent, and what they do.
use Rattle.std.specs.Prelude.{ℕ, suc, ◌≤◌, ◌<◌, ◌≡◌, ◌≢◌, List, length}
use Rattle.theory.specs.Mesh.{at}
use Rattle.mesh_rings.specs.Tables.{Listed, Work}
use Rattle.mesh_rings.specs.Chains.{Nearest}

-- What `ring_table` is lent: a list of F triangles on N vertices, within 16 bits, and room.
pub record RingLent (N F : ℕ) (T greater head stamp last ring : List ℕ) : Type 0 where
  pub listed : Listed N F T
  pub bound : N < 65536
  pub greater_room : Work N F greater
  pub head_room : Work N F head
  pub stamp_room : Work N F stamp
  pub last_room : Work N F last
  pub ring_room : Work N F ring

-- Two indices have the same pair of keys.
pub record SamePair (low high : ℕ → ℕ) (g h : ℕ) : Type 0 where
  pub key : low g ≡ low h
  pub other : high g ≡ high h

-- v follows h among the indices below n with h's pair of keys: it is the next one, or, after the last, the first.
pub record Follows (n : ℕ) (low high : ℕ → ℕ) (h v : ℕ) : Type 0 where
  pub within : v < n
  pub same : SamePair low high v h
  pub next : h < v → (g : ℕ) → h < g → g < v → SamePair low high g h → ⊥
  pub last : v ≤ h → (g : ℕ) → h < g → g < n → SamePair low high g h → ⊥
  pub first : v ≤ h → (g : ℕ) → g < v → SamePair low high g h → ⊥

-- The chain of the indices below n that hold the key u, from `start` on.
pub record Chain (low : ℕ → ℕ) (u start n : ℕ) (link : List ℕ) : Type 0 where
  pub starts : Nearest low u 0 n start
  pub links : (h : ℕ) → h < n → low h ≡ u → Nearest low u (suc h) n (at link h)

-- What `join` is lent: the chain of u by some keys; greater ends that are indices of `stamp` and `last`, with no stamp
-- u at any of them; and room.
pub record JoinLent (u start n : ℕ) (greater stamp last ring : List ℕ) : Type 0 where
  pub small : n < 65536
  pub bound : u < 65536
  pub low : ℕ → ℕ
  pub chain : Chain low u start n ring
  pub greaters : n ≤ length greater
  pub stampable : (h : ℕ) → h < n → at greater h < length stamp
  pub lastable : (h : ℕ) → h < n → at greater h < length last
  pub roomy : n ≤ length ring
  pub fresh : (h : ℕ) → h < n → at stamp (at greater h) ≢ u

-- Whatever keys it is the chain of u by: its indices are in rings, the other links are as they were. No stamp but u is
-- new.
pub record Joined (u start n : ℕ) (greater stamp ring stamp' ring' : List ℕ) : Type 0 where
  pub made : (low : ℕ → ℕ) → Chain low u start n ring → (h : ℕ) → h < n → low h ≡ u
      → Follows n low (at greater) h (at ring' h)
  pub rest : (low : ℕ → ℕ) → Chain low u start n ring → (h : ℕ) → h < n → low h ≢ u → at ring' h ≡ at ring h
  pub stamps : (x : ℕ) → at stamp' x ≢ u → at stamp' x ≡ at stamp x
