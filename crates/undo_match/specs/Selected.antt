-- The marked triangles of a list, selected.
use Rattle.std.specs.Prelude.{ℕ, ◌+◌, ◌*◌, ◌/◌, ◌%◌, ◌≤◌, ◌<◌, ◌≡◌, List, T, length}
use Rattle.theory.specs.Mesh.{at}
use Rattle.theory.specs.Counting.{count}
use Rattle.lists.specs.Marks.{marked}

-- What `select` is lent: F triangles, their marks, and room.
pub record SelectLent (F : ℕ) (list marks out : List ℕ) : Type 0 where
  pub list_room : 3 * F ≤ length list
  pub marks_room : F ≤ length marks
  pub out_room : 3 * F ≤ length out

-- The corners of each marked triangle stand at the place of its rank; `total` are marked.
pub record Selected (F : ℕ) (list marks : List ℕ) (total : ℕ) (out : List ℕ) : Type 0 where
  pub all : total ≡ count (marked marks) F
  pub entry : (k i : ℕ) → k < F → T (marked marks k) → i < 3
      → at out (3 * count (marked marks) k + i) ≡ at list (3 * k + i)

-- What is lent for the corners of triangle k: they stand in the list.
pub record CornersLent (k : ℕ) (list : List ℕ) : Type 0 where
  pub list_room : 3 * k + 3 ≤ length list

-- The half-edge of the selected list that half-edge h becomes.
abbrev pub selected_half : List ℕ → ℕ → ℕ
selected_half rank h = 3 * at rank (h / 3) + h % 3

-- What `selected_half` is lent: half-edge h, the rank of its triangle, and a result within 16 bits.
pub record HalfLent (h : ℕ) (rank : List ℕ) : Type 0 where
  pub rank_room : h / 3 < length rank
  pub small : selected_half rank h < 65536

-- What `selected_ring` is lent: rings, whose links are below 3F, the ranks of the marked triangles, and room.
pub record RingLent (F : ℕ) (ring marks rank out : List ℕ) : Type 0 where
  pub small : 3 * F < 65536
  pub ring_room : 3 * F ≤ length ring
  pub marks_room : F ≤ length marks
  pub rank_room : F ≤ length rank
  pub out_room : 3 * F ≤ length out
  pub within : (h : ℕ) → h < 3 * F → at ring h < 3 * F
  pub ranked : (k : ℕ) → k < F → at rank k ≡ count (marked marks) k

-- The link of each half-edge of a marked triangle, both as half-edges of the selected list.
pub record RingSelected (F : ℕ) (ring marks rank out : List ℕ) : Type 0 where
  pub entry : (k i : ℕ) → k < F → T (marked marks k) → i < 3
      → at out (3 * at rank k + i) ≡ selected_half rank (at ring (3 * k + i))

-- What is lent for the links of triangle k, each with its half-edge of the selected list.
pub record LinksLent (k : ℕ) (ring rank : List ℕ) : Type 0 where
  pub ring_room : 3 * k + 3 ≤ length ring
  pub halves : (h : ℕ) → 3 * k ≤ h → h < 3 * k + 3 → HalfLent (at ring h) rank
