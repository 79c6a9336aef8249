-- Tables with an entry for each half-edge, and the triangles that they are made of.
use Rattle.std.specs.Prelude.{ℕ, ◌+◌, ◌*◌, ◌/◌, ◌%◌, ◌≤◌, ◌<◌, ◌≡◌, List, length}
use Rattle.theory.specs.Mesh.{at}

-- A list of F triangles and room for an entry of each half-edge.
pub record PerHalfEdge (F : ℕ) (T table : List ℕ) : Type 0 where
  pub listed : 3 * F ≤ length T
  pub roomy : 3 * F ≤ length table

-- What `answer` says of the vertices at the corners of each of the F triangles of T are the entries of its half-edges.
pub record EntriesOf (answer : ℕ → ℕ → ℕ → ℕ × ℕ × ℕ → Type 0) (g : ℕ → ℕ) (F : ℕ) (T : List ℕ) : Type 0 where
  pub entries : (k : ℕ) (three : ℕ × ℕ × ℕ) → k < F → answer (at T (3 * k)) (at T (3 * k + 1)) (at T (3 * k + 2)) three
      → (three.0 ≡ g (3 * k)) × (three.1 ≡ g (3 * k + 1)) × (three.2 ≡ g (3 * k + 2))

-- The vertex of its triangle that half-edge h does not touch.
abbrev pub third : List ℕ → ℕ → ℕ
third T h = at T (3 * (h / 3) + (h + 2) % 3)

-- A work buffer: V + 3F entries.
pub record Work (N F : ℕ) (buffer : List ℕ) : Type 0 where
  pub room : N + 3 * F ≤ length buffer

-- A list of F triangles whose corners are below N, all within 16 bits.
pub record Listed (N F : ℕ) (T : List ℕ) : Type 0 where
  pub whole : length T ≡ 3 * F
  pub small : 3 * F < 65536
  pub below : (c : ℕ) → c < length T → at T c < N

-- The corners of triangle k hold three different vertices.
pub record Different (T : List ℕ) (k : ℕ) : Type 0 where
  pub apart : (i j : ℕ) → i < 3 → j < 3 → at T (3 * k + i) ≡ at T (3 * k + j) → i ≡ j

-- They hold three different vertices, or one vertex three times.
pub data Corners (T : List ℕ) (k : ℕ) : Type 0 where
  different : Different T k → Corners T k
  equal : ((i j : ℕ) → i < 3 → j < 3 → at T (3 * k + i) ≡ at T (3 * k + j)) → Corners T k
