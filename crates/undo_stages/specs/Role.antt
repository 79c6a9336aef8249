-- One role, by the tables: the tiles that are reached from its start, and the coarse mesh that their rows make.
use Rattle.std.specs.Prelude.{ℕ, ◌+◌, ◌*◌, ◌≤◌, ◌<◌, ◌≡◌, ◌≢◌, List, length, take, Option, None, Some}
use Rattle.theory.specs.Mesh.{at}
use Rattle.theory.specs.Counting.{count}
use Rattle.theory.specs.Splitting.{first_on}
use Rattle.lists.specs.Marks.{marked, RanksOf}
use Rattle.lists.specs.Tables.{Tabulated}
use Rattle.mesh_faults.specs.Faults.{UsedMarks}
use Rattle.mesh_reach.specs.Reached.{Reached}
use Rattle.mesh_rings.specs.Ring.{RingBy}
use Rattle.split.specs.Numbers.{Numbered}
use Rattle.undo_match.specs.Selected.{Selected, RingSelected}

-- ---- the tiles

-- What `find_tiles` is lent: a triangle to start from, the other half-edge of each half-edge, the rows of F triangles
-- with the rings of their edges by some key, and room, in the queue for one triangle more.
pub record FindLent (k F : ℕ) (other rows ring marks kept queue opened : List ℕ) : Type 0 where
  pub inside : k < F
  pub small : 3 * F < 65536
  pub other_room : 3 * F ≤ length other
  pub rows_room : 3 * F ≤ length rows
  pub ring_room : 3 * F ≤ length ring
  pub marks_room : F ≤ length marks
  pub kept_room : 3 * F ≤ length kept
  pub queue_room : F < length queue
  pub opened_room : 3 * F ≤ length opened
  pub key : ℕ → ℕ
  pub ringed : RingBy (3 * F) key ring

-- Triangle s is the start, what is reached from it is marked, and the rows of the n marked triangles are selected.
pub record Gathered (s F : ℕ) (rows ring marks kept : List ℕ) (n : ℕ) : Type 0 where
  pub inside : s < F
  pub reached : Reached s F ring marks
  pub selected : Selected F rows marks n kept

-- The number of tiles that are reached from s, where they are a quarter of the F triangles; else nothing, as where s is
-- F, for no start.
pub data TilesFound (s F : ℕ) (rows ring marks kept : List ℕ) : Option ℕ → Type 0 where
  nowhere : s ≡ F → TilesFound s F rows ring marks kept None
  uneven : {n : ℕ} → Gathered s F rows ring marks kept n → 4 * n ≢ F
      → TilesFound s F rows ring marks kept None
  quarter : {n : ℕ} → Gathered s F rows ring marks kept n → 4 * n ≡ F → 0 < n
      → TilesFound s F rows ring marks kept (Some n)

-- ---- the coarse mesh

-- The tables of the coarse mesh that n selected rows, which are `kept`, make: the marks of the vertices in these rows
-- and their ranks, of which there are M, the rows with each vertex replaced by its rank, the ranks of the marked
-- triangles, and the rings of the rows as rings of half-edges of the coarse mesh.
pub record CoarseTables (N F n : ℕ) (ring marks kept : List ℕ) (M : ℕ) (coarse ring_c : List ℕ) : Type 0 where
  pub kept_marks : List ℕ
  pub vertex_rank : List ℕ
  pub rank : List ℕ
  pub keeps : UsedMarks N kept (3 * n) kept_marks
  pub vertex_ranks : RanksOf N kept_marks M vertex_rank
  pub room : 3 * n ≤ length coarse
  pub entries : Tabulated (λ p. at vertex_rank (at kept p)) (3 * n) coarse
  pub ranks : RanksOf F marks n rank
  pub links : RingSelected F ring marks rank ring_c

-- What `number_tiles` is lent: n marked triangles, a quarter of the F, with their rows and the rings of their edges,
-- and room. However the tables of the coarse mesh are made, its rings are those of its edges.
pub record NumberTilesLent (N F n : ℕ) (ring marks kept coarse numbers rank table : List ℕ) : Type 0 where
  pub quarter : F ≡ 4 * n
  pub small : N + F < 65536
  pub halves : 3 * F < 65536
  pub ring_room : 3 * F ≤ length ring
  pub marks_room : F ≤ length marks
  pub kept_room : 3 * n ≤ length kept
  pub coarse_room : 3 * n ≤ length coarse
  pub numbers_room : 3 * n ≤ length numbers
  pub rank_room : N + F ≤ length rank
  pub table_room : N + 3 * F ≤ length table
  pub within : (h : ℕ) → h < 3 * F → at ring h < 3 * F
  pub total : n ≡ count (marked marks) F
  pub below : (p : ℕ) → p < 3 * n → at kept p < N
  pub ringed : (M : ℕ) (out ring_c : List ℕ) → CoarseTables N F n ring marks kept M out ring_c
      → RingBy (3 * n) (first_on (take (3 * n) out)) ring_c

-- The number of vertices M, if they and the E edges add up to N; else nothing.
pub data AddedUp (N M E : ℕ) : Option ℕ → Type 0 where
  even : M + E ≡ N → AddedUp N M E (Some M)
  odd : M + E ≢ N → AddedUp N M E None

-- The coarse mesh has M vertices and E edges, and its half-edges have the numbers of the vertices on their edges.
pub record CoarseNumbered (N F n : ℕ) (ring marks kept coarse numbers : List ℕ) (answer : Option ℕ) : Type 0 where
  pub vertices : ℕ
  pub edges : ℕ
  pub ring_c : List ℕ
  pub tables : CoarseTables N F n ring marks kept vertices coarse ring_c
  pub numbered : Numbered vertices (3 * n) ring_c edges numbers
  pub answers : AddedUp N vertices edges answer
