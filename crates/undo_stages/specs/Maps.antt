-- The maps of a role, as tables: what the calls that make them and compare by them are lent and do.
use Rattle.std.specs.Prelude.{ℕ, ◌+◌, ◌*◌, ◌/◌, ◌≤◌, ◌<◌, ◌≡◌, Bool, true, List, T, length, take, Result}
use Rattle.theory.specs.Mesh.{at}
use Rattle.theory.specs.Counting.{count}
use Rattle.theory.specs.Splitting.{edge_no, split}
use Rattle.lists.specs.Keys.{KeysLent, Scattered, Holds}
use Rattle.lists.specs.Marks.{marked}
use Rattle.lists.specs.Tables.{Tabulated}
use Rattle.mesh_mates.specs.Others.{HasMate}
use Rattle.undo_match.specs.Selected.{SelectLent, Selected}
use Rattle.undo_match.specs.Claims.{ClaimsLent, Claimed}
use Rattle.undo_compare.specs.Compared.{Compared}
use Rattle.undo_compare.specs.declared.Mismatch.{Mismatch}

-- ---- vertices

-- What `map_vertices` is lent: F triangles of which n are marked, and room for the corners of these; vertices of rows
-- with their coarse numbers, and numbers for the corners; and a map that has all these vertices.
pub record VerticesLent (F n : ℕ) (list marks kept coarse numbers map corners : List ℕ) : Type 0 where
  pub selects : SelectLent F list marks corners
  pub all : n ≡ count (marked marks) F
  pub keeps : KeysLent (3 * n) kept map coarse
  pub numbered : 3 * n ≤ length numbers
  pub inside : (c : ℕ) → c < 3 * F → at list c < length map

-- The corners are selected; the coarse numbers are put into the map at the vertices of the rows, which gives `first`,
-- and then the others at the corners. The answer is true exactly if the map holds them all.
pub record VerticesMapped (F n : ℕ) (list marks kept coarse numbers map map' corners' : List ℕ) (answer : Bool)
    : Type 0 where
  pub selected : Selected F list marks n corners'
  pub first : List ℕ
  pub coarse_put : Scattered (at coarse) (3 * n) kept map first
  pub numbers_put : Scattered (at numbers) (3 * n) corners' first map'
  pub coarse_held : answer ≡ true → (p : ℕ) → p < 3 * n → at map' (at kept p) ≡ at coarse p
  pub numbers_held : answer ≡ true → (p : ℕ) → p < 3 * n → at map' (at corners' p) ≡ at numbers p
  pub complete : ((p : ℕ) → p < 3 * n → at map' (at kept p) ≡ at coarse p)
      → ((p : ℕ) → p < 3 * n → at map' (at corners' p) ≡ at numbers p) → answer ≡ true

-- ---- triangles

-- What `map_triangles` is lent: what `claims` is, marked triangles whose edges all have mates, and a map
-- that has the F triangles.
pub record TrianglesLent (F : ℕ) (other marks map claimed : List ℕ) : Type 0 where
  pub claims : ClaimsLent F marks other claimed
  pub mated : (k i : ℕ) → k < F → T (marked marks k) → i < 3 → HasMate (3 * F) other (3 * k + i)
  pub map_room : F ≤ length map

-- Triangles are claimed; each of the splitting is put into the map at the one that is claimed for it. The answer is
-- true exactly if the map holds them all.
pub record TrianglesMapped (F : ℕ) (other marks map map' claimed' : List ℕ) (answer : Bool) : Type 0 where
  pub claims : Claimed F marks other claimed'
  pub scattered : Scattered (λ t. t) F claimed' map map'
  pub holds : Holds (λ t. t) F claimed' map' answer

-- ---- the comparison

-- What `compare_all` is lent: 4n triangles, a coarse list of n with the numbers on its half-edges, from some number of
-- coarse vertices up, and room for its splitting, whose triangles have three different corners; a map that has all
-- corners, and one of the triangles to those of the splitting.
pub record AllLent (F n : ℕ) (list coarse numbers vertex_map triangle_map splitting : List ℕ) : Type 0 where
  pub quarter : F ≡ 4 * n
  pub whole : length list ≡ 3 * F
  pub coarse_room : 3 * n ≤ length coarse
  pub numbers_room : 3 * n ≤ length numbers
  pub splitting_room : 12 * n ≤ length splitting
  pub mapped : (c : ℕ) → c < 3 * F → at list c < length vertex_map
  pub matched : F ≤ length triangle_map
  pub inside : (k : ℕ) → k < F → at triangle_map k < F
  pub coarse_vertices : ℕ
  pub numbered : Tabulated (edge_no coarse_vertices (take (3 * n) coarse)) (3 * n) numbers
  pub different : (c d : ℕ)
      → c < length (split coarse_vertices (take (3 * n) coarse))
      → d < length (split coarse_vertices (take (3 * n) coarse)) → c / 3 ≡ d / 3
      → at (split coarse_vertices (take (3 * n) coarse)) c ≡ at (split coarse_vertices (take (3 * n) coarse)) d → c ≡ d

-- Where the numbers are those from M up, the triangles are compared with those of the coarse list's splitting.
pub record AllCompared (F n : ℕ) (list coarse numbers vertex_map triangle_map : List ℕ) (answer : Result Unit Mismatch)
    : Type 0 where
  pub compared : (M : ℕ) → Tabulated (edge_no M (take (3 * n) coarse)) (3 * n) numbers
      → Compared F list vertex_map triangle_map (split M (take (3 * n) coarse)) answer
