-- Document 01, "A reading": what it is that an undo looks for. A reading is any coarse mesh that fits; how one is
-- found is nowhere said. What is asked of matched triangles is a parameter, `agree`: "up to rotation of corners"
-- (`Rotated`), the rule since #103, or "the same three vertices" (`Same`), the old rule, of which refusal 15 speaks.
use Rattle.std.specs.Prelude.{ℕ, suc, ◌+◌, ◌*◌, ◌/◌, ◌%◌, ◌≤◌, ◌<◌, ◌≡◌, ◌≢◌, ◌⊎◌, List, map, length}
use Rattle.theory.specs.Mesh.{at, triangles, On, HasEdge, Proper}
use Rattle.theory.specs.Splitting.{lesser, greater, edges, edge_no, split}

-- What may be asked of triangle k of one list and triangle l of another.
abbrev pub Agreement : Type 1
Agreement = List ℕ → ℕ → List ℕ → ℕ → Type 0

-- "a one-to-one match": the list f sends the numbers below m one to one onto the numbers below n.
pub record Match (f : List ℕ) (m n : ℕ) : Type 0 where
  pub long : length f ≡ m
  pub below : (i : ℕ) → i < m → at f i < n
  pub apart : (i j : ℕ) → i < m → j < m → at f i ≡ at f j → i ≡ j
  pub onto : (y : ℕ) → y < n → (i : ℕ) × (i < m) × (at f i ≡ y)

-- The list T with each vertex replaced by its match.
unfoldable pub renamed : List ℕ → List ℕ → List ℕ
renamed f T = map (at f) T

-- One mesh matched onto another: vertices onto vertices, triangles onto triangles, and matched triangles agree.
pub record Matched (agree : Agreement) (f g : List ℕ) (N : ℕ) (T : List ℕ) (M : ℕ) (S : List ℕ) : Type 0 where
  pub vertices : Match f N M
  pub faces : Match g (triangles T) (triangles S)
  pub agreed : (k : ℕ) → k < triangles T → agree (renamed f T) k S (at g k)

-- What a reading consists of: the coarse mesh, and where each input vertex and triangle stands in its splitting.
pub record Reading : Type 0 where
  pub vertices : ℕ
  pub mesh : List ℕ
  pub vertex_map : List ℕ
  pub triangle_map : List ℕ

-- "A reading of a proper mesh is a proper coarse triangle mesh with a one-to-one match of the input's vertices onto
-- those of its splitting, and of triangles onto triangles, where matched triangles have the same three vertices under
-- the vertex match." #103: "matched triangles in a reading must agree up to rotation of corners."
pub record IsReading (agree : Agreement) (N : ℕ) (T : List ℕ) (r : Reading) : Type 0 where
  pub proper : Proper r.vertices r.mesh
  pub matched : Matched agree r.vertex_map r.triangle_map N T
      (r.vertices + edges r.mesh) (split r.vertices r.mesh)

-- "Input vertices matched to coarse ones are kept".
pub record Kept (r : Reading) (v : ℕ) : Type 0 where
  pub inside : v < length r.vertex_map
  pub coarse : at r.vertex_map v < r.vertices

-- "the others stand between two kept ones".
pub record Between (r : Reading) (v : ℕ) : Type 0 where
  pub inside : v < length r.vertex_map
  pub new : r.vertices ≤ at r.vertex_map v

-- "Each coarse edge gets one new vertex": the input vertex v is matched to that of the coarse half-edge h.
pub record NewOn (r : Reading) (v h : ℕ) : Type 0 where
  pub inside : h < length r.mesh
  pub number : edge_no r.vertices r.mesh h ≡ at r.vertex_map v

-- "the others stand between two kept ones": v between u and w, the ends of the coarse edge whose new vertex it is.
pub record BetweenTwo (T : List ℕ) (r : Reading) (v u w : ℕ) : Type 0 where
  pub one_kept : Kept r u
  pub other_kept : Kept r w
  pub differ : u ≢ w
  -- v is the new vertex of some coarse half-edge; the ends of each such are the numbers of u and w, u's the lesser
  pub half : ℕ
  pub new : NewOn r v half
  pub lesser_end : (h : ℕ) → NewOn r v h → lesser r.mesh h ≡ at r.vertex_map u
  pub greater_end : (h : ℕ) → NewOn r v h → greater r.mesh h ≡ at r.vertex_map w
  -- in the input an edge joins v to each of them, and no other kept vertex is in a triangle with v
  pub one_edge : (k : ℕ) × HasEdge T k u v
  pub other_edge : (k : ℕ) × HasEdge T k w v
  pub others : (k x : ℕ) → On T k v → On T k x → Kept r x → (x ≡ u) ⊎ (x ≡ w)

-- "Centres are the triangles matched to some 4j."
pub record Centre (r : Reading) (k : ℕ) : Type 0 where
  pub inside : k < length r.triangle_map
  pub fourth : at r.triangle_map k % 4 ≡ 0

-- "The role .. is 0 if it is a centre, or 1, 2, 3 if its first, second or third corner is its kept vertex", of any
-- triangle k.
pub data RoleOf (T : List ℕ) (r : Reading) (k : ℕ) : ℕ → Type 0 where
  centre : Centre r k → RoleOf T r k 0
  corner : (i : ℕ) → i < 3 → k < triangles T → Kept r (at T (3 * k + i)) → RoleOf T r k (suc i)

-- SOME coarse mesh is a reading in which triangle 0 has the role.
pub record ReadingIn (agree : Agreement) (N : ℕ) (T : List ℕ) (role : ℕ) : Type 0 where
  pub reading : Reading
  pub is : IsReading agree N T reading
  pub in_role : RoleOf T reading 0 role

-- Triangle k of the input "disagrees with the splitting", under the maps.
pub record Disagrees (agree : Agreement) (T : List ℕ) (r : Reading) (k : ℕ) : Type 0 where
  pub inside : k < triangles T
  pub differs : agree (renamed r.vertex_map T) k (split r.vertices r.mesh) (at r.triangle_map k) → ⊥

-- The vertex w across the edge u-v from triangle k: another triangle has the corners u, v and w.
pub record Across (T : List ℕ) (k u v w : ℕ) : Type 0 where
  pub other : ℕ
  pub another : other ≢ k
  pub has_u : On T other u
  pub has_v : On T other v
  pub has_w : On T other w
  pub not_u : w ≢ u
  pub not_v : w ≢ v

-- "The returned coarse mesh": of the readings in a role, the one that is numbered as document 01 says.
pub record Returned (agree : Agreement) (N : ℕ) (T : List ℕ) (role : ℕ) (r : Reading) : Type 0 where
  pub is : IsReading agree N T r
  pub in_role : RoleOf T r 0 role
  -- "numbers the kept vertices upward in input order"
  pub kept_upward : (u v : ℕ) → Kept r u → Kept r v → u < v → at r.vertex_map u < at r.vertex_map v
  -- "and the centres upward likewise"
  pub centres_upward : (j k : ℕ) → Centre r j → Centre r k → j < k → at r.triangle_map j < at r.triangle_map k
  -- "A centre (a, b, c) gives the coarse triangle (kept vertex across c-a, across a-b, across b-c)": its corner i is
  -- across the edge that ends at the centre's corner i
  pub rows : (k i : ℕ) → Centre r k → i < 3
      → (w : ℕ) × Kept r w × Across T k (at T (3 * k + (i + 2) % 3)) (at T (3 * k + i)) w
      × (at r.mesh (3 * (at r.triangle_map k / 4) + i) ≡ at r.vertex_map w)
