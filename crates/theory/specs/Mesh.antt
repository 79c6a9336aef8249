-- Document 01, "Meshes": triangles and their vertices, edges, sameness, connectedness, proper. Rotation is #103's.
-- A mesh is a vertex count N and an index list T. Every definition says that the corners it speaks of are inside the
-- list, so that the entry which stands for "outside" (0) never makes anything true.
use Rattle.std.specs.Prelude.{ℕ, ◌+◌, ◌*◌, ◌/◌, ◌%◌, ◌<◌, ◌≡◌, ◌≢◌, ◌⊎◌, List, length, get_or}

-- The entry of a list at an index.
abbrev pub at : List ℕ → ℕ → ℕ
at xs i = get_or xs i 0

-- F: "an index list of length 3F".
abbrev pub triangles : List ℕ → ℕ
triangles T = length T / 3

-- "triangle k has the corners at 3k, 3k+1, 3k+2": vertex v stands at a corner of triangle k.
pub record On (T : List ℕ) (k v : ℕ) : Type 0 where
  pub corner : ℕ
  pub inside : corner < length T
  pub triangle : corner / 3 ≡ k
  pub holds : at T corner ≡ v

-- "An edge is an unordered pair of different vertices that occur together in a triangle": triangle k has the edge u-v.
pub record HasEdge (T : List ℕ) (k u v : ℕ) : Type 0 where
  pub differ : u ≢ v
  pub one_end : On T k u
  pub other_end : On T k v

-- "boundary .. when one .. triangle": exactly one triangle has the edge.
pub record Boundary (T : List ℕ) (u v : ℕ) : Type 0 where
  pub only : ℕ
  pub has : HasEdge T only u v
  pub others : (k : ℕ) → HasEdge T k u v → k ≡ only

-- "regular .. when .. two": exactly two triangles have it.
pub record Regular (T : List ℕ) (u v : ℕ) : Type 0 where
  pub one : ℕ
  pub two : ℕ
  pub differ : one ≢ two
  pub has_one : HasEdge T one u v
  pub has_two : HasEdge T two u v
  pub others : (k : ℕ) → HasEdge T k u v → (k ≡ one) ⊎ (k ≡ two)

-- "singular when .. three and more triangles have it".
pub record Singular (T : List ℕ) (u v : ℕ) : Type 0 where
  pub one : ℕ
  pub two : ℕ
  pub three : ℕ
  pub differ₁₂ : one ≢ two
  pub differ₂₃ : two ≢ three
  pub differ₃₁ : three ≢ one
  pub has_one : HasEdge T one u v
  pub has_two : HasEdge T two u v
  pub has_three : HasEdge T three u v

-- "An edge is boundary, regular or singular": it is one of the three, and neither of the other two.
pub data EdgeKind (T : List ℕ) (u v : ℕ) : Type 0 where
  boundary : Boundary T u v → (Regular T u v → ⊥) → (Singular T u v → ⊥) → EdgeKind T u v
  regular : Regular T u v → (Boundary T u v → ⊥) → (Singular T u v → ⊥) → EdgeKind T u v
  singular : Singular T u v → (Boundary T u v → ⊥) → (Regular T u v → ⊥) → EdgeKind T u v

-- "Two triangles are the same when they have the same three vertices; winding is ignored": triangle k of T and l of S.
pub record Same (T : List ℕ) (k : ℕ) (S : List ℕ) (l : ℕ) : Type 0 where
  pub there : (v : ℕ) → On T k v → On S l v
  pub back : (v : ℕ) → On S l v → On T k v

-- #103: "agree up to rotation of corners": triangle k of T is triangle l of S with its corners rotated, so that they
-- are the same three in the same turning.
pub record Rotated (T : List ℕ) (k : ℕ) (S : List ℕ) (l : ℕ) : Type 0 where
  pub inside : 3 * k + 2 < length T
  pub other_inside : 3 * l + 2 < length S
  pub by : ℕ
  pub few : by < 3
  pub corners : (i : ℕ) → i < 3 → at T (3 * k + i) ≡ at S (3 * l + (i + by) % 3)

-- Two triangles share an edge: some edge u-v is an edge of both.
pub record Share (T : List ℕ) (k l : ℕ) : Type 0 where
  pub u : ℕ
  pub v : ℕ
  pub one : HasEdge T k u v
  pub other : HasEdge T l u v

-- "Connected means by steps over shared edges, singular ones included": triangle l is reached from triangle k.
pub data Reach (T : List ℕ) (k : ℕ) : ℕ → Type 0 where
  here : Reach T k k
  step : {l m : ℕ} → Reach T k l → Share T l m → Reach T k m

-- The conditions of a proper mesh other than being connected, in the order of document 01.
pub record OtherwiseProper (N : ℕ) (T : List ℕ) : Type 0 where
  -- "an index list of length 3F"
  pub whole : length T ≡ 3 * triangles T
  -- "every corner is below V"
  pub below : (c : ℕ) → c < length T → at T c < N
  -- "each triangle has three different corners"
  pub different : (c d : ℕ) → c < length T → d < length T → c / 3 ≡ d / 3 → at T c ≡ at T d → c ≡ d
  -- "no two triangles are the same"
  pub unlike : (j k : ℕ) → j < triangles T → k < triangles T → Same T j T k → j ≡ k
  -- "every vertex is in a triangle"
  pub used : (v : ℕ) → v < N → (k : ℕ) × On T k v

-- "A mesh is proper when .., and the triangles are connected."
pub record Proper (N : ℕ) (T : List ℕ) : Type 0 where
  pub otherwise : OtherwiseProper N T
  pub connected : (k : ℕ) → k < triangles T → Reach T 0 k
