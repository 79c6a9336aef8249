-- The comparison of triangles: what `compare` says of all of them, `compare_one` of one, `compare_three` of three
-- vertices and three others, and `same_vertices` of these as sets.
use Rattle.std.specs.Prelude.{ℕ, ◌+◌, ◌*◌, ◌/◌, ◌≤◌, ◌<◌, ◌≡◌, ◌≢◌, List, length, Result, Ok, Err}
use Rattle.theory.specs.Mesh.{at, Same, Rotated}
use Rattle.theory.specs.Reading.{Agreement, renamed}
use Rattle.undo_compare.specs.declared.Mismatch.{Mismatch}
use Rattle.undo_compare.specs.declared.Mismatch.TheVariants as mismatch
use Rattle.undo_compare.specs.declared.Turning.{Turning}
use Rattle.undo_compare.specs.declared.Turning.TheVariants as turning

-- ---- all triangles

-- What `compare` is lent: a list of F triangles whose corners the vertex map has, and for each a triangle of the
-- splitting with three different corners.
pub record CompareLent (F : ℕ) (list vertex_map triangle_map splitting : List ℕ) : Type 0 where
  pub whole : length list ≡ 3 * F
  pub mapped : (c : ℕ) → c < 3 * F → at list c < length vertex_map
  pub matched : F ≤ length triangle_map
  pub inside : (k : ℕ) → k < F → 3 * at triangle_map k + 3 ≤ length splitting
  pub different : (c d : ℕ) → c < length splitting → d < length splitting → c / 3 ≡ d / 3
      → at splitting c ≡ at splitting d → c ≡ d

-- Each of F triangles agrees, under the vertex map, with its triangle of the splitting.
abbrev pub AllAgree : Agreement → (F : ℕ) (list vertex_map triangle_map splitting : List ℕ) → Type 0
AllAgree agree F list vertex_map triangle_map splitting =
    (k : ℕ) → k < F → agree (renamed vertex_map list) k splitting (at triangle_map k)

-- How F triangles compare: all up to rotation of corners; or all by their vertices, and this is the least that does not
-- up to rotation; or not all by their vertices.
pub data Compared (F : ℕ) (list vertex_map triangle_map splitting : List ℕ) : Result Unit Mismatch → Type 0 where
  agree : AllAgree Rotated F list vertex_map triangle_map splitting
      → Compared F list vertex_map triangle_map splitting (Ok tt)
  inside_out : {k : ℕ} → AllAgree Same F list vertex_map triangle_map splitting → k < F
      → (Rotated (renamed vertex_map list) k splitting (at triangle_map k) → ⊥)
      → AllAgree Rotated k list vertex_map triangle_map splitting
      → Compared F list vertex_map triangle_map splitting (Err (mismatch.InsideOut k))
  differ : (AllAgree Same F list vertex_map triangle_map splitting → ⊥)
      → Compared F list vertex_map triangle_map splitting (Err mismatch.Differ)

-- ---- one triangle

-- How triangle k of T compares with triangle t of S.
pub data ComparedOne (T : List ℕ) (k : ℕ) (S : List ℕ) (t : ℕ) : Turning → Type 0 where
  rotated : Rotated T k S t → ComparedOne T k S t turning.Rotated
  reversed : Same T k S t → (Rotated T k S t → ⊥) → ComparedOne T k S t turning.Reversed
  other : (Same T k S t → ⊥) → ComparedOne T k S t turning.Other

-- Three different vertices.
pub record Apart (x y z : ℕ) : Type 0 where
  pub xy : x ≢ y
  pub yz : y ≢ z
  pub zx : z ≢ x

-- What `compare_one` is lent: triangle k, whose corners the vertex map has, and triangle t of the splitting, with three
-- different corners.
pub record OneLent (k : ℕ) (list vertex_map : List ℕ) (t : ℕ) (splitting : List ℕ) : Type 0 where
  pub listed : 3 * k + 3 ≤ length list
  pub first : at list (3 * k) < length vertex_map
  pub second : at list (3 * k + 1) < length vertex_map
  pub third : at list (3 * k + 2) < length vertex_map
  pub inside : 3 * t + 3 ≤ length splitting
  pub apart : Apart (at splitting (3 * t)) (at splitting (3 * t + 1)) (at splitting (3 * t + 2))

-- ---- three vertices

-- Vertex v is one of three.
pub data OneOf (a b c : ℕ) : ℕ → Type 0 where
  first : OneOf a b c a
  second : OneOf a b c b
  third : OneOf a b c c

-- The vertices a, b, c and the vertices x, y, z are the same, as sets.
pub record SameThree (a b c x y z : ℕ) : Type 0 where
  pub there : (v : ℕ) → OneOf a b c v → OneOf x y z v
  pub back : (v : ℕ) → OneOf x y z v → OneOf a b c v

-- The vertices a, b, c are x, y, z rotated.
pub data RotatedThree (a b c : ℕ) : (x y z : ℕ) → Type 0 where
  never : RotatedThree a b c a b c
  once : RotatedThree a b c b c a
  twice : RotatedThree a b c c a b

-- The vertex after v in the round x, y, z; if v is none of them, the first.
pub data Follows (v x y z : ℕ) : ℕ → Type 0 where
  after_first : v ≡ x → Follows v x y z y
  after_second : v ≢ x → v ≡ y → Follows v x y z z
  after_last : v ≢ x → v ≢ y → Follows v x y z x

-- How the vertices a, b, c compare with x, y, z.
pub data ComparedThree (a b c x y z : ℕ) : Turning → Type 0 where
  rotated : RotatedThree a b c x y z → ComparedThree a b c x y z turning.Rotated
  reversed : SameThree a b c x y z → (RotatedThree a b c x y z → ⊥) → ComparedThree a b c x y z turning.Reversed
  other : (SameThree a b c x y z → ⊥) → ComparedThree a b c x y z turning.Other
