-- The judgement of a mesh by the rows of document 01's table of refusals.
use Rattle.std.specs.Prelude.{ℕ, ◌*◌, ◌/◌, ◌≤◌, ◌<◌, ◌≡◌, List, [], ◌∷◌, length, Result, OnOk}
use Rattle.theory.specs.Mesh.{at, triangles}
use Rattle.theory.specs.Splitting.{first_on}
use Rattle.theory.specs.Refusals.{Rule, Passed, corner_not_below, equal_corners}
use Rattle.theory.specs.Refusals.{same_as_earlier, in_no_triangle, not_connected, mesh_rules}
use Rattle.limits.specs.declared.refusal.Refusal.{Refusal}
use Rattle.limits.specs.Judged.{JudgedAs}
use Rattle.mesh_rings.specs.Ring.{RingBy}
use Rattle.mesh_rings.specs.Tables.{Work}
use Rattle.mesh_faults.specs.Faults.{Whole}

-- The rows that look at each triangle by itself, 6 and 7.
abbrev pub corner_rules : ℕ → List ℕ → List Rule
corner_rules N T = corner_not_below N T ∷ equal_corners T ∷ []

-- The rows that look at all triangles, 8 and 9.
abbrev pub triangle_rules : ℕ → List ℕ → List Rule
triangle_rules N T = same_as_earlier T ∷ in_no_triangle N T ∷ []

-- The row that looks at the whole, 10.
abbrev pub connected_rules : List ℕ → List Rule
connected_rules T = not_connected T ∷ []

-- What `judge` is lent: a list of F triangles, at least one, and N vertices, within 16 bits, and five work buffers.
pub record JudgeLent (N F : ℕ) (T ring work1 work2 work3 work4 : List ℕ) : Type 0 where
  pub whole : Whole F T
  pub small : 3 * F < 65536
  pub bound : N < 65536
  pub some : 0 < F
  pub ring_room : Work N F ring
  pub work1_room : Work N F work1
  pub work2_room : Work N F work2
  pub work3_room : Work N F work3
  pub work4_room : Work N F work4

-- `judge_triangles` comes after 6 and 7 have been passed.
pub record TrianglesLent (N F : ℕ) (T ring work1 work2 work3 work4 : List ℕ) : Type 0 where
  pub lent : JudgeLent N F T ring work1 work2 work3 work4
  pub corners : Passed (corner_rules N T)

-- It judges 8 and 9, and leaves the rings of the edges.
pub record TrianglesJudged (N F : ℕ) (T ring : List ℕ) (result : Result Unit Refusal) : Type 0 where
  pub verdict : JudgedAs (triangle_rules N T) result
  pub ringed : RingBy (3 * F) (first_on T) ring

-- `judge_connected` is lent a list, one triangle at least, whose triangles have three different corners, the rings of
-- its edges, and room, in the queue for one triangle more.
pub record ConnectLent (T ring marks queue opened : List ℕ) : Type 0 where
  pub whole : length T ≡ 3 * triangles T
  pub small : 3 * triangles T < 65536
  pub some : 0 < triangles T
  pub different : (c d : ℕ) → c < length T → d < length T → c / 3 ≡ d / 3 → at T c ≡ at T d → c ≡ d
  pub ringed : RingBy (3 * triangles T) (first_on T) ring
  pub ring_room : 3 * triangles T ≤ length ring
  pub marks_room : triangles T ≤ length marks
  pub queue_room : triangles T < length queue
  pub opened_room : 3 * triangles T ≤ length opened

-- `judge` judges 6 to 10, and where these are passed it leaves the rings of the edges.
pub record MeshJudged (N F : ℕ) (T ring : List ℕ) (result : Result Unit Refusal) : Type 0 where
  pub verdict : JudgedAs (mesh_rules N T) result
  pub ringed : OnOk result (RingBy (3 * F) (first_on T) ring)
