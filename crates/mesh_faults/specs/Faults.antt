-- The least place of a fault, and what the searches for faults are lent.
use Rattle.std.specs.Prelude.{ℕ, ◌*◌, ◌/◌, ◌≤◌, ◌<◌, ◌≡◌, Bool, true, List, length}
use Rattle.theory.specs.Mesh.{at}
use Rattle.theory.specs.Splitting.{first_on}
use Rattle.mesh_rings.specs.Ring.{RingBy}
use Rattle.mesh_rings.specs.Tables.{Listed, Work}

-- A list of F triangles.
pub record Whole (F : ℕ) (T : List ℕ) : Type 0 where
  pub whole : length T ≡ 3 * F

-- Two of three vertices are equal.
pub data TwoEqual (a b c : ℕ) : Type 0 where
  ab : a ≡ b → TwoEqual a b c
  bc : b ≡ c → TwoEqual a b c
  ca : c ≡ a → TwoEqual a b c

-- The answer is true exactly if two of three vertices are equal.
pub record HasEqual (a b c : ℕ) (answer : Bool) : Type 0 where
  pub sound : answer ≡ true → TwoEqual a b c
  pub complete : TwoEqual a b c → answer ≡ true

-- What `same_as_earlier` is lent: triangles with three different corners, the rings of their edges, and work buffers.
pub record SameLent (N F : ℕ) (T ring thirds stamp : List ℕ) : Type 0 where
  pub listed : Listed N F T
  pub different : (c d : ℕ) → c < length T → d < length T → c / 3 ≡ d / 3 → at T c ≡ at T d → c ≡ d
  pub ringed : RingBy (3 * F) (first_on T) ring
  pub ring_room : Work N F ring
  pub thirds_room : Work N F thirds
  pub stamp_room : Work N F stamp

-- What `in_no_triangle` is lent.
pub record UsedLent (N F : ℕ) (T marks : List ℕ) : Type 0 where
  pub listed : Listed N F T
  pub marks_room : Work N F marks

-- What `mark_used` is lent: marks that are 0 below N.
pub record MarksLent (N F : ℕ) (T marks : List ℕ) : Type 0 where
  pub listed : Listed N F T
  pub room : N ≤ length marks
  pub clear : (v : ℕ) → v < N → at marks v ≡ 0

-- The mark of vertex v: 1 if one of the first n corners holds it, else 0.
pub data UsedMark (T : List ℕ) (n v : ℕ) : ℕ → Type 0 where
  used : (c : ℕ) → c < n → at T c ≡ v → UsedMark T n v 1
  unused : ((c : ℕ) → c < n → at T c ≡ v → ⊥) → UsedMark T n v 0

-- The marks of the vertices below N.
pub record UsedMarks (N : ℕ) (T : List ℕ) (n : ℕ) (marks : List ℕ) : Type 0 where
  pub mark : (v : ℕ) → v < N → UsedMark T n v (at marks v)
