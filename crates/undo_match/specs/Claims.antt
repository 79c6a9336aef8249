-- The input triangles that are claimed for the triangles of the splitting.
use Rattle.std.specs.Prelude.{ℕ, suc, ◌+◌, ◌*◌, ◌/◌, ◌%◌, ◌≤◌, ◌<◌, ◌≡◌, List, [], ◌∷◌, T, length}
use Rattle.theory.specs.Mesh.{at}
use Rattle.theory.specs.Counting.{count}
use Rattle.lists.specs.Marks.{marked}

-- What `claims` is lent: marked triangles, of F in all, four times as many as are marked, and room.
pub record ClaimsLent (F : ℕ) (marks other out : List ℕ) : Type 0 where
  pub small : 3 * F < 65536
  pub marks_room : F ≤ length marks
  pub other_room : 3 * F ≤ length other
  pub out_room : F ≤ length out
  pub quarter : F ≡ 4 * count (marked marks) F

-- The four of each marked triangle: itself, and for corner i the triangle across the edge that ends there.
pub record Claimed (F : ℕ) (marks other out : List ℕ) : Type 0 where
  pub centre : (k : ℕ) → k < F → T (marked marks k) → at out (4 * count (marked marks) k) ≡ k
  pub corner : (k i : ℕ) → k < F → T (marked marks k) → i < 3
      → at out (4 * count (marked marks) k + suc i) ≡ at other (3 * k + (i + 2) % 3) / 3

-- The four of triangle k.
abbrev pub claims_of : List ℕ → ℕ → List ℕ
claims_of other k = k ∷ at other (3 * k + 2) / 3 ∷ at other (3 * k) / 3 ∷ at other (3 * k + 1) / 3 ∷ []

-- What is lent for the four of triangle k: the half-edges across its edges.
pub record FourLent (k : ℕ) (other : List ℕ) : Type 0 where
  pub small : k < 65536
  pub other_room : 3 * k + 3 ≤ length other
