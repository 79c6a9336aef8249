-- Runs of entries for the marked triangles alone, one run after the other.
use Rattle.std.specs.Prelude.{ℕ, ◌+◌, ◌*◌, ◌≤◌, ◌<◌, ◌≡◌, List, [], ◌∷◌, T, length}
use Rattle.theory.specs.Mesh.{at}
use Rattle.theory.specs.Counting.{count}
use Rattle.lists.specs.Marks.{marked}

-- The values of a function at the three half-edges of triangle k.
abbrev pub three_of : (ℕ → ℕ) → ℕ → List ℕ
three_of f k = f (3 * k) ∷ f (3 * k + 1) ∷ f (3 * k + 2) ∷ []

-- What `write_marked` is lent: the marks of F triangles, room for the runs of the marked ones, and what is lent for each.
pub record RunsLent (width : ℕ) (lent : ℕ → Type 0) (F : ℕ) (marks out : List ℕ) : Type 0 where
  pub marks_room : F ≤ length marks
  pub out_room : width * count (marked marks) F ≤ length out
  pub each : (k : ℕ) → k < F → lent k

-- The run of each marked triangle stands at the place of its rank; `total` are marked.
pub record RunsStored (width : ℕ) (run : ℕ → List ℕ) (F : ℕ) (marks : List ℕ) (total : ℕ) (out : List ℕ) : Type 0 where
  pub all : total ≡ count (marked marks) F
  pub entry : (k i : ℕ) → k < F → T (marked marks k) → i < width
      → at out (width * count (marked marks) k + i) ≡ at (run k) i
