-- What writing the splitting is lent, and the four triangles of one triangle by the table of numbers.
use Rattle.std.specs.Prelude.{ℕ, ◌+◌, ◌*◌, ◌≤◌, ◌≡◌, List, [], ◌∷◌, length}
use Rattle.theory.specs.Mesh.{at}

-- A list of F triangles, a number for each half-edge, and room for twelve entries for each triangle.
pub record FoursLent (F : ℕ) (T numbers out : List ℕ) : Type 0 where
  pub whole : length T ≡ 3 * F
  pub numbered : 3 * F ≤ length numbers
  pub room : 12 * F ≤ length out

-- The same for triangle k alone.
pub record FourLent (k : ℕ) (T numbers out : List ℕ) : Type 0 where
  pub listed : 3 * k + 3 ≤ length T
  pub numbered : 3 * k + 3 ≤ length numbers
  pub room : 12 * k + 12 ≤ length out

-- What triangle k becomes, where `numbers` has the vertex on each half-edge's edge.
unfoldable pub four_of : List ℕ → List ℕ → ℕ → List ℕ
four_of T numbers k =
    let v1 : ℕ = at T (3 * k) in
    let v2 : ℕ = at T (3 * k + 1) in
    let v3 : ℕ = at T (3 * k + 2) in
    let e12 : ℕ = at numbers (3 * k) in
    let e23 : ℕ = at numbers (3 * k + 1) in
    let e31 : ℕ = at numbers (3 * k + 2) in
    e12 ∷ e23 ∷ e31 ∷
    v1 ∷ e12 ∷ e31 ∷
    v2 ∷ e23 ∷ e12 ∷
    v3 ∷ e31 ∷ e23 ∷ []
