-- The start tile of a role, by the tables.
use Rattle.std.specs.Prelude.{ℕ, zero, suc, ◌+◌, ◌*◌, ◌/◌, ◌%◌, ◌≤◌, ◌<◌, true, false, ◌||◌, List, eqb, leb, length}
use Rattle.theory.specs.Mesh.{at}

-- Triangle k, if its row has two different entries in front; else F.
unfoldable pub tile_of : ℕ → List ℕ → ℕ → ℕ
tile_of F rows k = elim (eqb (at rows (3 * k)) (at rows (3 * k + 1))) [ true ↦ F | false ↦ k ]

-- The side of triangle k over which a role other than 0 starts: in role 1 + i that opposite corner i.
abbrev pub side_of : ℕ → ℕ → ℕ
side_of k role = 3 * k + role % 3

-- The start tile of a role of triangle k: that triangle, or the one across the side opposite a corner of it; F where
-- there is none.
unfoldable pub start_of : ℕ → ℕ → ℕ → List ℕ → List ℕ → ℕ
start_of k zero F other rows = tile_of F rows k
start_of k (suc i) F other rows =
    elim (leb (3 * F) (at other (side_of k (suc i))) || eqb (at other (side_of k (suc i))) (side_of k (suc i)))
    [ true ↦ F | false ↦ tile_of F rows (at other (side_of k (suc i)) / 3) ]

-- What `start` is lent: one of F triangles, the other half-edges, and the rows.
pub record StartLent (k F : ℕ) (other rows : List ℕ) : Type 0 where
  pub inside : k < F
  pub small : 3 * F < 65536
  pub other_room : 3 * F ≤ length other
  pub rows_room : 3 * F ≤ length rows
