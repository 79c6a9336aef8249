-- The rows of the covering mesh, as a table.
use Rattle.std.specs.Prelude.{ℕ, ◌+◌, ◌*◌, ◌/◌, ◌%◌, ◌≤◌, ◌<◌, ◌≡◌, ◌≢◌, List, [], ◌∷◌, length}
use Rattle.std.proofs.lemmas.List.Edits.{sets}
use Rattle.theory.specs.Mesh.{at}
use Rattle.mesh_mates.specs.Others.{HasMate}
use Rattle.mesh_faults.specs.Faults.{TwoEqual}

-- The vertex across the half-edge of triangle k that ends at its corner i, where that has a mate.
abbrev pub opposite : List ℕ → List ℕ → ℕ → ℕ → ℕ
opposite other thirds k i = at thirds (at other (3 * k + (i + 2) % 3))

-- All edges of triangle k, of F, have mates, and the three vertices across are different.
pub record HasRow (F : ℕ) (other thirds : List ℕ) (k : ℕ) : Type 0 where
  pub mated : (i : ℕ) → i < 3 → HasMate (3 * F) other (3 * k + i)
  pub apart : (i j : ℕ) → i < 3 → j < 3 → opposite other thirds k i ≡ opposite other thirds k j → i ≡ j

-- Row k: at each corner the vertex across the half-edge that ends there, or 0 three times.
pub data RowOf (F : ℕ) (other thirds : List ℕ) (k : ℕ) (rows : List ℕ) : Type 0 where
  tile : HasRow F other thirds k
      → ((i : ℕ) → i < 3 → at rows (3 * k + i) ≡ opposite other thirds k i)
      → RowOf F other thirds k rows
  flat : (HasRow F other thirds k → ⊥)
      → ((i : ℕ) → i < 3 → at rows (3 * k + i) ≡ 0)
      → RowOf F other thirds k rows

-- The rows of F triangles.
pub record RowsOf (F : ℕ) (other thirds rows : List ℕ) : Type 0 where
  pub row : (k : ℕ) → k < F → RowOf F other thirds k rows

-- What `rows` is lent.
pub record RowsLent (F : ℕ) (other thirds rows : List ℕ) : Type 0 where
  pub other_room : 3 * F ≤ length other
  pub thirds_room : 3 * F ≤ length thirds
  pub rows_room : 3 * F ≤ length rows

-- What `row` is lent: the same, for triangle k.
pub record RowLent (k F : ℕ) (other thirds rows : List ℕ) : Type 0 where
  pub lent : RowsLent F other thirds rows
  pub inside : k < F

-- All edges of triangle k have mates, of n half-edges.
pub record AllMated (n : ℕ) (other : List ℕ) (k : ℕ) : Type 0 where
  pub each : (i : ℕ) → i < 3 → HasMate n other (3 * k + i)

-- Row k is written, and the others are as they were.
pub record RowSet (F : ℕ) (other thirds : List ℕ) (k : ℕ) (rows rows' : List ℕ) : Type 0 where
  pub row : RowOf F other thirds k rows'
  pub rest : (c : ℕ) → c / 3 ≢ k → at rows' c ≡ at rows c

-- Three vertices are written as row k, if they are different, and else 0 three times.
pub data RowWritten (k a b c : ℕ) (rows : List ℕ) : List ℕ → Type 0 where
  different : (TwoEqual a b c → ⊥) → RowWritten k a b c rows (sets rows (3 * k) (a ∷ b ∷ c ∷ []))
  equal : TwoEqual a b c → RowWritten k a b c rows (sets rows (3 * k) (0 ∷ 0 ∷ 0 ∷ []))
