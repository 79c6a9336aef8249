-- Chains of equal keys: the indices that hold a key, each linked to the next.
use Rattle.std.specs.Prelude.{ℕ, suc, ◌*◌, ◌≤◌, ◌<◌, ◌≡◌, List, length}
use Rattle.theory.specs.Mesh.{at}
use Rattle.mesh_rings.specs.Tables.{Listed}

-- v is the least index from i on that holds the key u, or n if none below n does.
pub record Nearest (key : ℕ → ℕ) (u i n v : ℕ) : Type 0 where
  pub from : i ≤ v
  pub within : v ≤ n
  pub holds : v < n → key v ≡ u
  pub before : (h : ℕ) → i ≤ h → h < v → key h ≡ u → ⊥

-- The chains of the first n indices by their keys, which are below m.
pub record Chained (key : ℕ → ℕ) (m n : ℕ) (head link : List ℕ) : Type 0 where
  pub heads : (u : ℕ) → u < m → Nearest key u 0 n (at head u)
  pub links : (h : ℕ) → h < n → Nearest key (key h) (suc h) n (at link h)

-- What `chain` is lent: a list of F triangles whose corners are below N, and room for N heads and 3F links.
pub record ChainLent (N F : ℕ) (T head link : List ℕ) : Type 0 where
  pub listed : Listed N F T
  pub headed : N ≤ length head
  pub linked : 3 * F ≤ length link

-- What `put_first` is lent: an index and a key within the tables.
pub record PutLent (h key : ℕ) (head link : List ℕ) : Type 0 where
  pub small : h < 65536
  pub headed : key < length head
  pub linked : h < length link
