-- What an undo searches from, what it builds from there, and what it tests: records that the code's contracts end in.
-- Where a returned reading exists, what is built is that reading (complete); what passes every test is the returned
-- reading (sound).
use Prim.Native.Nat.{ℕ, suc, ◌+◌, ◌*◌, ◌%◌, ◌<◌}
use mathlib.Core.Path.{◌≡◌}
use mathlib.Core.Logic.{◌≢◌}
use mathlib.Core.List.{List}
use lib.ListN.{length}
use Rattle.theory.specs.Mesh.{at, triangles, HasEdge, Reach, Proper}
use Rattle.theory.specs.Splitting.{edges, edge_no, split}
use Rattle.theory.specs.Reading.{Agreement, renamed}
use Rattle.theory.proofs.Numbering.{Ranks}
use Rattle.theory.proofs.Tiles.{IsTile, Covering, InRow}

-- a proper mesh, its covering mesh, and the tile that the search starts from
pub record Search (N : ℕ) (T W : List ℕ) (s : ℕ) : Type 0 where
  pub proper : Proper N T
  pub cover : Covering T W
  pub inside : s < triangles T
  pub starts : IsTile T s

-- the ranks of the vertices in the reached rows, up to M, and of these rows, up to F
pub record Ranked (W : List ℕ) (s M F : ℕ) (vertex_rank rank : List ℕ) : Type 0 where
  pub vertices : Ranks (InRow W s) vertex_rank M
  pub rows : Ranks (Reach W s) rank F

-- the coarse mesh: the reached rows in the order of their ranks, with their vertices' ranks for entries
pub record Built (W : List ℕ) (s M : ℕ) (C vertex_rank rank : List ℕ) : Type 0 where
  pub ranked : Ranked W s M (triangles C) vertex_rank rank
  pub whole : length C ≡ 3 * triangles C
  pub rows : (k i : ℕ) → Reach W s k → i < 3 → at C (3 * at rank k + i) ≡ at vertex_rank (at W (3 * k + i))

-- the tests that are passed: the counts; each vertex has exactly one number (`kept`, `between`) and each triangle is
-- claimed exactly once (`centres`, `corners`); and every triangle agrees, under the maps, with its triangle of the
-- splitting
pub record Found (agree : Agreement) (N : ℕ) (T W : List ℕ) (s M : ℕ) (C vertex_rank rank vm tm : List ℕ) : Type 0 where
  pub quarter : triangles T ≡ 4 * triangles C
  pub count : N ≡ M + edges C
  pub long_vertices : length vm ≡ N
  pub long_triangles : length tm ≡ triangles T
  pub kept : (v : ℕ) → InRow W s v → at vm v ≡ at vertex_rank v
  pub between : (k i : ℕ) → Reach W s k → i < 3 → at vm (at T (3 * k + i)) ≡ edge_no M C (3 * at rank k + i)
  pub centres : (k : ℕ) → Reach W s k → at tm k ≡ 4 * at rank k
  pub corners : (k i l : ℕ) → Reach W s k → i < 3 → l ≢ k → HasEdge T l (at T (3 * k + (i + 2) % 3)) (at T (3 * k + i))
      → at tm l ≡ 4 * at rank k + suc i
  pub agreed : (k : ℕ) → k < triangles T → agree (renamed vm T) k (split M C) (at tm k)
