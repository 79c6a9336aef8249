-- The tables that all roles of an undo share: the other half-edges, and the rows of the covering mesh with the rings of
-- their edges.
use Rattle.std.specs.Prelude.{ℕ, ◌*◌, ◌<◌, ◌≡◌, List, length, take}
use Rattle.theory.specs.Mesh.{OtherwiseProper}
use Rattle.theory.specs.Splitting.{first_on}
use Rattle.lists.specs.Tables.{Tabulated}
use Rattle.mesh_rings.specs.Tables.{third, Work}
use Rattle.mesh_rings.specs.Ring.{RingBy}
use Rattle.mesh_mates.specs.Others.{Othered}
use Rattle.undo_cover.specs.Tiles.{RowsOf}

-- What `cover` is lent: a mesh of F triangles on N vertices, proper but for being connected, the rings of its edges,
-- and room.
pub record CoverLent (N F : ℕ) (T other tiles ring work1 work2 work3 work4 : List ℕ) : Type 0 where
  pub proper : OtherwiseProper N T
  pub whole : length T ≡ 3 * F
  pub small : 3 * F < 65536
  pub bound : N < 65536
  pub ringed : RingBy (3 * F) (first_on T) ring
  pub other_room : Work N F other
  pub tiles_room : Work N F tiles
  pub ring_room : Work N F ring
  pub work1_room : Work N F work1
  pub work2_room : Work N F work2
  pub work3_room : Work N F work3
  pub work4_room : Work N F work4

-- What `cover` makes: the other half-edges, by the mesh's own edges; the rows, by these and the third vertices; and
-- the rings of the rows.
pub record CoverMade (F : ℕ) (T other tiles ring : List ℕ) : Type 0 where
  pub others : Othered (3 * F) (first_on T) other
  pub thirds : List ℕ
  pub tabled : Tabulated (third T) (3 * F) thirds
  pub rows : RowsOf F other thirds tiles
  pub ringed : RingBy (3 * F) (first_on (take (3 * F) tiles)) ring
