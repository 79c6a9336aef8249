-- What the calls of `cover` are lent, each from what it is lent itself and from the calls before, and what it makes.
use Prim.Native.Nat.{ℕ, ◌*◌}
use native.Mathlib.Omega.{arith}
use mathlib.Core.Path.{◌≡◌}
use mathlib.Core.List.{List}
use lib.ListN.{length, take}
use Rattle.theory.specs.Splitting.{first_on}
use Rattle.lists.specs.Tables.{Tabulated}
use Rattle.mesh_rings.specs.Tables.{third}
use Rattle.mesh_rings.specs.Ring.{RingBy}
use Rattle.mesh_rings.specs.Making.{RingLent}
use Rattle.mesh_mates.specs.Others.{OthersOf}
use Rattle.mesh_mates.proofs.Facts.{others-found}
use Rattle.undo_cover.specs.Tiles.{RowsOf}
use Rattle.undo_cover.specs.Cover.{CoverLent, CoverMade}
use Rattle.undo_cover.proofs.Covers.{Tabled, rows-listed}

module _ {N F : ℕ} {T other₀ tiles₀ ring₀ work1 work2 work3 work4 : List ℕ}
    (L : CoverLent N F T other₀ tiles₀ ring₀ work1 work2 work3 work4) where
  module _ {other thirds tiles : List ℕ} (o : OthersOf (3 * F) ring₀ other) (t : Tabulated (third T) (3 * F) thirds)
      (r : RowsOf F other thirds tiles) where
    -- the tables of the mesh
    cover-tabled : Tabled N F T other thirds
    cover-tabled =
        record { proper = L.proper; whole = L.whole; others = others-found L.ringed o; tabled = t }

    -- the rows are a list of triangles, which have rings
    pub cover-rings : length thirds ≡ length work1 → length tiles ≡ length tiles₀
        → RingLent N F (take (3 * F) tiles) thirds work2 work3 work4 ring₀
    cover-rings d e = record {
      listed = rows-listed cover-tabled tiles (omega (arith, L.tiles_room)) r L.small;
      bound = L.bound;
      greater_room = record { room = omega (arith, L.work1_room) };
      head_room = L.work2_room;
      stamp_room = L.work3_room;
      last_room = L.work4_room;
      ring_room = L.ring_room;
    }

    -- all that is made
    pub cover-made : {ring : List ℕ} → RingBy (3 * F) (first_on (take (3 * F) tiles)) ring
        → CoverMade F T other tiles ring
    cover-made ringed = record {
      others = cover-tabled.others;
      thirds = thirds;
      tabled = t;
      rows = r;
      ringed = ringed;
    }
