-- The start tile by the tables is where the search for a role begins: the start of the role, if there is one and it is
-- a tile.
use Prim.Native.Nat.{ℕ, zero, suc, ◌+◌, ◌*◌, ◌/◌, ◌≤◌, ◌<◌}
use native.Mathlib.Omega.{arith}
use mathlib.Core.Path.{◌≡◌, refl, subst}
use mathlib.Core.List.{List}
use lib.ListN.{length}
use Rattle.theory.specs.Mesh.{at}
use Rattle.theory.proofs.Tiles.{IsTile, Start, own, beside}
use Rattle.lists.proofs.Lists.{by-eq, by-lt}
use Rattle.mesh_mates.specs.Others.{HasMate}
use Rattle.undo_cover.specs.Tiles.{RowsOf}
use Rattle.undo_cover.specs.Starts.{tile_of, side_of, start_of}
use Rattle.undo_cover.proofs.Starts.{tile_of-different, tile_of-equal, start_of-own, start_of-beside, start_of-none}
use Rattle.undo_cover.proofs.Covers.{Tabled, mate-start, start-mate, differ-tile, tile-differ}

-- The start of role ρ of triangle k, a tile; or F, where no start is a tile.
pub data Begun (T : List ℕ) (k F ρ : ℕ) : ℕ → Type 0 where
  starts : {s : ℕ} → s < F → Start T k ρ s → IsTile T s → Begun T k F ρ s
  nowhere : ((s : ℕ) → Start T k ρ s → IsTile T s → ⊥) → Begun T k F ρ F

-- Triangle k, a tile; or F, where it is none.
data TileOr (T : List ℕ) (F k : ℕ) : ℕ → Type 0 where
  is_tile : IsTile T k → TileOr T F k k
  no_tile : (IsTile T k → ⊥) → TileOr T F k F

-- where triangle s is the only start, the search begins there if it is a tile
only-start : {T : List ℕ} {k F ρ s v : ℕ} → s < F → Start T k ρ s → ((t : ℕ) → Start T k ρ t → t ≡ s) → TileOr T F s v
    → Begun T k F ρ v
only-start l q only (is_tile t) = starts l q t
only-start {T} l q only (no_tile n) = nowhere (λ s p t. n (subst (IsTile T) (only s p) t))

-- in role 0 only the triangle itself is the start
own-only : {T : List ℕ} {k ρ s : ℕ} → ρ ≡ 0 → Start T k ρ s → s ≡ k
own-only e own = refl
own-only e (beside i l b n g h) = absurd (omega arith)

module _ {N F : ℕ} {T other thirds rows : List ℕ} (D : Tabled N F T other thirds)
    (room : 3 * F ≤ length rows) (R : RowsOf F other thirds rows) where
  -- the first two entries of a row tell whether it is a tile's
  tile-or-none : (k : ℕ) → k < F → TileOr T F k (tile_of F rows k)
  tile-or-none k l =
      by-eq (at rows (3 * k)) (at rows (3 * k + 1))
      (λ e. rw (tile_of-equal F rows k e) (no_tile (λ t. tile-differ D rows room R k l t e)))
      (λ n. rw (tile_of-different F rows k n) (is_tile (differ-tile D rows room R k l n)))

  module _ (k : ℕ) (l : k < F) where
    -- in role 0 the search begins at the triangle itself
    own-begun : Begun T k F 0 (start_of k 0 F other rows)
    own-begun =
        rw (start_of-own k F other rows 0 refl)
        (only-start l own (λ s q. own-only refl q) (tile-or-none k l))

    module _ (i : ℕ) (b : i < 3) where
      -- in any other role across the side opposite the corner, if that has a mate
      mated-begun : HasMate (3 * F) other (side_of k (suc i)) → Begun T k F (suc i) (start_of k (suc i) F other rows)
      mated-begun m =
          let inside : at other (side_of k (suc i)) / 3 < F = omega (arith, m.inside) in
          rw (start_of-beside k F other rows (suc i) (omega arith) m)
          (only-start inside (mate-start D k l i b m) (λ s q. (start-mate D k l i b q).1) (tile-or-none _ inside))

      -- and else nowhere
      unmated-begun : (HasMate (3 * F) other (side_of k (suc i)) → ⊥)
          → Begun T k F (suc i) (start_of k (suc i) F other rows)
      unmated-begun n =
          rw (start_of-none k F other rows (suc i) (omega arith) n)
          (nowhere (λ s q t. n (start-mate D k l i b q).0))

      -- the entry of the table tells which
      other-begun : Begun T k F (suc i) (start_of k (suc i) F other rows)
      other-begun =
          by-lt (at other (side_of k (suc i))) (3 * F)
          (λ below. by-eq (at other (side_of k (suc i))) (side_of k (suc i))
          (λ e. unmated-begun (λ m. m.another e))
          (λ n. mated-begun (record { inside = below; another = n })))
          (λ above. unmated-begun (λ m. omega (arith, m.inside)))

    -- the start tile by the tables is the start of the role if that is a tile, and F if there is no such start
    pub start-begun : (ρ : ℕ) → ρ ≤ 3 → Begun T k F ρ (start_of k ρ F other rows)
    start-begun zero b = own-begun
    start-begun (suc i) b = other-begun i (omega arith)
