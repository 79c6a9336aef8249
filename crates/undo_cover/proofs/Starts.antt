-- Laws of specs/Starts.antt: what the start tile is, case by case.
use Prim.Native.Nat.{ℕ, zero, suc, ◌+◌, ◌*◌, ◌/◌, ◌≤◌}
use native.Mathlib.Omega.{arith}
use mathlib.Core.Path.{◌≡◌, refl}
use mathlib.Core.Logic.{◌≢◌}
use mathlib.Core.List.{List}
use borrow.Author.Tests.{eq-eqb, ne_eqb, le-leb, lt-leb}
use Rattle.theory.specs.Mesh.{at}
use Rattle.lists.proofs.Lists.{by-eq, by-lt}
use Rattle.mesh_mates.specs.Others.{HasMate}
use Rattle.undo_cover.specs.Starts.{tile_of, side_of, start_of}

-- ---- a tile by its row

module _ (F : ℕ) (rows : List ℕ) (k : ℕ) where
  -- a row that starts with two different entries is a tile's
  pub tile_of-different : at rows (3 * k) ≢ at rows (3 * k + 1) → tile_of F rows k ≡ k
  unfolding tile_of
  tile_of-different n = rw (ne_eqb (at rows (3 * k)) (at rows (3 * k + 1)) n, tile_of)

  -- any other is not
  pub tile_of-equal : at rows (3 * k) ≡ at rows (3 * k + 1) → tile_of F rows k ≡ F
  unfolding tile_of
  tile_of-equal e = rw (eq-eqb (at rows (3 * k)) (at rows (3 * k + 1)) e, tile_of)

  -- so it is one of the triangles, or F
  pub tile_of-within : k ≤ F → tile_of F rows k ≤ F
  tile_of-within l =
      by-eq (at rows (3 * k)) (at rows (3 * k + 1))
      (λ e. omega (arith, tile_of-equal e))
      (λ n. omega (arith, tile_of-different n))

-- ---- the start

module _ (k F : ℕ) (other rows : List ℕ) where
  -- in role 0 it is triangle k itself, if that is a tile
  pub start_of-own : (ρ : ℕ) → ρ ≡ 0 → start_of k ρ F other rows ≡ tile_of F rows k
  unfolding start_of
  start_of-own ρ e = rw e

  -- in any other role the triangle across the side, if that is a tile
  pub start_of-beside : (ρ : ℕ) → ρ ≢ 0 → HasMate (3 * F) other (side_of k ρ)
      → start_of k ρ F other rows ≡ tile_of F rows (at other (side_of k ρ) / 3)
  unfolding start_of
  start_of-beside zero n H = absurd (n refl)
  start_of-beside (suc i) n H =
      rw (
        lt-leb (3 * F) (at other (side_of k (suc i))) H.inside,
        ne_eqb (at other (side_of k (suc i))) (side_of k (suc i)) H.another,
        start_of,
      )

  -- where the side has no mate, there is none
  pub start_of-none : (ρ : ℕ) → ρ ≢ 0 → (HasMate (3 * F) other (side_of k ρ) → ⊥) → start_of k ρ F other rows ≡ F
  unfolding start_of
  start_of-none zero n none = absurd (n refl)
  start_of-none (suc i) n none =
      by-lt (at other (side_of k (suc i))) (3 * F)
      (λ l. by-eq (at other (side_of k (suc i))) (side_of k (suc i))
      (λ e. rw (
        lt-leb (3 * F) (at other (side_of k (suc i))) l,
        eq-eqb (at other (side_of k (suc i))) (side_of k (suc i)) e,
        start_of,
      ))
      (λ m. absurd (none (record { inside = l; another = m }))))
      (λ l. rw (le-leb (3 * F) (at other (side_of k (suc i))) l, start_of))
