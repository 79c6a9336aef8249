-- `undo_cover::tiles::row` meets its contract: the entries that the two calls write make the row, or none is made.
use native.Mathlib.Nat.{add-zero}
use native.Mathlib.Omega.{arith}
use Prim.Native.Nat.{ℕ, ◌+◌, ◌*◌, ◌/◌, ◌≤◌, ◌<◌}
use mathlib.Core.Path.{◌≡◌, ◌∙◌, refl, sym, ap}
use mathlib.Core.Logic.{◌≢◌}
use mathlib.Core.List.{List, [], ◌∷◌}
use lib.ListN.{length}
use lib.Seq.{sets}
use Rattle.theory.specs.Mesh.{at}
use Rattle.theory.proofs.Splitting.{by_three}
use Rattle.lists.proofs.Stores.{at-sets, at-sets-other}
use Rattle.mesh_faults.specs.Faults.{TwoEqual, ab, bc, ca}
use Rattle.undo_cover.specs.Tiles.{opposite, HasRow, tile, flat, RowLent, RowSet, RowWritten, different, equal}
use Rattle.undo_cover.specs.Tiles.{AllMated}
use Rattle.undo_cover.proofs.tiles.row.Goals as goal

-- what is written: the vertices across the half-edges that end at the three corners
abbrev across₃ : List ℕ → ℕ → ℕ → ℕ → List ℕ
across₃ thirds f g h = at thirds h ∷ at thirds f ∷ at thirds g ∷ []

-- three different numbers
three-apart : (f : ℕ → ℕ) → f 0 ≢ f 1 → f 1 ≢ f 2 → f 2 ≢ f 0 → (i j : ℕ) → i < 3 → j < 3 → f i ≡ f j → i ≡ j
three-apart f p q r i j a b =
    by_three (λ i. (j : ℕ) → j < 3 → f i ≡ f j → i ≡ j)
    (by_three (λ j. f 0 ≡ f j → 0 ≡ j) (λ e. refl) (λ e. absurd (p e)) (λ e. absurd (r (sym e))))
    (by_three (λ j. f 1 ≡ f j → 1 ≡ j) (λ e. absurd (p (sym e))) (λ e. refl) (λ e. absurd (q e)))
    (by_three (λ j. f 2 ≡ f j → 2 ≡ j) (λ e. absurd (r e)) (λ e. absurd (q (sym e))) (λ e. refl))
    i a j b

module _ {k F : ℕ} {other thirds rows : List ℕ} (L : RowLent k F other thirds rows) where
  -- there is room for the row
  room : 3 * k + 3 ≤ length rows
  room = omega (arith, L.lent.rows_room, L.inside)

  -- three stores for it leave the others as they were
  others : (vs : List ℕ) → length vs ≡ 3 → (d : ℕ) → d / 3 ≢ k → at (sets rows (3 * k) vs) d ≡ at rows d
  others vs e d n = at-sets-other vs rows (3 * k) d (λ j l. omega arith)

  -- each of three zeros is 0
  zeros : (i : ℕ) → i < 3 → at (0 ∷ 0 ∷ 0 ∷ []) i ≡ 0
  zeros = by_three (λ i. at (0 ∷ 0 ∷ 0 ∷ []) i ≡ 0) refl refl refl

  -- three zeros, where there is no row
  flattened : (HasRow F other thirds k → ⊥) → RowSet F other thirds k rows (sets rows (3 * k) (0 ∷ 0 ∷ 0 ∷ []))
  flattened none = record {
    row = flat none (λ i b. at-sets (0 ∷ 0 ∷ 0 ∷ []) rows (3 * k) i room b ∙ zeros i b);
    rest = others (0 ∷ 0 ∷ 0 ∷ []) refl;
  }

  module _ {f g h : ℕ} (p : f ≡ at other (3 * k)) (q : g ≡ at other (3 * k + 1)) (r : h ≡ at other (3 * k + 2)) where
    -- the vertices that are written are those across
    entries : (i : ℕ) → i < 3 → at (across₃ thirds f g h) i ≡ opposite other thirds k i
    entries =
        by_three (λ i. at (across₃ thirds f g h) i ≡ opposite other thirds k i)
        (ap (at thirds) r) (rw (add-zero (3 * k)) (ap (at thirds) p)) (ap (at thirds) q)

    -- where all edges have mates and no two of the vertices are equal, there is a row
    has-row : AllMated (3 * F) other k → (TwoEqual (at thirds h) (at thirds f) (at thirds g) → ⊥)
        → HasRow F other thirds k
    has-row M apart =
        record {
          mated = M.each;
          apart = λ i j a b e.
              three-apart (at (across₃ thirds f g h)) (λ s. apart (ab s)) (λ s. apart (bc s)) (λ s. apart (ca s))
              i j a b
              (entries i a ∙ e ∙ sym (entries j b));
        }

    -- where two are equal, there is none
    no_row : TwoEqual (at thirds h) (at thirds f) (at thirds g) → HasRow F other thirds k → ⊥
    no_row Q H = go Q
      where
        meet : (i j : ℕ) → i < 3 → j < 3 → at (across₃ thirds f g h) i ≡ at (across₃ thirds f g h) j → i ≡ j
        meet i j a b e = H.apart i j a b (sym (entries i a) ∙ e ∙ entries j b)

        go : TwoEqual (at thirds h) (at thirds f) (at thirds g) → ⊥
        go (ab e) = omega (arith, meet 0 1 (omega arith) (omega arith) e)
        go (bc e) = omega (arith, meet 1 2 (omega arith) (omega arith) e)
        go (ca e) = omega (arith, meet 2 0 (omega arith) (omega arith) e)

    -- the vertices across, or three zeros
    written : {rows' : List ℕ} → AllMated (3 * F) other k
        → RowWritten k (at thirds h) (at thirds f) (at thirds g) rows rows' → RowSet F other thirds k rows rows'
    written M (different apart) =
        record {
          row = tile (has-row M apart) (λ i b. at-sets (across₃ thirds f g h) rows (3 * k) i room b ∙ entries i b);
          rest = others (across₃ thirds f g h) refl;
        }
    written M (equal same) = flattened (no_row same)

pub returns : goal.returns
returns c = written c.requires c.at-2.ensures c.at-3.ensures c.at.ensures
    (c.all_mated.ensures.sound c.if-not-all_mated.false) c.write_row.ensures
