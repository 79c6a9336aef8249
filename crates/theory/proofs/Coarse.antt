-- The rows that the start tile reaches, and the coarse mesh that is built of them: all of proper that does not need the
-- tests (`below`, `different`).
use Prim.Native.Nat.{ℕ, ◌+◌, ◌*◌, ◌/◌, ◌%◌, ◌<◌}
use native.Mathlib.Omega.{arith}
use mathlib.Core.Path.{◌≡◌, refl, sym, ap, ◌∙◌, subst}
use mathlib.Core.List.{List}
use lib.ListN.{length}
use Rattle.theory.specs.Mesh.{at, triangles, Reach}
use Rattle.theory.proofs.Corners.{triangle-place}
use Rattle.theory.proofs.Numbering.{ranks-apart}
use Rattle.theory.proofs.Mesh.{on-place}
use Rattle.theory.proofs.Rows.{Opposite}
use Rattle.theory.proofs.Tiles.{IsTile, InRow, row-opposite, row-different, row_below}
use Rattle.theory.proofs.Tiles.{reached-below, reached-tile}
use Rattle.theory.proofs.Built.{Search, Built}

module _ {N : ℕ} {T W : List ℕ} {s : ℕ} (S : Search N T W s) where
  -- ---- the reached rows

  -- a reached row is the row of a triangle
  pub row_inside : (k : ℕ) → Reach W s k → k < triangles T
  row_inside k = reached-below N T S.proper W S.cover s k S.inside

  -- and this triangle is a tile
  pub reach-tile : (k : ℕ) → Reach W s k → IsTile T k
  reach-tile k = reached-tile N T S.proper W S.cover s k S.inside S.starts

  -- its entries are the vertices opposite the tile's corners
  pub row-across : (k i : ℕ) → Reach W s k → i < 3 → Opposite T k i (at W (3 * k + i))
  row-across k i q = row-opposite N T S.proper W S.cover k i (row_inside k q) (reach-tile k q)

  -- the corners of the tile are inside the list
  pub row-corner : (k i : ℕ) → Reach W s k → i < 3 → 3 * k + i < length T
  row-corner k i q b = omega (arith, row_inside k q, S.proper.otherwise.whole)

  -- and hold vertices of the mesh
  pub tile-corner-below : (k i : ℕ) → Reach W s k → i < 3 → at T (3 * k + i) < N
  tile-corner-below k i q b = S.proper.otherwise.below (3 * k + i) (row-corner k i q b)

  -- its entries are vertices of the reached rows
  pub entry-in_row : (k i : ℕ) → Reach W s k → i < 3 → InRow W s (at W (3 * k + i))
  entry-in_row k i q b = record {
    row = k;
    reached = q;
    on = record {
      corner = 3 * k + i;
      inside = omega (arith, row-corner k i q b, S.cover.long);
      triangle = omega arith;
      holds = refl;
    };
  }

  -- the vertices of the reached rows are vertices of the mesh
  pub in_row-below : (v : ℕ) → InRow W s v → v < N
  in_row-below v r =
      let k : ℕ = r.row in
      let q : Reach W s k = r.reached in
      subst (λ (u : ℕ). u < N) (on-place r.on)
      (row_below N T S.proper W S.cover k (r.on.corner % 3) (row_inside k q) (reach-tile k q) (omega arith))

  -- ---- the coarse mesh

  module _ {M : ℕ} {C vertex_rank rank : List ℕ} (built : Built W s M C vertex_rank rank) where
    -- the three entries of a reached row have different ranks
    row_apart : (k i j : ℕ) → Reach W s k → i < 3 → j < 3
        → at vertex_rank (at W (3 * k + i)) ≡ at vertex_rank (at W (3 * k + j)) → i ≡ j
    row_apart k i j q a b e =
        row-different N T S.proper W S.cover k i j (row_inside k q) (reach-tile k q) a b
        (ranks-apart built.ranked.vertices _ _ (entry-in_row k i q a) (entry-in_row k j q b) e)

    -- a coarse corner belongs to a reached row
    pub corner-row : (c : ℕ) → c < length C → (k : ℕ) × Reach W s k × (at rank k ≡ c / 3)
    corner-row c l = built.ranked.rows.onto (c / 3) (omega (arith, built.whole))

    -- and holds the rank of the row's entry in its place
    coarse-corner : (k c : ℕ) → Reach W s k → at rank k ≡ c / 3 → at C c ≡ at vertex_rank (at W (3 * k + c % 3))
    coarse-corner k c q e =
        ap (at C) (sym (triangle-place c (at rank k) (sym e))) ∙ built.rows k (c % 3) q (omega arith)

    -- so it is below M
    pub coarse-below : (c : ℕ) → c < length C → at C c < M
    coarse-below c l = go (corner-row c l)
      where
        go : (k : ℕ) × Reach W s k × (at rank k ≡ c / 3) → at C c < M
        go (k, q, e) = subst (λ (y : ℕ). y < M) (sym (coarse-corner k c q e))
            (built.ranked.vertices.below (at W (3 * k + c % 3)) (entry-in_row k (c % 3) q (omega arith)))

    -- a coarse triangle has three different corners, as its row has three different entries
    pub coarse-different : (c d : ℕ) → c < length C → d < length C → c / 3 ≡ d / 3 → at C c ≡ at C d → c ≡ d
    coarse-different c d l m t e = go (corner-row c l)
      where
        ranks : (k : ℕ) → Reach W s k → at rank k ≡ c / 3
            → at vertex_rank (at W (3 * k + c % 3)) ≡ at vertex_rank (at W (3 * k + d % 3))
        ranks k q f = sym (coarse-corner k c q f) ∙ e ∙ coarse-corner k d q (f ∙ t)

        go : (k : ℕ) × Reach W s k × (at rank k ≡ c / 3) → c ≡ d
        go (k, q, f) =
            let place : c % 3 ≡ d % 3 = row_apart k (c % 3) (d % 3) q (omega arith) (omega arith) (ranks k q f) in
            omega arith
