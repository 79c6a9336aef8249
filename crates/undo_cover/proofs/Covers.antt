-- What the tables of other half-edges and of rows say of the mesh. A half-edge has a mate exactly if its edge is
-- regular; the mate's triangle is the other one on the edge, and its third vertex the vertex across. So the rows are
-- those of the covering mesh.
use Prim.Native.Nat.{ℕ, suc, ◌+◌, ◌*◌, ◌/◌, ◌%◌, ◌≤◌, ◌<◌}
use native.Mathlib.Nat.{add-zero}
use native.Mathlib.Omega.{arith}
use mathlib.Core.Path.{◌≡◌, refl, sym, ap, ◌∙◌, subst}
use mathlib.Core.Logic.{◌≢◌, ◌⊎◌, inl, inr}
use mathlib.Core.List.{List}
use lib.ListN.{length, take}
use lib.Seq.{length-take-le}
use Rattle.theory.specs.Mesh.{at, On, HasEdge, Regular, OtherwiseProper}
use Rattle.theory.specs.Splitting.{next, first_on}
use Rattle.theory.specs.Reading.{Across}
use Rattle.theory.proofs.Corners.{before}
use Rattle.theory.proofs.Mesh.{regular-other, regular-only, across-edge, edge-across, on-vertex}
use Rattle.theory.proofs.Splitting.{SameEdge, along, same_edge-joins, Side, side-same_edge, edge-side, first_on-cong}
use Rattle.theory.proofs.Splitting.{edge_no-same}
use Rattle.theory.proofs.Heart.{edge_no-within}
use Rattle.theory.proofs.Rows.{Opposite}
use Rattle.theory.proofs.Tiles.{IsTile, Row, tile, flat, Covering, Start, beside}
use Rattle.lists.specs.Tables.{Tabulated}
use Rattle.lists.proofs.Lists.{by-eq, at_take}
use Rattle.mesh_rings.specs.Tables.{third, Listed}
use Rattle.mesh_mates.specs.Others.{Mates, OtherOf, alone, mate, several, Othered, HasMate}
use Rattle.mesh_rings.proofs.EdgeRings.{first-same_edge}
use Rattle.mesh_rings.proofs.Sides.{stands_on, End, end, other_end, end_moved, same_edge-has_edge, side-third}
use Rattle.undo_cover.specs.Starts.{side_of}
use Rattle.undo_cover.specs.Tiles.{opposite, HasRow, RowOf, RowsOf}
use Rattle.undo_cover.specs.Tiles.{tile as has_row, flat as has_none}

-- a mesh of F triangles, but for being connected, with its tables: other half-edges and third vertices
pub record Tabled (N F : ℕ) (T other thirds : List ℕ) : Type 0 where
  pub proper : OtherwiseProper N T
  pub whole : length T ≡ 3 * F
  pub others : Othered (3 * F) (first_on T) other
  pub tabled : Tabulated (third T) (3 * F) thirds

-- triangle l is the other one, beside triangle k, on the edge u-v
pub record Beside (T : List ℕ) (k u v l : ℕ) : Type 0 where
  pub another : l ≢ k
  pub has : HasEdge T l u v
  pub only : (m : ℕ) → m ≢ k → HasEdge T m u v → m ≡ l

-- ---- the half-edge that ends at a corner

-- The half-edge of triangle k that ends at its corner i.
abbrev pub ending : ℕ → ℕ → ℕ
ending k i = 3 * k + (i + 2) % 3

-- it is of triangle k
ending-triangle : (k i : ℕ) → ending k i / 3 ≡ k
ending-triangle k i = omega arith

-- and ends there
ending-next : (k i : ℕ) → i < 3 → next (ending k i) ≡ 3 * k + i
ending-next k i b = omega arith

-- each half-edge of the triangle ends at the corner after its own
ending-after : (k i : ℕ) → i < 3 → ending k ((i + 1) % 3) ≡ 3 * k + i
ending-after k i b = omega arith

-- ---- the side of triangle k opposite its corner i

-- it runs from the corner after i to the one before
side-from : (k i : ℕ) → side_of k (suc i) ≡ 3 * k + (i + 1) % 3
side-from k i = omega arith

side-to : (k i : ℕ) → i < 3 → next (side_of k (suc i)) ≡ 3 * k + (i + 2) % 3
side-to k i b = omega arith

-- in triangle k
side-triangle : (k i : ℕ) → side_of k (suc i) / 3 ≡ k
side-triangle k i = omega arith

module _ {N F : ℕ} {T other thirds : List ℕ} (D : Tabled N F T other thirds) where
  -- ---- edges and their half-edges

  -- within one triangle an edge has one half-edge
  one-half : (g h : ℕ) → g < 3 * F → h < 3 * F → g / 3 ≡ h / 3 → first_on T g ≡ first_on T h → g ≡ h
  one-half g h a b t e =
      edge_no-within N T D.proper g h (omega (arith, D.whole)) (omega (arith, D.whole)) t
      (edge_no-same N T g h (first-same_edge T g h e))

  -- different corners of a triangle hold different vertices
  corners-differ : (c d : ℕ) → c < 3 * F → c / 3 ≡ d / 3 → c ≢ d → at T c ≢ at T d
  corners-differ c d b t n e = n (D.proper.different c d (omega (arith, D.whole)) (omega (arith, D.whole)) t e)

  -- so the ends of a half-edge differ
  ends-differ : (h : ℕ) → h < 3 * F → at T h ≢ at T (next h)
  ends-differ h b = corners-differ h (next h) b (omega arith) (omega arith)

  -- and its third vertex is neither of them
  third-differs : (h : ℕ) → h < 3 * F → {v : ℕ} → End T h v → third T h ≢ v
  third-differs h b (end e) p = corners-differ (before h) h (omega arith) (omega arith) (omega arith) (p ∙ e)
  third-differs h b (other_end e) p =
      corners-differ (before h) (next h) (omega arith) (omega arith) (omega arith) (p ∙ e)

  -- the triangle of a half-edge on the edge of h has this edge
  half-edge : (g h : ℕ) → g < 3 * F → h < 3 * F → first_on T g ≡ first_on T h → HasEdge T (g / 3) (at T h) (at T (next h))
  half-edge g h a b e =
      same_edge-has_edge (record { whole = D.whole; inside = a; triangle = refl })
      (first-same_edge T h g (sym e)) (ends-differ h b)

  -- and a triangle that has the edge has a half-edge on it
  edge-half : (h : ℕ) → h < 3 * F → {k : ℕ} → HasEdge T k (at T h) (at T (next h))
      → (g : ℕ) × (g < 3 * F) × (g / 3 ≡ k) × (first_on T g ≡ first_on T h)
  edge-half h b {k} e = (s.half, inside, s.triangle, same)
    where
      s : Side T k (at T h) (at T (next h))
      s = edge-side e

      inside : s.half < 3 * F
      inside = omega (arith, s.inside, D.whole)

      same : first_on T s.half ≡ first_on T h
      same = first_on-cong T s.half h (side-same_edge h s)

  -- ---- mates and regular edges

  -- the triangles of mates are different
  mates-apart : {h g : ℕ} → h < 3 * F → Mates (3 * F) (first_on T) h g → g / 3 ≢ h / 3
  mates-apart {h} {g} b M t = M.another (one-half g h M.inside b t M.same)

  -- a half-edge that has a mate is on a regular edge
  mates-regular : {h g : ℕ} → h < 3 * F → Mates (3 * F) (first_on T) h g → Regular T (at T h) (at T (next h))
  mates-regular {h} {g} b M =
      record {
        one = h / 3;
        two = g / 3;
        differ = λ t. mates-apart b M (sym t);
        has_one = half-edge h h b b refl;
        has_two = half-edge g h M.inside b M.same;
        others = λ k e. go (edge-half h b e);
      }
    where
      go : {k : ℕ} → (f : ℕ) × (f < 3 * F) × (f / 3 ≡ k) × (first_on T f ≡ first_on T h) → (k ≡ h / 3) ⊎ (k ≡ g / 3)
      go (f, a, t, s) = elim (M.only f a s) [
        | inl p ↦ inl (sym t ∙ ap (λ c. c / 3) p)
        | inr p ↦ inr (sym t ∙ ap (λ c. c / 3) p)
      ]

  -- and a half-edge on a regular edge has a mate: the half-edge of the other triangle
  regular-mates : (h : ℕ) → h < 3 * F → Regular T (at T h) (at T (next h)) → (g : ℕ) × Mates (3 * F) (first_on T) h g
  regular-mates h b R = there (regular-other T (h / 3) _ _ R)
    where
      found : {l : ℕ} → l ≢ h / 3 → (g : ℕ) × (g < 3 * F) × (g / 3 ≡ l) × (first_on T g ≡ first_on T h)
          → (g : ℕ) × Mates (3 * F) (first_on T) h g
      found n (g, a, t, s) = (
        g,
        record { inside = a; another = λ p. n (sym t ∙ ap (λ c. c / 3) p); same = s; only = only },
      )
        where
          only : (f : ℕ) → f < 3 * F → first_on T f ≡ first_on T h → (f ≡ h) ⊎ (f ≡ g)
          only f c q =
              by-eq (f / 3) (h / 3)
              (λ p. inl (one-half f h c b p q))
              (λ p. inr (one-half f g c a
              (regular-only T (h / 3) (f / 3) (g / 3) _ _ R (half-edge h h b b refl) (half-edge f h c b q)
              (half-edge g h a b s) p (λ u. n (sym t ∙ u)))
              (q ∙ sym s)))

      there : (l : ℕ) × HasEdge T l (at T h) (at T (next h)) × (l ≢ h / 3) → (g : ℕ) × Mates (3 * F) (first_on T) h g
      there (l, e, n) = found n (edge-half h b e)

  -- where the table has a mate, it is the one
  other-mates : (h : ℕ) → h < 3 * F → HasMate (3 * F) other h → Mates (3 * F) (first_on T) h (at other h)
  other-mates h b m = go (D.others.entry h b) m.inside m.another
    where
      go : {g : ℕ} → OtherOf (3 * F) (first_on T) h g → g < 3 * F → g ≢ h → Mates (3 * F) (first_on T) h g
      go (alone _) l n = absurd (n refl)
      go (mate M) l n = M
      go (several _ _ _ _ _ _ _ _ _) l n = absurd (omega arith)

  -- and where there is one, the table has it
  mates-other : {h f : ℕ} → h < 3 * F → Mates (3 * F) (first_on T) h f → HasMate (3 * F) other h
  mates-other {h} {f} b M = record {
    inside = (go (D.others.entry h b)).0;
    another = (go (D.others.entry h b)).1;
  }
    where
      go : {g : ℕ} → OtherOf (3 * F) (first_on T) h g → (g < 3 * F) × (g ≢ h)
      go (alone only) = absurd (M.another (only f M.inside M.same))
      go (mate A) = (A.inside, A.another)
      go (several d e a c nd ne n p q) = absurd (no_third (M.only d a p) (M.only e c q))
        where
          no_third : (d ≡ h) ⊎ (d ≡ f) → (e ≡ h) ⊎ (e ≡ f) → ⊥
          no_third (inl x) _ = nd x
          no_third (inr _) (inl y) = ne y
          no_third (inr x) (inr y) = n (x ∙ sym y)

  -- so the edges with mates in the table are the regular ones
  pub mate-regular : (h : ℕ) → h < 3 * F → HasMate (3 * F) other h → Regular T (at T h) (at T (next h))
  mate-regular h b m = mates-regular b (other-mates h b m)

  pub regular-mate : (h : ℕ) → h < 3 * F → Regular T (at T h) (at T (next h)) → HasMate (3 * F) other h
  regular-mate h b R = mates-other b (regular-mates h b R).1

  -- ---- the triangle and the vertex across

  module _ (h : ℕ) (b : h < 3 * F) (m : HasMate (3 * F) other h) where
    mates : Mates (3 * F) (first_on T) h (at other h)
    mates = other-mates h b m

    -- the mate's triangle has the edge
    mate-edge : HasEdge T (at other h / 3) (at T h) (at T (next h))
    mate-edge = half-edge (at other h) h m.inside b mates.same

    -- and is the only other one that has it
    pub mate-beside : Beside T (h / 3) (at T h) (at T (next h)) (at other h / 3)
    mate-beside =
        record {
          another = mates-apart b mates;
          has = mate-edge;
          only = λ l n e.
              regular-only T (h / 3) l (at other h / 3) _ _ (mate-regular h b m) (half-edge h h b b refl) e mate-edge n
              (mates-apart b mates);
        }

    -- its third vertex stands across the edge
    mate-across : Across T (h / 3) (at T h) (at T (next h)) (third T (at other h))
    mate-across =
        edge-across mate-edge (mates-apart b mates)
        (stands_on (before (at other h)) (omega (arith, D.whole, m.inside)) (omega arith) refl)
        (third-differs (at other h) m.inside (end_moved same (end refl)))
        (third-differs (at other h) m.inside (end_moved same (other_end refl)))
      where
        same : SameEdge T h (at other h)
        same = first-same_edge T h (at other h) (sym mates.same)

    -- and no other vertex does
    across-mate : {w : ℕ} → Across T (h / 3) (at T h) (at T (next h)) w → w ≡ third T (at other h)
    across-mate {w} a = sym (side-third side (subst (λ l. On T l w) there a.has_w) a.not_u a.not_v)
      where
        there : a.other ≡ at other h / 3
        there = mate-beside.only a.other a.another (across-edge (ends-differ h b) a)

        same : SameEdge T (at other h) h
        same = first-same_edge T (at other h) h mates.same

        side : Side T (at other h / 3) (at T h) (at T (next h))
        side = record {
          half = at other h;
          inside = omega (arith, D.whole, m.inside);
          triangle = refl;
          joins = same_edge-joins same (along refl refl);
        }

  -- ---- the start of a role

  module _ (k : ℕ) (l : k < F) (i : ℕ) (b : i < 3) where
    -- where the side opposite corner i of triangle k has a mate, the mate's triangle is the other one on it
    side-beside : HasMate (3 * F) other (side_of k (suc i))
        → Beside T k (at T (3 * k + (i + 1) % 3)) (at T (3 * k + (i + 2) % 3)) (at other (side_of k (suc i)) / 3)
    side-beside m =
        rw (← side-from k i)
        (rw (side-to k i b, side-triangle k i) at (mate-beside (side_of k (suc i)) (omega arith) m))

    -- so it is the start
    pub mate-start : HasMate (3 * F) other (side_of k (suc i)) → Start T k (suc i) (at other (side_of k (suc i)) / 3)
    mate-start m = beside i _ b (side-beside m).another regular (side-beside m).has
      where
        regular : Regular T (at T (3 * k + (i + 1) % 3)) (at T (3 * k + (i + 2) % 3))
        regular = rw (← side-from k i, ← side-to k i b) (mate-regular (side_of k (suc i)) (omega arith) m)

    -- and where there is a start, the side has a mate, whose triangle is the start
    pub start-mate : {s : ℕ} → Start T k (suc i) s
        → HasMate (3 * F) other (side_of k (suc i)) × (s ≡ at other (side_of k (suc i)) / 3)
    start-mate (beside _ s _ n R e) = (m, (side-beside m).only s n e)
      where
        m : HasMate (3 * F) other (side_of k (suc i))
        m = regular-mate (side_of k (suc i)) (omega arith) (rw (side-to k i b, side-from k i) R)

  -- ---- tiles

  module _ (k : ℕ) (l : k < F) where
    -- the half-edges of triangle k are inside the table
    ending-inside : (i : ℕ) → ending k i < 3 * F
    ending-inside i = omega arith

    module _ (i : ℕ) (b : i < 3) (m : HasMate (3 * F) other (ending k i)) where
      -- the edge that ends at corner i is regular
      ending-regular : Regular T (at T (ending k i)) (at T (3 * k + i))
      ending-regular = rw (ending-next k i b) at (mate-regular (ending k i) (ending-inside i) m)

      -- the triangle of the mate is the one beside
      ending-beside : Beside T k (at T (ending k i)) (at T (3 * k + i)) (at other (ending k i) / 3)
      ending-beside = rw (ending-next k i b, ending-triangle k i) at (mate-beside (ending k i) (ending-inside i) m)

      -- the entry of the third vertices is that of the mate
      entry-third : opposite other thirds k i ≡ third T (at other (ending k i))
      entry-third = D.tabled.entry (at other (ending k i)) m.inside

      -- and stands opposite corner i
      ending-opposite : Opposite T k i (opposite other thirds k i)
      ending-opposite =
          rw entry-third
          (rw (ending-next k i b, ending-triangle k i) at (mate-across (ending k i) (ending-inside i) m))

      -- alone
      opposite-ending : {w : ℕ} → Opposite T k i w → w ≡ opposite other thirds k i
      opposite-ending a =
          across-mate (ending k i) (ending-inside i) m (rw (ending-next k i b, ending-triangle k i) a)
          ∙ sym entry-third

    -- a triangle that has a row is a tile
    row-tile : HasRow F other thirds k → IsTile T k
    row-tile H =
        record {
          regular = λ i b. ending-regular i b (H.mated ((i + 2) % 3) (omega arith));
          apart = λ i j w a b o p.
              H.apart i j a b
              (sym (opposite-ending i a (H.mated ((i + 2) % 3) (omega arith)) o)
              ∙ opposite-ending j b (H.mated ((j + 2) % 3) (omega arith)) p);
        }

    -- the edges of a tile have mates
    tile-mated : IsTile T k → (i : ℕ) → i < 3 → HasMate (3 * F) other (ending k i)
    tile-mated t i b = regular-mate (ending k i) (ending-inside i) (rw (ending-next k i b) (t.regular i b))

    -- so it has a row
    pub tile-row : IsTile T k → HasRow F other thirds k
    tile-row t =
        record {
          mated = λ i b. rw (ending-after k i b) at (tile-mated t ((i + 1) % 3) (omega arith));
          apart = λ i j a b e.
              t.apart i j (opposite other thirds k i) a b (ending-opposite i a (tile-mated t i a))
              (subst (Opposite T k j) (sym e) (ending-opposite j b (tile-mated t j b)));
        }

    -- the triangles over the sides of a tile are those of the mates
    pub tile-beside : IsTile T k → (i : ℕ) → i < 3
        → Beside T k (at T (ending k i)) (at T (3 * k + i)) (at other (ending k i) / 3)
    tile-beside t i b = ending-beside i b (tile-mated t i b)

  -- ---- the rows

  module _ (rows : List ℕ) (room : 3 * F ≤ length rows) (R : RowsOf F other thirds rows) where
    -- the rows are as many as the triangles
    rows_long : length (take (3 * F) rows) ≡ 3 * F
    rows_long = length-take-le (3 * F) rows room

    -- and have the entries of the buffer
    rows_at : (k i : ℕ) → k < F → i < 3 → at (take (3 * F) rows) (3 * k + i) ≡ at rows (3 * k + i)
    rows_at k i l b = at_take (3 * F) rows (3 * k + i) (omega arith)

    -- they are the covering mesh
    pub covering : Covering T (take (3 * F) rows)
    covering = record { long = rows_long ∙ sym D.whole; row = λ k l. row k (omega (arith, D.whole)) }
      where
        row : (k : ℕ) → k < F → Row T (take (3 * F) rows) k
        row k l = go (R.row k l)
          where
            go : RowOf F other thirds k rows → Row T (take (3 * F) rows) k
            go (has_row H e) =
                tile (row-tile k l H)
                (λ i b. rw (rows_at k i l b, e i b) (ending-opposite k l i b (H.mated ((i + 2) % 3) (omega arith))))
            go (has_none refuted e) =
                flat (λ t. refuted (tile-row k l t))
                (λ i j a b. rows_at k i l a ∙ e i a ∙ sym (e j b) ∙ sym (rows_at k j l b))

    -- and its entries are vertices of the mesh
    rows-below : (k i : ℕ) → k < F → i < 3 → at (take (3 * F) rows) (3 * k + i) < N
    rows-below k i l b = go (R.row k l)
      where
        go : RowOf F other thirds k rows → at (take (3 * F) rows) (3 * k + i) < N
        go (has_row H e) =
            rw (rows_at k i l b, e i b)
            (on-vertex D.proper (ending-opposite k l i b (H.mated ((i + 2) % 3) (omega arith))).has_w)
        go (has_none _ e) = omega (
          arith,
          rows_at k i l b ∙ e i b,
          D.proper.below (3 * k + i) (omega (arith, D.whole)),
        )

    -- so they are a list of triangles
    pub rows-listed : 3 * F < 65536 → Listed N F (take (3 * F) rows)
    rows-listed small =
        record { whole = rows_long; small = small; below = λ c l. below c (omega (arith, rows_long)) }
      where
        below : (c : ℕ) → c < 3 * F → at (take (3 * F) rows) c < N
        below c l =
            let e : 3 * (c / 3) + c % 3 ≡ c = omega arith in
            rw e at (rows-below (c / 3) (c % 3) (omega arith) (omega arith))

    -- a row whose first two entries differ is a tile's
    pub differ-tile : (k : ℕ) → k < F → at rows (3 * k) ≢ at rows (3 * k + 1) → IsTile T k
    differ-tile k l n = go (R.row k l)
      where
        go : RowOf F other thirds k rows → IsTile T k
        go (has_row H e) = row-tile k l H
        go (has_none _ e) =
            absurd (n (rw (add-zero (3 * k)) at (e 0 (omega arith) ∙ sym (e 1 (omega arith)))))

    -- and those of a tile's row differ
    pub tile-differ : (k : ℕ) → k < F → IsTile T k → at rows (3 * k) ≢ at rows (3 * k + 1)
    tile-differ k l t s = go (R.row k l)
      where
        go : RowOf F other thirds k rows → ⊥
        go (has_row H e) = omega (
          arith,
          H.apart 0 1 (omega arith) (omega arith)
              (sym (rw (add-zero (3 * k)) at (e 0 (omega arith))) ∙ s ∙ e 1 (omega arith)),
        )
        go (has_none refuted _) = refuted (tile-row k l t)
