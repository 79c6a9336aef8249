-- The reading that an undo looks for, computed (`undoing`): where a role has a reading, the returned one is this. So
-- whether a role has a reading is decided, by a test that computes (`reading_in?`).
-- What is computed is what `Built` and `Found` ask for: the covering mesh, the rows reached from the start, their
-- numbers and those of their vertices, the coarse mesh, the two maps.
use Prim.Native.Nat.{ℕ, zero, suc, ◌+◌, ◌*◌, ◌/◌, ◌%◌, ◌<◌}
use native.Mathlib.Decide.{dec_lt}
use native.Mathlib.Omega.{arith}
use mathlib.Core.Path.{◌≡◌, refl, sym, ap, ap₂, ◌∙◌, subst, subst₂}
use mathlib.Core.Logic.{◌≢◌}
use mathlib.Core.Bool.{Bool, true, false, not, cond, ◌&&◌}
use mathlib.Core.List.{List, Memᴰ as Member}
use lib.Dec.{T as So, T_not, not_T, eqb, eqb→eq}
use lib.ListN.{length}
use lib.Seq.{ext_get_or}
use Rattle.theory.specs.Mesh.{at, triangles, On, HasEdge, Same, Reach, OtherwiseProper, Proper}
use Rattle.theory.specs.Counting.{count, first_from}
use Rattle.theory.specs.Splitting.{same_edge, first_on, is_first, edge_no}
use Rattle.theory.specs.Reading.{Agreement, Reading, Centre, ReadingIn, Returned}
use Rattle.theory.proofs.Tests.{
  decided,
  and_sound,
  and-complete,
  and₃-sound,
  and₃-complete,
  implies,
  implies-sound,
  implies-complete,
  eq→eqb,
  some_of,
  some_of-sound,
  some_of-complete,
  is_in,
  is_in-sound,
  is_in-complete,
  all_below,
  all_below-sound,
  all_below-complete,
}
use Rattle.theory.proofs.Finite.{tabulate, tabulate-length, tabulate-at}
use Rattle.theory.proofs.Counting.{count-injective, first_from-passes, first_from-before}
use Rattle.theory.proofs.Numbering.{count-ranks}
use Rattle.theory.proofs.Mesh.{regular-other, third-vertex, edge-across, on-triangle, on-vertex}
use Rattle.theory.proofs.Mesh.{corner-on, side-to}
use Rattle.theory.proofs.Decide.{on_test, on_test-sound, on_test-complete}
use Rattle.theory.proofs.Decide.{has_edge_test, has_edge_test-sound, has_edge_test-complete}
use Rattle.theory.proofs.Decide.{regular_test, regular_test-sound, regular_test-complete}
use Rattle.theory.proofs.Decide.{reached, reach_test, reach_test-sound, reach_test-complete}
use Rattle.theory.proofs.Rows.{Opposite}
use Rattle.theory.proofs.Centres.{not-both, centre-below, centre-between, beside-centre}
use Rattle.theory.proofs.Tiles.{IsTile, Row, Covering, Start, own, beside, InRow}
use Rattle.theory.proofs.Tiles.{reached-centre, centre-tile, row_kept, start-exists, start-centre}
use Rattle.theory.proofs.Built.{Search, Ranked, Built}
use Rattle.theory.proofs.Coarse.{row_inside, in_row-below}
use Rattle.theory.proofs.Complete.{ranked-vertices, built-mesh, built-between, built-corner}
use Rattle.theory.proofs.Complete.{found-vertices, found-triangles}
use Rattle.theory.proofs.Agreement.{Implies, returned-same}
use Rattle.theory.proofs.Lawful.{Lawful}
use Rattle.theory.proofs.Canonical.{returned-exists}
use Rattle.theory.proofs.Determined.{returned-in}
use Rattle.theory.proofs.ReadingTests.{across_test, across_test-sound, across_test-complete}
use Rattle.theory.proofs.ReadingTests.{AgreementTest, Decides}
use Rattle.theory.proofs.ReadingTests.{returned_test, returned_test-sound, returned_test-complete}

-- ---- a choice by a test, and the first that passes

-- a test that passes takes the first
taken : {A : Type 0} (x y : A) (b : Bool) → So b → cond b x y ≡ x
taken x y true t = refl
taken x y false t = absurd t

-- one that does not takes the second
left : {A : Type 0} (x y : A) (b : Bool) → (So b → ⊥) → cond b x y ≡ y
left x y true f = absurd (f tt)
left x y false f = refl

-- where some number below n passes, the first that does is found
first_found : (test : ℕ → Bool) (n i : ℕ) → i < n → So (test i)
    → (first_from test 0 n < n) × So (test (first_from test 0 n))
first_found test n i l t = go (dec_lt i (first_from test 0 n))
  where
    go : Dec (i < first_from test 0 n) → (first_from test 0 n < n) × So (test (first_from test 0 n))
    go (yes h) = absurd (first_from-before test 0 n i (omega arith) h t)
    go (no h) = (omega arith, first_from-passes test 0 n (omega arith))

-- ---- the covering mesh

-- w is across the side of k that ends at its corner i
unfoldable pub opposite_test : List ℕ → ℕ → ℕ → ℕ → Bool
unfolding across_test
opposite_test T k i w = across_test T k (at T (3 * k + (i + 2) % 3)) (at T (3 * k + i)) w

-- if w is across the sides that end at i and at j, these are one
unfoldable pub apart_test : List ℕ → ℕ → ℕ → ℕ → ℕ → Bool
unfolding opposite_test
apart_test T k i j w = implies (opposite_test T k i w && opposite_test T k j w) (eqb i j)

-- the same of every vertex w
unfoldable pub apart_from_test : ℕ → List ℕ → ℕ → ℕ → ℕ → Bool
unfolding all_below apart_test
apart_from_test N T k i j = all_below (apart_test T k i j) N

-- and of every j
unfoldable pub apart_from_all_test : ℕ → List ℕ → ℕ → ℕ → Bool
unfolding apart_from_test
apart_from_all_test N T k i = all_below (apart_from_test N T k i) 3

-- the side of k that ends at its corner i is regular
unfoldable pub side_test : List ℕ → ℕ → ℕ → Bool
unfolding regular_test
side_test T k i = regular_test T (at T (3 * k + (i + 2) % 3)) (at T (3 * k + i))

-- three regular edges, and no vertex across two of them
unfoldable pub tile_test : ℕ → List ℕ → ℕ → Bool
unfolding side_test apart_from_all_test
tile_test N T k = all_below (side_test T k) 3 && all_below (apart_from_all_test N T k) 3

tile_test-sound : (N : ℕ) (T : List ℕ) (k : ℕ) → OtherwiseProper N T → So (tile_test N T k) → IsTile T k
unfolding tile_test apart_test opposite_test
tile_test-sound N T k P t = made (and_sound (all_below (side_test T k) 3) (all_below (apart_from_all_test N T k) 3) t)
  where
    made : So (all_below (side_test T k) 3) × So (all_below (apart_from_all_test N T k) 3) → IsTile T k
    made (s, f) = record {
      regular = λ i b.
          regular_test-sound T (at T (3 * k + (i + 2) % 3)) (at T (3 * k + i)) (all_below-sound (side_test T k) 3 s i b);
      apart = λ i j w a b o p. eqb→eq i j (implies-sound (opposite_test T k i w && opposite_test T k j w) (eqb i j)
          (all_below-sound (apart_test T k i j) N (all_below-sound (apart_from_test N T k i) 3
          (all_below-sound (apart_from_all_test N T k) 3 f i a) j b) w (on-vertex P o.has_w))
          (and-complete (opposite_test T k i w) (opposite_test T k j w) (across_test-complete T k _ _ w o)
          (across_test-complete T k _ _ w p)));
    }

tile_test-complete : (N : ℕ) (T : List ℕ) (k : ℕ) → IsTile T k → So (tile_test N T k)
unfolding tile_test apart_test opposite_test
tile_test-complete N T k t =
    and-complete (all_below (side_test T k) 3) (all_below (apart_from_all_test N T k) 3)
    (all_below-complete (side_test T k) 3
    (λ i b. regular_test-complete T (at T (3 * k + (i + 2) % 3)) (at T (3 * k + i)) (t.regular i b)))
    (all_below-complete (apart_from_all_test N T k) 3 (λ i a. all_below-complete (apart_from_test N T k i) 3 (λ j b.
    all_below-complete (apart_test T k i j) N (λ w l.
    implies-complete (opposite_test T k i w && opposite_test T k j w) (eqb i j) (λ s. same i j w a b
    (and_sound (opposite_test T k i w) (opposite_test T k j w) s))))))
  where
    same : (i j w : ℕ) → i < 3 → j < 3 → So (opposite_test T k i w) × So (opposite_test T k j w) → So (eqb i j)
    same i j w a b (o, p) =
        eq→eqb i j (t.apart i j w a b
        (across_test-sound T k (at T (3 * k + (i + 2) % 3)) (at T (3 * k + i)) w o)
        (across_test-sound T k (at T (3 * k + (j + 2) % 3)) (at T (3 * k + j)) w p))

-- the first vertex across the side of k that ends at its corner i
unfoldable pub opposite : ℕ → List ℕ → ℕ → ℕ → ℕ
unfolding opposite_test first_from
opposite N T k i = first_from (opposite_test T k i) 0 N

-- across a regular side there is one
opposite-is : (N : ℕ) (T : List ℕ) (k i : ℕ) → OtherwiseProper N T → IsTile T k → i < 3
    → Opposite T k i (opposite N T k i)
unfolding opposite opposite_test
opposite-is N T k i P t b = beyond (regular-other T k _ _ (t.regular i b))
  where
    found : (w : ℕ) → Opposite T k i w → Opposite T k i (opposite N T k i)
    found w o = across_test-sound T k _ _ _
        (first_found (opposite_test T k i) N w (on-vertex P o.has_w) (across_test-complete T k _ _ w o)).1

    beyond : (l : ℕ) × HasEdge T l (at T (3 * k + (i + 2) % 3)) (at T (3 * k + i)) × (l ≢ k)
        → Opposite T k i (opposite N T k i)
    beyond (l, f, n) = third (third-vertex P l _ _ f)
      where
        third : (w : ℕ) × On T l w × (w ≢ at T (3 * k + (i + 2) % 3)) × (w ≢ at T (3 * k + i))
            → Opposite T k i (opposite N T k i)
        third (w, o, p, q) = found w (edge-across f n o p q)

-- entry i of row k: the vertex opposite corner i of a tile, and 0 for any other triangle
unfoldable pub cover_entry : ℕ → List ℕ → ℕ → ℕ → ℕ
unfolding tile_test opposite
cover_entry N T k i = cond (tile_test N T k) (opposite N T k i) 0

-- row after row
unfoldable pub covering : ℕ → List ℕ → List ℕ
unfolding tabulate cover_entry
covering N T = tabulate (λ c. cover_entry N T (c / 3) (c % 3)) (length T)

-- it is the covering mesh
covering-is : (N : ℕ) (T : List ℕ) → OtherwiseProper N T → Covering T (covering N T)
unfolding covering cover_entry
covering-is N T P = record { long = tabulate-length _ (length T); row = row }
  where
    entry : (k i : ℕ) → k < triangles T → i < 3 → at (covering N T) (3 * k + i) ≡ cover_entry N T k i
    entry k i l b =
        tabulate-at (λ c. cover_entry N T (c / 3) (c % 3)) (length T) (3 * k + i) (omega (arith, P.whole))
        ∙ ap₂ (cover_entry N T) (omega arith) (omega arith)

    which : (k : ℕ) → k < triangles T → Dec (IsTile T k) → Row T (covering N T) k
    which k l (yes t) = Row.tile t (λ i b.
        subst (Opposite T k i)
        (sym (entry k i l b ∙ taken (opposite N T k i) 0 (tile_test N T k) (tile_test-complete N T k t)))
        (opposite-is N T k i P t b))
    which k l (no f) = Row.flat f (λ i j a b. zeroth i a ∙ sym (zeroth j b))
      where
        zeroth : (i : ℕ) → i < 3 → at (covering N T) (3 * k + i) ≡ 0
        zeroth i b =
            entry k i l b ∙ left (opposite N T k i) 0 (tile_test N T k) (λ t. f (tile_test-sound N T k P t))

    row : (k : ℕ) → k < triangles T → Row T (covering N T) k
    row k l = which k l (decided (tile_test N T k) (tile_test-sound N T k P) (tile_test-complete N T k))

-- ---- the start

-- s is not triangle k, and has the side opposite its corner i
unfoldable pub beside_test : List ℕ → ℕ → ℕ → ℕ → Bool
unfolding has_edge_test
beside_test T k i s = not (eqb s k) && has_edge_test T s (at T (3 * k + (i + 1) % 3)) (at T (3 * k + (i + 2) % 3))

-- where the search for a role of triangle k starts
unfoldable pub start_of : List ℕ → ℕ → ℕ → ℕ
unfolding beside_test first_from
start_of T k zero = k
start_of T k (suc i) = first_from (beside_test T k i) 0 (triangles T)

-- if there is a start, it is one
start-found : {N : ℕ} {T : List ℕ} {k ρ s : ℕ} → OtherwiseProper N T → Start T k ρ s → Start T k ρ (start_of T k ρ)
unfolding start_of
start-found P own = own
start-found {T = T} {k} P (beside i s b n g e) =
    found (first_found (beside_test T k i) (triangles T) s (on-triangle P e.one_end)
    (and-complete (not (eqb s k)) (has_edge_test T s (at T (3 * k + (i + 1) % 3)) (at T (3 * k + (i + 2) % 3)))
    (not_T (eqb s k) (λ t. n (eqb→eq s k t))) (has_edge_test-complete T s _ _ e))).1
  where
    found : So (beside_test T k i (start_of T k (suc i))) → Start T k (suc i) (start_of T k (suc i))
    found t =
        let s : ℕ = start_of T k (suc i) in
        let both = and_sound (not (eqb s k))
        (has_edge_test T s (at T (3 * k + (i + 1) % 3)) (at T (3 * k + (i + 2) % 3))) t in
        beside i s b (λ z. T_not (eqb s k) both.0 (eq→eqb s k z)) g (has_edge_test-sound T s _ _ both.1)

-- ---- the numbers of the rows reached and of their vertices, and the coarse mesh

-- k is one of the rows reached
unfoldable pub is_reached : List ℕ → ℕ → Bool
unfolding is_in
is_reached rows k = is_in k rows

-- v stands in one of them
unfoldable pub in_row_test : List ℕ → List ℕ → ℕ → Bool
unfolding some_of on_test
in_row_test W rows v = some_of (λ k. on_test W k v) rows

-- the rank of each row
unfoldable pub row_ranks : List ℕ → ℕ → List ℕ
unfolding tabulate count is_reached
row_ranks rows F = tabulate (count (is_reached rows)) F

-- the rank of each vertex
unfoldable pub vertex_ranks : List ℕ → List ℕ → ℕ → List ℕ
unfolding tabulate count in_row_test
vertex_ranks W rows N = tabulate (count (in_row_test W rows)) N

-- k is the row with the number j
unfoldable pub numbered_test : List ℕ → ℕ → ℕ → Bool
unfolding is_reached count
numbered_test rows j k = is_reached rows k && eqb (count (is_reached rows) k) j

-- the rows in the order of their numbers, with their vertices' numbers for entries
unfoldable pub coarse_mesh : List ℕ → List ℕ → List ℕ → ℕ → List ℕ
unfolding tabulate numbered_test first_from
coarse_mesh W rows vertex_rank F =
    tabulate (λ c. at vertex_rank (at W (3 * first_from (numbered_test rows (c / 3)) 0 F + c % 3)))
    (3 * count (is_reached rows) F)

-- ---- the maps

-- corner c is that of a reached row's triangle, and v stands there
unfoldable pub stands_test : List ℕ → List ℕ → ℕ → ℕ → Bool
unfolding is_reached
stands_test T rows v c = is_reached rows (c / 3) && eqb (at T c) v

-- the number of a vertex between: that of the half-edge of the first such corner
unfoldable pub between_number : List ℕ → List ℕ → List ℕ → ℕ → List ℕ → ℕ → ℕ
unfolding stands_test edge_no is_first first_on same_edge count first_from
between_number T rows rank M C v =
    let c : ℕ = first_from (stands_test T rows v) 0 (length T) in
    edge_no M C (3 * at rank (c / 3) + c % 3)

-- k is a reached row's triangle, and its side that ends at corner i is a side of another triangle l
unfoldable pub side_over_test : List ℕ → List ℕ → ℕ → ℕ → ℕ → Bool
unfolding is_reached has_edge_test
side_over_test T rows l k i =
    is_reached rows k && (not (eqb l k) && has_edge_test T l (at T (3 * k + (i + 2) % 3)) (at T (3 * k + i)))

-- the same of corner c of the list
unfoldable pub over_test : List ℕ → List ℕ → ℕ → ℕ → Bool
unfolding side_over_test
over_test T rows l c = side_over_test T rows l (c / 3) (c % 3)

-- the number of a triangle over a side of such a triangle, by the first such corner
unfoldable pub corner_number : List ℕ → List ℕ → List ℕ → ℕ → ℕ
unfolding over_test first_from
corner_number T rows rank l =
    let c : ℕ = first_from (over_test T rows l) 0 (length T) in
    4 * at rank (c / 3) + suc (c % 3)

-- each vertex has its rank or its number between, each triangle four times its row's number or its number at a corner
unfoldable pub vertex_numbers : ℕ → List ℕ → List ℕ → List ℕ → List ℕ → List ℕ → ℕ → List ℕ → List ℕ
unfolding tabulate in_row_test between_number
vertex_numbers N T W rows vertex_rank rank M C =
    tabulate (λ v. cond (in_row_test W rows v) (at vertex_rank v) (between_number T rows rank M C v)) N

unfoldable pub triangle_numbers : List ℕ → List ℕ → List ℕ → List ℕ
unfolding tabulate is_reached corner_number
triangle_numbers T rows rank =
    tabulate (λ l. cond (is_reached rows l) (4 * at rank l) (corner_number T rows rank l)) (triangles T)

-- the reading made from the rows reached
unfoldable pub reading_from : ℕ → List ℕ → List ℕ → List ℕ → Reading
unfolding vertex_ranks row_ranks coarse_mesh vertex_numbers triangle_numbers
reading_from N T W rows =
    let vertex_rank : List ℕ = vertex_ranks W rows N in
    let rank : List ℕ = row_ranks rows (triangles T) in
    let M : ℕ = count (in_row_test W rows) N in
    let C : List ℕ = coarse_mesh W rows vertex_rank (triangles T) in
    record {
      vertices = M;
      mesh = C;
      vertex_map = vertex_numbers N T W rows vertex_rank rank M C;
      triangle_map = triangle_numbers T rows rank;
    }

-- ---- where there is a returned reading, it is this one

module _ (N : ℕ) (T : List ℕ) (P : Proper N T) (W : List ℕ) (cover : Covering T W) (ρ : ℕ) (r : Reading)
    (R : Returned Same N T ρ r) (s : ℕ) (start : Centre r s) where
  rows : List ℕ
  rows = reached W s

  -- the start is a tile, since it is a centre
  search : Search N T W s
  search = record {
    proper = P;
    cover = cover;
    inside = centre-below N T P.otherwise r R.is s start;
    starts = centre-tile N T P W cover r R.is s start;
  }

  -- the tests are right
  is_reached-sound : (k : ℕ) → So (is_reached rows k) → Reach W s k
  unfolding is_reached rows reach_test
  is_reached-sound k t = reach_test-sound W s k t

  is_reached-complete : (k : ℕ) → Reach W s k → So (is_reached rows k)
  unfolding is_reached rows reach_test
  is_reached-complete k p = reach_test-complete W s k p

  in_row_test-sound : (v : ℕ) → So (in_row_test W rows v) → InRow W s v
  unfolding in_row_test is_reached
  in_row_test-sound v t = go (some_of-sound (λ k. on_test W k v) rows t)
    where
      go : (k : ℕ) × Member k rows × So (on_test W k v) → InRow W s v
      go (k, m, o) =
          record { row = k; reached = is_reached-sound k (is_in-complete k rows m); on = on_test-sound W k v o }

  in_row_test-complete : (v : ℕ) → InRow W s v → So (in_row_test W rows v)
  unfolding in_row_test is_reached
  in_row_test-complete v p =
      some_of-complete (λ k. on_test W k v) rows p.row
      (is_in-sound p.row rows (is_reached-complete p.row p.reached)) (on_test-complete W p.row v p.on)

  M : ℕ
  M = count (in_row_test W rows) N

  F : ℕ
  F = count (is_reached rows) (triangles T)

  rank-at : (k : ℕ) → Reach W s k → at (row_ranks rows (triangles T)) k ≡ count (is_reached rows) k
  unfolding row_ranks
  rank-at k p = tabulate-at (count (is_reached rows)) (triangles T) k (row_inside search k p)

  -- the vertices and the rows are numbered upward
  numbers-ranked : Ranked W s M F (vertex_ranks W rows N) (row_ranks rows (triangles T))
  unfolding M F vertex_ranks row_ranks
  numbers-ranked = record {
    vertices = count-ranks (in_row_test W rows) N (λ v p. (in_row-below search v p, in_row_test-complete v p))
        (λ v _. in_row_test-sound v) (tabulate-at (count (in_row_test W rows)) N);
    rows = count-ranks (is_reached rows) (triangles T) (λ k p. (row_inside search k p, is_reached-complete k p))
        (λ k _. is_reached-sound k) (tabulate-at (count (is_reached rows)) (triangles T));
  }

  vertex_rank : List ℕ
  vertex_rank = vertex_ranks W rows N

  rank : List ℕ
  rank = row_ranks rows (triangles T)

  C : List ℕ
  C = coarse_mesh W rows vertex_rank (triangles T)

  -- the row with the number of k is k
  numbered : (k : ℕ) → Reach W s k → first_from (numbered_test rows (at rank k)) 0 (triangles T) ≡ k
  unfolding numbered_test rank
  numbered k p =
      found (first_found (numbered_test rows (at rank k)) (triangles T) k (row_inside search k p)
      (and-complete (is_reached rows k) (eqb (count (is_reached rows) k) (at rank k)) (is_reached-complete k p)
      (eq→eqb (count (is_reached rows) k) (at rank k) (sym (rank-at k p))))).1
    where
      l : ℕ
      l = first_from (numbered_test rows (at rank k)) 0 (triangles T)

      found : So (numbered_test rows (at rank k) l) → l ≡ k
      found t =
          let both = and_sound (is_reached rows l) (eqb (count (is_reached rows) l) (at rank k)) t in
          count-injective (is_reached rows) l k both.0 (is_reached-complete k p)
          (eqb→eq (count (is_reached rows) l) (at rank k) both.1 ∙ rank-at k p)

  coarse-length : length C ≡ 3 * F
  unfolding C coarse_mesh F
  coarse-length = tabulate-length _ (3 * count (is_reached rows) (triangles T))

  -- the coarse mesh is built
  mesh-built : Built W s M C vertex_rank rank
  unfolding C coarse_mesh F vertex_rank rank
  mesh-built = record {
    ranked = subst (λ F. Ranked W s M F vertex_rank rank) (omega (arith, coarse-length)) numbers-ranked;
    whole = omega (arith, coarse-length);
    rows = row;
  }
    where
      row : (k i : ℕ) → Reach W s k → i < 3 → at C (3 * at rank k + i) ≡ at vertex_rank (at W (3 * k + i))
      row k i p b =
          let c : ℕ = 3 * at rank k + i in
          let own_row : c / 3 ≡ at rank k = omega arith in
          let own-place : c % 3 ≡ i = omega arith in
          tabulate-at _ (3 * F) c (omega (arith, numbers-ranked.rows.below k p))
          ∙ ap₂ (λ j h. at vertex_rank (at W (3 * first_from (numbered_test rows j) 0 (triangles T) + h)))
          own_row own-place
          ∙ ap (λ l. at vertex_rank (at W (3 * l + i))) (numbered k p)

  vertex_map : List ℕ
  vertex_map = vertex_numbers N T W rows vertex_rank rank M C

  triangle_map : List ℕ
  triangle_map = triangle_numbers T rows rank

  -- corner i of a reached row's triangle is numbered as the reading numbers it
  reading-between : (k i : ℕ) → Reach W s k → i < 3
      → at r.vertex_map (at T (3 * k + i)) ≡ edge_no M C (3 * at rank k + i)
  reading-between = built-between N T P W cover ρ r R s start M C vertex_rank rank mesh-built

  -- and the triangle over its side
  reading-corner : (k i l : ℕ) → Reach W s k → i < 3 → l ≢ k
      → HasEdge T l (at T (3 * k + (i + 2) % 3)) (at T (3 * k + i)) → at r.triangle_map l ≡ 4 * at rank k + suc i
  reading-corner = built-corner N T P W cover ρ r R s start M C vertex_rank rank mesh-built

  reach-centre : (k : ℕ) → Reach W s k → Centre r k
  reach-centre k = reached-centre N T P W cover r R.is s k start

  -- a vertex of a reached row has its rank
  map-kept : (v : ℕ) → InRow W s v → at vertex_map v ≡ at vertex_rank v
  unfolding vertex_map vertex_numbers
  map-kept v p =
      tabulate-at (λ v. cond (in_row_test W rows v) (at vertex_rank v) (between_number T rows rank M C v)) N v
      (in_row-below search v p)
      ∙ taken (at vertex_rank v) (between_number T rows rank M C v) (in_row_test W rows v) (in_row_test-complete v p)

  -- a corner of a reached row's triangle is in no reached row
  corner-not-in-row : (k v : ℕ) → Reach W s k → On T k v → InRow W s v → ⊥
  corner-not-in-row k v p o q =
      not-both N T P.otherwise r R.is v (row_kept N T P W cover r R.is s v start q)
      (centre-between N T P.otherwise r R.is k v (reach-centre k p) o)

  -- and has the number that the reading gives it
  between-number : (k v : ℕ) → Reach W s k → On T k v → between_number T rows rank M C v ≡ at r.vertex_map v
  unfolding between_number stands_test
  between-number k v p o =
      found (first_found (stands_test T rows v) (length T) o.corner o.inside
      (and-complete (is_reached rows (o.corner / 3)) (eqb (at T o.corner) v)
      (is_reached-complete (o.corner / 3) (rw o.triangle p)) (eq→eqb (at T o.corner) v o.holds))).1
    where
      c : ℕ
      c = first_from (stands_test T rows v) 0 (length T)

      found : So (stands_test T rows v c) → edge_no M C (3 * at rank (c / 3) + c % 3) ≡ at r.vertex_map v
      found t =
          let both = and_sound (is_reached rows (c / 3)) (eqb (at T c) v) t in
          let place : 3 * (c / 3) + c % 3 ≡ c = omega arith in
          sym (reading-between (c / 3) (c % 3) (is_reached-sound (c / 3) both.0) (omega arith))
          ∙ ap (at r.vertex_map) (ap (at T) place ∙ eqb→eq (at T c) v both.1)

  map-between : (k i : ℕ) → Reach W s k → i < 3
      → at vertex_map (at T (3 * k + i)) ≡ edge_no M C (3 * at rank k + i)
  unfolding vertex_map vertex_numbers
  map-between k i p b =
      let v : ℕ = at T (3 * k + i) in
      tabulate-at (λ v. cond (in_row_test W rows v) (at vertex_rank v) (between_number T rows rank M C v)) N v
      (on-vertex P.otherwise here)
      ∙ left (at vertex_rank v) (between_number T rows rank M C v) (in_row_test W rows v)
      (λ t. corner-not-in-row k v p here (in_row_test-sound v t))
      ∙ between-number k v p here ∙ reading-between k i p b
    where
      here : On T k (at T (3 * k + i))
      here = corner-on P.otherwise k i (row_inside search k p) b

  -- a reached row's triangle has four times the row's number
  map-centres : (k : ℕ) → Reach W s k → at triangle_map k ≡ 4 * at rank k
  unfolding triangle_map triangle_numbers
  map-centres k p =
      tabulate-at (λ l. cond (is_reached rows l) (4 * at rank l) (corner_number T rows rank l)) (triangles T) k
      (row_inside search k p)
      ∙ taken (4 * at rank k) (corner_number T rows rank k) (is_reached rows k) (is_reached-complete k p)

  -- and a triangle over its side the number that the reading gives it
  corner-number : (k i l : ℕ) → Reach W s k → i < 3 → l ≢ k
      → HasEdge T l (at T (3 * k + (i + 2) % 3)) (at T (3 * k + i)) → corner_number T rows rank l ≡ at r.triangle_map l
  unfolding corner_number over_test side_over_test
  corner-number k i l p b n h =
      found (first_found (over_test T rows l) (length T) (3 * k + i)
      (omega (arith, P.otherwise.whole, row_inside search k p))
      (subst₂ (λ m j. So (side_over_test T rows l m j)) (omega arith) (omega arith)
      (and₃-complete (is_reached rows k) (not (eqb l k))
      (has_edge_test T l (at T (3 * k + (i + 2) % 3)) (at T (3 * k + i))) (is_reached-complete k p)
      (not_T (eqb l k) (λ t. n (eqb→eq l k t))) (has_edge_test-complete T l _ _ h)))).1
    where
      c : ℕ
      c = first_from (over_test T rows l) 0 (length T)

      found : So (over_test T rows l c) → 4 * at rank (c / 3) + suc (c % 3) ≡ at r.triangle_map l
      found t =
          let all = and₃-sound (is_reached rows (c / 3)) (not (eqb l (c / 3)))
          (has_edge_test T l (at T (3 * (c / 3) + (c % 3 + 2) % 3)) (at T (3 * (c / 3) + c % 3))) t in
          sym (reading-corner (c / 3) (c % 3) l (is_reached-sound (c / 3) all.0) (omega arith)
          (λ e. T_not (eqb l (c / 3)) all.1 (eq→eqb l (c / 3) e))
          (has_edge_test-sound T l (at T (3 * (c / 3) + (c % 3 + 2) % 3)) (at T (3 * (c / 3) + c % 3)) all.2))

  map-corners : (k i l : ℕ) → Reach W s k → i < 3 → l ≢ k
      → HasEdge T l (at T (3 * k + (i + 2) % 3)) (at T (3 * k + i)) → at triangle_map l ≡ 4 * at rank k + suc i
  unfolding triangle_map triangle_numbers
  map-corners k i l p b n h =
      tabulate-at (λ l. cond (is_reached rows l) (4 * at rank l) (corner_number T rows rank l)) (triangles T) l
      (on-triangle P.otherwise h.one_end)
      ∙ left (4 * at rank l) (corner_number T rows rank l) (is_reached rows l) unreached
      ∙ corner-number k i l p b n h ∙ reading-corner k i l p b n h
    where
      unreached : So (is_reached rows l) → ⊥
      unreached t =
          (beside-centre N T P.otherwise r R.is k l _ _ (reach-centre k p)
          (side-to P.otherwise k i (row_inside search k p) b) h n).0 (reach-centre l (is_reached-sound l t))

  -- the maps are the reading's
  same-vertex_map : vertex_map ≡ r.vertex_map
  unfolding vertex_map vertex_numbers
  same-vertex_map =
      ext_get_or 0 vertex_map r.vertex_map (long ∙ sym R.is.matched.vertices.long)
      (λ v l. found-vertices N T P W cover ρ r R s start M C vertex_rank rank mesh-built vertex_map map-kept map-between v
      (omega (arith, long)))
    where
      long : length vertex_map ≡ N
      long = tabulate-length _ N

  same-triangle_map : triangle_map ≡ r.triangle_map
  unfolding triangle_map triangle_numbers
  same-triangle_map =
      ext_get_or 0 triangle_map r.triangle_map (long ∙ sym R.is.matched.faces.long)
      (λ k l. found-triangles N T P W cover ρ r R s start M C vertex_rank rank mesh-built triangle_map map-centres
      map-corners k (omega (arith, long)))
    where
      long : length triangle_map ≡ triangles T
      long = tabulate-length _ (triangles T)

  -- so the reading is this one
  reading-is : reading_from N T W (reached W s) ≡ r
  unfolding reading_from rows vertex_rank rank M C vertex_map triangle_map
  reading-is =
      joined (ranked-vertices N T P W cover ρ r R s start M (triangles C) vertex_rank rank mesh-built.ranked)
      (built-mesh N T P W cover ρ r R s start M C vertex_rank rank mesh-built) same-vertex_map same-triangle_map
    where
      joined : {m n : ℕ} {A B f g h j : List ℕ} → m ≡ n → A ≡ B → f ≡ g → h ≡ j
          → Path Reading (record { vertices = m; mesh = A; vertex_map = f; triangle_map = h })
          (record { vertices = n; mesh = B; vertex_map = g; triangle_map = j })
      joined a b c d = cc

-- ---- whether a role has a reading

-- what an undo in a role of triangle 0 builds
unfoldable pub undoing : ℕ → List ℕ → ℕ → Reading
unfolding covering reached start_of reading_from
undoing N T ρ =
    let W : List ℕ = covering N T in
    reading_from N T W (reached W (start_of T 0 ρ))

-- where the role has a returned reading, it is this
pub returned-undoing : (N : ℕ) (T : List ℕ) → Proper N T → {agree : Agreement} → Implies agree → (ρ : ℕ) (r : Reading)
    → Returned agree N T ρ r → undoing N T ρ ≡ r
unfolding undoing
returned-undoing N T P I ρ r R = go (start-exists N T P W cover r S.is 0 ρ R.in_role)
  where
    S : Returned Same N T ρ r
    S = returned-same I R

    W : List ℕ
    W = covering N T

    cover : Covering T W
    cover = covering-is N T P.otherwise

    go : (s : ℕ) × Start T 0 ρ s → undoing N T ρ ≡ r
    go (s, start) = reading-is N T P W cover ρ r S (start_of T 0 ρ)
        (start-centre N T P W cover r S.is 0 ρ _ R.in_role (start-found P.otherwise start))

-- whether it is one
unfoldable pub reading_in_test : AgreementTest → ℕ → List ℕ → ℕ → Bool
unfolding undoing returned_test
reading_in_test test N T ρ = returned_test test N T ρ (undoing N T ρ)

module _ {agree : Agreement} {test : AgreementTest} (D : Decides agree test) where
  -- then it is the returned one
  pub reading_in_test-sound : (N : ℕ) (T : List ℕ) (ρ : ℕ) → So (reading_in_test test N T ρ)
      → Returned agree N T ρ (undoing N T ρ)
  unfolding reading_in_test
  reading_in_test-sound N T ρ t = returned_test-sound D N T ρ (undoing N T ρ) t

  module _ (A : Lawful agree) where
    pub reading_in_test-complete : (N : ℕ) (T : List ℕ) (ρ : ℕ) → Proper N T → ReadingIn agree N T ρ
        → So (reading_in_test test N T ρ)
    unfolding reading_in_test
    reading_in_test-complete N T ρ P R = go (returned-exists N T P A ρ R)
      where
        go : (r : Reading) × Returned agree N T ρ r → So (returned_test test N T ρ (undoing N T ρ))
        go (r, S) = returned_test-complete D N T ρ (undoing N T ρ)
            (subst (Returned agree N T ρ) (sym (returned-undoing N T P A.implies ρ r S)) S)

    unfoldable pub reading_in? : (N : ℕ) (T : List ℕ) (ρ : ℕ) → Proper N T → Dec (ReadingIn agree N T ρ)
    unfolding reading_in_test
    reading_in? N T ρ P = decided (reading_in_test test N T ρ) (λ t. returned-in (reading_in_test-sound N T ρ t))
        (reading_in_test-complete N T ρ P)
