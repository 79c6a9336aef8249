-- Agreement up to rotation of corners is lawful: it is carried along by matches and by splittings, and the rows of a
-- returned reading keep it.
use Prim.Native.Nat.{ℕ, zero, suc, ◌+◌, ◌*◌, ◌-◌, ◌/◌, ◌%◌, ◌≤◌, ◌<◌}
use native.Mathlib.Omega.{arith}
use mathlib.Core.Path.{◌≡◌, refl, sym, ap, ◌∙◌, subst₂}
use mathlib.Core.Logic.{◌≢◌}
use mathlib.Core.List.{List}
use lib.ListN.{length}
use Rattle.theory.specs.Mesh.{at, triangles, HasEdge, Same, Rotated, OtherwiseProper}
use Rattle.theory.specs.Splitting.{next, edge_no, split}
use Rattle.theory.specs.Reading.{renamed, Reading, IsReading, Kept, Centre}
use Rattle.theory.proofs.Corners.{before}
use Rattle.theory.proofs.Mesh.{on-place, across-edge}
use Rattle.theory.proofs.Agreement.{Implies, reading-same}
use Rattle.theory.proofs.Renaming.{renamed-at, renamed-length}
use Rattle.theory.proofs.Splitting.{split-length, edge_no-below}
use Rattle.theory.proofs.Splitting.{split-centre, split-corner, split-leaving, split-entering}
use Rattle.theory.proofs.Heart.{CoarseOn, coarse-on, EdgeOn, edge_on, edge_no-within}
use Rattle.theory.proofs.Carried.{Carrying, to_coarse, to_edge, TriangleTo, to_centre, to_corner}
use Rattle.theory.proofs.Carried.{vertices, faces, vertex_to-one}
use Rattle.theory.proofs.Centres.{coarse_of, splitting, centre-below, centre-between, on-there, beside-centre}
use Rattle.theory.proofs.Rows.{Opposite, edge_at, opposite-exists}
use Rattle.theory.proofs.Lawful.{Lawful}

-- ---- turns, counted modulo 3

-- what is left of the round, and the turn, are no turn
back-turn : (i by : ℕ) → i < 3 → by < 3 → ((i + (3 - by)) % 3 + by) % 3 ≡ i
back-turn i by a b = omega arith

-- what is left of the round is a turn
turn-back : (i by : ℕ) → i < 3 → by < 3 → (i + (3 - by)) % 3 ≡ (i + (3 - by) % 3) % 3
turn-back i by a b = omega arith

-- a sum may be taken modulo 3 first
mod-left : (x b : ℕ) → (x % 3 + b) % 3 ≡ (x + b) % 3
mod-left x b = omega arith

mod-right : (i y : ℕ) → (i + y % 3) % 3 ≡ (i + y) % 3
mod-right i y = omega arith

-- two turns one after the other are one
both-turns : (i a b : ℕ) → ((i + a) % 3 + b) % 3 ≡ (i + (a + b) % 3) % 3
both-turns i a b = mod-left (i + a) b ∙ ap (λ x. x % 3) (together i a b) ∙ sym (mod-right i (a + b))
  where
    together : (i a b : ℕ) → i + a + b ≡ i + (a + b)
    together i a b = omega arith

-- ---- the agreement by itself

module _ {T : List ℕ} {k : ℕ} {S : List ℕ} {l : ℕ} (t : Rotated T k S l) where
  -- each corner of the second triangle stands at one of the first
  from : (i : ℕ) → i < 3 → at T (3 * k + (i + (3 - t.by)) % 3) ≡ at S (3 * l + i)
  from i b = t.corners ((i + (3 - t.by)) % 3) (omega arith)
      ∙ ap (λ j. at S (3 * l + j)) (back-turn i t.by b t.few)

  -- so they have the same three vertices
  rotated-same : Same T k S l
  rotated-same = record {
    there = λ v o. record {
      corner = 3 * l + (o.corner % 3 + t.by) % 3;
      inside = omega (arith, t.other_inside);
      triangle = omega arith;
      holds = sym (t.corners (o.corner % 3) (omega arith)) ∙ on-place o;
    };
    back = λ v o. record {
      corner = 3 * k + (o.corner % 3 + (3 - t.by)) % 3;
      inside = omega (arith, t.inside);
      triangle = omega arith;
      holds = from (o.corner % 3) (omega arith) ∙ on-place o;
    };
  }

  -- the second is the first rotated
  rotated-sym : Rotated S l T k
  rotated-sym = record {
    by = (3 - t.by) % 3;
    few = omega arith;
    inside = t.other_inside;
    other_inside = t.inside;
    corners = λ i b. sym (from i b) ∙ ap (λ j. at T (3 * k + j)) (turn-back i t.by b t.few);
  }

  -- rotations follow one another
  rotated-trans : {U : List ℕ} {m : ℕ} → Rotated S l U m → Rotated T k U m
  rotated-trans {U} {m} u = record {
    by = (t.by + u.by) % 3;
    few = omega arith;
    inside = t.inside;
    other_inside = u.other_inside;
    corners = λ i b. t.corners i b ∙ u.corners ((i + t.by) % 3) (omega arith)
        ∙ ap (λ j. at U (3 * m + j)) (both-turns i t.by u.by);
  }

  -- and stay when both lists are renamed
  rotated-renamed : (f : List ℕ) → Rotated (renamed f T) k (renamed f S) l
  rotated-renamed f = record {
    by = t.by;
    few = t.few;
    inside = rw (renamed-length f T) t.inside;
    other_inside = rw (renamed-length f S) t.other_inside;
    corners = λ i b. renamed-at f T (3 * k + i) (omega (arith, t.inside)) ∙ ap (at f) (t.corners i b)
        ∙ sym (renamed-at f S (3 * l + (i + t.by) % 3) (omega (arith, t.other_inside)));
  }

-- ---- splittings

-- the corner after corner m of triangle x
next-at : (x m : ℕ) → m < 3 → next (3 * x + m) ≡ 3 * x + (m + 1) % 3
next-at x m b = omega arith

-- one corner back, a turn, and one on again are the turn
round-turn : (i by : ℕ) → (((i + 2) % 3 + by) % 3 + 1) % 3 ≡ (i + by) % 3
round-turn i by = mod-left ((i + 2) % 3 + by) 1 ∙ ap (λ x. x % 3) (first ((i + 2) % 3) by) ∙ mod-left (i + 2) (by + 1)
    ∙ last i by
  where
    first : (x y : ℕ) → x + y + 1 ≡ x + (y + 1)
    first x y = omega arith

    last : (x y : ℕ) → (x + 2 + (y + 1)) % 3 ≡ (x + y) % 3
    last x y = omega arith

-- so the half-edge that ends at a turned corner ends there
half-turn : (x i by : ℕ) → next (3 * x + ((i + 2) % 3 + by) % 3) ≡ 3 * x + (i + by) % 3
half-turn x i by = next-at x (((i + 2) % 3 + by) % 3) (omega arith) ∙ ap (λ m. 3 * x + m) (round-turn i by)

-- one corner back and a turn are the turn and one corner back
entering-turn : (m by : ℕ) → ((m + 2) % 3 + by) % 3 ≡ ((m + by) % 3 + 2) % 3
entering-turn m by = mod-left (m + 2) by ∙ ap (λ x. x % 3) (swap m by) ∙ sym (mod-left (m + by) 2)
  where
    swap : (m by : ℕ) → m + 2 + by ≡ m + by + 2
    swap m by = omega arith

module _ {f g κ : List ℕ} {M : ℕ} {C : List ℕ} {M' : ℕ} {C' : List ℕ} (K : Carrying f g κ M C M' C')
    (agreed : (k : ℕ) → k < triangles C → Rotated (renamed f C) k C' (at g k)) where
  -- where the vertices of the splitting go
  abbrev F : List ℕ
  F = (vertices K).list

  module _ (j : ℕ) (l : j < triangles C) where
    -- how far coarse triangle j is turned
    abbrev d : ℕ
    d = (agreed j l).by

    -- and where it goes
    abbrev j' : ℕ
    j' = at g j

    l' : j' < triangles C'
    l' = K.matched.faces.below j l

    d< : d < 3
    d< = (agreed j l).few

    -- its corners go where the turn says
    κ-rotated : (i : ℕ) → i < 3 → at κ (3 * j + i) ≡ 3 * j' + (i + d) % 3
    κ-rotated i b =
        let c : 3 * j + i < length C = omega (arith, K.source.whole) in
        let own : (3 * j + i) / 3 ≡ j = omega arith in
        let there : j' ≡ (3 * j' + (i + d) % 3) / 3 = omega arith in
        K.target.different (at κ (3 * j + i)) (3 * j' + (i + d) % 3) (K.related (3 * j + i) c).inside
        (omega (arith, (agreed j l).other_inside)) ((K.related (3 * j + i) c).triangle ∙ ap (at g) own ∙ there)
        ((K.related (3 * j + i) c).holds ∙ sym (renamed-at f C (3 * j + i) c) ∙ (agreed j l).corners i b)

    -- the new vertices on its edges too
    edge-rotated : (i : ℕ) → i < 3 → at F (edge_no M C (3 * j + i)) ≡ edge_no M' C' (3 * j' + (i + d) % 3)
    edge-rotated i b =
        let h : 3 * j + i < length C = omega (arith, K.source.whole) in
        let back : before (3 * j + i) ≡ 3 * j + (i + 2) % 3 = omega arith in
        vertex_to-one K (edge_no M C (3 * j + i)) _ _
        ((vertices K).related (edge_no M C (3 * j + i)) (edge_no-below M C (3 * j + i) h))
        (to_edge (3 * j + i) h refl refl)
        ∙ ap (edge_no M' C') (ap next (ap (at κ) back ∙ κ-rotated ((i + 2) % 3) (omega arith)) ∙ half-turn j' i d)

    -- and its own vertices
    coarse-rotated : (i : ℕ) → i < 3 → at F (at C (3 * j + i)) ≡ at C' (3 * j' + (i + d) % 3)
    coarse-rotated i b =
        let h : 3 * j + i < length C = omega (arith, K.source.whole) in
        vertex_to-one K (at C (3 * j + i)) _ _
        ((vertices K).related (at C (3 * j + i)) (omega (arith, K.source.below (3 * j + i) h)))
        (to_coarse (K.source.below (3 * j + i) h) refl)
        ∙ sym (renamed-at f C (3 * j + i) h) ∙ (agreed j l).corners i b

    -- the entries of the renamed splitting
    in_split : (c : ℕ) → c < 12 * triangles C → at (renamed F (split M C)) c ≡ at F (at (split M C) c)
    in_split c b = renamed-at F (split M C) c (omega (arith, split-length M C))

    -- so the centre is turned as far
    centre-rotated : Rotated (renamed F (split M C)) (4 * j) (split M' C') (4 * j')
    centre-rotated = record {
      by = d;
      few = d<;
      inside = rw (renamed-length F (split M C)) (omega (arith, split-length M C));
      other_inside = omega (arith, split-length M' C', l');
      corners = λ i b.
          let p : 3 * (4 * j) + i ≡ 12 * j + i = omega arith in
          let q : 12 * j' + (i + d) % 3 ≡ 3 * (4 * j') + (i + d) % 3 = omega arith in
          ap (at (renamed F (split M C))) p ∙ in_split (12 * j + i) (omega arith)
          ∙ ap (at F) (split-centre M C j i l b) ∙ edge-rotated i b
          ∙ sym (split-centre M' C' j' ((i + d) % 3) l' (omega arith)) ∙ ap (at (split M' C')) q;
    }

    -- and a corner triangle stands at another corner, and is not turned itself
    corner-rotated : (m : ℕ) → m < 3
        → Rotated (renamed F (split M C)) (4 * j + suc m) (split M' C') (4 * j' + suc ((m + d) % 3))
    corner-rotated m b = record {
      by = 0;
      few = omega arith;
      inside = rw (renamed-length F (split M C)) (omega (arith, split-length M C));
      other_inside = omega (arith, split-length M' C', l');
      corners = entry;
    }
      where
        n : ℕ
        n = (m + d) % 3

        n< : n < 3
        n< = omega arith

        placed : (i x : ℕ) → i < 3
            → at F (at (split M C) (12 * j + (3 * m + x))) ≡ at (split M' C') (12 * j' + (3 * n + x))
            → x ≡ 3 + i → at (renamed F (split M C)) (3 * (4 * j + suc m) + i)
            ≡ at (split M' C') (3 * (4 * j' + suc n) + (i + 0) % 3)
        placed i x a e z =
            let p : 3 * (4 * j + suc m) + i ≡ 12 * j + (3 * m + x) = omega arith in
            let q : 12 * j' + (3 * n + x) ≡ 3 * (4 * j' + suc n) + (i + 0) % 3 = omega arith in
            ap (at (renamed F (split M C))) p ∙ in_split (12 * j + (3 * m + x)) (omega arith) ∙ e
            ∙ ap (at (split M' C')) q

        entry : (i : ℕ) → i < 3 → at (renamed F (split M C)) (3 * (4 * j + suc m) + i)
            ≡ at (split M' C') (3 * (4 * j' + suc n) + (i + 0) % 3)
        entry zero a = placed 0 3 a (ap (at F) (split-corner M C j m l b) ∙ coarse-rotated m b
            ∙ sym (split-corner M' C' j' n l' n<)) refl
        entry (suc zero) a = placed 1 4 a (ap (at F) (split-leaving M C j m l b) ∙ edge-rotated m b
            ∙ sym (split-leaving M' C' j' n l' n<)) refl
        entry (suc (suc zero)) a = placed 2 5 a (ap (at F) (split-entering M C j m l b)
            ∙ edge-rotated ((m + 2) % 3) (omega arith)
            ∙ ap (λ e. edge_no M' C' (3 * j' + e)) (entering-turn m d)
            ∙ sym (split-entering M' C' j' n l' n<)) refl
        entry (suc (suc (suc i))) a = absurd (omega arith)

  -- so every triangle of the splitting agrees
  rotated-splits : (t : ℕ) → t < 4 * triangles C
      → Rotated (renamed (vertices K).list (split M C)) t (split M' C') (at (faces K).list t)
  rotated-splits t b = go ((faces K).related t b)
    where
      go : TriangleTo K t (at (faces K).list t)
          → Rotated (renamed (vertices K).list (split M C)) t (split M' C') (at (faces K).list t)
      go (to_centre j l p q) = subst₂ (λ x y. Rotated (renamed F (split M C)) x (split M' C') y) (sym p) (sym q)
          (centre-rotated j l)
      go (to_corner c l p q) =
          let j< : c / 3 < triangles C = omega (arith, K.source.whole) in
          let place : c ≡ 3 * (c / 3) + c % 3 = omega arith in
          let to : at κ c ≡ 3 * at g (c / 3) + (c % 3 + (agreed (c / 3) j<).by) % 3 =
          ap (at κ) place ∙ κ-rotated (c / 3) j< (c % 3) (omega arith) in
          subst₂ (λ x y. Rotated (renamed F (split M C)) x (split M' C') y) (sym p)
          (omega arith) (corner-rotated (c / 3) j< (c % 3) (omega arith))

-- ---- rows

-- of three places the one that is neither of two others
third-place : (m a : ℕ) → m < 3 → a ≢ suc m % 3 → (a + 2) % 3 ≢ suc m % 3 → a < 3 → m ≡ a
third-place m a l p q r = omega arith

module _ (N : ℕ) (T : List ℕ) (P : OtherwiseProper N T) (r : Reading) (R : IsReading Rotated N T r) (k : ℕ)
    (c : Centre r k) where
  -- the reading is one by `Same`, of which the laws of readings speak
  S : IsReading Same N T r
  S = reading-same (record { same = rotated-same }) R

  -- the centre is one of the triangles
  l : k < triangles T
  l = centre-below N T P r S k c

  -- and agrees with its own of the splitting
  t : Rotated (renamed r.vertex_map T) k (splitting r) (at r.triangle_map k)
  t = R.matched.agreed k l

  -- corner i of the centre is on half-edge i + by
  between-rotated : (i : ℕ) → i < 3 → at r.vertex_map (at T (3 * k + i))
      ≡ edge_no r.vertices r.mesh (3 * coarse_of r k + (i + t.by) % 3)
  between-rotated i b =
      let four : 3 * at r.triangle_map k + (i + t.by) % 3 ≡ 12 * coarse_of r k + (i + t.by) % 3 =
      omega (arith, c.fourth) in
      sym (renamed-at r.vertex_map T (3 * k + i) (omega (arith, P.whole, l))) ∙ t.corners i b
      ∙ ap (at (splitting r)) four
      ∙ split-centre r.vertices r.mesh (coarse_of r k) ((i + t.by) % 3)
      (omega (arith, t.other_inside, split-length r.vertices r.mesh)) (omega arith)

  -- so the vertex opposite is at coarse corner i + by
  opposite-rotated : (i w : ℕ) → i < 3 → Kept r w → Opposite T k i w
      → at r.mesh (3 * coarse_of r k + (i + t.by) % 3) ≡ at r.vertex_map w
  opposite-rotated i w b p a =
      go (coarse-on r.vertices r.mesh R.proper.otherwise x (at r.vertex_map w) p.coarse
      (on-there N T P r S a.other w a.has_w))
      (edge_on r.vertices r.mesh R.proper.otherwise x _ (between ((i + 2) % 3) (omega arith))
      (on-there N T P r S a.other _ a.has_u))
      (edge_on r.vertices r.mesh R.proper.otherwise x _ (between i b)
      (on-there N T P r S a.other _ a.has_v))
    where
      x : ℕ
      x = at r.triangle_map a.other

      e : HasEdge T k (at T (3 * k + (i + 2) % 3)) (at T (3 * k + i))
      e = edge_at N T P r S k i c b

      four : x / 4 ≡ coarse_of r k
      four = (beside-centre N T P r S k a.other _ _ c e (across-edge e.differ a) a.another).1

      between : (m : ℕ) → m < 3 → r.vertices ≤ at r.vertex_map (at T (3 * k + m))
      between m d = (centre-between N T P r S k (at T (3 * k + m)) c
          (record {
            corner = 3 * k + m;
            inside = omega (arith, P.whole, l);
            triangle = omega arith;
            holds = refl;
          })).new

      half : (m : ℕ) → m < 3 → (h : EdgeOn r.vertices r.mesh x (at r.vertex_map (at T (3 * k + m))))
          → h.half ≡ 3 * coarse_of r k + (m + t.by) % 3
      half m d h = edge_no-within r.vertices r.mesh R.proper.otherwise h.half _ h.inside
          (omega (arith, R.proper.otherwise.whole, t.other_inside, split-length r.vertices r.mesh, c.fourth))
          (h.within ∙ four ∙ omega arith) (h.number ∙ between-rotated m d)

      go : CoarseOn r.mesh x (at r.vertex_map w)
          → EdgeOn r.vertices r.mesh x (at r.vertex_map (at T (3 * k + (i + 2) % 3)))
          → EdgeOn r.vertices r.mesh x (at r.vertex_map (at T (3 * k + i)))
          → at r.mesh (3 * coarse_of r k + (i + t.by) % 3) ≡ at r.vertex_map w
      go q u v = ap (at r.mesh) place ∙ q.holds
        where
          some : x % 4 ≢ 0
          some z = omega (arith, q.place)

          low : (i + t.by) % 3 ≢ x % 4 % 3
          low z = v.present some (at_place i b v ∙ z)
            where
              at_place : (m : ℕ) → m < 3 → (h : EdgeOn r.vertices r.mesh x (at r.vertex_map (at T (3 * k + m))))
                  → h.half % 3 ≡ (m + t.by) % 3
              at_place m d h = ap (λ y. y % 3) (half m d h) ∙ omega arith

          high : ((i + 2) % 3 + t.by) % 3 ≢ x % 4 % 3
          high z = u.present some (ap (λ y. y % 3) (half ((i + 2) % 3) (omega arith) u) ∙ omega arith ∙ z)

          index : q.corner % 3 ≡ (i + t.by) % 3
          index = third-place (q.corner % 3) ((i + t.by) % 3) (omega arith)
              (λ z. low (z ∙ ap (λ y. y % 3) q.place))
              (λ z. high (entering-turn i t.by ∙ z ∙ ap (λ y. y % 3) q.place)) (omega arith)

          place : 3 * coarse_of r k + (i + t.by) % 3 ≡ q.corner
          place = omega (arith, four, q.within, index)

  -- so a triangle that has the new numbers of the opposite vertices is the coarse triangle rotated
  rotated-rows : (f U : List ℕ) (m : ℕ) → 3 * m + 2 < length U
      → ((i w : ℕ) → i < 3 → Kept r w → Opposite T k i w → at U (3 * m + i) ≡ at f (at r.vertex_map w))
      → Rotated U m (renamed f r.mesh) (coarse_of r k)
  rotated-rows f U m inside row = record {
    by = t.by;
    few = t.few;
    inside = inside;
    other_inside = rw (renamed-length f r.mesh) (below 2 (omega arith));
    corners = λ i b. entry i b (opposite-exists N T P r S k i c b);
  }
    where
      below : (i : ℕ) → i < 3 → 3 * coarse_of r k + i < length r.mesh
      below i b = omega (
        arith,
        R.proper.otherwise.whole,
        t.other_inside,
        split-length r.vertices r.mesh,
        c.fourth,
      )

      entry : (i : ℕ) → i < 3 → (w : ℕ) × Kept r w × Opposite T k i w
          → at U (3 * m + i) ≡ at (renamed f r.mesh) (3 * coarse_of r k + (i + t.by) % 3)
      entry i b (w, p, o) = row i w b p o ∙ ap (at f) (sym (opposite-rotated i w b p o))
          ∙ sym (renamed-at f r.mesh (3 * coarse_of r k + (i + t.by) % 3) (below _ (omega arith)))

-- triangles that agree up to rotation of corners have the same three vertices
pub rotated-implies : Implies Rotated
rotated-implies = record { same = rotated-same }

-- and so this agreement is carried along as "the same three vertices" is
pub rotated-lawful : Lawful Rotated
rotated-lawful = record {
  implies = rotated-implies;
  reflexive = λ T k l. record {
    by = 0;
    few = omega arith;
    inside = omega arith;
    other_inside = omega arith;
    corners = λ i b. ap (λ j. at T (3 * k + j)) (omega arith);
  };
  symmetric = rotated-sym;
  transitive = λ t u. rotated-trans t u;
  renames = λ f t. rotated-renamed t f;
  splits = rotated-splits;
  rows = λ N T P r R f S k t c inside row. rotated-sym (rotated-rows N T P r R k c f S t inside row);
}
