-- Carrying a splitting along: where one proper mesh is matched onto another, so are their splittings; coarse vertices
-- go where they went, vertices between to vertices between, and the four of a triangle to the four of its match, the
-- centre to the centre. The way is over the corners: a match of meshes matches their corners, and a half-edge goes
-- with the corner that it misses. And a match carries properness along. All of this rests on "the same three vertices"
-- alone; that the triangles of the splittings agree as those of the meshes do is asked of each agreement (`Lawful`).
use Prim.Native.Nat.{ℕ, suc, ◌+◌, ◌*◌, ◌/◌, ◌%◌, ◌-◌, ◌≤◌, ◌<◌}
use mathlib.Core.Path.{◌≡◌, refl, sym, ap, ◌∙◌}
use mathlib.Core.Logic.{◌≢◌, ◌⊎◌, inl, inr}
use mathlib.Core.List.{List}
use native.Mathlib.Decide.{ℕ_discrete, dec_lt}
use native.Mathlib.Omega.{arith}
use lib.ListN.{length}
use Rattle.theory.specs.Mesh.{at, triangles, On, HasEdge, Same, Reach, here, step, OtherwiseProper, Proper}
use Rattle.theory.specs.Splitting.{next, edges, edge_no, split}
use Rattle.theory.specs.Reading.{Agreement, Match, renamed, Matched}
use Rattle.theory.proofs.Numbering.{OneToOne, Chosen, choose}
use Rattle.theory.proofs.Corners.{corner-unique, triangle-inside, corners-onto, before, next-triangle}
use Rattle.theory.proofs.Corners.{before-triangle, next_place, next-before, before-next, Ends, next-ends}
use Rattle.theory.proofs.Mesh.{on-corner, reach-trans, reach-sym, on-triangle, on-vertex}
use Rattle.theory.proofs.Renaming.{on-renamed, renamed-on, on-match, match-on, match-on-only}
use Rattle.theory.proofs.Splitting.{SameEdge, Joins, along, against, ends-joins, joins-swap, joins-same_edge}
use Rattle.theory.proofs.Splitting.{same_edge-joins, joins-ends}
use Rattle.theory.proofs.Splitting.{edge_no-same, edge_no-injective, edge_no-above, edge_no-below, edge_no-hit}
use Rattle.theory.proofs.Splitting.{split-length, split-triangles, OnSplit, edge, coarse, on-split, split-on}
use Rattle.theory.proofs.Heart.{split_below, split-different}

-- matches of one splitting onto another that keep coarse vertices coarse and centres centres
pub record Carries (agree : Agreement) (f g : List ℕ) (M : ℕ) (C : List ℕ) (M' : ℕ) (C' : List ℕ) : Type 0 where
  pub vertex_map : List ℕ
  pub triangle_map : List ℕ
  pub matched : Matched agree vertex_map triangle_map (M + edges C) (split M C) (M' + edges C') (split M' C')
  pub coarse : (v : ℕ) → v < M → at vertex_map v ≡ at f v
  pub between : (v : ℕ) → M ≤ v → v < M + edges C → M' ≤ at vertex_map v
  pub four : (t : ℕ) → t < 4 * triangles C → at triangle_map t / 4 ≡ at g (t / 4)
  pub centre : (j : ℕ) → j < triangles C → at triangle_map (4 * j) ≡ 4 * at g j

-- ---- the four triangles that a triangle becomes

-- The triangle of the splitting at corner c.
abbrev corner_triangle : ℕ → ℕ
corner_triangle c = 4 * (c / 3) + suc (c % 3)

-- which of the four of each of n triangles t is: the centre of triangle j, or the triangle at corner c
data Fourth (n t : ℕ) : Type 0 where
  is_centre : (j : ℕ) → j < n → t ≡ 4 * j → Fourth n t
  is_corner : (c : ℕ) → c < 3 * n → t ≡ corner_triangle c → Fourth n t

-- every triangle of the splitting is one or the other
fourth : (n t : ℕ) → t < 4 * n → Fourth n t
fourth n t l = elim (ℕ_discrete (t % 4) 0) [
  | yes e ↦ is_centre (t / 4) (omega arith) (omega arith)
  | no e ↦ is_corner (3 * (t / 4) + (t % 4 - 1)) (omega arith) (omega arith)
]

-- a centre is at no corner
centre-no-corner : (j c : ℕ) → 4 * j ≢ corner_triangle c
centre-no-corner j c = omega arith

-- the triangles at two corners are two
corner_triangle-injective : (c d : ℕ) → corner_triangle c ≡ corner_triangle d → c ≡ d
corner_triangle-injective c d e = omega arith

-- the triangle at a corner stands at the corner's place, after the centre
corner_triangle-place : (c t : ℕ) → t ≡ corner_triangle c → t % 4 ≡ suc (c % 3)
corner_triangle-place c t e = omega arith

-- the triangle at corner c lacks the edge of half-edge `next c`
corner_triangle-lacks : (c t : ℕ) → t ≡ corner_triangle c → t % 4 % 3 ≡ next c % 3
corner_triangle-lacks c t e = rw (next_place c, corner_triangle-place c t e) (ap (λ i. i % 3) (omega arith))

-- a half-edge that it lacks misses c
lacked-misses : (h c t : ℕ) → t ≡ corner_triangle c → h / 3 ≡ c / 3 → h % 3 ≡ t % 4 % 3 → before h ≡ c
lacked-misses h c t p e m = ap before (corner-unique h (next c) (e ∙ sym (next-triangle c)) place) ∙ before-next c
  where
    place : h % 3 ≡ next c % 3
    place = m ∙ corner_triangle-lacks c t p

-- a half-edge that misses c is lacked
misses-lacked : (h c t : ℕ) → t ≡ corner_triangle c → before h ≡ c → h % 3 ≡ t % 4 % 3
misses-lacked h c t p e = ap (λ i. i % 3) (sym (next-before h) ∙ ap next e) ∙ sym (corner_triangle-lacks c t p)

-- ---- triangles with three different corners

-- triangle k of T has three different corners, and renamed they are on triangle l of S
module _ (f T S : List ℕ) (N n k l : ℕ) (F : Match f N n) (below : (c : ℕ) → c < length T → at T c < N)
    (different : (c d : ℕ) → c < length T → d < length T → c / 3 ≡ d / 3 → at T c ≡ at T d → c ≡ d)
    (inside : 3 * k + 2 < length T) (there : (v : ℕ) → On T k v → On S l (at f v)) where
  -- the corner of triangle k at place i, counted round
  corner-on : (i : ℕ) → On T k (at T (3 * k + i % 3))
  corner-on i = record { corner = 3 * k + i % 3; inside = omega arith; triangle = omega arith; holds = refl }

  -- where it is found in S
  found : ℕ → ℕ
  found i = (there (at T (3 * k + i % 3)) (corner-on i)).corner

  -- there S holds the match of its vertex
  found-holds : (i : ℕ) → at S (found i) ≡ at f (at T (3 * k + i % 3))
  unfolding found
  found-holds i = (there (at T (3 * k + i % 3)) (corner-on i)).holds

  -- corners that are found with the same vertex are the same
  found-apart : (i j : ℕ) → i < 3 → j < 3 → at S (found i) ≡ at S (found j) → i ≡ j
  found-apart i j a b e =
      let corner : 3 * k + i % 3 ≡ 3 * k + j % 3 = different _ _ (omega arith) (omega arith) (omega arith) vertex in
      omega arith
    where
      vertex : at T (3 * k + i % 3) ≡ at T (3 * k + j % 3)
      vertex = F.apart _ _ (below _ (omega arith)) (below _ (omega arith)) (sym (found-holds i) ∙ e ∙ found-holds j)

  -- every corner of triangle l is found
  found-onto : (y : ℕ) → y / 3 ≡ l → (i : ℕ) × (i < 3) × (found i ≡ y)
  unfolding found
  found-onto = corners-onto found l (λ i b. (there (at T (3 * k + i % 3)) (corner-on i)).triangle)
      (λ i j a b e. found-apart i j a b (ap (at S) e))

  -- so the two triangles are the same under the renaming
  three-same : Same (renamed f T) k S l
  three-same = record {
    there = λ w o. to w (renamed-on f o);
    back = λ w o. from w o (found-onto o.corner o.triangle);
  }
    where
      to : (w : ℕ) → (v : ℕ) × On T k v × (at f v ≡ w) → On S l w
      to w (v, o, e) = rw (← e) (there v o)

      from : (w : ℕ) (o : On S l w) → (i : ℕ) × (i < 3) × (found i ≡ o.corner) → On (renamed f T) k w
      from w o (i, b, e) = rw (← o.holds, ← e, found-holds i) (on-renamed f (corner-on i))

  -- and triangle l has three different corners too
  three-different : (c d : ℕ) → c / 3 ≡ l → d / 3 ≡ l → at S c ≡ at S d → c ≡ d
  three-different c d p q e = go (found-onto c p) (found-onto d q)
    where
      go : (i : ℕ) × (i < 3) × (found i ≡ c) → (j : ℕ) × (j < 3) × (found j ≡ d) → c ≡ d
      go (i, a, s) (j, b, t) = sym s ∙ ap found (found-apart i j a b (cc)) ∙ t

-- ---- what a match of meshes does to triangles and their vertices

-- corner c of C goes to corner c' of C': into the matched triangle, at the matched vertex
pub record CornerTo (f g C C' : List ℕ) (c c' : ℕ) : Type 0 where
  pub inside : c' < length C'
  pub triangle : c' / 3 ≡ at g (c / 3)
  pub holds : at C' c' ≡ at f (at C c)

module _ (f g : List ℕ) (M : ℕ) (C : List ℕ) (M' : ℕ) (C' : List ℕ)
    (P : OtherwiseProper M C) (G : Matched Same f g M C M' C') where
  -- vertices with the same match are the same
  on-apart : {j k u v : ℕ} → On C j u → On C k v → at f u ≡ at f v → u ≡ v
  on-apart {j} {k} {u} {v} o p e = G.vertices.apart u v (on-vertex P o) (on-vertex P p) e

  -- an edge of triangle k goes to an edge of its match
  pub has_edge-match : {k u v : ℕ} → HasEdge C k u v → HasEdge C' (at g k) (at f u) (at f v)
  has_edge-match {k} {u} {v} h = record {
    differ = λ e. h.differ (on-apart h.one_end h.other_end e);
    one_end = on-match G (on-triangle P h.one_end) h.one_end;
    other_end = on-match G (on-triangle P h.other_end) h.other_end;
  }

  -- triangles whose matches are the same are the same
  same-match : (j k : ℕ) → j < triangles C → k < triangles C → Same C' (at g j) C' (at g k) → Same C j C k
  same-match j k l m s = record {
    there = λ v o. match-on-only G P m (on-vertex P o) (s.there (at f v) (on-match G l o));
    back = λ v o. match-on-only G P l (on-vertex P o) (s.back (at f v) (on-match G m o));
  }

  -- steps over shared edges go to steps over shared edges
  reach-match : {j k : ℕ} → Reach C j k → Reach C' (at g j) (at g k)
  reach-match here = here
  reach-match (step r s) = step (reach-match r)
      (record { u = at f s.u; v = at f s.v; one = has_edge-match s.one; other = has_edge-match s.other })

  -- what is connected stays so
  matched-connected : ((k : ℕ) → k < triangles C → Reach C 0 k) → (k : ℕ) → k < triangles C' → Reach C' 0 k
  matched-connected connected k l = go (G.faces.onto 0 (omega arith)) (G.faces.onto k l)
    where
      go : (z : ℕ) × (z < triangles C) × (at g z ≡ 0) → (j : ℕ) × (j < triangles C) × (at g j ≡ k) → Reach C' 0 k
      go (z, b, p) (j, m, q) = rw (← p, ← q)
          (reach-trans (reach-sym (reach-match (connected z b))) (reach-match (connected j m)))

  module _ (whole : length C' ≡ 3 * triangles C') where
    -- the triangle in whose match a corner of C' is
    corner-match : (c : ℕ) → c < length C' → (k : ℕ) × (k < triangles C) × (at g k ≡ c / 3)
    corner-match c l = G.faces.onto (c / 3) (omega arith)

    -- every corner of C' is come to from a corner
    corner_to-onto : (y : ℕ) → y < length C' → (c : ℕ) × (c < length C) × CornerTo f g C C' c y
    corner_to-onto y l = go (corner-match y l)
      where
        corner : (k : ℕ) → at g k ≡ y / 3 → (v : ℕ) × On C k v × (at f v ≡ at C' y)
            → (c : ℕ) × (c < length C) × CornerTo f g C C' c y
        corner k e (v, o, q) = (
          o.corner,
          o.inside,
          record {
            inside = l;
            triangle = sym e ∙ ap (at g) (sym o.triangle);
            holds = sym q ∙ ap (at f) (sym o.holds);
          },
        )

        go : (k : ℕ) × (k < triangles C) × (at g k ≡ y / 3) → (c : ℕ) × (c < length C) × CornerTo f g C C' c y
        go (k, b, e) = corner k e (match-on G b (rw e (on-corner C' y l)))

    -- ---- a match carries properness along

    -- the corners of C' are below M'
    matched-below : (c : ℕ) → c < length C' → at C' c < M'
    matched-below c l = go (corner_to-onto c l)
      where
        go : (b : ℕ) × (b < length C) × CornerTo f g C C' b c → at C' c < M'
        go (b, m, to) = rw to.holds (G.vertices.below (at C b) (P.below b m))

    -- a triangle of C' has the vertices of one with three different corners
    matched-different : (c d : ℕ) → c < length C' → d < length C' → c / 3 ≡ d / 3 → at C' c ≡ at C' d → c ≡ d
    matched-different c d l m e = go (corner-match c l)
      where
        go : (k : ℕ) × (k < triangles C) × (at g k ≡ c / 3) → at C' c ≡ at C' d → c ≡ d
        go (k, b, q) = three-different f C C' M M' k (at g k) G.vertices P.below P.different
            (omega (arith, P.whole)) (λ v. on-match G b) c d (sym q) (sym e ∙ sym q)

    -- two triangles of C' that are the same come from the same one
    matched-unlike : (j k : ℕ) → j < triangles C' → k < triangles C' → Same C' j C' k → j ≡ k
    matched-unlike j k l m s = go (G.faces.onto j l) (G.faces.onto k m)
      where
        go : (a : ℕ) × (a < triangles C) × (at g a ≡ j) → (b : ℕ) × (b < triangles C) × (at g b ≡ k) → j ≡ k
        go (a, x, p) (b, y, q) = sym p ∙ ap (at g) (P.unlike a b x y (same-match a b x y (rw (p, q) s))) ∙ q

    -- a vertex of C' is where the one that goes there is
    matched-used : (v : ℕ) → v < M' → (k : ℕ) × On C' k v
    matched-used v l = go (G.vertices.onto v l)
      where
        go : (u : ℕ) × (u < M) × (at f u ≡ v) → (k : ℕ) × On C' k v
        go (u, b, e) = (at g (P.used u b).0, rw (← e) (on-match G (on-triangle P (P.used u b).1) (P.used u b).1))

    -- all but connectedness
    matched-otherwise : OtherwiseProper M' C'
    matched-otherwise = record {
      whole = whole;
      below = matched-below;
      different = matched-different;
      unlike = matched-unlike;
      used = matched-used;
    }

  -- ---- the corners of matched meshes are matched

  module _ (P' : OtherwiseProper M' C') where
    -- every corner goes somewhere
    corner_to-total : (c : ℕ) → c < length C → (c' : ℕ) × (c' < length C') × CornerTo f g C C' c c'
    corner_to-total c l = go (on-match G (omega (arith, P.whole)) (on-corner C c l))
      where
        go : On C' (at g (c / 3)) (at f (at C c)) → (c' : ℕ) × (c' < length C') × CornerTo f g C C' c c'
        go o = (o.corner, o.inside, record { inside = o.inside; triangle = o.triangle; holds = o.holds })

    -- to one corner only, since three corners are different in C'
    corner_to-one : (c x y : ℕ) → CornerTo f g C C' c x → CornerTo f g C C' c y → x ≡ y
    corner_to-one c x y r s = P'.different x y r.inside s.inside
        (r.triangle ∙ sym s.triangle) (r.holds ∙ sym s.holds)

    -- two go to two, since three corners are different in C
    corner_to-apart : (c d y : ℕ) → c < length C → d < length C → CornerTo f g C C' c y → CornerTo f g C C' d y → c ≡ d
    corner_to-apart c d y l m r s = P.different c d l m
        (G.faces.apart _ _ (omega (arith, P.whole)) (omega (arith, P.whole)) (sym r.triangle ∙ s.triangle))
        (G.vertices.apart (at C c) (at C d) (P.below c l) (P.below d m) (sym r.holds ∙ s.holds))

    -- so the corners are matched
    corner_to-one_to_one : OneToOne (CornerTo f g C C') (length C) (length C')
    corner_to-one_to_one = record {
      total = corner_to-total;
      one = corner_to-one;
      apart = corner_to-apart;
      onto = corner_to-onto P'.whole;
    }

-- a match carries properness along
pub matched-proper : (f g : List ℕ) (M : ℕ) (C : List ℕ) (M' : ℕ) (C' : List ℕ) → Proper M C
    → Matched Same f g M C M' C' → 3 * triangles C' ≡ length C' → Proper M' C'
matched-proper f g M C M' C' P G w = record {
  otherwise = matched-otherwise f g M C M' C' P.otherwise G (sym w);
  connected = matched-connected f g M C M' C' P.otherwise G P.connected;
}

-- ---- where the vertices and triangles of a splitting go

-- matched proper meshes, with the match of their corners
pub record Carrying (f g κ : List ℕ) (M : ℕ) (C : List ℕ) (M' : ℕ) (C' : List ℕ) : Type 0 where
  pub source : OtherwiseProper M C
  pub target : OtherwiseProper M' C'
  pub matched : Matched Same f g M C M' C'
  pub corners : Match κ (length C) (length C')
  pub related : (c : ℕ) → c < length C → CornerTo f g C C' c (at κ c)

-- Where half-edge h goes: to the one that misses the match of the corner that h misses.
abbrev half : List ℕ → ℕ → ℕ
half κ h = next (at κ (before h))

module _ {f g κ : List ℕ} {M : ℕ} {C : List ℕ} {M' : ℕ} {C' : List ℕ} (K : Carrying f g κ M C M' C') where
  -- vertex v goes to v': a coarse one to its match, the vertex on an edge to the vertex on the edge that this goes to
  pub data VertexTo (v v' : ℕ) : Type 0 where
    to_coarse : v < M → at f v ≡ v' → VertexTo v v'
    to_edge : (h : ℕ) → h < length C → edge_no M C h ≡ v → edge_no M' C' (half κ h) ≡ v' → VertexTo v v'

  -- triangle t goes to t': a centre to the centre of the match, the triangle at a corner to the one at its match
  pub data TriangleTo (t t' : ℕ) : Type 0 where
    to_centre : (j : ℕ) → j < triangles C → t ≡ 4 * j → t' ≡ 4 * at g j → TriangleTo t t'
    to_corner : (c : ℕ) → c < length C → t ≡ corner_triangle c → t' ≡ corner_triangle (at κ c) → TriangleTo t t'

  -- ---- the half-edges go with the corners that they miss

  -- with a half-edge h its whole triangle is inside, and so is where it goes
  before-inside : (h : ℕ) → h < length C → before h < length C
  before-inside h l = triangle-inside (length C) (before h) h K.source.whole l (before-triangle h)

  next-inside : (h : ℕ) → h < length C → next h < length C
  next-inside h l = triangle-inside (length C) (next h) h K.source.whole l (next-triangle h)

  half-inside : (h : ℕ) → h < length C → half κ h < length C'
  half-inside h l = triangle-inside (length C') (half κ h) (at κ (before h)) K.target.whole
      (K.corners.below (before h) (before-inside h l)) (next-triangle (at κ (before h)))

  -- the corners of the triangle of h go to corners of its match
  corner-triangle : (c h : ℕ) → c < length C → c / 3 ≡ h / 3 → at κ c / 3 ≡ at g (h / 3)
  corner-triangle c h l e = (K.related c l).triangle ∙ ap (at g) e

  -- a half-edge goes into the match of its triangle
  half-triangle : (h : ℕ) → h < length C → half κ h / 3 ≡ at g (h / 3)
  half-triangle h l =
      next-triangle (at κ (before h)) ∙ corner-triangle (before h) h (before-inside h l) (before-triangle h)

  -- every half-edge of C' is come to
  half-onto : (y : ℕ) → y < length C' → (h : ℕ) × (h < length C) × (half κ h ≡ y)
  half-onto y l = go (K.corners.onto (before y) inside)
    where
      inside : before y < length C'
      inside = triangle-inside (length C') (before y) y K.target.whole l (before-triangle y)

      go : (c : ℕ) × (c < length C) × (at κ c ≡ before y) → (h : ℕ) × (h < length C) × (half κ h ≡ y)
      go (c, b, e) = (next c, next-inside c b, rw (before-next c, e) (next-before y))

  -- different corners go to different corners
  corner-differ : (c d : ℕ) → c < length C → d < length C → c ≢ d → at κ c ≢ at κ d
  corner-differ c d l m n e = n (K.corners.apart c d l m e)

  -- the ends of a half-edge go to the ends of the half-edge it goes to
  half-ends : (h : ℕ) → h < length C → Ends (half κ h) (at κ h) (at κ (next h))
  half-ends h l = next-ends (at κ h) (at κ (next h)) (at κ (before h)) (beside h l refl)
      (beside (next h) m (next-triangle h)) (corner-differ h (next h) l m (omega arith))
      (corner-differ h (before h) l n (omega arith)) (corner-differ (next h) (before h) m n (omega arith))
    where
      m : next h < length C
      m = next-inside h l

      n : before h < length C
      n = before-inside h l

      beside : (c : ℕ) → c < length C → c / 3 ≡ h / 3 → at κ c / 3 ≡ at κ (before h) / 3
      beside c b e = corner-triangle c h b e ∙ sym (corner-triangle (before h) h n (before-triangle h))

  -- so it joins the matches of the vertices there
  half-joins : (h : ℕ) → h < length C → Joins C' (half κ h) (at f (at C h)) (at f (at C (next h)))
  half-joins h l =
      ends-joins (half-ends h l) (K.related h l).holds (K.related (next h) (next-inside h l)).holds

  -- what half-edge h joins, its match joins
  joins-half : {h a b : ℕ} → h < length C → Joins C h a b → Joins C' (half κ h) (at f a) (at f b)
  joins-half {h} l (along p q) = rw (← p, ← q) (half-joins h l)
  joins-half {h} l (against p q) = rw (← p, ← q) (joins-swap (half-joins h l))

  -- and only that
  joins-half-only : {h a b : ℕ} → h < length C → a < M → b < M → Joins C' (half κ h) (at f a) (at f b) → Joins C h a b
  joins-half-only {h} {a} {b} l x y j = go (joins-ends (half-joins h l) j)
    where
      back : (c v : ℕ) → c < length C → v < M → at f (at C c) ≡ at f v → at C c ≡ v
      back c v m b e = K.matched.vertices.apart (at C c) v (K.source.below c m) b e

      go : ((at f (at C h) ≡ at f a) × (at f (at C (next h)) ≡ at f b))
          ⊎ ((at f (at C h) ≡ at f b) × (at f (at C (next h)) ≡ at f a)) → Joins C h a b
      go (inl (p, q)) = along (back h a l x p) (back (next h) b (next-inside h l) y q)
      go (inr (p, q)) = against (back h b l y p) (back (next h) a (next-inside h l) x q)

  -- half-edges on the same edge go to half-edges on the same edge
  half-same : (h k : ℕ) → h < length C → k < length C → SameEdge C h k → SameEdge C' (half κ h) (half κ k)
  half-same h k l m e = joins-same_edge (joins-half l (same_edge-joins e (along refl refl))) (half-joins k m)

  -- and only those
  half-same-only : (h k : ℕ) → h < length C → k < length C → SameEdge C' (half κ h) (half κ k) → SameEdge C h k
  half-same-only h k l m e = joins-same_edge (joins-half-only l (K.source.below k m)
      (K.source.below (next k) (next-inside k m)) (same_edge-joins e (half-joins k m))) (along refl refl)

  -- ---- the vertices of the splittings are matched

  -- every vertex goes somewhere
  vertex_to-total : (v : ℕ) → v < M + edges C → (v' : ℕ) × (v' < M' + edges C') × VertexTo v v'
  vertex_to-total v l = elim (dec_lt v M) [
    | yes b ↦ (at f v, omega (arith, K.matched.vertices.below v b), to_coarse b refl)
    | no b ↦ go (edge_no-hit M C v (omega arith) l)
  ]
    where
      go : (h : ℕ) × (h < length C) × (edge_no M C h ≡ v) → (v' : ℕ) × (v' < M' + edges C') × VertexTo v v'
      go (h, b, e) = (edge_no M' C' (half κ h), edge_no-below M' C' (half κ h) (half-inside h b), to_edge h b e refl)

  -- to one vertex only: half-edges on one edge go to half-edges on one edge
  pub vertex_to-one : (v x y : ℕ) → VertexTo v x → VertexTo v y → x ≡ y
  vertex_to-one v x y (to_coarse _ p) (to_coarse _ q) = sym p ∙ q
  vertex_to-one v x y (to_coarse l _) (to_edge h _ e _) = absurd (omega (arith, edge_no-above M C h))
  vertex_to-one v x y (to_edge h _ e _) (to_coarse l _) = absurd (omega (arith, edge_no-above M C h))
  vertex_to-one v x y (to_edge h l e p) (to_edge k m d q) =
      sym p ∙ edge_no-same M' C' (half κ h) (half κ k) (half-same h k l m (edge_no-injective M C h k (e ∙ sym d))) ∙ q

  -- coarse vertices stay below the vertices between
  coarse-no-edge : (v h : ℕ) → v < M → at f v ≢ edge_no M' C' (half κ h)
  coarse-no-edge v h l = omega (arith, K.matched.vertices.below v l, edge_no-above M' C' (half κ h))

  -- two go to two: half-edges on two edges go to half-edges on two edges
  vertex_to-apart : (u v y : ℕ) → VertexTo u y → VertexTo v y → u ≡ v
  vertex_to-apart u v y (to_coarse l p) (to_coarse m q) = K.matched.vertices.apart u v l m (p ∙ sym q)
  vertex_to-apart u v y (to_coarse l p) (to_edge h _ _ e) = absurd (coarse-no-edge u h l (p ∙ sym e))
  vertex_to-apart u v y (to_edge h _ _ e) (to_coarse l p) = absurd (coarse-no-edge v h l (p ∙ sym e))
  vertex_to-apart u v y (to_edge h l p e) (to_edge k m q d) =
      sym p ∙ edge_no-same M C h k (half-same-only h k l m (edge_no-injective M' C' _ _ (e ∙ sym d))) ∙ q

  -- every vertex is come to
  vertex_to-onto : (y : ℕ) → y < M' + edges C' → (v : ℕ) × (v < M + edges C) × VertexTo v y
  vertex_to-onto y l = elim (dec_lt y M') [
    | yes b ↦ vertex (K.matched.vertices.onto y b)
    | no b ↦ between (edge_no-hit M' C' y (omega arith) l)
  ]
    where
      vertex : (v : ℕ) × (v < M) × (at f v ≡ y) → (v : ℕ) × (v < M + edges C) × VertexTo v y
      vertex (v, b, e) = (v, omega arith, to_coarse b e)

      back : (k : ℕ) → edge_no M' C' k ≡ y → (h : ℕ) × (h < length C) × (half κ h ≡ k)
          → (v : ℕ) × (v < M + edges C) × VertexTo v y
      back k e (h, b, p) = (edge_no M C h, edge_no-below M C h b, to_edge h b refl (rw p e))

      between : (k : ℕ) × (k < length C') × (edge_no M' C' k ≡ y) → (v : ℕ) × (v < M + edges C) × VertexTo v y
      between (k, b, e) = back k e (half-onto k b)

  -- so the vertices are matched
  pub vertices : Chosen VertexTo (M + edges C) (M' + edges C')
  vertices = choose VertexTo (M + edges C) (M' + edges C') (record {
    total = vertex_to-total;
    one = vertex_to-one;
    apart = λ u v y _ _ r s. vertex_to-apart u v y r s;
    onto = vertex_to-onto;
  })

  -- ---- the triangles of the splittings are matched

  -- every triangle goes somewhere
  triangle_to-total : (t : ℕ) → t < 4 * triangles C → (t' : ℕ) × (t' < 4 * triangles C') × TriangleTo t t'
  triangle_to-total t l = go (fourth (triangles C) t l)
    where
      go : Fourth (triangles C) t → (t' : ℕ) × (t' < 4 * triangles C') × TriangleTo t t'
      go (is_centre j b e) = (4 * at g j, omega (arith, K.matched.faces.below j b), to_centre j b e refl)
      go (is_corner c b e) =
          (corner_triangle (at κ c), omega (arith, K.corners.below c m, K.target.whole), to_corner c m e refl)
        where
          m : c < length C
          m = rw K.source.whole b

  -- to one triangle only
  triangle_to-one : (t x y : ℕ) → TriangleTo t x → TriangleTo t y → x ≡ y
  triangle_to-one t x y (to_centre j _ e p) (to_centre k _ d q) = p ∙ ap (λ i. 4 * at g i) (omega arith) ∙ sym q
  triangle_to-one t x y (to_centre j _ e p) (to_corner c _ d q) = absurd (centre-no-corner j c (sym e ∙ d))
  triangle_to-one t x y (to_corner c _ e p) (to_centre j _ d q) = absurd (centre-no-corner j c (sym d ∙ e))
  triangle_to-one t x y (to_corner b _ e p) (to_corner c _ d q) =
      p ∙ ap (λ i. corner_triangle (at κ i)) (corner_triangle-injective b c (sym e ∙ d)) ∙ sym q

  -- two go to two
  triangle_to-apart : (s t y : ℕ) → TriangleTo s y → TriangleTo t y → s ≡ t
  triangle_to-apart s t y (to_centre j l e p) (to_centre k m d q) =
      e ∙ ap (λ i. 4 * i) (K.matched.faces.apart j k l m (omega arith)) ∙ sym d
  triangle_to-apart s t y (to_centre j _ _ p) (to_corner c _ _ q) = absurd (centre-no-corner _ (at κ c) (sym p ∙ q))
  triangle_to-apart s t y (to_corner c _ _ p) (to_centre j _ _ q) = absurd (centre-no-corner _ (at κ c) (sym q ∙ p))
  triangle_to-apart s t y (to_corner b l e p) (to_corner c m d q) =
      e ∙ ap corner_triangle (K.corners.apart b c l m (corner_triangle-injective _ (at κ c) (sym p ∙ q))) ∙ sym d

  -- every triangle is come to
  triangle_to-onto : (y : ℕ) → y < 4 * triangles C' → (t : ℕ) × (t < 4 * triangles C) × TriangleTo t y
  triangle_to-onto y l = go (fourth (triangles C') y l)
    where
      centre : (k : ℕ) → y ≡ 4 * k → (j : ℕ) × (j < triangles C) × (at g j ≡ k)
          → (t : ℕ) × (t < 4 * triangles C) × TriangleTo t y
      centre k e (j, b, p) = (4 * j, omega arith, to_centre j b refl (rw p e))

      corner : (d : ℕ) → y ≡ corner_triangle d → (c : ℕ) × (c < length C) × (at κ c ≡ d)
          → (t : ℕ) × (t < 4 * triangles C) × TriangleTo t y
      corner d e (c, b, p) = (corner_triangle c, omega (arith, K.source.whole), to_corner c b refl (rw p e))

      go : Fourth (triangles C') y → (t : ℕ) × (t < 4 * triangles C) × TriangleTo t y
      go (is_centre k b e) = centre k e (K.matched.faces.onto k b)
      go (is_corner d b e) = corner d e (K.corners.onto d (rw K.target.whole b))

  -- so the triangles are matched
  pub faces : Chosen TriangleTo (4 * triangles C) (4 * triangles C')
  faces = choose TriangleTo (4 * triangles C) (4 * triangles C') (record {
    total = triangle_to-total;
    one = triangle_to-one;
    apart = λ s t y _ _ r u. triangle_to-apart s t y r u;
    onto = triangle_to-onto;
  })

  -- the four of a triangle go to the four of its match
  triangle_to-four : (t t' : ℕ) → TriangleTo t t' → t' / 4 ≡ at g (t / 4)
  triangle_to-four t t' (to_centre j _ e p) =
      let q : at g j ≡ at g (t / 4) = ap (at g) (omega arith) in
      omega arith
  triangle_to-four t t' (to_corner c l e p) =
      let q : at g (c / 3) ≡ at g (t / 4) = ap (at g) (omega arith) in
      omega (arith, (K.related c l).triangle)

  -- ---- the vertices of a triangle go to the vertices of the triangle it goes to

  -- a half-edge that the triangle at a corner has goes to one that the triangle at the corner's match has
  half-had : (h c t t' : ℕ) → h < length C → c < length C → h / 3 ≡ c / 3 → t ≡ corner_triangle c
      → t' ≡ corner_triangle (at κ c) → h % 3 ≢ t % 4 % 3 → half κ h % 3 ≢ t' % 4 % 3
  half-had h c t t' l m e p q n r =
      n (misses-lacked h c t p (K.corners.apart (before h) c (before-inside h l) m same))
    where
      beside : half κ h / 3 ≡ at κ c / 3
      beside = half-triangle h l ∙ ap (at g) e ∙ sym (K.related c m).triangle

      same : at κ (before h) ≡ at κ c
      same = sym (before-next (at κ (before h))) ∙ lacked-misses (half κ h) (at κ c) t' q beside r

  -- the vertex on an edge that t has goes to a vertex of the triangle that t goes to
  edge-carried : (t t' h : ℕ) → TriangleTo t t' → h < length C → h / 3 ≡ t / 4 → (t % 4 ≡ 0) ⊎ (h % 3 ≢ t % 4 % 3)
      → OnSplit M' C' t' (edge_no M' C' (half κ h))
  edge-carried t t' h to l e has = edge (half κ h) (half-inside h l)
      (half-triangle h l ∙ ap (at g) e ∙ sym (triangle_to-four t t' to)) (go to has) refl
    where
      go : TriangleTo t t' → (t % 4 ≡ 0) ⊎ (h % 3 ≢ t % 4 % 3) → (t' % 4 ≡ 0) ⊎ (half κ h % 3 ≢ t' % 4 % 3)
      go (to_centre j _ _ q) _ = inl (omega arith)
      go (to_corner c m p q) (inl z) = absurd (omega arith)
      go (to_corner c m p q) (inr n) = inr (half-had h c t t' l m (omega arith) p q n)

  -- so does the coarse vertex of t
  coarse-carried : (t t' d : ℕ) → TriangleTo t t' → d < length C → d / 3 ≡ t / 4 → suc (d % 3) ≡ t % 4
      → OnSplit M' C' t' (at f (at C d))
  coarse-carried t t' d (to_centre j _ p _) l e q = absurd (omega arith)
  coarse-carried t t' d (to_corner c m p r) l e q =
      rw same (coarse (at κ c) (K.related c m).inside (omega arith) (omega arith) (K.related c m).holds)
    where
      same : d ≡ c
      same = omega arith

  -- so every vertex of t does
  on_split-carried : (t t' v v' : ℕ) → TriangleTo t t' → VertexTo v v' → OnSplit M C t v → OnSplit M' C' t' v'
  on_split-carried t t' v v' to goes (edge h l e has p) =
      rw (vertex_to-one v v' (edge_no M' C' (half κ h)) goes (to_edge h l p refl)) (edge-carried t t' h to l e has)
  on_split-carried t t' v v' to goes (coarse d l e q p) =
      rw (vertex_to-one v v' (at f (at C d)) goes (to_coarse below (ap (at f) (sym p)))) (coarse-carried t t' d to l e q)
    where
      below : v < M
      below = rw (← p) (K.source.below d l)

  -- a vertex of triangle t goes to a vertex of the triangle that t goes to
  on-carried : (t v : ℕ) → t < 4 * triangles C → On (split M C) t v
      → On (split M' C') (at faces.list t) (at vertices.list v)
  on-carried t v l o = split-on M' C' K.target.whole _ _ (on_split-carried t (at faces.list t) v
      (at vertices.list v) (faces.related t l) (vertices.related v below)
      (on-split M C K.source.whole t v o))
    where
      below : v < M + edges C
      below = rw (← o.holds) (split_below M C K.source o.corner o.inside)

  -- so matched triangles of the splittings are the same
  pub splits-agree : (t : ℕ) → t < 4 * triangles C
      → Same (renamed vertices.list (split M C)) t (split M' C') (at faces.list t)
  splits-agree t l = three-same vertices.list (split M C) (split M' C') (M + edges C) (M' + edges C') t
      (at faces.list t) vertices.match (split_below M C K.source)
      (split-different M C K.source.whole K.source.different K.source.below)
      (omega (arith, split-length M C)) (λ v o. on-carried t v l o)

  -- vertices between go to vertices between
  vertex_to-between : (v v' : ℕ) → M ≤ v → VertexTo v v' → M' ≤ v'
  vertex_to-between v v' a (to_coarse l _) = absurd (omega arith)
  vertex_to-between v v' a (to_edge h _ _ e) = rw (← e) (edge_no-above M' C' (half κ h))

  -- where matched triangles agree, the splittings are matched with all that is asked
  pub carries : {agree : Agreement}
      → ((t : ℕ) → t < 4 * triangles C
      → agree (renamed vertices.list (split M C)) t (split M' C') (at faces.list t))
      → Carries agree f g M C M' C'
  carries agreed = record {
    vertex_map = vertices.list;
    triangle_map = faces.list;
    matched = record {
      vertices = vertices.match;
      faces = rw (split-triangles M C, split-triangles M' C') faces.match;
      agreed = λ t l. agreed t (rw (split-triangles M C) at l);
    };
    coarse = λ v l. vertex_to-one v _ (at f v) (vertices.related v (omega arith)) (to_coarse l refl);
    between = λ v a l. vertex_to-between v _ a (vertices.related v l);
    four = λ t l. triangle_to-four t _ (faces.related t l);
    centre = λ j l. triangle_to-one (4 * j) _ _ (faces.related (4 * j) (omega arith)) (to_centre j l refl refl);
  }

-- matched proper meshes have such a match of their corners
pub carrying : {f g : List ℕ} {M : ℕ} {C : List ℕ} {M' : ℕ} {C' : List ℕ} → OtherwiseProper M C → OtherwiseProper M' C'
    → Matched Same f g M C M' C' → (κ : List ℕ) × Carrying f g κ M C M' C'
carrying {f} {g} {M} {C} {M'} {C'} P P' G =
    go (choose (CornerTo f g C C') (length C) (length C') (corner_to-one_to_one f g M C M' C' P G P'))
  where
    go : Chosen (CornerTo f g C C') (length C) (length C') → (κ : List ℕ) × Carrying f g κ M C M' C'
    go K = (K.list, record { source = P; target = P'; matched = G; corners = K.match; related = K.related })
