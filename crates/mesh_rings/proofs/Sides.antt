-- The half-edges of a triangle: their ends stand on it, and the third vertex is the one at the corner that a half-edge
-- does not touch.
use Prim.Native.Nat.{ℕ, ◌+◌, ◌*◌, ◌/◌, ◌%◌, ◌<◌}
use native.Mathlib.Omega.{arith}
use mathlib.Core.Path.{◌≡◌, refl, sym, ap, ◌∙◌}
use mathlib.Core.Logic.{◌≢◌, ◌⊎◌, inl, inr}
use mathlib.Core.List.{List}
use lib.ListN.{length}
use Rattle.theory.specs.Mesh.{at, On, HasEdge}
use Rattle.theory.specs.Splitting.{next, lesser, greater}
use Rattle.theory.proofs.Corners.{missed-corner}
use Rattle.theory.proofs.Splitting.{SameEdge, same_edge-ends, Joins, along, against, Side}
use Rattle.mesh_rings.specs.Tables.{third, Listed}
use Rattle.mesh_rings.specs.Tables.{Different, Corners, different, equal}

-- ---- the corners of a triangle

-- the vertex at a corner stands on the corner's triangle
pub stands_on : {T : List ℕ} {k v : ℕ} (c : ℕ) → c < length T → c / 3 ≡ k → at T c ≡ v → On T k v
stands_on c l t e = record { corner = c; inside = l; triangle = t; holds = e }

-- and is below N, as all are
pub corner-below : {N F : ℕ} {T : List ℕ} → Listed N F T → (c h : ℕ) → h < 3 * F → c / 3 ≡ h / 3 → at T c < N
corner-below L c h l e = L.below c (omega (arith, L.whole))

-- so are both ends of a half-edge
pub ends-below : {N F : ℕ} {T : List ℕ} → Listed N F T → (h : ℕ) → h < 3 * F → (lesser T h < N) × (greater T h < N)
ends-below L h l =
    let a = corner-below L h h l refl in
    let b = corner-below L (next h) h l (omega arith) in
    (omega arith, omega arith)

-- ---- the ends of a half-edge

-- h is a half-edge of triangle k in a list of F triangles
pub record Half (T : List ℕ) (F k h : ℕ) : Type 0 where
  pub whole : length T ≡ 3 * F
  pub inside : h < 3 * F
  pub triangle : h / 3 ≡ k

-- v is one of the two ends of h
pub data End (T : List ℕ) (h v : ℕ) : Type 0 where
  end : v ≡ at T h → End T h v
  other_end : v ≡ at T (next h) → End T h v

-- the ends stand on the triangle
pub end_on : {T : List ℕ} {F k h v : ℕ} → Half T F k h → End T h v → On T k v
end_on {h = h} H (end e) = stands_on h (omega arith) H.triangle (sym e)
end_on {h = h} H (other_end e) = stands_on (next h) (omega arith) (omega arith) (sym e)

-- half-edges on the same edge have the same ends
pub end_moved : {T : List ℕ} {g h v : ℕ} → SameEdge T g h → End T g v → End T h v
end_moved {T} {g} {h} {v} e = go (same_edge-ends e)
  where
    go : ((at T g ≡ at T h) × (at T (next g) ≡ at T (next h))) ⊎ ((at T g ≡ at T (next h)) × (at T (next g) ≡ at T h))
        → End T g v → End T h v
    go (inl (p, q)) (end s) = end (s ∙ p)
    go (inl (p, q)) (other_end s) = other_end (s ∙ q)
    go (inr (p, q)) (end s) = other_end (s ∙ p)
    go (inr (p, q)) (other_end s) = end (s ∙ q)

-- so the triangles of these half-edges have this edge, if its ends differ
pub same_edge-has_edge : {T : List ℕ} {F k g h : ℕ} → Half T F k h → SameEdge T g h → at T g ≢ at T (next g)
    → HasEdge T k (at T g) (at T (next g))
same_edge-has_edge H e n =
    record {
      differ = n;
      one_end = end_on H (end_moved e (end refl));
      other_end = end_on H (end_moved e (other_end refl));
    }

-- the third vertex of the triangle stands at the corner that its half-edge misses
pub side-third : {T : List ℕ} {k u v w : ℕ} (s : Side T k u v) → On T k w → w ≢ u → w ≢ v → third T s.half ≡ w
side-third {T} {k} {u} {v} {w} s o m n =
    ap (at T) (missed-corner h o.corner (o.triangle ∙ sym s.triangle)
    (λ e. outer.0 (sym o.holds ∙ ap (at T) e))
    (λ e. outer.1 (sym o.holds ∙ ap (at T) e)))
    ∙ o.holds
  where
    h : ℕ
    h = s.half

    other : Joins T h u v → (w ≢ at T h) × (w ≢ at T (next h))
    other (along p q) = (λ e. m (e ∙ p), λ e. n (e ∙ q))
    other (against p q) = (λ e. n (e ∙ p), λ e. m (e ∙ q))

    outer : (w ≢ at T h) × (w ≢ at T (next h))
    outer = other s.joins

-- ---- triangles with three different corners, or three equal ones

-- a list whose corners differ within each triangle has three different corners in each
pub corners-different : {T : List ℕ} {F : ℕ} → length T ≡ 3 * F
    → ((c d : ℕ) → c < length T → d < length T → c / 3 ≡ d / 3 → at T c ≡ at T d → c ≡ d)
    → (k : ℕ) → k < F → Different T k
corners-different {T} {F} whole apart k l =
    record {
      apart = λ i j a b e. omega (arith, apart (3 * k + i) (3 * k + j) (omega arith) (omega arith) (omega arith) e);
    }

-- a corner of triangle k, by its place there
at_place : (T : List ℕ) (k c : ℕ) → c / 3 ≡ k → at T (3 * k + c % 3) ≡ at T c
at_place T k c e = ap (at T) (omega arith)

module _ {T : List ℕ} {k : ℕ} where
  -- in a triangle with three different corners different corners hold different vertices
  pub different-apart : Different T k → (c d : ℕ) → c / 3 ≡ k → d / 3 ≡ k → c ≢ d → at T c ≢ at T d
  different-apart D c d p q n e = n (omega (arith, place))
    where
      place : c % 3 ≡ d % 3
      place = D.apart (c % 3) (d % 3) (omega arith) (omega arith) (at_place T k c p ∙ e ∙ sym (at_place T k d q))

  -- a triangle with two different vertices has three different corners
  pub edge-different : {u v : ℕ} → Corners T k → HasEdge T k u v → Different T k
  edge-different (different D) e = D
  edge-different (equal same) e =
      let c = e.one_end in
      let d = e.other_end in
      absurd (e.differ (sym c.holds ∙ sym (at_place T k c.corner c.triangle)
      ∙ same (c.corner % 3) (d.corner % 3) (omega arith) (omega arith)
      ∙ at_place T k d.corner d.triangle ∙ d.holds))
