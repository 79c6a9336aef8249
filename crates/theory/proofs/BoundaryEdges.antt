-- What `boundary_edges` counts: the half-edges that are alone on their edge, one for each edge that exactly one triangle
-- has (`Boundary`). An edge with three triangles is none of them.
use Prim.Native.Nat.{ℕ, ◌/◌, ◌<◌}
use native.Mathlib.Omega.{arith}
use mathlib.Core.Path.{◌≡◌, refl, sym, ap, ◌∙◌, subst₂}
use mathlib.Core.List.{List}
use lib.Dec.{T as Passes, eqb, eqb→eq}
use lib.ListN.{length}
use Rattle.theory.specs.Counting.{count}
use Rattle.theory.specs.Mesh.{at, HasEdge, Boundary, Singular, OtherwiseProper}
use Rattle.theory.specs.Splitting.{next, same_edge, first_on, is_first, appearances, is_boundary, boundary_edges}
use Rattle.theory.proofs.Tests.{and_sound, and-complete, eq→eqb}
use Rattle.theory.proofs.Counting.{count-one, count-only}
use Rattle.theory.proofs.Numbering.{Numbers, count-numbers}
use Rattle.theory.proofs.EdgeKinds.{boundary-not-singular}
use Rattle.theory.proofs.Splitting.{SameEdge, same_edge-refl, Joins, same_edge-joins, along, against}
use Rattle.theory.proofs.Splitting.{Side, edge-side, side-same_edge, same_edge-passes, passes-same_edge, first_on-le}
use Rattle.theory.proofs.Splitting.{first_on-same, edge_no-same}
use Rattle.theory.proofs.Heart.{edge_no-within}

-- half-edge h is the only one on its edge
pub record Alone (T : List ℕ) (h : ℕ) : Type 0 where
  pub inside : h < length T
  pub only : (g : ℕ) → g < length T → SameEdge T g h → g ≡ h

-- ---- what is counted

module _ (T : List ℕ) where
  -- a half-edge that is counted is alone on its edge
  pub boundary-alone : (h : ℕ) → h < length T → Passes (is_boundary T h) → Alone T h
  unfolding is_boundary appearances
  boundary-alone h l t = record {
    inside = l;
    only = λ g b e. count-one (same_edge T h) (length T) g h
        (eqb→eq (appearances T h) 1 (and_sound (is_first T h) (eqb (appearances T h) 1) t).1) b l
        (same_edge-passes T g h e) (same_edge-passes T h h (same_edge-refl T h));
  }

  -- and one that is alone is counted: it is the first on its edge, and the edge appears once
  pub alone-boundary : (h : ℕ) → Alone T h → Passes (is_boundary T h)
  unfolding is_boundary appearances is_first
  alone-boundary h a = and-complete (is_first T h) (eqb (appearances T h) 1)
      (eq→eqb (first_on T h) h (a.only (first_on T h) (omega (arith, first_on-le T h, a.inside)) (first_on-same T h)))
      (eq→eqb (appearances T h) 1
      (count-only (same_edge T h) (length T) h a.inside (same_edge-passes T h h (same_edge-refl T h))
      (λ g l t. a.only g l (passes-same_edge T g h t))))

  -- so the count numbers the half-edges that are alone
  pub boundary-numbers : Numbers (Alone T) (count (is_boundary T)) (boundary_edges T)
  unfolding boundary_edges
  boundary-numbers = count-numbers (Alone T) (is_boundary T) (length T)
      (λ h a. (a.inside, alone-boundary h a)) boundary-alone

-- ---- that is where one triangle has the edge

module _ (N : ℕ) (T : List ℕ) (P : OtherwiseProper N T) where
  -- a half-edge's triangle has its edge
  pub half-has_edge : (h : ℕ) → h < length T → HasEdge T (h / 3) (at T h) (at T (next h))
  half-has_edge h l = record {
    differ = λ e. absurd (omega (arith, P.different h (next h) l (omega (arith, P.whole)) (omega arith) e));
    one_end = record { corner = h; inside = l; triangle = refl; holds = refl };
    other_end =
        record { corner = next h; inside = omega (arith, P.whole); triangle = omega arith; holds = refl };
  }

  -- and so has that of each half-edge which joins the same vertices
  joins-has_edge : {h u v : ℕ} → h < length T → Joins T h u v → HasEdge T (h / 3) u v
  joins-has_edge {h} l (along p q) = subst₂ (HasEdge T (h / 3)) p q (half-has_edge h l)
  joins-has_edge {h} l (against p q) =
      let e : HasEdge T (h / 3) (at T h) (at T (next h)) = half-has_edge h l in
      subst₂ (HasEdge T (h / 3)) q p
      (record { differ = λ z. e.differ (sym z); one_end = e.other_end; other_end = e.one_end })

  -- the edge of a half-edge that is alone is a boundary edge
  pub alone-edge : (h : ℕ) → Alone T h → Boundary T (at T h) (at T (next h))
  alone-edge h a = record { only = h / 3; has = half-has_edge h a.inside; others = λ k e. other k (edge-side e) }
    where
      other : (k : ℕ) → Side T k (at T h) (at T (next h)) → k ≡ h / 3
      other k s = sym s.triangle ∙ ap (λ g. g / 3) (a.only s.half s.inside (side-same_edge h s))

  -- and on each boundary edge a half-edge is alone
  pub edge-alone : (u v : ℕ) → Boundary T u v → (h : ℕ) × Alone T h × Joins T h u v
  edge-alone u v b = (s.half, record { inside = s.inside; only = only }, s.joins)
    where
      s : Side T b.only u v
      s = edge-side b.has

      only : (g : ℕ) → g < length T → SameEdge T g s.half → g ≡ s.half
      only g l e = edge_no-within N T P g s.half l s.inside
          (b.others (g / 3) (joins-has_edge l (same_edge-joins e s.joins)) ∙ sym s.triangle)
          (edge_no-same N T g s.half e)

-- "a law ties the count to `Boundary`": what is counted are boundary edges, every boundary edge is counted, and none
-- twice; so an edge with three triangles is not.
pub record BoundaryCounted (T : List ℕ) : Type 0 where
  pub boundary : (h : ℕ) → h < length T → Passes (is_boundary T h) → Boundary T (at T h) (at T (next h))
  pub every : (u v : ℕ) → Boundary T u v → (h : ℕ) × (h < length T) × Passes (is_boundary T h) × Joins T h u v
  pub once : (g h : ℕ) → g < length T → h < length T → Passes (is_boundary T h) → SameEdge T g h → g ≡ h
  pub not_singular : (h : ℕ) → h < length T → Passes (is_boundary T h) → Singular T (at T h) (at T (next h)) → ⊥

-- it holds of every list whose triangles have three different corners, and so of every proper mesh
pub boundary-counted : (N : ℕ) (T : List ℕ) → OtherwiseProper N T → BoundaryCounted T
boundary-counted N T P = record {
  boundary = λ h l t. alone-edge N T P h (boundary-alone T h l t);
  every = λ u v b. counted (edge-alone N T P u v b);
  once = λ g h k l t e. (boundary-alone T h l t).only g k e;
  not_singular = λ h l t s. boundary-not-singular (alone-edge N T P h (boundary-alone T h l t)) s;
}
  where
    counted : {u v : ℕ} → (h : ℕ) × Alone T h × Joins T h u v
        → (h : ℕ) × (h < length T) × Passes (is_boundary T h) × Joins T h u v
    counted (h, a, j) = (h, a.inside, alone-boundary T h a, j)
