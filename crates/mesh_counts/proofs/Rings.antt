-- What the links of the rings tell: a half-edge that leads to itself is alone on its edge, and each edge has just one
-- half-edge that leads back.
use Prim.Native.Nat.{ℕ, zero, suc, ◌+◌, ◌≤◌, ◌<◌}
use native.Mathlib.Decide.{dec_lt}
use native.Mathlib.Omega.{arith}
use mathlib.Core.Path.{◌≡◌, refl, sym, ap, ◌∙◌}
use mathlib.Core.List.{List}
use lib.Dec.{leb, leb→le, le→leb, eqb, eqb→eq}
use lib.ListN.{length}
use Rattle.theory.specs.Counting.{count}
use Rattle.theory.specs.Mesh.{at}
use Rattle.theory.specs.Splitting.{first_on, is_boundary, edges, boundary_edges, edge_no}
use Rattle.theory.proofs.Tests.{eq→eqb}
use Rattle.theory.proofs.Counting.{count-alike}
use Rattle.theory.proofs.Numbering.{Numbers, numbers-size, count-numbers}
use Rattle.theory.proofs.Finite.{neither-less}
use Rattle.theory.proofs.Splitting.{first_on-cong, edge_no-same, edge_no-injective, edge_no-below, edge_no-hit}
use Rattle.theory.proofs.BoundaryEdges.{Alone, boundary-alone, alone-boundary}
use Rattle.mesh_rings.specs.Ring.{RingBy}
use Rattle.mesh_rings.proofs.Facts.{follows-alone, ring-below}
use Rattle.mesh_rings.proofs.EdgeRings.{first-same_edge}

-- half-edge h is the last on its edge, of n: the ring leads back
abbrev Last : ℕ → List ℕ → ℕ → Type 0
Last n ring h = (h < n) × (at ring h ≤ h)

module _ (T : List ℕ) {n : ℕ} {ring : List ℕ} (whole : length T ≡ n) (R : RingBy n (first_on T) ring) where
  -- a half-edge that leads to itself is alone on its edge
  itself-alone : (h : ℕ) → h < n → at ring h ≡ h → Alone T h
  itself-alone h l e = record {
    inside = omega arith;
    only = λ g b s. follows-alone (rw e at (R.follows h l)) g (omega arith) (first_on-cong T g h s);
  }

  -- and one that is alone leads to itself
  alone-itself : (h : ℕ) → Alone T h → at ring h ≡ h
  alone-itself h a =
      let l : h < n = omega (arith, a.inside) in
      a.only (at ring h) (omega (arith, ring-below R h l)) (first-same_edge T (at ring h) h (R.follows h l).same)

  -- so these are the boundary edges
  pub boundary-total : count (λ h. eqb (at ring h) h) n ≡ boundary_edges T
  unfolding boundary_edges
  boundary-total = count-alike (λ h. eqb (at ring h) h) (is_boundary T) n
      (λ h l t. alone-boundary T h (itself-alone h l (eqb→eq (at ring h) h t)))
      (λ h l t. eq→eqb (at ring h) h (alone-itself h (boundary-alone T h (omega arith) t)))
      ∙ ap (count (is_boundary T)) (sym whole)

  -- from each half-edge the ring leads on to a last one
  last_on : (fuel h : ℕ) → n ≤ h + fuel → h < n → (l : ℕ) × Last n ring l × (first_on T l ≡ first_on T h)
  last_on zero h b l = absurd (omega arith)
  last_on (suc fuel) h b l = go (dec_lt h (at ring h)) (last_on fuel (at ring h))
    where
      go : Dec (h < at ring h)
          → (n ≤ at ring h + fuel → at ring h < n
          → (l : ℕ) × Last n ring l × (first_on T l ≡ first_on T (at ring h)))
          → (l : ℕ) × Last n ring l × (first_on T l ≡ first_on T h)
      go (no e) _ = (h, (l, omega arith), refl)
      go (yes e) later = same (later (omega arith) (ring-below R h l))
        where
          same : (l : ℕ) × Last n ring l × (first_on T l ≡ first_on T (at ring h))
              → (l : ℕ) × Last n ring l × (first_on T l ≡ first_on T h)
          same (k, last, q) = (k, last, q ∙ (R.follows h l).same)

  -- an edge has no two last half-edges
  last_one : (g h : ℕ) → Last n ring g → Last n ring h → first_on T g ≡ first_on T h → g ≡ h
  last_one g h a b e = neither-less
      (λ l. (R.follows g a.0).last a.1 h l b.0 (sym e)) (λ l. (R.follows h b.0).last b.1 g l a.0 e)

  -- so the edges number the last half-edges
  last-numbers : Numbers (Last n ring) (edge_no 0 T) (edges T)
  last-numbers = record {
    below = λ h a. omega (arith, edge_no-below 0 T h (omega (arith, a.0)));
    apart = λ g h a b e. last_one g h a b (first_on-cong T g h (edge_no-injective 0 T g h e));
    onto = λ y l. hit (edge_no-hit 0 T y (omega arith) (omega arith));
  }
    where
      hit : {y : ℕ} → (h : ℕ) × (h < length T) × (edge_no 0 T h ≡ y) → (i : ℕ) × Last n ring i × (edge_no 0 T i ≡ y)
      hit {y} (h, l, e) = go (last_on n h (omega arith) (omega arith))
        where
          go : (l : ℕ) × Last n ring l × (first_on T l ≡ first_on T h) → (i : ℕ) × Last n ring i × (edge_no 0 T i ≡ y)
          go (k, last, q) = (k, last, edge_no-same 0 T k h (first-same_edge T k h q) ∙ e)

  -- and there are as many of the one as of the other
  pub edges-total : count (λ h. leb (at ring h) h) n ≡ edges T
  edges-total = numbers-size
      (count-numbers (Last n ring) (λ h. leb (at ring h) h) n
      (λ h a. (a.0, le→leb (at ring h) h a.1)) (λ h l t. (l, leb→le (at ring h) h t)))
      last-numbers
