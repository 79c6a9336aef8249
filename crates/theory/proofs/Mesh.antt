-- Laws of specs/Mesh.antt: the vertices at the corners of a triangle, the two triangles at a regular edge and the
-- vertices across an edge, sameness, shared edges and steps over them, and what a proper mesh says of its triangles.
use Prim.Native.Nat.{ℕ, ◌+◌, ◌*◌, ◌/◌, ◌%◌, ◌<◌}
use native.Mathlib.Decide.{ℕ_discrete}
use native.Mathlib.Omega.{arith}
use mathlib.Core.Path.{◌≡◌, refl, sym, ap, ◌∙◌, subst}
use mathlib.Core.Logic.{◌≢◌, ◌⊎◌, inl, inr}
use mathlib.Core.List.{List}
use lib.ListN.{length}
use Rattle.theory.specs.Mesh.{at, triangles, On, HasEdge, Boundary, Regular, Same, Share, Reach, here, step}
use Rattle.theory.specs.Mesh.{OtherwiseProper}
use Rattle.theory.specs.Reading.{Across}
use Rattle.theory.proofs.Corners.{triangle-place, corner-inside, triangle-inside, corner-third, corner-fourth}

-- ---- the vertices at the corners of a triangle

-- what stands at a corner inside the list is on the corner's triangle
abbrev pub on-corner : (T : List ℕ) (c : ℕ) → c < length T → On T (c / 3) (at T c)
on-corner T c l = record { corner = c; inside = l; triangle = refl; holds = refl }

-- a vertex on triangle k is the entry at one of 3k, 3k + 1, 3k + 2
pub on-place : {T : List ℕ} {k v : ℕ} (o : On T k v) → at T (3 * k + o.corner % 3) ≡ v
on-place {T} {k} o = ap (at T) (triangle-place o.corner k o.triangle) ∙ o.holds

-- different vertices stand at different corners
pub corners-apart : {T : List ℕ} {k u v : ℕ} (o : On T k u) (p : On T k v) → u ≢ v → o.corner ≢ p.corner
corners-apart {T} o p n e = n (sym o.holds ∙ ap (at T) e ∙ p.holds)

-- beside two of three different vertices of a triangle there is only the third
pub three-on : (T : List ℕ) (k u v w x : ℕ) → On T k u → On T k v → On T k w → u ≢ v → v ≢ w → w ≢ u
    → On T k x → x ≢ u → x ≢ v → x ≡ w
three-on T k u v w x ou ov ow uv vw wu ox xu xv = sym ox.holds ∙ ap (at T) same ∙ ow.holds
  where
    same : ox.corner ≡ ow.corner
    same = corner-fourth ou.corner ov.corner ow.corner ox.corner k ou.triangle ov.triangle
        ow.triangle ox.triangle (corners-apart ou ov uv) (corners-apart ov ow vw) (corners-apart ow ou wu)
        (corners-apart ox ou xu) (corners-apart ox ov xv)

-- so three different vertices of a triangle are all of its vertices
pub three-vertices : (T : List ℕ) {k a b c d : ℕ} → On T k a → On T k b → On T k c → On T k d → a ≢ b → b ≢ c → c ≢ a
    → (d ≡ a) ⊎ (d ≡ b) ⊎ (d ≡ c)
three-vertices T {k} {a} {b} {c} {d} o p q s m n l = go (ℕ_discrete d a) (ℕ_discrete d b)
  where
    go : Dec (d ≡ a) → Dec (d ≡ b) → (d ≡ a) ⊎ (d ≡ b) ⊎ (d ≡ c)
    go (yes e) _ = inl e
    go (no f) (yes e) = inr (inl e)
    go (no f) (no g) = inr (inr (three-on T k a b c d o p q m n l s f g))

-- ---- the two triangles at a regular edge

module _ (T : List ℕ) where
  -- one of them is not k
  pub regular-other : (k u v : ℕ) → Regular T u v → (l : ℕ) × HasEdge T l u v × (l ≢ k)
  regular-other k u v g = elim (ℕ_discrete g.one k) [
    | yes e ↦ (g.two, g.has_two, λ f. g.differ (e ∙ sym f))
    | no n ↦ (g.one, g.has_one, n)
  ]

  -- and of those that have k's edge only one is not k
  pub regular-only : (k l m u v : ℕ) → Regular T u v → HasEdge T k u v → HasEdge T l u v → HasEdge T m u v
      → l ≢ k → m ≢ k → l ≡ m
  regular-only k l m u v g a b c p q = pick (g.others k a) (g.others l b) (g.others m c)
    where
      pick : (k ≡ g.one) ⊎ (k ≡ g.two) → (l ≡ g.one) ⊎ (l ≡ g.two) → (m ≡ g.one) ⊎ (m ≡ g.two) → l ≡ m
      pick (inl x) (inl y) z = absurd (omega arith)
      pick (inl x) (inr y) (inl z) = absurd (omega arith)
      pick (inl x) (inr y) (inr z) = omega arith
      pick (inr x) (inl y) (inl z) = omega arith
      pick (inr x) (inl y) (inr z) = absurd (omega arith)
      pick (inr x) (inr y) z = absurd (omega arith)

-- an edge of one triangle alone is not one of two
pub boundary-not-regular : {T : List ℕ} {u v : ℕ} → Boundary T u v → Regular T u v → ⊥
boundary-not-regular b e = e.differ (b.others e.one e.has_one ∙ sym (b.others e.two e.has_two))

-- ---- the vertex across an edge

-- the triangle that w stands on has the edge too
pub across-edge : {T : List ℕ} {k u v w : ℕ} → u ≢ v → (a : Across T k u v w) → HasEdge T a.other u v
across-edge n a = record { differ = n; one_end = a.has_u; other_end = a.has_v }

-- any other vertex of another triangle that has the edge stands across it
pub edge-across : {T : List ℕ} {k l u v w : ℕ} → HasEdge T l u v → l ≢ k → On T l w → w ≢ u → w ≢ v → Across T k u v w
edge-across {l = l} e n o p q = record {
  other = l;
  another = n;
  has_u = e.one_end;
  has_v = e.other_end;
  has_w = o;
  not_u = p;
  not_v = q;
}

-- ---- sameness, shared edges, steps over them

-- a triangle is the same as itself
pub same_refl : (T : List ℕ) (k : ℕ) → Same T k T k
same_refl T k = record { there = λ v o. o; back = λ v o. o }

-- sameness goes both ways
pub same-sym : {T : List ℕ} {k : ℕ} {S : List ℕ} {l : ℕ} → Same T k S l → Same S l T k
same-sym s = record { there = s.back; back = s.there }

-- and from one to the next
pub same-trans : {T : List ℕ} {k : ℕ} {S : List ℕ} {l : ℕ} {U : List ℕ} {m : ℕ} → Same T k S l → Same S l U m
    → Same T k U m
same-trans s t = record { there = λ v o. t.there v (s.there v o); back = λ v o. s.back v (t.back v o) }

-- a shared edge is shared both ways
pub share-sym : {T : List ℕ} {k l : ℕ} → Share T k l → Share T l k
share-sym s = record { u = s.u; v = s.v; one = s.other; other = s.one }

-- one way after another
pub reach-trans : {T : List ℕ} {k l m : ℕ} → Reach T k l → Reach T l m → Reach T k m
reach-trans r here = r
reach-trans r (step q s) = step (reach-trans r q) s

-- the way back
pub reach-sym : {T : List ℕ} {k l : ℕ} → Reach T k l → Reach T l k
reach-sym here = here
reach-sym (step q s) = reach-trans (step here (share-sym s)) (reach-sym q)

-- steps over edges stay inside the mesh
pub reach-below : {T : List ℕ} {k l : ℕ} → Reach T k l → k < triangles T → length T ≡ 3 * triangles T → l < triangles T
reach-below here l whole = l
reach-below (step q s) l whole = omega (arith, s.other.one_end)

-- ---- in a proper mesh

module _ {N : ℕ} {T : List ℕ} (P : OtherwiseProper N T) where
  -- a triangle with a vertex on it is one of the triangles
  pub on-triangle : {k v : ℕ} → On T k v → k < triangles T
  on-triangle o = omega (arith, P.whole, o.inside, o.triangle)

  -- and the vertex is one of the vertices
  pub on-vertex : {k v : ℕ} → On T k v → v < N
  on-vertex o = subst (λ u. u < N) o.holds (P.below o.corner o.inside)

  -- corner i of triangle k is on it
  pub corner-on : (k i : ℕ) → k < triangles T → i < 3 → On T k (at T (3 * k + i))
  corner-on k i l b = record {
    corner = 3 * k + i;
    inside = corner-inside (length T) k i P.whole l b;
    triangle = omega arith;
    holds = refl;
  }

  -- the corners of a triangle hold different vertices
  pub corner-differ : (k i j : ℕ) → k < triangles T → i < 3 → j < 3 → i ≢ j → at T (3 * k + i) ≢ at T (3 * k + j)
  corner-differ k i j l a b n e = omega (
    arith,
    P.different (3 * k + i) (3 * k + j) (corner-inside (length T) k i P.whole l a)
        (corner-inside (length T) k j P.whole l b) (omega arith) e,
  )

  -- the side between two corners
  pub side : (k i j : ℕ) → k < triangles T → i < 3 → j < 3 → i ≢ j → HasEdge T k (at T (3 * k + i)) (at T (3 * k + j))
  side k i j l a b n =
      record { differ = corner-differ k i j l a b n; one_end = corner-on k i l a; other_end = corner-on k j l b }

  -- the side that ends at corner i
  pub side-to : (k i : ℕ) → k < triangles T → i < 3 → HasEdge T k (at T (3 * k + (i + 2) % 3)) (at T (3 * k + i))
  side-to k i l b = side k ((i + 2) % 3) i l (omega arith) b (omega arith)

  -- a corner other than v's holds another vertex
  other-corner : {k v : ℕ} (c : ℕ) (o : On T k v) → c < length T → c / 3 ≡ k → c ≢ o.corner → at T c ≢ v
  other-corner c o l t n e = n (P.different c o.corner l o.inside (t ∙ sym o.triangle) (e ∙ sym o.holds))

  -- a triangle with the edge u-v has a third vertex
  pub third-vertex : (k u v : ℕ) → HasEdge T k u v → (w : ℕ) × On T k w × (w ≢ u) × (w ≢ v)
  third-vertex k u v e =
      third (corner-third c.corner d.corner k c.triangle d.triangle (corners-apart c d e.differ))
    where
      c : On T k u
      c = e.one_end

      d : On T k v
      d = e.other_end

      third : (h : ℕ) × (h / 3 ≡ k) × (h ≢ c.corner) × (h ≢ d.corner) → (w : ℕ) × On T k w × (w ≢ u) × (w ≢ v)
      third (h, t, m, n) =
          (at T h, on, other-corner h c l t m, other-corner h d l t n)
        where
          l : h < length T
          l = triangle-inside (length T) h c.corner P.whole c.inside (t ∙ sym c.triangle)

          on : On T k (at T h)
          on = record { corner = h; inside = l; triangle = t; holds = refl }
