-- The splitting of a proper mesh has 2E + 3F edges: two halves of each edge, and three edges within each triangle. Of
-- these 2B are boundary edges: the two halves of each.
use Prim.Native.Nat.{ℕ, zero, suc, ◌+◌, ◌*◌, ◌-◌, ◌/◌, ◌%◌, ◌≤◌, ◌<◌}
use mathlib.Core.Path.{◌≡◌, refl, sym, ap, ap₂, ◌∙◌, subst, subst₂}
use mathlib.Core.Logic.{◌≢◌, ◌⊎◌, inl, inr}
use mathlib.Core.List.{List}
use native.Mathlib.Decide.{ℕ_discrete, dec_lt}
use native.Mathlib.Nat.{add-zero}
use native.Mathlib.Omega.{arith}
use lib.ListN.{length}
use Rattle.theory.specs.Mesh.{at, triangles, On, OtherwiseProper, Proper}
use Rattle.theory.specs.Counting.{bit, count}
use Rattle.theory.specs.Splitting.{next, edges, is_boundary, boundary_edges, edge_no, split}
use Rattle.theory.proofs.Counting.{count-more, bit-same, bit-fails}
use Rattle.theory.proofs.Finite.{injective-le, onto-le}
use Rattle.theory.proofs.Numbering.{listed}
use Rattle.theory.proofs.Corners.{triangle-place, corner-unique, before, before-next}
use Rattle.theory.proofs.Splitting.{SameEdge, same_edge-sym, same_edge-ends}
use Rattle.theory.proofs.Splitting.{Joins, along, joins-swap, joins-same_edge, same_edge-joins, joins-ends}
use Rattle.theory.proofs.Splitting.{edge_no-same, edge_no-injective, edge_no-above, edge_no-below, edge_no-hit}
use Rattle.theory.proofs.Splitting.{split-length, split-centre, split-corner, split-leaving, split-entering}
use Rattle.theory.proofs.Splitting.{on-centre}
use Rattle.theory.proofs.Heart.{two-between, edge_no-within}
use Rattle.theory.proofs.BoundaryEdges.{Alone, boundary-alone, alone-boundary}

-- ---- corners of a triangle

-- the half-edge that enters corner i of triangle j runs to it
next-entering : (j i : ℕ) → i < 3 → next (3 * j + (i + 2) % 3) ≡ 3 * j + i
next-entering j i b = omega arith

-- one on and two on is where it was
around : (i : ℕ) → i < 3 → ((i + 2) % 3 + 1) % 3 ≡ i
around i b = omega arith

-- ---- counting edges by labels

-- labels below n for the half-edges: each label is used, each half-edge has one, and half-edges are on the same edge
-- just where they have the same label
record Labels (T : List ℕ) (n : ℕ) (Label : ℕ → ℕ → Type 0) : Type 0 where
  used : (y : ℕ) → y < n → (h : ℕ) × (h < length T) × Label y h
  given : (h : ℕ) → h < length T → (y : ℕ) × (y < n) × Label y h
  same : (y g h : ℕ) → Label y g → Label y h → SameEdge T g h
  apart : (y z g h : ℕ) → Label y g → Label z h → SameEdge T g h → y ≡ z

-- there are as many edges as labels
edges-labelled : {T : List ℕ} {n : ℕ} {Label : ℕ → ℕ → Type 0} → Labels T n Label → edges T ≡ n
edges-labelled {T} {n} {Label} L = go (listed {Q = λ y h. (h < length T) × Label y h} n
    (λ y l. ((L.used y l).0, ((L.used y l).1, (L.used y l).2))))
  where
    go : (f : List ℕ) × (length f ≡ n) × ((y : ℕ) → y < n → (at f y < length T) × Label y (at f y)) → edges T ≡ n
    go (f, _, F) = omega (arith, onto-le no n (edges T) onto, injective-le no n (edges T) below apart)
      where
        no : ℕ → ℕ
        no y = edge_no 0 T (at f y)

        below : (y : ℕ) → y < n → no y < edges T
        below y l = omega (arith, edge_no-below 0 T (at f y) (F y l).0)

        apart : (y z : ℕ) → y < n → z < n → no y ≡ no z → y ≡ z
        apart y z l m e =
            L.apart y z (at f y) (at f z) (F y l).1 (F z m).1 (edge_no-injective 0 T (at f y) (at f z) e)

        labelled : (h : ℕ) → (y : ℕ) × (y < n) × Label y h → (y : ℕ) × (y < n) × (no y ≡ edge_no 0 T h)
        labelled h (y, l, a) = (y, l, edge_no-same 0 T (at f y) h (L.same y (at f y) h (F y l).1 a))

        hit : {e : ℕ} → (h : ℕ) × (h < length T) × (edge_no 0 T h ≡ e) → (y : ℕ) × (y < n) × (no y ≡ e)
        hit (h, b, e) = rw e at (labelled h (L.given h b))

        onto : (e : ℕ) → e < edges T → (y : ℕ) × (y < n) × (no y ≡ e)
        onto e l = hit (edge_no-hit 0 T e (omega arith) (omega arith))

-- ---- the half-edges of a splitting

-- the two ends of half-edge h: its corner for s = 0, the next for s = 1
abbrev end : ℕ → ℕ → ℕ
end h s = 3 * (h / 3) + (h + s) % 3

-- the first end is the corner itself
end-zero : (h : ℕ) → end h 0 ≡ h
end-zero h = omega arith

-- the ends are different corners
end-apart : (h s t : ℕ) → s < 2 → t < 2 → end h s ≡ end h t → s ≡ t
end-apart h s t b d e = omega arith

-- where the half of h at its end s stands in the splitting: in the triangle at that end it is the half-edge that leaves
-- the corner for s = 0, and the one that enters it for s = 1
abbrev place : ℕ → ℕ → ℕ
place h s = 12 * (h / 3) + (3 * ((h + s) % 3) + (3 + 2 * s))

-- it is among the four triangles of h's triangle
place-within : (h s : ℕ) → s < 2 → place h s / 12 ≡ h / 3
place-within h s b = omega arith

-- and there where the corner and the half say
place-there : (h s : ℕ) → s < 2 → place h s % 12 ≡ 3 * ((h + s) % 3) + (3 + 2 * s)
place-there h s b = omega arith

-- so no two half-edges have their halves in one place
place-apart : (g h s t : ℕ) → s < 2 → t < 2 → place g s ≡ place h t → g ≡ h
place-apart g h s t b c e = go s t b c (sym (place-there g s b) ∙ ap (λ x. x % 12) e ∙ place-there h t c)
  where
    within : g / 3 ≡ h / 3
    within = sym (place-within g s b) ∙ ap (λ x. x / 12) e ∙ place-within h t c

    unscaled : {a b : ℕ} (c : ℕ) → 3 * a + c ≡ 3 * b + c → a ≡ b
    unscaled c p = omega arith

    go : (s t : ℕ) → s < 2 → t < 2 → 3 * ((g + s) % 3) + (3 + 2 * s) ≡ 3 * ((h + t) % 3) + (3 + 2 * t) → g ≡ h
    go zero zero b c p = corner-unique g h within (rw (add-zero g, add-zero h) at (unscaled 3 p))
    go zero (suc zero) b c p = absurd (omega arith)
    go (suc zero) zero b c p = absurd (omega arith)
    go (suc zero) (suc zero) b c p =
        sym (before-next g) ∙ ap before (ap₂ (λ a b. 3 * a + b) within (unscaled 5 p)) ∙ before-next h
    go (suc (suc s)) t b c p = absurd (omega arith)
    go zero (suc (suc t)) b c p = absurd (omega arith)
    go (suc zero) (suc (suc t)) b c p = absurd (omega arith)

-- the half-edge that enters corner i of triangle j has its second half in the triangle at that corner
entering-place : (j i : ℕ) → i < 3 → 12 * j + (3 * i + 5) ≡ place (3 * j + (i + 2) % 3) 1
entering-place j i b = omega arith

-- half-edge g of the splitting joins vertex u to the vertex on coarse half-edge h
abbrev Half : (N : ℕ) (T : List ℕ) (g u h : ℕ) → Type 0
Half N T g u h = Joins (split N T) g u (edge_no N T h)

-- half-edge g of the splitting joins the vertices on half-edge i of triangle j and on the next
abbrev Inner : (N : ℕ) (T : List ℕ) (g j i : ℕ) → Type 0
Inner N T g j i = Joins (split N T) g (edge_no N T (3 * j + i)) (edge_no N T (3 * j + (i + 1) % 3))

module _ (N : ℕ) (T : List ℕ) where
  -- the half-edges of a centre
  centre-inner : (j i : ℕ) → j < triangles T → i < 3 → Inner N T (12 * j + i) j i
  centre-inner j i l b = along (split-centre N T j i l b)
      (ap (at (split N T)) (omega arith) ∙ split-centre N T j ((i + 1) % 3) l (omega arith))

  -- of the triangle at corner i of j, the first half-edge goes along the edge that leaves the corner
  leaving-half : (j i : ℕ) → j < triangles T → i < 3 → Half N T (12 * j + (3 * i + 3)) (at T (3 * j + i)) (3 * j + i)
  leaving-half j i l b = along (split-corner N T j i l b)
      (ap (at (split N T)) (omega arith) ∙ split-leaving N T j i l b)

  -- the second goes beside the centre
  corner-inner : (j i : ℕ) → j < triangles T → i < 3 → Inner N T (12 * j + (3 * i + 4)) j ((i + 2) % 3)
  corner-inner j i l b = joins-swap (along (rw (around i b) (split-leaving N T j i l b))
      (ap (at (split N T)) (omega arith) ∙ split-entering N T j i l b))

  -- the third goes along the edge that enters the corner
  entering-half : (j i : ℕ) → j < triangles T → i < 3
      → Half N T (12 * j + (3 * i + 5)) (at T (3 * j + i)) (3 * j + (i + 2) % 3)
  entering-half j i l b = joins-swap (along (split-entering N T j i l b)
      (ap (at (split N T)) (omega arith) ∙ split-corner N T j i l b))

  -- so a half-edge of the splitting is on one half of a coarse half-edge, or within a coarse triangle
  data Kind (g : ℕ) : Type 0 where
    first : (h : ℕ) → h < length T → g ≡ place h 0 → Half N T g (at T h) h → Kind g
    second : (h : ℕ) → h < length T → g ≡ place h 1 → Half N T g (at T (next h)) h → Kind g
    within : (j i : ℕ) → j < triangles T → i < 3 → Inner N T g j i → Kind g

  -- the half-edges of the triangle at corner i of j, in order
  corner-kind : (j i m : ℕ) → j < triangles T → i < 3 → m < 3 → Kind (12 * j + (3 * i + (3 + m)))
  corner-kind j i zero l b s = first (3 * j + i) (omega arith) (omega arith) (leaving-half j i l b)
  corner-kind j i (suc zero) l b s = within j ((i + 2) % 3) l (omega arith) (corner-inner j i l b)
  corner-kind j i (suc (suc zero)) l b s =
      second (3 * j + (i + 2) % 3) (omega arith) (entering-place j i b)
      (rw (next-entering j i b) (entering-half j i l b))
  corner-kind j i (suc (suc (suc m))) l b s = absurd (omega arith)

  -- every half-edge belongs to a centre or to a triangle at a corner
  half-kind : (g : ℕ) → g < length (split N T) → Kind g
  half-kind g l = elim (dec_lt r 3) [
    | yes b ↦ subst Kind (omega arith) (within j r inside b (centre-inner j r inside b))
    | no b ↦ subst Kind (past r b ∙ omega arith) (corner-kind j (r / 3 - 1) (r % 3) inside (omega arith) (omega arith))
  ]
    where
      j : ℕ
      j = g / 12

      r : ℕ
      r = g % 12

      inside : j < triangles T
      inside = omega (arith, split-length N T)

      past : (r : ℕ) → ¬ (r < 3) → 12 * j + (3 * (r / 3 - 1) + (3 + r % 3)) ≡ 12 * j + r
      past r b = omega arith

-- half-edges that join the same vertices are on the same edge
joined_same : {T : List ℕ} {g h u v w x : ℕ} → Joins T g u v → Joins T h w x → u ≡ w → v ≡ x → SameEdge T g h
joined_same {T} {h = h} a b p q = joins-same_edge a (subst₂ (Joins T h) (sym p) (sym q) b)

-- and only those
same-joined : {T : List ℕ} {g h u v w x : ℕ} → SameEdge T g h → Joins T g u v → Joins T h w x
    → ((u ≡ w) × (v ≡ x)) ⊎ ((u ≡ x) × (v ≡ w))
same-joined e a b = joins-ends a (same_edge-joins e b)

-- ---- 2E + 3F edges

module _ (N : ℕ) (T : List ℕ) where
  -- for each coarse edge a half-edge on it
  chosen : (hits : List ℕ) × (length hits ≡ edges T)
      × ((e : ℕ) → e < edges T → (at hits e < length T) × (edge_no N T (at hits e) ≡ N + e))
  chosen = listed {Q = λ e h. (h < length T) × (edge_no N T h ≡ N + e)} (edges T)
      (λ e l. found e (edge_no-hit N T (N + e) (omega arith) (omega arith)))
    where
      found : (e : ℕ) → (h : ℕ) × (h < length T) × (edge_no N T h ≡ N + e)
          → (h : ℕ) × ((h < length T) × (edge_no N T h ≡ N + e))
      found e (h, l, q) = (h, (l, q))

  -- the half-edge chosen for coarse edge e
  hit : ℕ → ℕ
  hit e = at chosen.0 e

  -- it is in the list
  hit-inside : (e : ℕ) → e < edges T → hit e < length T
  unfolding hit
  hit-inside e l = (chosen.2 e l).0

  -- and on that edge
  hit-on : (e : ℕ) → e < edges T → edge_no N T (hit e) ≡ N + e
  unfolding hit
  hit-on e l = (chosen.2 e l).1

  -- what is labelled y: half s of coarse edge e, if y is 2e + s; else the half-edges beside corner i of centre j
  data Label (y g : ℕ) : Type 0 where
    half : (e s : ℕ) → e < edges T → s < 2 → y ≡ 2 * e + s → Half N T g (at T (end (hit e) s)) (hit e) → Label y g
    inner : (j i : ℕ) → j < triangles T → i < 3 → y ≡ 2 * edges T + (3 * j + i) → Inner N T g j i → Label y g

  -- what has the same label is on the same edge
  label_same : (y g h : ℕ) → Label y g → Label y h → SameEdge (split N T) g h
  label_same y g h (half e s l b p A) (half f t m c q B) =
      let d : e ≡ f = omega arith in
      joined_same A B (ap₂ (λ e s. at T (end (hit e) s)) d (omega arith)) (ap (λ e. edge_no N T (hit e)) d)
  label_same y g h (half e s l b p A) (inner j i m c q B) = absurd (omega arith)
  label_same y g h (inner j i m c q A) (half e s l b p B) = absurd (omega arith)
  label_same y g h (inner j i l b p A) (inner k n m c q B) =
      let d : j ≡ k = omega arith in
      let f : i ≡ n = omega arith in
      joined_same A B (ap₂ (λ j i. edge_no N T (3 * j + i)) d f) (ap₂ (λ j i. edge_no N T (3 * j + (i + 1) % 3)) d f)

  -- the half-edge chosen for h's edge is on it
  hit_same : (h : ℕ) → h < length T → SameEdge T h (hit (edge_no N T h - N))
  hit_same h l = edge_no-injective N T h (hit e) (omega (arith, edge_no-above N T h, hit-on e b))
    where
      e : ℕ
      e = edge_no N T h - N

      b : e < edges T
      b = omega (arith, edge_no-above N T h, edge_no-below N T h l)

  -- a half has a label: its coarse vertex is an end of the half-edge chosen for the edge
  half-label : (g h s u : ℕ) → h < length T → s < 2 → u ≡ at T (end (hit (edge_no N T h - N)) s) → Half N T g u h
      → (y : ℕ) × (y < 2 * edges T + 3 * triangles T) × Label y g
  half-label g h s u l b p A = (2 * e + s, omega (arith, c), half e s c b refl (subst₂ (Joins (split N T) g) p same A))
    where
      e : ℕ
      e = edge_no N T h - N

      c : e < edges T
      c = omega (arith, edge_no-above N T h, edge_no-below N T h l)

      same : edge_no N T h ≡ edge_no N T (hit e)
      same = edge_no-same N T h (hit e) (hit_same h l)

  -- every half-edge of the splitting has a label
  label-given : (g : ℕ) → Kind N T g → (y : ℕ) × (y < 2 * edges T + 3 * triangles T) × Label y g
  label-given g (first h l _ A) = elim (same_edge-ends (hit_same h l)) [
    | inl p ↦ half-label g h 0 (at T h) l (omega arith) (rw (end-zero (hit (edge_no N T h - N))) p.0) A
    | inr p ↦ half-label g h 1 (at T h) l (omega arith) p.0 A
  ]
  label-given g (second h l _ A) = elim (same_edge-ends (hit_same h l)) [
    | inl p ↦ half-label g h 1 (at T (next h)) l (omega arith) p.1 A
    | inr p ↦ half-label g h 0 (at T (next h)) l (omega arith) (rw (end-zero (hit (edge_no N T h - N))) p.1) A
  ]
  label-given g (within j i l b A) = (2 * edges T + (3 * j + i), omega arith, inner j i l b refl A)

module _ (N : ℕ) (T : List ℕ) (P : OtherwiseProper N T) where
  -- each half of a coarse half-edge has its half-edge in the splitting
  half_at : (h s : ℕ) → h < length T → s < 2 → Half N T (place h s) (at T (end h s)) h
  half_at h zero l b = rw (add-zero h, triangle-place h (h / 3) refl)
      (rw (triangle-place h (h / 3) refl) at
      (leaving-half N T (h / 3) (h % 3) (omega (arith, P.whole)) (omega arith)))
  half_at h (suc zero) l b =
      rw (same h) at (entering-half N T (h / 3) ((h + 1) % 3) (omega (arith, P.whole)) (omega arith))
    where
      same : (h : ℕ) → 3 * (h / 3) + ((h + 1) % 3 + 2) % 3 ≡ h
      same h = omega arith
  half_at h (suc (suc s)) l b = absurd (omega arith)

  -- which is in the list
  place_inside : (h s : ℕ) → h < length T → s < 2 → place h s < length (split N T)
  place_inside h s l b = omega (arith, P.whole, split-length N T)

  -- every label is a half-edge's
  label-used : (y : ℕ) → y < 2 * edges T + 3 * triangles T → (g : ℕ) × (g < length (split N T)) × Label N T y g
  label-used y l = elim (dec_lt y (2 * edges T)) [
    | yes b ↦ (
      place (hit N T e) s,
      place_inside (hit N T e) s (hit-inside N T e (omega arith)) (omega arith),
      half e s (omega arith) (omega arith) (omega arith)
          (half_at (hit N T e) s (hit-inside N T e (omega arith)) (omega arith)),
    )
    | no b ↦ (
      12 * (z / 3) + z % 3,
      omega (arith, split-length N T),
      inner (z / 3) (z % 3) (omega arith) (omega arith)
          (omega arith) (centre-inner N T (z / 3) (z % 3) (omega arith) (omega arith)),
    )
  ]
    where
      e : ℕ
      e = y / 2

      s : ℕ
      s = y % 2

      z : ℕ
      z = y - 2 * edges T

  -- the coarse end of a half is below N
  end_below : (h s : ℕ) → h < length T → at T (end h s) < N
  end_below h s l = P.below (end h s) (omega (arith, P.whole))

  -- so no half is on an edge within a coarse triangle
  half-inner : {g k h : ℕ} (s j i : ℕ) → h < length T → Half N T g (at T (end h s)) h → Inner N T k j i
      → SameEdge (split N T) g k → ⊥
  half-inner {g} {k} {h} s j i l A B E = elim (same-joined E A B) [
    | inl p ↦ omega (arith, end_below h s l, edge_no-above N T (3 * j + i))
    | inr p ↦ omega (arith, end_below h s l, edge_no-above N T (3 * j + (i + 1) % 3))
  ]

  -- halves on the same edge have the same coarse end, and are on one coarse edge
  half-ends : {g k h i : ℕ} (s t : ℕ) → h < length T → i < length T → Half N T g (at T (end h s)) h
      → Half N T k (at T (end i t)) i → SameEdge (split N T) g k
      → (at T (end h s) ≡ at T (end i t)) × (edge_no N T h ≡ edge_no N T i)
  half-ends {g} {k} {h} {i} s t l m A B E = elim (same-joined E A B) [
    | inl p ↦ p
    | inr p ↦ absurd (omega (arith, end_below h s l, edge_no-above N T i))
  ]

  -- the coarse ends of a half-edge's two halves are different
  ends-differ : (h s t : ℕ) → h < length T → s < 2 → t < 2 → at T (end h s) ≡ at T (end h t) → s ≡ t
  ends-differ h s t l b c e = end-apart h s t b c
      (P.different (end h s) (end h t) (omega (arith, P.whole)) (omega (arith, P.whole)) (omega arith) e)

  -- so halves on the same edge are the same half of the same coarse edge
  half-apart : {g h e f s t : ℕ} → e < edges T → f < edges T → s < 2 → t < 2
      → Half N T g (at T (end (hit N T e) s)) (hit N T e) → Half N T h (at T (end (hit N T f) t)) (hit N T f)
      → SameEdge (split N T) g h → (e ≡ f) × (s ≡ t)
  half-apart {g} {h} {e} {f} {s} {t} l m b c A B E =
      let p = half-ends s t (hit-inside N T e l) (hit-inside N T f m) A B E in
      let d : e ≡ f = omega (arith, p.1, hit-on N T e l, hit-on N T f m) in
      (d, ends-differ (hit N T e) s t (hit-inside N T e l) b c (p.0 ∙ ap (λ f. at T (end (hit N T f) t)) (sym d)))

  -- two vertices on two centres: the centres are one
  centres-one : {j k u v : ℕ} → u ≢ v → N ≤ u → N ≤ v → On (split N T) (4 * j) u → On (split N T) (4 * j) v
      → On (split N T) (4 * k) u → On (split N T) (4 * k) v → j ≡ k
  centres-one {j} {k} {u} {v} n a b ju jv ku kv = elim (ℕ_discrete j k) [
    | yes e ↦ e
    | no e ↦ elim (two-between N T P (4 * j) (4 * k) u v n a b (omega arith) ju jv ku kv).1 [
      | inl s ↦ absurd (s.1 (omega arith))
      | inr s ↦ absurd (s.1 (omega arith))
    ]
  ]

  -- the vertices on the edges of one triangle differ
  edge_no-differ : (j i k : ℕ) → j < triangles T → i < 3 → k < 3
      → edge_no N T (3 * j + i) ≡ edge_no N T (3 * j + k) → i ≡ k
  edge_no-differ j i k l b d e = omega (
    arith,
    edge_no-within N T P (3 * j + i) (3 * j + k) (omega (arith, P.whole)) (omega (arith, P.whole)) (omega arith) e,
  )

  -- two edges of one triangle are two edges of another only if they are the same
  edges-one : (j k a b c d : ℕ) → j < triangles T → k < triangles T → a < 3 → b < 3 → c < 3 → d < 3 → a ≢ b
      → edge_no N T (3 * j + a) ≡ edge_no N T (3 * k + c) → edge_no N T (3 * j + b) ≡ edge_no N T (3 * k + d)
      → (j ≡ k) × (a ≡ c) × (b ≡ d)
  edges-one j k a b c d l m la lb lc ld n p q =
      (e, edge_no-differ k a c m la lc (rw e at p), edge_no-differ k b d m lb ld (rw e at q))
    where
      e : j ≡ k
      e = centres-one (λ f. n (edge_no-differ j a b l la lb f)) (edge_no-above N T (3 * j + a))
          (edge_no-above N T (3 * j + b)) (on-centre N T j a l la) (on-centre N T j b l lb)
          (rw p (on-centre N T k c m lc)) (rw q (on-centre N T k d m ld))

  -- half-edges within coarse triangles that are on the same edge are beside the same corner of the same centre
  inner-apart : {g h j k i n : ℕ} → j < triangles T → k < triangles T → i < 3 → n < 3
      → Inner N T g j i → Inner N T h k n → SameEdge (split N T) g h → (j ≡ k) × (i ≡ n)
  inner-apart {g} {h} {j} {k} {i} {n} l m b c A B E = elim (same-joined E A B) [
    | inl p ↦ omega (arith, edges-one j k i i' n n' l m b (s i) c (s n) (omega arith) p.0 p.1)
    | inr p ↦ absurd (omega (arith, edges-one j k i i' n' n l m b (s i) (s n) c (omega arith) p.0 p.1))
  ]
    where
      i' : ℕ
      i' = (i + 1) % 3

      n' : ℕ
      n' = (n + 1) % 3

      s : (i : ℕ) → (i + 1) % 3 < 3
      s i = omega arith

  -- what is on the same edge has the same label
  label-apart : (y z g h : ℕ) → Label N T y g → Label N T z h → SameEdge (split N T) g h → y ≡ z
  label-apart y z g h (half e s l b p A) (half f t m c q B) E = omega (arith, half-apart l m b c A B E)
  label-apart y z g h (half e s l b p A) (inner j i m c q B) E =
      absurd (half-inner s j i (hit-inside N T e l) A B E)
  label-apart y z g h (inner j i m c q A) (half e s l b p B) E =
      absurd (half-inner s j i (hit-inside N T e l) B A (same_edge-sym E))
  label-apart y z g h (inner j i l b p A) (inner k n m c q B) E = omega (arith, inner-apart l m b c A B E)

module _ (N : ℕ) (T : List ℕ) (P : Proper N T) where
  -- "2E + 3F edges": two halves of each coarse edge, and three edges within each coarse triangle
  pub split-edges : edges (split N T) ≡ 2 * edges T + 3 * triangles T
  split-edges = edges-labelled (record {
    used = label-used N T P.otherwise;
    given = λ g l. label-given N T g (half-kind N T g l);
    same = label_same N T;
    apart = label-apart N T P.otherwise;
  })

-- ---- 2B boundary edges

module _ (N : ℕ) (T : List ℕ) (P : OtherwiseProper N T) where
  -- a half-edge within a coarse triangle is not alone: the centre and a triangle at a corner both have its edge
  inner-not-alone : {g : ℕ} (j i : ℕ) → j < triangles T → i < 3 → Inner N T g j i → Alone (split N T) g → ⊥
  inner-not-alone {g} j i l b A a = omega (
    arith,
    a.only (12 * j + i) (omega (arith, split-length N T)) (joins-same_edge (centre-inner N T j i l b) A),
    a.only (12 * j + (3 * ((i + 1) % 3) + 4)) (omega (arith, split-length N T))
        (joins-same_edge (subst (Inner N T _ j) (back i b) (corner-inner N T j ((i + 1) % 3) l (omega arith))) A),
  )
    where
      back : (i : ℕ) → i < 3 → ((i + 1) % 3 + 2) % 3 ≡ i
      back i b = omega arith

  -- half s of a coarse half-edge and half t of another on its edge, with the same end, are on one edge of the splitting
  halves-same : (g h s t : ℕ) → g < length T → h < length T → s < 2 → t < 2 → SameEdge T g h
      → at T (end g t) ≡ at T (end h s) → SameEdge (split N T) (place g t) (place h s)
  halves-same g h s t k l b c e p =
      joined_same (half_at N T P g t k c) (half_at N T P h s l b) p (edge_no-same N T g h e)

  -- where a half is alone on its edge, the coarse half-edge is alone
  half-alone : (h s : ℕ) → h < length T → s < 2 → Alone (split N T) (place h s) → Alone T h
  half-alone h s l b a = record {
    inside = l;
    only = λ g k e. elim (same_edge-ends e) [
      | inl p ↦ only g k e s b (ends g s b p)
      | inr p ↦ only g k e (1 - s) (omega arith) (crossed g s b p)
    ];
  }
    where
      only : (g : ℕ) → g < length T → SameEdge T g h → (t : ℕ) → t < 2 → at T (end g t) ≡ at T (end h s) → g ≡ h
      only g k e t c p = place-apart g h t s c b
          (a.only (place g t) (place_inside N T P g t k c) (halves-same g h s t k l b c e p))

      ends : (g s : ℕ) → s < 2 → (at T g ≡ at T h) × (at T (next g) ≡ at T (next h)) → at T (end g s) ≡ at T (end h s)
      ends g zero b p = rw (end-zero g, end-zero h) p.0
      ends g (suc zero) b p = p.1
      ends g (suc (suc s)) b p = absurd (omega arith)

      crossed : (g s : ℕ) → s < 2 → (at T g ≡ at T (next h)) × (at T (next g) ≡ at T h)
          → at T (end g (1 - s)) ≡ at T (end h s)
      crossed g zero b p = rw (end-zero h) p.1
      crossed g (suc zero) b p = rw (end-zero g) p.0
      crossed g (suc (suc s)) b p = absurd (omega arith)

  -- and where that is alone, so are both halves
  alone-half : (h s : ℕ) → s < 2 → Alone T h → Alone (split N T) (place h s)
  alone-half h s b a = record {
    inside = place_inside N T P h s a.inside b;
    only = λ g l e. of g e (half-kind N T g l);
  }
    where
      half : (g i t : ℕ) → i < length T → t < 2 → g ≡ place i t → Half N T g (at T (end i t)) i
          → SameEdge (split N T) g (place h s) → g ≡ place h s
      half g i t l c p A e =
          let q = half-ends N T P t s l a.inside A (half_at N T P h s a.inside b) e in
          let same : i ≡ h = a.only i l (edge_no-injective N T i h q.1) in
          let side : t ≡ s = ends-differ N T P h t s a.inside c b (ap (λ i. at T (end i t)) (sym same) ∙ q.0) in
          p ∙ ap₂ place same side

      of : (g : ℕ) → SameEdge (split N T) g (place h s) → Kind N T g → g ≡ place h s
      of g e (first i l p A) = half g i 0 l (omega arith) p (rw (end-zero i) A) e
      of g e (second i l p A) = half g i 1 l (omega arith) p A e
      of g e (within j i l c A) =
          absurd (half-inner N T P s j i a.inside (half_at N T P h s a.inside b) A (same_edge-sym e))

  -- the half-edge at this place of the splitting, and that of the coarse mesh, count alike
  half-bit : (g h s : ℕ) → h < length T → s < 2 → g ≡ place h s → bit (is_boundary (split N T) g) ≡ bit (is_boundary T h)
  half-bit g h s l b e = bit-same (is_boundary (split N T) g) (is_boundary T h)
      (λ t. alone-boundary T h (half-alone h s l b (rw e at (boundary-alone (split N T) g inside t))))
      (λ t. alone-boundary (split N T) g (rw e (alone-half h s b (boundary-alone T h l t))))
    where
      inside : g < length (split N T)
      inside = rw e (place_inside N T P h s l b)

  -- and one within a coarse triangle does not count
  inner-bit : (g j i : ℕ) → g < length (split N T) → j < triangles T → i < 3 → Inner N T g j i
      → bit (is_boundary (split N T) g) ≡ 0
  inner-bit g j i k l b A = bit-fails (is_boundary (split N T) g)
      (λ t. inner-not-alone j i l b A (boundary-alone (split N T) g k t))

  -- of the twelve half-edges that a triangle becomes, six are within it, and its own three have two halves each
  twelve-count : (j : ℕ) → j < triangles T
      → count (λ i. is_boundary (split N T) (12 * j + i)) 12 ≡ 2 * count (λ i. is_boundary T (3 * j + i)) 3
  unfolding count
  twelve-count j l = omega (
    arith,
    centre 0 (omega arith),
    centre 1 (omega arith),
    centre 2 (omega arith),
    beside 0 (omega arith),
    beside 1 (omega arith),
    beside 2 (omega arith),
    half-bit (12 * j + 3) (3 * j + 0) 0 (inside 0 (omega arith)) (omega arith) (omega arith),
    half-bit (12 * j + 6) (3 * j + 1) 0 (inside 1 (omega arith)) (omega arith) (omega arith),
    half-bit (12 * j + 9) (3 * j + 2) 0 (inside 2 (omega arith)) (omega arith) (omega arith),
    half-bit (12 * j + 8) (3 * j + 0) 1 (inside 0 (omega arith)) (omega arith) (omega arith),
    half-bit (12 * j + 11) (3 * j + 1) 1 (inside 1 (omega arith)) (omega arith) (omega arith),
    half-bit (12 * j + 5) (3 * j + 2) 1 (inside 2 (omega arith)) (omega arith) (omega arith),
  )
    where
      inside : (i : ℕ) → i < 3 → 3 * j + i < length T
      inside i b = omega (arith, P.whole)

      centre : (i : ℕ) → i < 3 → bit (is_boundary (split N T) (12 * j + i)) ≡ 0
      centre i b =
          inner-bit (12 * j + i) j i (omega (arith, split-length N T)) l b (centre-inner N T j i l b)

      beside : (i : ℕ) → i < 3 → bit (is_boundary (split N T) (12 * j + (3 * i + 4))) ≡ 0
      beside i b = inner-bit (12 * j + (3 * i + 4)) j ((i + 2) % 3) (omega (arith, split-length N T)) l
          (omega arith) (corner-inner N T j i l b)

  -- so over j triangles
  halves-count : (j : ℕ) → j ≤ triangles T
      → count (is_boundary (split N T)) (12 * j) ≡ 2 * count (is_boundary T) (3 * j)
  unfolding count
  halves-count zero l = refl
  halves-count (suc j) l =
      let more = count-more (is_boundary (split N T)) (12 * j) 12 in
      let few = count-more (is_boundary T) (3 * j) 3 in
      let p : 12 * suc j ≡ 12 * j + 12 = omega arith in
      let q : 3 * suc j ≡ 3 * j + 3 = omega arith in
      rw (p, q) (omega (arith, more, few, twelve-count j (omega arith), halves-count j (omega arith)))

  -- the splitting has twice as many boundary edges: each is half of a coarse one
  pub split-boundary : boundary_edges (split N T) ≡ 2 * boundary_edges T
  unfolding boundary_edges
  split-boundary =
      ap (count (is_boundary (split N T))) (split-length N T) ∙ halves-count (triangles T) (omega arith)
      ∙ ap (λ n. 2 * count (is_boundary T) n) (sym P.whole)
