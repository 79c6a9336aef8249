-- The heart: in the splitting of a mesh, two vertices between that lie together on two different triangles lie on
-- exactly a centre and one corner triangle of it. And the triangles of a splitting have three different corners and
-- are pairwise unlike.
use Prim.Native.Nat.{ℕ, suc, ◌+◌, ◌*◌, ◌-◌, ◌/◌, ◌%◌, ◌≤◌, ◌<◌}
use native.Mathlib.Decide.{ℕ_discrete, dec_lt}
use native.Mathlib.Omega.{arith}
use mathlib.Core.Path.{◌≡◌, refl, sym, ap, ◌∙◌}
use mathlib.Core.Logic.{◌≢◌, ◌⊎◌, inl, inr, ⊎_elim}
use mathlib.Core.List.{List}
use lib.ListN.{length}
use Rattle.theory.specs.Mesh.{at, triangles, On, Same, Share, OtherwiseProper}
use Rattle.theory.specs.Splitting.{next, edges, edge_no, split}
use Rattle.theory.proofs.Finite.{neither-less}
use Rattle.theory.proofs.Corners.{next-twice, touched}
use Rattle.theory.proofs.Splitting.{SameEdge, same_edge-sym, same_edge-ends}
use Rattle.theory.proofs.Splitting.{edge_no-injective, edge_no-above, edge_no-below, split-length, split-triangles}
use Rattle.theory.proofs.Splitting.{split-centre, split-corner, split-leaving, split-entering}
use Rattle.theory.proofs.Splitting.{on-centre, on-leaving, on-entering}
use Rattle.theory.proofs.Splitting.{OnSplit, edge, coarse, on-split, split-on}

-- ---- three indices

-- of three indices two leave one
third-index : (a b x y : ℕ) → a < 3 → b < 3 → x < 3 → y < 3 → a ≢ b → a ≢ x → b ≢ x → a ≢ y → b ≢ y → x ≡ y
third-index a b x y la lb lx ly ab ax bx ay by = omega arith

-- of the corner triangles of a four one misses the third edge
missing-both : (j a b : ℕ) → a < 3 → b < 3 → a ≢ b
    → (t : ℕ) × (t / 4 ≡ j) × (t % 4 ≢ 0) × (a ≢ t % 4 % 3) × (b ≢ t % 4 % 3)
missing-both j a b la lb d = go (dec_lt (a + b) 3)
  where
    same : (m : ℕ) → m < 3 → (4 * j + m) % 4 % 3 ≡ m
    same m l = let z : (4 * j + m) % 4 ≡ m = omega arith in omega arith

    go : Dec (a + b < 3) → (t : ℕ) × (t / 4 ≡ j) × (t % 4 ≢ 0) × (a ≢ t % 4 % 3) × (b ≢ t % 4 % 3)
    go (yes l) =
        let z : (4 * j + (3 - (a + b))) % 4 % 3 ≡ 3 - (a + b) = same (3 - (a + b)) (omega arith) in
        (4 * j + (3 - (a + b)), omega arith, omega arith, omega arith, omega arith)
    go (no n) = (4 * j + 3, omega arith, omega arith, omega arith, omega arith)

-- the half-edge that the corner triangles at corner i and at the next one do not miss is half-edge i
unmissed : (h j i : ℕ) → i < 3 → h / 3 ≡ j → h % 3 ≢ suc i % 3 → h % 3 ≢ suc ((i + 1) % 3) % 3 → h ≡ 3 * j + i
unmissed h j i b t m n = omega arith

-- ---- half-edges of a triangle, vertices of the splitting

-- two different half-edges of one triangle
record Pair (C : List ℕ) (g h : ℕ) : Type 0 where
  first : g < length C
  second : h < length C
  together : g / 3 ≡ h / 3
  differ : g ≢ h

-- vertex v is on triangle t of the splitting as the edge vertex of a half-edge
pub record EdgeOn (M : ℕ) (C : List ℕ) (t v : ℕ) : Type 0 where
  pub half : ℕ
  pub inside : half < length C
  pub within : half / 3 ≡ t / 4
  pub present : t % 4 ≢ 0 → half % 3 ≢ t % 4 % 3
  pub number : edge_no M C half ≡ v

-- vertex v is on triangle t of the splitting as a coarse vertex
pub record CoarseOn (C : List ℕ) (t v : ℕ) : Type 0 where
  pub corner : ℕ
  pub inside : corner < length C
  pub within : corner / 3 ≡ t / 4
  pub place : suc (corner % 3) ≡ t % 4
  pub holds : at C corner ≡ v

-- ---- a list of triangles with three different corners

module _ (M : ℕ) (C : List ℕ) (whole : length C ≡ 3 * triangles C)
    (different : (c d : ℕ) → c < length C → d < length C → c / 3 ≡ d / 3 → at C c ≡ at C d → c ≡ d) where
  -- within one triangle an edge has one half-edge
  halves-within : (g h : ℕ) → g < length C → h < length C → g / 3 ≡ h / 3 → SameEdge C g h → g ≡ h
  halves-within g h lg lh t e = go (same_edge-ends e)
    where
      go : ((at C g ≡ at C h) × (at C (next g) ≡ at C (next h)))
          ⊎ ((at C g ≡ at C (next h)) × (at C (next g) ≡ at C h)) → g ≡ h
      go (inl (p, q)) = different g h lg lh t p
      go (inr (p, q)) =
          absurd
          (next-twice g h (different g (next h) lg (omega arith) (omega arith) p)
          (different (next g) h (omega arith) lh (omega arith) q))

  -- so its half-edges have three different numbers
  numbers-within : (g h : ℕ) → g < length C → h < length C → g / 3 ≡ h / 3 → edge_no M C g ≡ edge_no M C h → g ≡ h
  numbers-within g h lg lh t e = halves-within g h lg lh t (edge_no-injective M C g h e)

  module _ (below : (c : ℕ) → c < length C → at C c < M) where
    -- the three entries of a centre differ
    centre-different : (j a b : ℕ) → j < triangles C → a < b → b < 3
        → at (split M C) (12 * j + a) ≡ at (split M C) (12 * j + b) → ⊥
    centre-different j a b l k n e = omega (
      arith,
      numbers-within (3 * j + a) (3 * j + b) (omega arith) (omega arith) (omega arith)
          (sym (split-centre M C j a l (omega arith)) ∙ e ∙ split-centre M C j b l n),
    )

    -- the three entries of a corner triangle differ
    corner-different : (j i a b : ℕ) → j < triangles C → i < 3 → a < b → b < 3
        → at (split M C) (12 * j + (3 * i + 3 + a)) ≡ at (split M C) (12 * j + (3 * i + 3 + b)) → ⊥
    corner-different j i a b l k n m e = go (ℕ_discrete a 0) (ℕ_discrete b 1)
      where
        placed : (x y w : ℕ) → 3 * i + 3 + x ≡ y → at (split M C) (12 * j + y) ≡ w
            → at (split M C) (12 * j + (3 * i + 3 + x)) ≡ w
        placed x y w p q = ap (λ z. at (split M C) (12 * j + z)) p ∙ q

        first : a ≡ 0 → at (split M C) (12 * j + (3 * i + 3 + a)) < M
        first x =
            rw (placed a (3 * i + 3) (at C (3 * j + i)) (omega arith) (split-corner M C j i l k))
            (below (3 * j + i) (omega arith))

        second : (x : ℕ) → x ≡ 1 → at (split M C) (12 * j + (3 * i + 3 + x)) ≡ edge_no M C (3 * j + i)
        second x p = placed x (3 * i + 4) (edge_no M C (3 * j + i)) (omega arith) (split-leaving M C j i l k)

        third : b ≡ 2 → at (split M C) (12 * j + (3 * i + 3 + b)) ≡ edge_no M C (3 * j + (i + 2) % 3)
        third p = placed b (3 * i + 5) (edge_no M C (3 * j + (i + 2) % 3)) (omega arith) (split-entering M C j i l k)

        go : Dec (a ≡ 0) → Dec (b ≡ 1) → ⊥
        go (yes x) (yes y) = omega (arith, first x, second b y, edge_no-above M C (3 * j + i))
        go (yes x) (no y) = omega (arith, first x, third (omega arith), edge_no-above M C (3 * j + (i + 2) % 3))
        go (no x) (yes y) = omega arith
        go (no x) (no y) = omega (
          arith,
          numbers-within (3 * j + i) (3 * j + (i + 2) % 3) (omega arith) (omega arith) (omega arith)
              (sym (second a (omega arith)) ∙ e ∙ third (omega arith)),
        )

    -- so do the entries of any triangle
    different-before : (c d : ℕ) → c < d → d < length (split M C) → c / 3 ≡ d / 3
        → at (split M C) c ≡ at (split M C) d → ⊥
    different-before c d k l t e = go (ℕ_discrete (c / 3 % 4) 0)
      where
        j : ℕ
        j = c / 3 / 4

        inside : j < triangles C
        inside = omega (arith, split-length M C)

        moved : (x y : ℕ) → c ≡ x → d ≡ y → at (split M C) x ≡ at (split M C) y
        moved x y p q = ap (at (split M C)) (sym p) ∙ e ∙ ap (at (split M C)) q

        go : Dec (c / 3 % 4 ≡ 0) → ⊥
        go (yes z) = centre-different j (c % 3) (d % 3) inside (omega arith) (omega arith)
            (moved (12 * j + c % 3) (12 * j + d % 3) (omega arith) (omega arith))
        go (no n) = corner-different j i (c % 3) (d % 3) inside (omega arith) (omega arith) (omega arith)
            (moved (12 * j + (3 * i + 3 + c % 3)) (12 * j + (3 * i + 3 + d % 3)) (omega arith) (omega arith))
          where
            i : ℕ
            i = c / 3 % 4 - 1

    -- "each triangle has three different corners"
    pub split-different : (c d : ℕ) → c < length (split M C) → d < length (split M C) → c / 3 ≡ d / 3
        → at (split M C) c ≡ at (split M C) d → c ≡ d
    split-different c d lc ld t e =
        neither-less (λ l. different-before c d l ld t e) (λ l. different-before d c l lc (sym t) (sym e))

module _ (M : ℕ) (C : List ℕ) (P : OtherwiseProper M C) where
  -- ---- edges of a proper mesh

  -- within one triangle an edge has one half-edge
  same_edge-within : (g h : ℕ) → g < length C → h < length C → g / 3 ≡ h / 3 → SameEdge C g h → g ≡ h
  same_edge-within = halves-within M C P.whole P.different

  -- so its half-edges have three different numbers
  pub edge_no-within : (g h : ℕ) → g < length C → h < length C → g / 3 ≡ h / 3 → edge_no M C g ≡ edge_no M C h → g ≡ h
  edge_no-within = numbers-within M C P.whole P.different

  -- the ends of an edge are vertices of each triangle that has it
  same_edge-on : (g h c : ℕ) → g < length C → SameEdge C g h → (c ≡ h) ⊎ (c ≡ next h) → On C (g / 3) (at C c)
  same_edge-on g h c l e i = go (same_edge-ends e) i
    where
      on-first : at C g ≡ at C c → On C (g / 3) (at C c)
      on-first p = record { corner = g; inside = l; triangle = refl; holds = p }

      on-second : at C (next g) ≡ at C c → On C (g / 3) (at C c)
      on-second p = record { corner = next g; inside = omega arith; triangle = omega arith; holds = p }

      go : ((at C g ≡ at C h) × (at C (next g) ≡ at C (next h)))
          ⊎ ((at C g ≡ at C (next h)) × (at C (next g) ≡ at C h)) → (c ≡ h) ⊎ (c ≡ next h) → On C (g / 3) (at C c)
      go (inl (p, q)) (inl z) = on-first (p ∙ ap (at C) (sym z))
      go (inl (p, q)) (inr z) = on-second (q ∙ ap (at C) (sym z))
      go (inr (p, q)) (inl z) = on-second (q ∙ ap (at C) (sym z))
      go (inr (p, q)) (inr z) = on-first (p ∙ ap (at C) (sym z))

  -- a triangle that has two edges of another has all its vertices
  two-edges-on : (f g h i v : ℕ) → Pair C f g → Pair C h i → SameEdge C h f → SameEdge C i g
      → On C (f / 3) v → On C (h / 3) v
  two-edges-on f g h i v p q d e o = go (touched f g o.corner p.together o.triangle p.differ)
    where
      vertex : On C (h / 3) (at C o.corner) → On C (h / 3) v
      vertex n = rw o.holds at n

      go : ((o.corner ≡ f) ⊎ (o.corner ≡ next f)) ⊎ ((o.corner ≡ g) ⊎ (o.corner ≡ next g)) → On C (h / 3) v
      go (inl z) = vertex (same_edge-on h f o.corner q.first d z)
      go (inr z) = vertex (rw q.together (same_edge-on i g o.corner q.second e z))

  -- so two triangles with two edges in common are one
  two_edges : (f g h i : ℕ) → Pair C f g → Pair C h i → SameEdge C f h → SameEdge C g i → f / 3 ≡ h / 3
  two_edges f g h i p q d e =
      P.unlike (f / 3) (h / 3) (omega arith) (omega arith)
      (record {
        there = λ v. two-edges-on f g h i v p q (same_edge-sym d) (same_edge-sym e);
        back = λ v. two-edges-on h i f g v q p d e;
      })

  -- ---- vertices between

  -- a vertex between is on a triangle as an edge vertex
  pub edge_on : (t v : ℕ) → M ≤ v → On (split M C) t v → EdgeOn M C t v
  edge_on t v b o = go (on-split M C P.whole t v o)
    where
      go : OnSplit M C t v → EdgeOn M C t v
      go (edge h l w p e) = record {
        half = h;
        inside = l;
        within = w;
        present = ⊎_elim (λ z n. absurd (n z)) (λ n _. n) p;
        number = e;
      }
      go (coarse c l w p e) = absurd (omega (arith, P.below c l))

  -- different edge vertices of a triangle are on different half-edges
  edges-differ : (t u v : ℕ) → u ≢ v → (a : EdgeOn M C t u) (b : EdgeOn M C t v) → Pair C a.half b.half
  edges-differ t u v d a b =
      record {
        first = a.inside;
        second = b.inside;
        together = a.within ∙ sym b.within;
        differ = λ z. d (sym a.number ∙ ap (edge_no M C) z ∙ b.number);
      }

  -- one edge vertex is on one edge
  edges-same : (s t v : ℕ) (a : EdgeOn M C s v) (b : EdgeOn M C t v) → SameEdge C a.half b.half
  edges-same s t v a b = edge_no-injective M C a.half b.half (a.number ∙ sym b.number)

  -- and within one four it is of one half-edge
  halves-same : (s t v : ℕ) → s / 4 ≡ t / 4 → (a : EdgeOn M C s v) (b : EdgeOn M C t v) → a.half ≡ b.half
  halves-same s t v q a b =
      same_edge-within a.half b.half a.inside b.inside (omega arith) (edges-same s t v a b)

  -- triangles with two edge vertices in common belong to one four
  one-four : (s t u v : ℕ) → u ≢ v
      → EdgeOn M C s u → EdgeOn M C s v → EdgeOn M C t u → EdgeOn M C t v → s / 4 ≡ t / 4
  one-four s t u v d su sv tu tv = sym su.within ∙ same ∙ tu.within
    where
      same : su.half / 3 ≡ tu.half / 3
      same =
          two_edges su.half sv.half tu.half tv.half (edges-differ s u v d su sv)
          (edges-differ t u v d tu tv) (edges-same s t u su tu) (edges-same s t v sv tv)

  -- corner triangles of one four with two edge vertices in common are one: both miss the third edge
  corners-same : (s t u v : ℕ) → u ≢ v → s / 4 ≡ t / 4 → s % 4 ≢ 0 → t % 4 ≢ 0
      → EdgeOn M C s u → EdgeOn M C s v → EdgeOn M C t u → EdgeOn M C t v → s ≡ t
  corners-same s t u v d q ns nt su sv tu tv =
      same_place (third-index (su.half % 3) (sv.half % 3) (s % 4 % 3) (t % 4 % 3)
      (omega arith) (omega arith) (omega arith) (omega arith) (λ z. (edges-differ s u v d su sv).differ (same_half z))
      (su.present ns) (sv.present ns) (rw (halves-same s t u q su tu) (tu.present nt))
      (rw (halves-same s t v q sv tv) (tv.present nt)))
    where
      same_half : su.half % 3 ≡ sv.half % 3 → su.half ≡ sv.half
      same_half z = omega arith

      same_place : s % 4 % 3 ≡ t % 4 % 3 → s ≡ t
      same_place z = omega arith

  -- ---- the vertices of the splitting's triangles

  -- two vertices between on two different triangles: one is the centre, the other a corner triangle of the same four
  pub two-between : (s t u v : ℕ) → u ≢ v → M ≤ u → M ≤ v → s ≢ t
      → On (split M C) s u → On (split M C) s v → On (split M C) t u → On (split M C) t v
      → (s / 4 ≡ t / 4) × (((s % 4 ≡ 0) × (t % 4 ≢ 0)) ⊎ ((t % 4 ≡ 0) × (s % 4 ≢ 0)))
  two-between s t u v d bu bv n ou ov pu pv =
      over (edge_on s u bu ou) (edge_on s v bv ov) (edge_on t u bu pu) (edge_on t v bv pv)
    where
      over : EdgeOn M C s u → EdgeOn M C s v → EdgeOn M C t u → EdgeOn M C t v
          → (s / 4 ≡ t / 4) × (((s % 4 ≡ 0) × (t % 4 ≢ 0)) ⊎ ((t % 4 ≡ 0) × (s % 4 ≢ 0)))
      over su sv tu tv = (q, go (ℕ_discrete (s % 4) 0) (ℕ_discrete (t % 4) 0))
        where
          q : s / 4 ≡ t / 4
          q = one-four s t u v d su sv tu tv

          go : Dec (s % 4 ≡ 0) → Dec (t % 4 ≡ 0) → ((s % 4 ≡ 0) × (t % 4 ≢ 0)) ⊎ ((t % 4 ≡ 0) × (s % 4 ≢ 0))
          go (yes a) (yes b) = absurd (omega (arith, q))
          go (yes a) (no b) = inl (a, b)
          go (no a) (yes b) = inr (b, a)
          go (no a) (no b) = absurd (n (corners-same s t u v d q a b su sv tu tv))

  -- the vertex between that the corner triangles at corner i and at the next one have in common is on half-edge i
  pub common-between : (j i v : ℕ) → i < 3 → M ≤ v → On (split M C) (4 * j + suc i) v
      → On (split M C) (4 * j + suc ((i + 1) % 3)) v → v ≡ edge_no M C (3 * j + i)
  common-between j i v b l o p = go (edge_on (4 * j + suc i) v l o) (edge_on (4 * j + suc ((i + 1) % 3)) v l p)
    where
      place : (m : ℕ) → m < 3 → (4 * j + suc m) % 4 ≡ suc m
      place m h = omega arith

      go : EdgeOn M C (4 * j + suc i) v → EdgeOn M C (4 * j + suc ((i + 1) % 3)) v → v ≡ edge_no M C (3 * j + i)
      go e f = sym e.number ∙ ap (edge_no M C) (unmissed e.half j i b (omega (arith, e.within))
          (rw (place i b) at (e.present (omega arith)))
          (rw (same, ← place ((i + 1) % 3) (omega arith)) (f.present (omega arith))))
        where
          same : e.half ≡ f.half
          same = halves-same (4 * j + suc i) (4 * j + suc ((i + 1) % 3)) v (omega arith) e f

  -- a centre has only vertices between
  pub centre-between : (t v : ℕ) → t % 4 ≡ 0 → On (split M C) t v → M ≤ v
  centre-between t v z o = go (on-split M C P.whole t v o)
    where
      go : OnSplit M C t v → M ≤ v
      go (edge h l w p e) = omega (arith, edge_no-above M C h)
      go (coarse c l w p e) = absurd (omega arith)

  -- any other triangle has exactly one coarse vertex
  pub corner-coarse : (t : ℕ) → t < 4 * triangles C → t % 4 ≢ 0 → (v : ℕ) × (v < M) × On (split M C) t v
  corner-coarse t l n = (
    at C c,
    P.below c inside,
    split-on M C P.whole t (at C c) (coarse c inside (omega arith) (omega arith) refl),
  )
    where
      c : ℕ
      c = 3 * (t / 4) + (t % 4 - 1)

      inside : c < length C
      inside = omega arith

  -- a coarse vertex is on a triangle as such
  pub coarse-on : (t v : ℕ) → v < M → On (split M C) t v → CoarseOn C t v
  coarse-on t v b o = go (on-split M C P.whole t v o)
    where
      go : OnSplit M C t v → CoarseOn C t v
      go (edge h l w p e) = absurd (omega (arith, edge_no-above M C h))
      go (coarse c l w p e) = record { corner = c; inside = l; within = w; place = p; holds = e }

  -- and there is no other
  pub corner-coarse-only : (t u v : ℕ) → u < M → v < M → On (split M C) t u → On (split M C) t v → u ≡ v
  corner-coarse-only t u v lu lv ou ov = go (coarse-on t u lu ou) (coarse-on t v lv ov)
    where
      go : CoarseOn C t u → CoarseOn C t v → u ≡ v
      go a b = sym a.holds ∙ ap (at C) (omega arith) ∙ b.holds

  -- within one four a coarse vertex is on one triangle
  pub coarse-once : (s t v : ℕ) → v < M → s / 4 ≡ t / 4 → On (split M C) s v → On (split M C) t v → s ≡ t
  coarse-once s t v l q os ot = go (coarse-on s v l os) (coarse-on t v l ot)
    where
      go : CoarseOn C s v → CoarseOn C t v → s ≡ t
      go a b =
          let z : a.corner ≡ b.corner =
          P.different a.corner b.corner a.inside b.inside (omega arith) (a.holds ∙ sym b.holds) in
          let w : s % 4 ≡ t % 4 = omega arith in
          omega arith

  -- a triangle has the vertices on the half-edges of its four, but for the edge that it misses
  pub half-on : (t h : ℕ) → h < length C → h / 3 ≡ t / 4 → h % 3 ≢ t % 4 % 3 → On (split M C) t (edge_no M C h)
  half-on t h l w n = split-on M C P.whole t (edge_no M C h) (edge h l w (inr n) refl)

  -- a centre shares an edge with the triangle at each corner
  pub centre-shares : (j i : ℕ) → j < triangles C → i < 3 → Share (split M C) (4 * j) (4 * j + suc i)
  centre-shares j i l b = record {
    u = edge_no M C (3 * j + i);
    v = edge_no M C (3 * j + (i + 2) % 3);
    one = record { differ = apart; one_end = on-centre M C j i l b; other_end = on-centre M C j ((i + 2) % 3) l c };
    other = record { differ = apart; one_end = on-leaving M C j i l b; other_end = on-entering M C j i l b };
  }
    where
      c : (i + 2) % 3 < 3
      c = omega arith

      apart : edge_no M C (3 * j + i) ≢ edge_no M C (3 * j + (i + 2) % 3)
      apart e = omega (
        arith,
        edge_no-within (3 * j + i) (3 * j + (i + 2) % 3) (omega arith) (omega arith) (omega arith) e,
      )

  -- two vertices of a centre are together on a corner triangle too: the one that misses the third edge
  pub centre-beside : (s u v : ℕ) → s % 4 ≡ 0 → u ≢ v → On (split M C) s u → On (split M C) s v
      → (t : ℕ) × (t < 4 * triangles C) × (t % 4 ≢ 0) × On (split M C) t u × On (split M C) t v
  centre-beside s u v z d ou ov =
      go (edge_on s u (centre-between s u z ou) ou) (edge_on s v (centre-between s v z ov) ov)
    where
      go : EdgeOn M C s u → EdgeOn M C s v
          → (t : ℕ) × (t < 4 * triangles C) × (t % 4 ≢ 0) × On (split M C) t u × On (split M C) t v
      go a b = found (missing-both (s / 4) (a.half % 3) (b.half % 3) (omega arith) (omega arith) differ)
        where
          differ : a.half % 3 ≢ b.half % 3
          differ e = d (sym a.number ∙ ap (edge_no M C) (omega arith) ∙ b.number)

          found : (t : ℕ) × (t / 4 ≡ s / 4) × (t % 4 ≢ 0) × (a.half % 3 ≢ t % 4 % 3) × (b.half % 3 ≢ t % 4 % 3)
              → (t : ℕ) × (t < 4 * triangles C) × (t % 4 ≢ 0) × On (split M C) t u × On (split M C) t v
          found (t, q, n, x, y) = (
            t,
            omega arith,
            n,
            rw a.number at (half-on t a.half a.inside (a.within ∙ sym q) x),
            rw b.number at (half-on t b.half b.inside (b.within ∙ sym q) y),
          )

  -- ---- the splitting is a mesh of different triangles

  -- every entry is a vertex of the splitting
  pub split_below : (c : ℕ) → c < length (split M C) → at (split M C) c < M + edges C
  split_below c l = go (on-split M C P.whole (c / 3) (at (split M C) c) here)
    where
      here : On (split M C) (c / 3) (at (split M C) c)
      here = record { corner = c; inside = l; triangle = refl; holds = refl }

      go : OnSplit M C (c / 3) (at (split M C) c) → at (split M C) c < M + edges C
      go (edge h k w p e) = omega (arith, edge_no-below M C h k)
      go (coarse h k w p e) = omega (arith, P.below h k)

  -- every triangle of the splitting has two vertices between
  two-between-on : (t : ℕ) → t < 4 * triangles C
      → (u : ℕ) × (v : ℕ) × (u ≢ v) × (M ≤ u) × (M ≤ v) × On (split M C) t u × On (split M C) t v
  two-between-on t l = (
    edge_no M C h,
    edge_no M C g,
    (λ e. absurd (omega (arith, edge_no-within h g lh lg (omega arith) e))),
    edge_no-above M C h,
    edge_no-above M C g,
    half-on t h lh (omega arith) (omega arith),
    half-on t g lg (omega arith) (omega arith),
  )
    where
      h : ℕ
      h = 3 * (t / 4) + (t % 4 + 1) % 3

      g : ℕ
      g = 3 * (t / 4) + (t % 4 + 2) % 3

      lh : h < length C
      lh = omega arith

      lg : g < length C
      lg = omega arith

  -- a centre has not the vertices of a corner triangle
  no-centre : (s t : ℕ) → t < triangles (split M C) → ((v : ℕ) → On (split M C) t v → On (split M C) s v)
      → s % 4 ≡ 0 → t % 4 ≢ 0 → ⊥
  no-centre s t l f z n = go (corner-coarse t (omega (arith, split-triangles M C)) n)
    where
      go : (v : ℕ) × (v < M) × On (split M C) t v → ⊥
      go (v, b, o) = omega (arith, centre-between s v z (f v o))

  -- "no two triangles are the same"
  pub split-unlike : (s t : ℕ) → s < triangles (split M C) → t < triangles (split M C)
      → Same (split M C) s (split M C) t → s ≡ t
  split-unlike s t ls lt e = go (ℕ_discrete s t) (two-between-on s (omega (arith, split-triangles M C)))
    where
      clash : ((s % 4 ≡ 0) × (t % 4 ≢ 0)) ⊎ ((t % 4 ≡ 0) × (s % 4 ≢ 0)) → ⊥
      clash (inl (z, n)) = no-centre s t lt e.back z n
      clash (inr (z, n)) = no-centre t s ls e.there z n

      go : Dec (s ≡ t)
          → (u : ℕ) × (v : ℕ) × (u ≢ v) × (M ≤ u) × (M ≤ v) × On (split M C) s u × On (split M C) s v
          → s ≡ t
      go (yes z) _ = z
      go (no n) (u, v, d, bu, bv, ou, ov) =
          absurd (clash (two-between s t u v d bu bv n ou ov (e.there u ou) (e.there v ov)).1)
