-- What a reading says about a coarse triangle and the centre among its four: opposite each corner of the centre stands
-- one kept vertex, and the matches of these three are the vertices of the coarse triangle.
use Prim.Native.Nat.{ℕ, ◌+◌, ◌*◌, ◌%◌, ◌<◌}
use native.Mathlib.Decide.{ℕ_discrete}
use native.Mathlib.Omega.{arith}
use mathlib.Core.Path.{◌≡◌, sym, ap, ◌∙◌, subst}
use mathlib.Core.Logic.{◌≢◌, inl, inr}
use mathlib.Core.List.{List}
use lib.ListN.{length}
use Rattle.theory.specs.Mesh.{at, triangles, On, HasEdge, Same, OtherwiseProper}
use Rattle.theory.specs.Reading.{renamed, Reading, IsReading, Kept, Centre, Across}
use Rattle.theory.proofs.Mesh.{three-vertices, regular-other, regular-only, across-edge, edge-across}
use Rattle.theory.proofs.Mesh.{on-place, on-vertex, side, side-to, third-vertex}
use Rattle.theory.proofs.Renaming.{on-renamed, renamed-on}
use Rattle.theory.proofs.Heart.{CoarseOn, coarse-on}
use Rattle.theory.proofs.Centres.{
  coarse_of,
  centre-below,
  on-there,
  one_kept,
  vertex-apart,
  beside-centre,
  across-centre,
  centre-regular,
  centre-apart,
}

-- ---- the vertices across the edges of a centre

-- w is across the edge of triangle k that ends at its corner i: "kept vertex across c-a, across a-b, across b-c"
abbrev pub Opposite : List ℕ → ℕ → ℕ → ℕ → Type 0
Opposite T k i w = Across T k (at T (3 * k + (i + 2) % 3)) (at T (3 * k + i)) w

module _ (N : ℕ) (T : List ℕ) (P : OtherwiseProper N T) (r : Reading) (R : IsReading Same N T r) where
  -- across each edge of a centre stands a kept vertex
  across-exists : (k u v : ℕ) → Centre r k → HasEdge T k u v → (w : ℕ) × Kept r w × Across T k u v w
  across-exists k u v c e = beyond (regular-other T k u v (centre-regular N T P r R k u v c e))
    where
      kept : (w : ℕ) → Across T k u v w → (x : ℕ) × Kept r x × Across T k u v x
      kept w a = (w, across-centre N T P r R k u v w c e a, a)

      beyond : (l : ℕ) × HasEdge T l u v × (l ≢ k) → (x : ℕ) × Kept r x × Across T k u v x
      beyond (l, f, n) = third (third-vertex P l u v f)
        where
          third : (w : ℕ) × On T l w × (w ≢ u) × (w ≢ v) → (x : ℕ) × Kept r x × Across T k u v x
          third (w, o, p, q) = kept w (edge-across f n o p q)

  -- and only one vertex
  across-unique : (k u v w x : ℕ) → Centre r k → HasEdge T k u v → Across T k u v w → Across T k u v x → w ≡ x
  across-unique k u v w x c e a b =
      one_kept N T P r R b.other w x (subst (λ l. On T l w) same a.has_w) b.has_w
      (across-centre N T P r R k u v w c e a) (across-centre N T P r R k u v x c e b)
    where
      same : a.other ≡ b.other
      same =
          regular-only T k a.other b.other u v (centre-regular N T P r R k u v c e) e (across-edge e.differ a)
          (across-edge e.differ b) a.another b.another

  -- its match is a vertex of the coarse triangle whose centre this is
  across-coarse : (k u v w : ℕ) → Centre r k → HasEdge T k u v → Across T k u v w
      → On r.mesh (coarse_of r k) (at r.vertex_map w)
  across-coarse k u v w c e a =
      coarse (coarse-on r.vertices r.mesh R.proper.otherwise (at r.triangle_map a.other)
      (at r.vertex_map w) (across-centre N T P r R k u v w c e a).coarse
      (on-there N T P r R a.other w a.has_w))
    where
      four : coarse_of r a.other ≡ coarse_of r k
      four = (beside-centre N T P r R k a.other u v c e (across-edge e.differ a) a.another).1

      coarse : CoarseOn r.mesh (at r.triangle_map a.other) (at r.vertex_map w)
          → On r.mesh (coarse_of r k) (at r.vertex_map w)
      coarse o = record { corner = o.corner; inside = o.inside; triangle = o.within ∙ four; holds = o.holds }

  -- ---- the vertices opposite the corners of a centre

  -- the edge that ends at corner i
  pub edge_at : (k i : ℕ) → Centre r k → i < 3 → HasEdge T k (at T (3 * k + (i + 2) % 3)) (at T (3 * k + i))
  edge_at k i c b = side-to P k i (centre-below N T P r R k c) b

  -- each corner of a centre has an opposite vertex, which is kept
  pub opposite-exists : (k i : ℕ) → Centre r k → i < 3 → (w : ℕ) × Kept r w × Opposite T k i w
  opposite-exists k i c b = across-exists k (at T (3 * k + (i + 2) % 3)) (at T (3 * k + i)) c (edge_at k i c b)

  -- one only
  pub opposite-unique : (k i w x : ℕ) → Centre r k → i < 3 → Opposite T k i w → Opposite T k i x → w ≡ x
  opposite-unique k i w x c b =
      across-unique k (at T (3 * k + (i + 2) % 3)) (at T (3 * k + i)) w x c (edge_at k i c b)

  -- whose match is a vertex of the coarse triangle
  pub opposite-coarse : (k i w : ℕ) → Centre r k → i < 3 → Opposite T k i w
      → On r.mesh (coarse_of r k) (at r.vertex_map w)
  opposite-coarse k i w c b =
      across-coarse k (at T (3 * k + (i + 2) % 3)) (at T (3 * k + i)) w c (edge_at k i c b)

  -- corners that follow one another have different opposite vertices
  opposite-follow : (k i j w : ℕ) → Centre r k → i < 3 → j ≡ (i + 1) % 3 → Opposite T k i w → Opposite T k j w → ⊥
  opposite-follow k i j w c b e p q =
      centre-apart N T P r R k _ _ _ w c before.one_end after.one_end around.one_end before.differ
      after.differ around.differ p
      (subst (λ m. Across T k (at T (3 * k + m)) (at T (3 * k + j)) w) (omega arith) q)
    where
      l : k < triangles T
      l = centre-below N T P r R k c

      before : HasEdge T k (at T (3 * k + (i + 2) % 3)) (at T (3 * k + i))
      before = edge_at k i c b

      after : HasEdge T k (at T (3 * k + i)) (at T (3 * k + j))
      after = side P k i j l b (omega arith) (omega arith)

      around : HasEdge T k (at T (3 * k + j)) (at T (3 * k + (i + 2) % 3))
      around = side P k j ((i + 2) % 3) l (omega arith) (omega arith) (omega arith)

  -- so a vertex is opposite one corner at most
  pub opposite-apart : (k i j w : ℕ) → Centre r k → i < 3 → j < 3 → Opposite T k i w → Opposite T k j w → i ≡ j
  opposite-apart k i j w c a b p q = elim (ℕ_discrete i j) [
    | yes e ↦ e
    | no n ↦ absurd (turn n (ℕ_discrete j ((i + 1) % 3)))
  ]
    where
      turn : i ≢ j → Dec (j ≡ (i + 1) % 3) → ⊥
      turn n (yes e) = opposite-follow k i j w c a e p q
      turn n (no m) = opposite-follow k j i w c b (omega arith) q p

  -- and vertices opposite different corners have different matches
  matches-apart : (k i j w x : ℕ) → Centre r k → i < 3 → j < 3 → i ≢ j → Opposite T k i w → Opposite T k j x
      → at r.vertex_map w ≢ at r.vertex_map x
  matches-apart k i j w x c a b n p q e = n (opposite-apart k i j w c a b p (subst (Opposite T k j) (sym same) q))
    where
      same : w ≡ x
      same = vertex-apart N T P r R w x (on-vertex P p.has_w) (on-vertex P q.has_w) e

  -- every vertex of the coarse triangle is the match of a vertex opposite a corner of its centre
  pub opposite-hit : (k y : ℕ) → Centre r k → On r.mesh (coarse_of r k) y
      → (i : ℕ) × (i < 3) × (w : ℕ) × Kept r w × Opposite T k i w × (at r.vertex_map w ≡ y)
  opposite-hit k y c o = hit (opposite-exists k 0 c l₀) (opposite-exists k 1 c l₁) (opposite-exists k 2 c l₂)
    where
      l₀ : 0 < 3
      l₀ = omega arith

      l₁ : 1 < 3
      l₁ = omega arith

      l₂ : 2 < 3
      l₂ = omega arith

      hit : (u : ℕ) × Kept r u × Opposite T k 0 u → (v : ℕ) × Kept r v × Opposite T k 1 v
          → (w : ℕ) × Kept r w × Opposite T k 2 w
          → (i : ℕ) × (i < 3) × (x : ℕ) × Kept r x × Opposite T k i x × (at r.vertex_map x ≡ y)
      hit (u, k₀, o₀) (v, k₁, o₁) (w, k₂, o₂) = elim (three-vertices r.mesh
          (opposite-coarse k 0 u c l₀ o₀) (opposite-coarse k 1 v c l₁ o₁) (opposite-coarse k 2 w c l₂ o₂) o
          (matches-apart k 0 1 u v c l₀ l₁ (omega arith) o₀ o₁) (matches-apart k 1 2 v w c l₁ l₂ (omega arith) o₁ o₂)
          (matches-apart k 2 0 w u c l₂ l₀ (omega arith) o₂ o₀)) [
            | inl e ↦ (0, l₀, u, k₀, o₀, sym e)
            | inr (inl e) ↦ (1, l₁, v, k₁, o₁, sym e)
            | inr (inr e) ↦ (2, l₂, w, k₂, o₂, sym e)
          ]

  -- where f renumbers the coarse vertices, and triangle t of a mesh S has at each corner the new number of the vertex
  -- opposite that corner of a centre, the centre's coarse triangle is the same as t under f
  pub opposite-same : (f S : List ℕ) (k t : ℕ) → Centre r k → 3 * t + 2 < length S
      → ((i w : ℕ) → i < 3 → Kept r w → Opposite T k i w → at S (3 * t + i) ≡ at f (at r.vertex_map w))
      → Same (renamed f r.mesh) (coarse_of r k) S t
  opposite-same f S k t c inside row = record {
    there = λ v o. there v (renamed-on f o);
    back = λ y o. back y o (opposite-exists k (o.corner % 3) c (omega arith));
  }
    where
      there : (v : ℕ) → (y : ℕ) × On r.mesh (coarse_of r k) y × (at f y ≡ v) → On S t v
      there v (y, o, e) = hit (opposite-hit k y c o)
        where
          hit : (i : ℕ) × (i < 3) × (w : ℕ) × Kept r w × Opposite T k i w × (at r.vertex_map w ≡ y) → On S t v
          hit (i, b, w, p, x, d) = record {
            corner = 3 * t + i;
            inside = omega arith;
            triangle = omega arith;
            holds = row i w b p x ∙ ap (at f) d ∙ e;
          }

      back : (y : ℕ) (o : On S t y) → (w : ℕ) × Kept r w × Opposite T k (o.corner % 3) w
          → On (renamed f r.mesh) (coarse_of r k) y
      back y o (w, p, x) = subst (On (renamed f r.mesh) (coarse_of r k))
          (sym (row (o.corner % 3) w (omega arith) p x) ∙ on-place o)
          (on-renamed f (opposite-coarse k (o.corner % 3) w c (omega arith) x))
