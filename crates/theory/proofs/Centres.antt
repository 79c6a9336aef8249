-- What a reading makes of the input's vertices and triangles: a centre's edges are regular and the vertices across
-- them are kept; a triangle that is no centre has one kept vertex, and only vertices between across its edges. A
-- reading numbers the kept vertices and the centres.
use Prim.Native.Nat.{ℕ, ◌+◌, ◌*◌, ◌/◌, ◌%◌, ◌<◌}
use native.Mathlib.Decide.{ℕ_discrete, dec_lt}
use native.Mathlib.Omega.{arith}
use mathlib.Core.Path.{◌≡◌, sym, ap, ◌∙◌}
use mathlib.Core.Logic.{◌≢◌, ◌⊎◌, inl, inr}
use mathlib.Core.List.{List}
use lib.ListN.{length}
use Rattle.theory.specs.Mesh.{at, triangles, On, HasEdge, Regular, Same, OtherwiseProper}
use Rattle.theory.specs.Splitting.{split}
use Rattle.theory.specs.Reading.{Reading, IsReading, Kept, Between, Centre, Across}
use Rattle.theory.proofs.Numbering.{Numbers}
use Rattle.theory.proofs.Mesh.{three-on, across-edge, on-triangle, on-vertex, side}
use Rattle.theory.proofs.Renaming.{on-match, match-on, match-on-only}
use Rattle.theory.proofs.Splitting.{split-triangles, edge, split-on}
use Rattle.theory.proofs.Heart
use Rattle.theory.proofs.Heart.{EdgeOn, edge_on, two-between, corner-coarse, corner-coarse-only}
use Rattle.theory.proofs.Heart.{coarse-once, centre-beside}

-- ---- readings

-- the splitting that the input is matched onto
abbrev pub splitting : Reading → List ℕ
splitting r = split r.vertices r.mesh

-- the coarse triangle whose four triangle k belongs to
abbrev pub coarse_of : Reading → ℕ → ℕ
coarse_of r k = at r.triangle_map k / 4

-- the centre of the four of triangle l is another triangle, and has the edge v-w
pub record CentreOver (T : List ℕ) (r : Reading) (l v w : ℕ) : Type 0 where
  pub triangle : ℕ
  pub is : Centre r triangle
  pub other : triangle ≢ l
  pub same : coarse_of r triangle ≡ coarse_of r l
  pub has : HasEdge T triangle v w

module _ (N : ℕ) (T : List ℕ) (P : OtherwiseProper N T) (r : Reading) (R : IsReading Same N T r) where
  -- ---- to the splitting and back

  -- a vertex on an input triangle is, under the maps, on the matched triangle of the splitting
  pub on-there : (k v : ℕ) → On T k v
      → On (splitting r) (at r.triangle_map k) (at r.vertex_map v)
  on-there k v o = on-match R.matched (on-triangle P o) o

  -- and each vertex of the matched triangle comes from one of the input triangle
  pub on-back : (k y : ℕ) → k < triangles T → On (splitting r) (at r.triangle_map k) y
      → (v : ℕ) × On T k v × (at r.vertex_map v ≡ y)
  on-back k y l o = match-on R.matched l o

  -- the vertex map is one to one
  pub vertex-apart : (u v : ℕ) → u < N → v < N → at r.vertex_map u ≡ at r.vertex_map v → u ≡ v
  vertex-apart u v = R.matched.vertices.apart u v

  -- and so is the triangle map
  pub triangle-apart : (j k : ℕ) → j < triangles T → k < triangles T
      → at r.triangle_map j ≡ at r.triangle_map k → j ≡ k
  triangle-apart j k = R.matched.faces.apart j k

  -- so the ends of an edge have different matches
  ends-apart : (k u v : ℕ) → HasEdge T k u v → at r.vertex_map u ≢ at r.vertex_map v
  ends-apart k u v h e =
      h.differ (vertex-apart u v (on-vertex P h.one_end) (on-vertex P h.other_end) e)

  -- and a vertex whose match is on the matched triangle is on the triangle
  pub on-from : (k v : ℕ) → k < triangles T → v < N
      → On (splitting r) (at r.triangle_map k) (at r.vertex_map v) → On T k v
  on-from k v l b o = match-on-only R.matched P l b o

  -- ---- kept or between, centre or not

  -- every vertex is kept or stands between
  pub kept-or-between : (v : ℕ) → v < N → Kept r v ⊎ Between r v
  kept-or-between v l = go (dec_lt (at r.vertex_map v) r.vertices)
    where
      inside : v < length r.vertex_map
      inside = omega arith

      go : Dec (at r.vertex_map v < r.vertices) → Kept r v ⊎ Between r v
      go (yes b) = inl (record { inside = inside; coarse = b })
      go (no n) = inr (record { inside = inside; new = omega arith })

  -- and not both
  pub not-both : (v : ℕ) → Kept r v → Between r v → ⊥
  not-both v k b = omega arith

  -- a triangle matched to some 4j is a centre
  pub fourth-centre : (k : ℕ) → k < triangles T → at r.triangle_map k % 4 ≡ 0 → Centre r k
  fourth-centre k l z = record { inside = omega arith; fourth = z }

  -- every triangle is a centre or is none
  pub centre-or-not : (k : ℕ) → k < triangles T → Centre r k ⊎ (Centre r k → ⊥)
  centre-or-not k l = go (ℕ_discrete (at r.triangle_map k % 4) 0)
    where
      go : Dec (at r.triangle_map k % 4 ≡ 0) → Centre r k ⊎ (Centre r k → ⊥)
      go (yes z) = inl (fourth-centre k l z)
      go (no n) = inr (λ c. n c.fourth)

  -- a kept vertex is one of the vertices
  pub kept-below : (v : ℕ) → Kept r v → v < N
  kept-below v q = omega (arith, q.inside, R.matched.vertices.long)

  -- and a centre is one of the triangles
  pub centre-below : (k : ℕ) → Centre r k → k < triangles T
  centre-below k c = omega (arith, c.inside, R.matched.faces.long)

  -- ---- the numbers that a reading gives

  -- a triangle belongs to the four of a coarse triangle
  pub coarse_of-below : (k : ℕ) → k < triangles T → coarse_of r k < triangles r.mesh
  coarse_of-below k l = omega (arith, R.matched.faces.below k l, split-triangles r.vertices r.mesh)

  -- every triangle of the splitting is matched
  pub triangle-hit : (t : ℕ) → t < 4 * triangles r.mesh
      → (k : ℕ) × (k < triangles T) × (at r.triangle_map k ≡ t)
  triangle-hit t l = R.matched.faces.onto t (omega (arith, split-triangles r.vertices r.mesh))

  -- the reading numbers the kept vertices
  pub kept-numbers : Numbers (Kept r) (at r.vertex_map) r.vertices
  kept-numbers = record {
    below = λ v q. q.coarse;
    apart = λ u v p q. vertex-apart u v (kept-below u p) (kept-below v q);
    onto = λ y l. hit y l (R.matched.vertices.onto y (omega arith));
  }
    where
      hit : (y : ℕ) → y < r.vertices → (v : ℕ) × (v < N) × (at r.vertex_map v ≡ y)
          → (v : ℕ) × Kept r v × (at r.vertex_map v ≡ y)
      hit y l (v, b, e) = (v, record { inside = omega (arith, R.matched.vertices.long); coarse = omega arith }, e)

  -- and, by the coarse triangles, the centres
  pub centre-numbers : Numbers (Centre r) (coarse_of r) (triangles r.mesh)
  centre-numbers = record {
    below = λ k c. coarse_of-below k (centre-below k c);
    apart = λ j k p q e. triangle-apart j k (centre-below j p) (centre-below k q) (omega arith);
    onto = λ j l. hit j (triangle-hit (4 * j) (omega arith));
  }
    where
      hit : (j : ℕ) → (k : ℕ) × (k < triangles T) × (at r.triangle_map k ≡ 4 * j)
          → (k : ℕ) × Centre r k × (coarse_of r k ≡ j)
      hit j (k, b, e) = (k, fourth-centre k b (omega arith), omega arith)

  -- ---- the vertices of a triangle

  -- a vertex on a triangle has a match
  vertex-inside : (k v : ℕ) → On T k v → v < length r.vertex_map
  vertex-inside k v o = omega (arith, on-vertex P o)

  -- a centre's vertices stand between
  pub centre-between : (k v : ℕ) → Centre r k → On T k v → Between r v
  centre-between k v c o = record {
    inside = vertex-inside k v o;
    new = Heart.centre-between r.vertices r.mesh R.proper.otherwise (at r.triangle_map k)
        (at r.vertex_map v) c.fourth (on-there k v o);
  }

  -- so a triangle with a kept vertex is no centre
  pub kept-no-centre : (k v : ℕ) → On T k v → Kept r v → Centre r k → ⊥
  kept-no-centre k v o q c = not-both v q (centre-between k v c o)

  -- a triangle that is no centre has a kept vertex
  pub corner-kept : (k : ℕ) → k < triangles T → (Centre r k → ⊥) → (v : ℕ) × On T k v × Kept r v
  corner-kept k l c =
      found (corner-coarse r.vertices r.mesh R.proper.otherwise (at r.triangle_map k)
      (omega (arith, R.matched.faces.below k l, split-triangles r.vertices r.mesh))
      (λ z. c (fourth-centre k l z)))
    where
      found : (y : ℕ) × (y < r.vertices) × On (splitting r) (at r.triangle_map k) y
          → (v : ℕ) × On T k v × Kept r v
      found (y, b, o) = from (on-back k y l o)
        where
          from : (v : ℕ) × On T k v × (at r.vertex_map v ≡ y) → (v : ℕ) × On T k v × Kept r v
          from (v, q, e) = (v, q, record { inside = vertex-inside k v q; coarse = omega arith })

  -- and only one
  pub one_kept : (k u v : ℕ) → On T k u → On T k v → Kept r u → Kept r v → u ≡ v
  one_kept k u v ou ov ku kv =
      vertex-apart u v (on-vertex P ou) (on-vertex P ov)
      (corner-coarse-only r.vertices r.mesh R.proper.otherwise (at r.triangle_map k) (at r.vertex_map u)
      (at r.vertex_map v) ku.coarse kv.coarse (on-there k u ou) (on-there k v ov))

  -- beside it stand only vertices between
  pub beside-kept : (k u v : ℕ) → On T k u → On T k v → u ≢ v → Kept r u → Between r v
  beside-kept k u v ou ov d ku = go (kept-or-between v (on-vertex P ov))
    where
      go : Kept r v ⊎ Between r v → Between r v
      go (inl kv) = absurd (d (one_kept k u v ou ov ku kv))
      go (inr b) = b

  -- ---- over an edge

  -- two vertices between on two different triangles: these are a centre and a corner triangle of one four
  over-between : (k l u v : ℕ) → HasEdge T k u v → HasEdge T l u v → l ≢ k → Between r u → Between r v
      → (coarse_of r l ≡ coarse_of r k)
      × ((Centre r k × (Centre r l → ⊥)) ⊎ (Centre r l × (Centre r k → ⊥)))
  over-between k l u v hk hl n bu bv = go (two-between r.vertices r.mesh R.proper.otherwise gk gl
      (at r.vertex_map u) (at r.vertex_map v) (ends-apart k u v hk) bu.new bv.new
      (λ e. n (sym (triangle-apart k l lk ll e))) (on-there k u hk.one_end) (on-there k v hk.other_end)
      (on-there l u hl.one_end) (on-there l v hl.other_end))
    where
      gk : ℕ
      gk = at r.triangle_map k

      gl : ℕ
      gl = at r.triangle_map l

      lk : k < triangles T
      lk = on-triangle P hk.one_end

      ll : l < triangles T
      ll = on-triangle P hl.one_end

      go : (gk / 4 ≡ gl / 4) × (((gk % 4 ≡ 0) × (gl % 4 ≢ 0)) ⊎ ((gl % 4 ≡ 0) × (gk % 4 ≢ 0)))
          → (gl / 4 ≡ gk / 4) × ((Centre r k × (Centre r l → ⊥)) ⊎ (Centre r l × (Centre r k → ⊥)))
      go (q, inl (z, m)) = (sym q, inl (fourth-centre k lk z, λ c. m c.fourth))
      go (q, inr (z, m)) = (sym q, inr (fourth-centre l ll z, λ c. m c.fourth))

  -- a triangle that shares an edge with a centre is no centre, and belongs to the same four
  pub beside-centre : (k l u v : ℕ) → Centre r k → HasEdge T k u v → HasEdge T l u v → l ≢ k
      → (Centre r l → ⊥) × (coarse_of r l ≡ coarse_of r k)
  beside-centre k l u v c hk hl n =
      go (over-between k l u v hk hl n (centre-between k u c hk.one_end) (centre-between k v c hk.other_end))
    where
      go : (coarse_of r l ≡ coarse_of r k)
          × ((Centre r k × (Centre r l → ⊥)) ⊎ (Centre r l × (Centre r k → ⊥)))
          → (Centre r l → ⊥) × (coarse_of r l ≡ coarse_of r k)
      go (q, inl (_, m)) = (m, q)
      go (q, inr (_, m)) = absurd (m c)

  -- so the vertex across an edge of a centre is kept
  pub across-centre : (k u v w : ℕ) → Centre r k → HasEdge T k u v → Across T k u v w → Kept r w
  across-centre k u v w c h a =
      go (corner-kept a.other (on-triangle P a.has_u)
      (beside-centre k a.other u v c h (across-edge h.differ a) a.another).0)
    where
      go : (x : ℕ) × On T a.other x × Kept r x → Kept r w
      go (x, o, q) =
          rw (three-on T a.other u v w x a.has_u a.has_v a.has_w h.differ (λ e. a.not_v (sym e)) a.not_u
          o
          (λ e. not-both u (rw e at q) (centre-between k u c h.one_end))
          (λ e. not-both v (rw e at q) (centre-between k v c h.other_end))) at q

  -- triangles that are no centres and have two vertices between in common are one
  corners-same : (k l u v : ℕ) → (Centre r k → ⊥) → (Centre r l → ⊥) → HasEdge T k u v → HasEdge T l u v
      → Between r u → Between r v → l ≡ k
  corners-same k l u v ck cl hk hl bu bv = go (ℕ_discrete l k)
    where
      clash : (Centre r k × (Centre r l → ⊥)) ⊎ (Centre r l × (Centre r k → ⊥)) → ⊥
      clash (inl (c, _)) = ck c
      clash (inr (c, _)) = cl c

      go : Dec (l ≡ k) → l ≡ k
      go (yes e) = e
      go (no n) = absurd (clash (over-between k l u v hk hl n bu bv).1)

  -- across an edge of any other triangle stands a vertex between
  pub across-corner : (k u v w : ℕ) → k < triangles T → (Centre r k → ⊥) → HasEdge T k u v → Across T k u v w
      → Between r w
  across-corner k u v w l c h a =
      go (centre-or-not a.other (on-triangle P a.has_w))
      (kept-or-between w (on-vertex P a.has_w))
    where
      go : Centre r a.other ⊎ (Centre r a.other → ⊥) → Kept r w ⊎ Between r w → Between r w
      go (inl d) _ = centre-between a.other w d a.has_w
      go (inr d) (inl q) =
          absurd (a.another (corners-same k a.other u v c d h (across-edge h.differ a)
          (beside-kept a.other w u a.has_w a.has_u a.not_u q)
          (beside-kept a.other w v a.has_w a.has_v a.not_v q)))
      go (inr d) (inr b) = b

  -- a corner triangle of the same four has the edge of a centre too
  centre-second : (k u v : ℕ) → Centre r k → HasEdge T k u v → (l : ℕ) × HasEdge T l u v × (Centre r l → ⊥)
  centre-second k u v c h = found (centre-beside r.vertices r.mesh R.proper.otherwise (at r.triangle_map k)
      (at r.vertex_map u) (at r.vertex_map v) c.fourth (ends-apart k u v h) (on-there k u h.one_end)
      (on-there k v h.other_end))
    where
      found : (t : ℕ) × (t < 4 * triangles r.mesh) × (t % 4 ≢ 0)
          × On (splitting r) t (at r.vertex_map u)
          × On (splitting r) t (at r.vertex_map v)
          → (l : ℕ) × HasEdge T l u v × (Centre r l → ⊥)
      found (t, b, n, ou, ov) =
          from (R.matched.faces.onto t (omega (arith, split-triangles r.vertices r.mesh)))
        where
          from : (l : ℕ) × (l < triangles T) × (at r.triangle_map l ≡ t)
              → (l : ℕ) × HasEdge T l u v × (Centre r l → ⊥)
          from (l, i, e) = (
            l,
            record {
              differ = h.differ;
              one_end = on-from l u i (on-vertex P h.one_end) (rw e ou);
              other_end = on-from l v i (on-vertex P h.other_end) (rw e ov);
            },
            λ d. n (ap (λ x. x % 4) (sym e) ∙ d.fourth),
          )

  -- "A centre needs three regular edges"
  pub centre-regular : (k u v : ℕ) → Centre r k → HasEdge T k u v → Regular T u v
  centre-regular k u v c h = found (centre-second k u v c h)
    where
      found : (l : ℕ) × HasEdge T l u v × (Centre r l → ⊥) → Regular T u v
      found (l, hl, cl) = record {
        one = k;
        two = l;
        differ = λ e. cl (rw e at c);
        has_one = h;
        has_two = hl;
        others = λ m hm. go m hm (ℕ_discrete m k);
      }
        where
          go : (m : ℕ) → HasEdge T m u v → Dec (m ≡ k) → (m ≡ k) ⊎ (m ≡ l)
          go m hm (yes e) = inl e
          go m hm (no n) = inr (corners-same l m u v cl (beside-centre k m u v c h hm n).0 hl hm
              (centre-between k u c h.one_end) (centre-between k v c h.other_end))

  -- "and its three vertices opposite must be pairwise different"
  pub centre-apart : (k u v w x : ℕ) → Centre r k → On T k u → On T k v → On T k w → u ≢ v → v ≢ w → w ≢ u
      → Across T k u v x → Across T k v w x → ⊥
  centre-apart k u v w x c ou ov ow uv vw wu a b = b.not_v (three-on T a.other u v w x a.has_u a.has_v
      (rw one at b.has_v) uv vw wu a.has_w a.not_u a.not_v)
    where
      huv : HasEdge T k u v
      huv = record { differ = uv; one_end = ou; other_end = ov }

      hvw : HasEdge T k v w
      hvw = record { differ = vw; one_end = ov; other_end = ow }

      one-four : coarse_of r b.other ≡ coarse_of r a.other
      one-four = (beside-centre k b.other v w c hvw (across-edge vw b) b.another).1
          ∙ sym (beside-centre k a.other u v c huv (across-edge uv a) a.another).1

      one : b.other ≡ a.other
      one = triangle-apart b.other a.other (on-triangle P b.has_w)
          (on-triangle P a.has_w)
          (coarse-once r.vertices r.mesh R.proper.otherwise (at r.triangle_map b.other)
          (at r.triangle_map a.other) (at r.vertex_map x) (across-centre k u v x c huv a).coarse one-four
          (on-there b.other x b.has_w) (on-there a.other x a.has_w))

  -- ---- the centre of a triangle's four

  -- every triangle belongs to the four of a centre
  four-centre : (l : ℕ) → l < triangles T → (k : ℕ) × Centre r k × (coarse_of r k ≡ coarse_of r l)
  four-centre l b = centre-numbers.onto (coarse_of r l) (coarse_of-below l b)

  -- a vertex between on a triangle is also on the centre of its four
  between-centre : (k l u : ℕ) → Centre r k → coarse_of r l ≡ coarse_of r k
      → On T l u → Between r u → On T k u
  between-centre k l u c e o b =
      go (edge_on r.vertices r.mesh R.proper.otherwise (at r.triangle_map l) (at r.vertex_map u) b.new
      (on-there l u o))
    where
      go : EdgeOn r.vertices r.mesh (at r.triangle_map l) (at r.vertex_map u) → On T k u
      go h = on-from k u (centre-below k c) (on-vertex P o)
          (split-on r.vertices r.mesh R.proper.otherwise.whole (at r.triangle_map k) (at r.vertex_map u)
          (edge h.half h.inside (h.within ∙ e) (inl c.fourth) h.number))

  -- so every vertex between is on a centre
  pub between-on : (v : ℕ) → Between r v → (k : ℕ) × Centre r k × On T k v
  between-on v b = used (P.used v (omega (arith, b.inside, R.matched.vertices.long)))
    where
      found : (l : ℕ) → On T l v → (k : ℕ) × Centre r k × (coarse_of r k ≡ coarse_of r l)
          → (k : ℕ) × Centre r k × On T k v
      found l o (k, c, e) = (k, c, between-centre k l v c (sym e) o b)

      used : (l : ℕ) × On T l v → (k : ℕ) × Centre r k × On T k v
      used (l, o) = found l o (four-centre l (on-triangle P o))

  -- and over the side opposite a kept vertex is a centre: that of the triangle's four
  centre-over : (l u v w : ℕ) → Kept r u → HasEdge T l u v → HasEdge T l u w → HasEdge T l v w
      → CentreOver T r l v w
  centre-over l u v w a d e f =
      found (four-centre l (on-triangle P f.one_end))
    where
      found : (k : ℕ) × Centre r k × (coarse_of r k ≡ coarse_of r l) → CentreOver T r l v w
      found (k, c, q) = record {
        triangle = k;
        is = c;
        other = λ g. kept-no-centre l u d.one_end a (rw g at c);
        same = q;
        has = record {
          differ = f.differ;
          one_end =
              between-centre k l v c (sym q) f.one_end (beside-kept l u v d.one_end d.other_end d.differ a);
          other_end =
              between-centre k l w c (sym q) f.other_end (beside-kept l u w e.one_end e.other_end e.differ a);
        };
      }

  -- so the centre of its four is beside a triangle with a kept corner
  pub corner-over : (l i : ℕ) → l < triangles T → i < 3 → Kept r (at T (3 * l + i))
      → CentreOver T r l (at T (3 * l + (i + 1) % 3)) (at T (3 * l + (i + 2) % 3))
  corner-over l i b a q = centre-over l (at T (3 * l + i)) (at T (3 * l + (i + 1) % 3)) (at T (3 * l + (i + 2) % 3)) q
      (side P l i ((i + 1) % 3) b a (omega arith) (omega arith))
      (side P l i ((i + 2) % 3) b a (omega arith) (omega arith))
      (side P l ((i + 1) % 3) ((i + 2) % 3) b (omega arith) (omega arith) (omega arith))
