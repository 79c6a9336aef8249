-- Taubin's covering mesh. A tile is a triangle with three regular edges and three different vertices across them; the
-- list W holds for each tile the row of the vertices across, and for every other triangle a row of three equal
-- entries. From a centre of a reading, the rows of W that are reached over shared edges are exactly the centres.
use Prim.Native.Nat.{ℕ, suc, ◌+◌, ◌*◌, ◌%◌, ◌<◌}
use native.Mathlib.Omega.{arith}
use mathlib.Core.Path.{◌≡◌, refl, sym, ap, ◌∙◌, subst}
use mathlib.Core.Logic.{◌≢◌, ◌⊎◌, inl, inr}
use mathlib.Core.List.{List}
use lib.ListN.{length}
use Rattle.theory.specs.Mesh.{at, triangles, On, HasEdge, Regular, Same, Share, Reach, here, step}
use Rattle.theory.specs.Mesh.{Proper}
use Rattle.theory.specs.Reading.{Reading, IsReading, Kept, Centre, RoleOf, centre, corner}
use Rattle.theory.proofs.Mesh.{on-place, regular-only, edge-across, reach-trans, reach-sym, reach-below}
use Rattle.theory.proofs.Mesh.{on-triangle, on-vertex, side, side-to}
use Rattle.theory.proofs.Centres.{coarse_of, vertex-apart, not-both, centre-or-not, centre-below}
use Rattle.theory.proofs.Centres.{kept-numbers, centre-numbers, across-centre, across-corner}
use Rattle.theory.proofs.Centres.{centre-regular, CentreOver, corner-over}
use Rattle.theory.proofs.Rows.{Opposite, edge_at, opposite-unique, opposite-apart, opposite-hit}

-- ---- tiles, their rows, and the start

-- three regular edges, and three different vertices across them
pub record IsTile (T : List ℕ) (k : ℕ) : Type 0 where
  pub regular : (i : ℕ) → i < 3 → Regular T (at T (3 * k + (i + 2) % 3)) (at T (3 * k + i))
  pub apart : (i j w : ℕ) → i < 3 → j < 3 → Opposite T k i w → Opposite T k j w → i ≡ j

-- row k of W: the vertices across a tile, or three equal entries
pub data Row (T W : List ℕ) (k : ℕ) : Type 0 where
  tile : IsTile T k → ((i : ℕ) → i < 3 → Opposite T k i (at W (3 * k + i))) → Row T W k
  flat : (IsTile T k → ⊥) → ((i j : ℕ) → i < 3 → j < 3 → at W (3 * k + i) ≡ at W (3 * k + j)) → Row T W k

-- the covering mesh
pub record Covering (T W : List ℕ) : Type 0 where
  pub long : length W ≡ length T
  pub row : (k : ℕ) → k < triangles T → Row T W k

-- where the search for a role of triangle k starts: at k itself, or at the triangle across the side opposite its corner
pub data Start (T : List ℕ) (k : ℕ) : ℕ → ℕ → Type 0 where
  own : Start T k 0 k
  beside : (i s : ℕ) → i < 3 → s ≢ k → Regular T (at T (3 * k + (i + 1) % 3)) (at T (3 * k + (i + 2) % 3))
      → HasEdge T s (at T (3 * k + (i + 1) % 3)) (at T (3 * k + (i + 2) % 3)) → Start T k (suc i) s

-- vertex v stands in a row that is reached from row s
pub record InRow (W : List ℕ) (s v : ℕ) : Type 0 where
  pub row : ℕ
  pub reached : Reach W s row
  pub on : On W row v

-- ---- from a tile, only tiles are reached

module _ (N : ℕ) (T : List ℕ) (P : Proper N T) (W : List ℕ) (cover : Covering T W) where
  -- there are as many rows as triangles
  row-triangle : {k v : ℕ} → On W k v → k < triangles T
  row-triangle o = omega (arith, P.otherwise.whole, cover.long, o.inside, o.triangle)

  -- a tile's row holds the vertices opposite its corners
  pub row-opposite : (k i : ℕ) → k < triangles T → IsTile T k → i < 3 → Opposite T k i (at W (3 * k + i))
  row-opposite k i l t b = entry (cover.row k l)
    where
      entry : Row T W k → Opposite T k i (at W (3 * k + i))
      entry (tile _ opposite) = opposite i b
      entry (flat none _) = absurd (none t)

  -- so each vertex on it is opposite a corner
  row-vertex : (k v : ℕ) → IsTile T k → On W k v → (i : ℕ) × (i < 3) × Opposite T k i v
  row-vertex k v t o =
      let b : o.corner % 3 < 3 = omega arith in
      let a : Opposite T k (o.corner % 3) (at W (3 * k + o.corner % 3)) = row-opposite k _ (row-triangle o) t b in
      (o.corner % 3, b, subst (λ w. Opposite T k (o.corner % 3) w) (on-place o) a)

  -- the entries of a tile's row are different
  pub row-different : (k i j : ℕ) → k < triangles T → IsTile T k → i < 3 → j < 3
      → at W (3 * k + i) ≡ at W (3 * k + j) → i ≡ j
  row-different k i j l t a b e =
      let o : Opposite T k i (at W (3 * k + j)) = subst (λ w. Opposite T k i w) e (row-opposite k i l t a) in
      t.apart i j (at W (3 * k + j)) a b o (row-opposite k j l t b)

  -- and vertices of the mesh
  pub row_below : (k i : ℕ) → k < triangles T → IsTile T k → i < 3 → at W (3 * k + i) < N
  row_below k i l t b = on-vertex P.otherwise (row-opposite k i l t b).has_w

  -- what is reached from a row is a row
  pub reached-below : (s k : ℕ) → s < triangles T → Reach W s k → k < triangles T
  reached-below s k l q =
      let whole : length T ≡ 3 * triangles T = P.otherwise.whole in
      let long : length W ≡ length T = cover.long in
      omega (arith, reach-below q (omega arith) (omega arith))

  -- a row with two different vertices is a tile's
  edge-tile : (k u v : ℕ) → HasEdge W k u v → IsTile T k
  edge-tile k u v e = which (cover.row k (row-triangle c))
    where
      c : On W k u
      c = e.one_end

      d : On W k v
      d = e.other_end

      which : Row T W k → IsTile T k
      which (tile t _) = t
      which (flat _ same) =
          let f : at W _ ≡ at W _ = same (c.corner % 3) (d.corner % 3) (omega arith) (omega arith) in
          absurd (e.differ (sym (on-place c) ∙ f ∙ on-place d))

  -- so only tiles are reached from a tile
  pub reached-tile : (s k : ℕ) → s < triangles T → IsTile T s → Reach W s k → IsTile T k
  reached-tile s k l t here = t
  reached-tile s k l t (step p h) = edge-tile k h.u h.v h.other

  -- ---- from a centre, exactly the centres are reached

  module _ (r : Reading) (R : IsReading Same N T r) where
    -- a centre is a tile
    pub centre-tile : (k : ℕ) → Centre r k → IsTile T k
    centre-tile k c = record {
      regular = λ i b. centre-regular N T P.otherwise r R k _ _ c (edge_at N T P.otherwise r R k i c b);
      apart = λ i j w. opposite-apart N T P.otherwise r R k i j w c;
    }

    -- whose row holds kept vertices
    pub centre-row-kept : (k v : ℕ) → Centre r k → On W k v → Kept r v
    centre-row-kept k v c o = across (row-vertex k v (centre-tile k c) o)
      where
        across : (i : ℕ) × (i < 3) × Opposite T k i v → Kept r v
        across (i, b, a) = across-centre N T P.otherwise r R k _ _ v c (edge_at N T P.otherwise r R k i c b) a

    -- a row with an edge and a kept vertex is a centre's: in any other tile's row stand vertices between
    kept-centre : (k u v : ℕ) → HasEdge W k u v → Kept r u → Centre r k
    kept-centre k u v e a =
        which (centre-or-not N T P.otherwise r R k l) (row-vertex k u (edge-tile k u v e) e.one_end)
      where
        l : k < triangles T
        l = row-triangle e.one_end

        which : Centre r k ⊎ (Centre r k → ⊥) → (i : ℕ) × (i < 3) × Opposite T k i u → Centre r k
        which (inl c) _ = c
        which (inr n) (i, b, o) = absurd (not-both N T P.otherwise r R u a
            (across-corner N T P.otherwise r R k _ _ u l n (side-to P.otherwise k i l b) o))

    -- so only centres are reached from a centre
    pub reached-centre : (s k : ℕ) → Centre r s → Reach W s k → Centre r k
    reached-centre s k c here = c
    reached-centre s k c (step {l = l} p h) =
        kept-centre k h.u h.v h.other (centre-row-kept l h.u (reached-centre s l c p) h.one.one_end)

    -- ---- the coarse mesh in the rows of the centres

    -- a kept vertex whose match is on the coarse triangle is on the row of its centre
    coarse-row : (k w : ℕ) → Centre r k → Kept r w
        → On r.mesh (coarse_of r k) (at r.vertex_map w) → On W k w
    coarse-row k w c a o = hit (opposite-hit N T P.otherwise r R k (at r.vertex_map w) c o)
      where
        l : k < triangles T
        l = centre-below N T P.otherwise r R k c

        hit : (i : ℕ) × (i < 3) × (x : ℕ) × Kept r x × Opposite T k i x × (at r.vertex_map x ≡ at r.vertex_map w)
            → On W k w
        hit (i, b, x, _, p, e) = record {
          corner = 3 * k + i;
          inside = omega (arith, P.otherwise.whole, cover.long);
          triangle = omega arith;
          holds = opposite-unique N T P.otherwise r R k i _ x c b (row-opposite k i l (centre-tile k c) b) p
              ∙ vertex-apart N T P.otherwise r R x w (on-vertex P.otherwise p.has_w)
              (omega (arith, a.inside, R.matched.vertices.long)) e;
        }

    -- so an edge of the coarse triangle is an edge of that row
    coarse-edge : (k w x y z : ℕ) → Centre r k → Kept r w → Kept r x
        → at r.vertex_map w ≡ y → at r.vertex_map x ≡ z
        → HasEdge r.mesh (coarse_of r k) y z → HasEdge W k w x
    coarse-edge k w x y z c a b p q e = record {
      differ = λ f. e.differ (sym p ∙ ap (at r.vertex_map) f ∙ q);
      one_end = coarse-row k w c a (rw p e.one_end);
      other_end = coarse-row k x c b (rw q e.other_end);
    }

    -- and where coarse triangles share an edge, so do the rows of their centres
    coarse-share : (k l : ℕ) → Centre r k → Centre r l
        → Share r.mesh (coarse_of r k) (coarse_of r l) → Share W k l
    coarse-share k l c d h = hit (kept h.one.one_end) (kept h.one.other_end)
      where
        kept : {j y : ℕ} → On r.mesh j y → (w : ℕ) × Kept r w × (at r.vertex_map w ≡ y)
        kept {y = y} o = (kept-numbers N T P.otherwise r R).onto y (on-vertex R.proper.otherwise o)

        hit : (w : ℕ) × Kept r w × (at r.vertex_map w ≡ h.u)
            → (x : ℕ) × Kept r x × (at r.vertex_map x ≡ h.v) → Share W k l
        hit (w, a, e) (x, b, f) = record {
          u = w;
          v = x;
          one = coarse-edge k w x h.u h.v c a b e f h.one;
          other = coarse-edge l w x h.u h.v d a b e f h.other;
        }

    -- so steps over the coarse mesh are steps over the rows of the centres
    coarse-reach : (s k j : ℕ) → Centre r s → Centre r k → coarse_of r k ≡ j
        → Reach r.mesh (coarse_of r s) j → Reach W s k
    coarse-reach s k j c d e here = subst (λ l. Reach W s l) same here
      where
        same : s ≡ k
        same = (centre-numbers N T P.otherwise r R).apart s k c d (sym e)
    coarse-reach s k j c d e (step {l = l} p h) =
        hit (λ m b f. coarse-reach s m l c b f p)
        ((centre-numbers N T P.otherwise r R).onto l (on-triangle R.proper.otherwise h.one.one_end))
      where
        hit : ((m : ℕ) → Centre r m → coarse_of r m ≡ l → Reach W s m)
            → (m : ℕ) × Centre r m × (coarse_of r m ≡ l) → Reach W s k
        hit before (m, b, f) = step (before m b f) (coarse-share m k b d (rw (e, f) h))

    -- the coarse mesh is connected: every centre is reached
    pub centre-reached : (s k : ℕ) → Centre r s → Centre r k → Reach W s k
    centre-reached s k c d = coarse-reach s k _ c d refl (reach-trans (reach-sym (from s c)) (from k d))
      where
        from : (k : ℕ) → Centre r k → Reach r.mesh 0 (coarse_of r k)
        from k c = R.proper.connected _ ((centre-numbers N T P.otherwise r R).below k c)

    -- the vertices of the reached rows are kept
    pub row_kept : (s v : ℕ) → Centre r s → InRow W s v → Kept r v
    row_kept s v c i = centre-row-kept i.row v (reached-centre s i.row c i.reached) i.on

    -- and all the kept ones
    pub kept_row : (s v : ℕ) → Centre r s → Kept r v → InRow W s v
    kept_row s v c a = used (R.proper.otherwise.used (at r.vertex_map v) a.coarse)
      where
        found : (j : ℕ) → On r.mesh j (at r.vertex_map v) → (k : ℕ) × Centre r k × (coarse_of r k ≡ j)
            → InRow W s v
        found j o (k, d, e) =
            record { row = k; reached = centre-reached s k c d; on = coarse-row k v d a (rw e o) }

        used : (j : ℕ) × On r.mesh j (at r.vertex_map v) → InRow W s v
        used (j, o) = found j o ((centre-numbers N T P.otherwise r R).onto j (on-triangle R.proper.otherwise o))

    -- ---- the start

    -- where a centre is over a side, the vertex opposite is kept
    over-kept : (k l u v w : ℕ) → Centre r k → k ≢ l → HasEdge T k v w → HasEdge T l u v → HasEdge T l u w → Kept r u
    over-kept k l u v w c n f d e = across-centre N T P.otherwise r R k v w u c f
        (edge-across (record { differ = f.differ; one_end = d.other_end; other_end = e.other_end }) (λ g. n (sym g))
        d.one_end d.differ e.differ)

    -- in a role of triangle k, the start is there
    pub start-exists : (k ρ : ℕ) → RoleOf T r k ρ → (s : ℕ) × Start T k ρ s
    start-exists k ρ (centre c) = (k, own)
    start-exists k ρ (corner i b l a) = start (corner-over N T P.otherwise r R k i l b a)
      where
        start : CentreOver T r k (at T (3 * k + (i + 1) % 3)) (at T (3 * k + (i + 2) % 3))
            → (s : ℕ) × Start T k (suc i) s
        start o = (
          o.triangle,
          beside i o.triangle b o.other
              (centre-regular N T P.otherwise r R o.triangle _ _ o.is o.has) o.has,
        )

    -- and is a centre: the side has only one other triangle
    pub start-centre : (k ρ s : ℕ) → RoleOf T r k ρ → Start T k ρ s → Centre r s
    start-centre k ρ s (centre c) own = c
    start-centre k ρ s (corner i b l a) (beside j _ _ n g e) = same (corner-over N T P.otherwise r R k i l b a)
      where
        opposite : HasEdge T k (at T (3 * k + (i + 1) % 3)) (at T (3 * k + (i + 2) % 3))
        opposite = side P.otherwise k ((i + 1) % 3) ((i + 2) % 3) l (omega arith) (omega arith) (omega arith)

        same : CentreOver T r k (at T (3 * k + (i + 1) % 3)) (at T (3 * k + (i + 2) % 3)) → Centre r s
        same o = subst (Centre r) (regular-only T k _ _ _ _ g opposite o.has e o.other n) o.is

    -- and where the start is a centre, triangle k has the role
    pub centre-start : (k ρ s : ℕ) → k < triangles T → Start T k ρ s → Centre r s → RoleOf T r k ρ
    centre-start k ρ s l own c = centre c
    centre-start k ρ s l (beside i _ b n _ e) c =
        corner i b l (over-kept s k (at T (3 * k + i)) _ _ c n e
        (side P.otherwise k i ((i + 1) % 3) l b (omega arith) (omega arith))
        (side P.otherwise k i ((i + 2) % 3) l b (omega arith) (omega arith)))
