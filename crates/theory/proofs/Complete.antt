-- Complete: where a returned reading exists in a role, what is built from the start of that role is that reading, so
-- that every test passes.
use Prim.Native.Nat.{ℕ, suc, ◌+◌, ◌*◌, ◌/◌, ◌%◌, ◌≤◌, ◌<◌}
use native.Mathlib.Omega.{arith}
use mathlib.Core.Path.{◌≡◌, sym, ap, ◌∙◌, subst, subst₂}
use mathlib.Core.Logic.{◌≢◌, ◌⊎◌, inl, inr}
use mathlib.Core.List.{List}
use lib.ListN.{length}
use lib.Seq.{ext_get_or}
use Rattle.theory.specs.Mesh.{at, triangles, On, HasEdge, Same, Rotated, Reach, Proper}
use Rattle.theory.specs.Splitting.{edges, edge_no}
use Rattle.theory.specs.Reading.{Agreement, renamed, Reading, IsReading, Kept, Between, Centre, RoleOf, Returned}
use Rattle.theory.proofs.Finite.{match-size}
use Rattle.theory.proofs.Numbering.{Numbers, numbers_of, numbers-size, upward-agree, ranks-numbers}
use Rattle.theory.proofs.Mesh.{on-place, across-edge, edge-across, on-triangle, side}
use Rattle.theory.proofs.Renaming.{renamed-at, renamed-length}
use Rattle.theory.proofs.Splitting.{shared-side, split-length, split-centre}
use Rattle.theory.proofs.Heart.{CoarseOn, coarse-on, common-between}
use Rattle.theory.proofs.Centres.{
  splitting,
  coarse_of,
  CentreOver,
  on-there,
  kept-or-between,
  not-both,
  centre-below,
  kept-numbers,
  centre-numbers,
  centre-between,
  corner-kept,
  beside-centre,
  between-on,
  corner-over,
}
use Rattle.theory.proofs.Rows.{Opposite, edge_at, opposite-exists, opposite-unique}
use Rattle.theory.proofs.Unique.{role-exists}
use Rattle.theory.proofs.Determined.{quarter}
use Rattle.theory.proofs.Tiles.{Covering, InRow, row-opposite, centre-tile}
use Rattle.theory.proofs.Tiles.{reached-centre, centre-reached, row_kept, kept_row}
use Rattle.theory.proofs.Built.{Ranked, Built, Found}

-- triangle l has the side of triangle k that ends at its corner i
abbrev Side : List ℕ → ℕ → ℕ → ℕ → Type 0
Side T k i l = HasEdge T l (at T (3 * k + (i + 2) % 3)) (at T (3 * k + i))

-- ---- what a returned reading says of a centre and the triangles beside it

module _ (N : ℕ) (T : List ℕ) (P : Proper N T) (ρ : ℕ) (r : Reading) (R : Returned Same N T ρ r) where
  -- the kept vertex of a triangle beside a centre is the one opposite
  beside-opposite : (k i l : ℕ) → Centre r k → i < 3 → l ≢ k → Side T k i l
      → (w : ℕ) × Kept r w × On T l w × Opposite T k i w
  beside-opposite k i l c b n h =
      go (corner-kept N T P.otherwise r R.is l (on-triangle P.otherwise h.one_end)
      (beside-centre N T P.otherwise r R.is k l _ _ c own h n).0)
    where
      own : Side T k i k
      own = edge_at N T P.otherwise r R.is k i c b

      apart : {v w : ℕ} → On T k v → Kept r w → w ≢ v
      apart {v} {w} o p e = not-both N T P.otherwise r R.is w p
          (subst (Between r) (sym e) (centre-between N T P.otherwise r R.is k v c o))

      go : (w : ℕ) × On T l w × Kept r w → (w : ℕ) × Kept r w × On T l w × Opposite T k i w
      go (w, o, p) = (w, p, o, edge-across h n o (apart own.one_end p) (apart own.other_end p))

  -- where the kept vertex of a triangle of a four is the one at corner i of the coarse triangle, it stands at corner i
  stands-corner : (k i l w : ℕ) → coarse_of r l ≡ coarse_of r k → i < 3
      → at r.mesh (3 * coarse_of r k + i) ≡ at r.vertex_map w
      → CoarseOn r.mesh (at r.triangle_map l) (at r.vertex_map w)
      → at r.triangle_map l ≡ 4 * coarse_of r k + suc i
  stands-corner k i l w four b e q = omega (arith, same)
    where
      same : q.corner ≡ 3 * coarse_of r k + i
      same = R.is.proper.otherwise.different q.corner (3 * coarse_of r k + i) q.inside
          (omega arith) (omega arith) (q.holds ∙ sym e)

  -- so the triangle over the side of a centre that ends at corner i stands at corner i of the coarse triangle
  returned-corner : (k i l : ℕ) → Centre r k → i < 3 → l ≢ k → Side T k i l
      → at r.triangle_map l ≡ 4 * coarse_of r k + suc i
  returned-corner k i l c b n h = go (R.rows k i c b) (beside-opposite k i l c b n h)
    where
      four : coarse_of r l ≡ coarse_of r k
      four = (beside-centre N T P.otherwise r R.is k l _ _ c (edge_at N T P.otherwise r R.is k i c b) h n).1

      go : (x : ℕ) × Kept r x × Opposite T k i x × (at r.mesh (3 * coarse_of r k + i) ≡ at r.vertex_map x)
          → (w : ℕ) × Kept r w × On T l w × Opposite T k i w → at r.triangle_map l ≡ 4 * coarse_of r k + suc i
      go (x, _, a, e) (w, p, o, f) =
          let z : x ≡ w = opposite-unique N T P.otherwise r R.is k i x w c b a f in
          stands-corner k i l w four b (e ∙ ap (at r.vertex_map) z)
          (coarse-on r.vertices r.mesh R.is.proper.otherwise (at r.triangle_map l) (at r.vertex_map w)
          p.coarse (on-there N T P.otherwise r R.is l w o))

  -- and there is such a triangle
  corner-triangle : (k i : ℕ) → Centre r k → i < 3
      → (l : ℕ) × Side T k i l × (at r.triangle_map l ≡ 4 * coarse_of r k + suc i)
  corner-triangle k i c b = go (opposite-exists N T P.otherwise r R.is k i c b)
    where
      go : (w : ℕ) × Kept r w × Opposite T k i w
          → (l : ℕ) × Side T k i l × (at r.triangle_map l ≡ 4 * coarse_of r k + suc i)
      go (w, _, a) = (a.other, over, returned-corner k i a.other c b a.another over)
        where
          over : Side T k i a.other
          over = across-edge (edge_at N T P.otherwise r R.is k i c b).differ a

  -- the vertex at corner i of a centre is matched to the one on half-edge i of the coarse triangle
  returned-between : (k i : ℕ) → Centre r k → i < 3
      → at r.vertex_map (at T (3 * k + i)) ≡ edge_no r.vertices r.mesh (3 * coarse_of r k + i)
  returned-between k i c b = go (corner-triangle k i c b) (corner-triangle k ((i + 1) % 3) c (omega arith))
    where
      v : ℕ
      v = at T (3 * k + i)

      on : (l t : ℕ) → On T l v → at r.triangle_map l ≡ t → On (splitting r) t (at r.vertex_map v)
      on l t o e = rw e at (on-there N T P.otherwise r R.is l v o)

      here : On T k v
      here = (edge_at N T P.otherwise r R.is k i c b).other_end

      new : r.vertices ≤ at r.vertex_map v
      new = (centre-between N T P.otherwise r R.is k v c here).new

      go : (l : ℕ) × Side T k i l × (at r.triangle_map l ≡ 4 * coarse_of r k + suc i)
          → (m : ℕ) × Side T k ((i + 1) % 3) m × (at r.triangle_map m ≡ 4 * coarse_of r k + suc ((i + 1) % 3))
          → at r.vertex_map v ≡ edge_no r.vertices r.mesh (3 * coarse_of r k + i)
      go (l, f, d) (m, g, e) =
          let before : ((i + 1) % 3 + 2) % 3 ≡ i = omega arith in
          common-between r.vertices r.mesh R.is.proper.otherwise (coarse_of r k) i (at r.vertex_map v) b
          new (on l _ f.other_end d) (on m _ (subst (λ (j : ℕ). On T m (at T (3 * k + j))) before g.one_end) e)

  -- so a centre agrees with its own of the splitting, corner for corner
  pub returned-centre : (k : ℕ) → Centre r k
      → Rotated (renamed r.vertex_map T) k (splitting r) (at r.triangle_map k)
  returned-centre k c = record {
    inside = rw (renamed-length r.vertex_map T) (omega (arith, P.otherwise.whole, below));
    other_inside = omega (arith, split-length r.vertices r.mesh, coarse-below, c.fourth);
    by = 0;
    few = omega arith;
    corners = λ i b.
        let here : 3 * k + i < length T = omega (arith, P.otherwise.whole, below) in
        let there : 12 * coarse_of r k + i ≡ 3 * at r.triangle_map k + (i + 0) % 3 = omega (arith, c.fourth) in
        renamed-at r.vertex_map T (3 * k + i) here ∙ returned-between k i c b
        ∙ sym (split-centre r.vertices r.mesh (coarse_of r k) i coarse-below b) ∙ ap (at (splitting r)) there;
  }
    where
      below : k < triangles T
      below = centre-below N T P.otherwise r R.is k c

      coarse-below : coarse_of r k < triangles r.mesh
      coarse-below = (centre-numbers N T P.otherwise r R.is).below k c

-- ---- from a centre, which the start of the role is

module _ (N : ℕ) (T : List ℕ) (P : Proper N T) (W : List ℕ) (cover : Covering T W) (ρ : ℕ) (r : Reading)
    (R : Returned Same N T ρ r) (s : ℕ) (start : Centre r s) where
  -- each row reached is a centre's
  reach-centre : (k : ℕ) → Reach W s k → Centre r k
  reach-centre k = reached-centre N T P W cover r R.is s k start

  -- and each centre's row is reached
  centre-reach : (k : ℕ) → Centre r k → Reach W s k
  centre-reach k = centre-reached N T P W cover r R.is s k start

  -- each vertex in a reached row is kept
  in-row-kept : (v : ℕ) → InRow W s v → Kept r v
  in-row-kept v = row_kept N T P W cover r R.is s v start

  -- and each kept vertex is in one
  kept-in-row : (v : ℕ) → Kept r v → InRow W s v
  kept-in-row v = kept_row N T P W cover r R.is s v start

  -- so the reading numbers the vertices of the reached rows
  vertex-numbers : Numbers (InRow W s) (at r.vertex_map) r.vertices
  vertex-numbers = numbers_of in-row-kept kept-in-row (kept-numbers N T P.otherwise r R.is)

  -- and the rows
  pub row-numbers : Numbers (Reach W s) (coarse_of r) (triangles r.mesh)
  row-numbers = numbers_of reach-centre centre-reach (centre-numbers N T P.otherwise r R.is)

  -- ---- the numbers of the reached rows and of their vertices are those of the reading

  module _ (M F : ℕ) (vertex_rank rank : List ℕ) (ranked : Ranked W s M F vertex_rank rank) where
    -- there are as many vertices as in the reading
    pub ranked-vertices : M ≡ r.vertices
    ranked-vertices = numbers-size (ranks-numbers ranked.vertices) vertex-numbers

    -- and as many rows as coarse triangles
    pub ranked-triangles : F ≡ triangles r.mesh
    ranked-triangles = numbers-size (ranks-numbers ranked.rows) row-numbers

    -- a quarter of the triangles
    pub ranked-quarter : triangles T ≡ 4 * F
    ranked-quarter = omega (arith, ranked-triangles, quarter R.is)

    -- the rank of a vertex is its number in the reading
    pub ranked-kept : (v : ℕ) → InRow W s v → at vertex_rank v ≡ at r.vertex_map v
    ranked-kept = upward-agree (ranks-numbers ranked.vertices) vertex-numbers ranked.vertices.upward
        (record { grows = λ u v p q. R.kept_upward u v (in-row-kept u p) (in-row-kept v q) })

    -- and the number of a row that of its coarse triangle
    ranked-coarse : (k : ℕ) → Reach W s k → at rank k ≡ coarse_of r k
    ranked-coarse = upward-agree (ranks-numbers ranked.rows) row-numbers ranked.rows.upward
        (record { grows = grows })
      where
        grows : (j k : ℕ) → Reach W s j → Reach W s k → j < k → coarse_of r j < coarse_of r k
        grows j k p q l =
            let c : Centre r j = reach-centre j p in
            let d : Centre r k = reach-centre k q in
            omega (arith, R.centres_upward j k c d l)

    -- so four times that number is where the reading puts the centre
    pub ranked-centre : (k : ℕ) → Reach W s k → 4 * at rank k ≡ at r.triangle_map k
    ranked-centre k p = omega (arith, ranked-coarse k p, reach-centre k p)

  -- ---- what is built is the reading

  module _ (M : ℕ) (C vertex_rank rank : List ℕ) (built : Built W s M C vertex_rank rank) where
    -- as many vertices
    built-vertices : M ≡ r.vertices
    built-vertices = ranked-vertices M (triangles C) vertex_rank rank built.ranked

    -- the same ranks
    built-kept : (v : ℕ) → InRow W s v → at vertex_rank v ≡ at r.vertex_map v
    built-kept = ranked-kept M (triangles C) vertex_rank rank built.ranked

    -- the same numbers of the rows
    built-coarse : (k : ℕ) → Reach W s k → at rank k ≡ coarse_of r k
    built-coarse = ranked-coarse M (triangles C) vertex_rank rank built.ranked

    -- the same centres
    built-centre : (k : ℕ) → Reach W s k → 4 * at rank k ≡ at r.triangle_map k
    built-centre = ranked-centre M (triangles C) vertex_rank rank built.ranked

    -- the same entries in each row
    built-row : (k i : ℕ) → Reach W s k → i < 3 → at C (3 * at rank k + i) ≡ at r.mesh (3 * coarse_of r k + i)
    built-row k i p b = go (R.rows k i c b)
      where
        c : Centre r k
        c = reach-centre k p

        opposite : Opposite T k i (at W (3 * k + i))
        opposite = row-opposite N T P W cover k i (centre-below N T P.otherwise r R.is k c)
            (centre-tile N T P W cover r R.is k c) b

        go : (w : ℕ) × Kept r w × Opposite T k i w × (at r.mesh (3 * coarse_of r k + i) ≡ at r.vertex_map w)
            → at C (3 * at rank k + i) ≡ at r.mesh (3 * coarse_of r k + i)
        go (w, q, o, e) =
            let z : at W (3 * k + i) ≡ w = opposite-unique N T P.otherwise r R.is k i _ w c b opposite o in
            built.rows k i p b ∙ ap (at vertex_rank) z ∙ built-kept w (kept-in-row w q) ∙ sym e

    -- so the same mesh
    pub built-mesh : C ≡ r.mesh
    built-mesh = ext_get_or 0 C r.mesh long
        (λ c l. entry c (built.ranked.rows.onto (c / 3) (omega arith)))
      where
        long : length C ≡ length r.mesh
        long = omega (arith, ranked-triangles M (triangles C) vertex_rank rank built.ranked)

        entry : (c : ℕ) → (k : ℕ) × Reach W s k × (at rank k ≡ c / 3) → at C c ≡ at r.mesh c
        entry c (k, p, e) = subst₂ (λ (x y : ℕ). at C x ≡ at r.mesh y) (omega arith)
            (omega (arith, built-coarse k p)) (built-row k (c % 3) p (omega arith))

    -- whose splitting has as many vertices as the input
    pub built-count : N ≡ M + edges C
    built-count = rw (built-vertices, built-mesh) (match-size R.is.matched.vertices)

    -- the corner i of a centre is numbered as the vertex on half-edge i of its row
    pub built-between : (k i : ℕ) → Reach W s k → i < 3
        → at r.vertex_map (at T (3 * k + i)) ≡ edge_no M C (3 * at rank k + i)
    built-between k i p b =
        rw (built-vertices, built-mesh, built-coarse k p) (returned-between N T P ρ r R k i (reach-centre k p) b)

    -- and the triangle over the side that ends there stands at corner i
    pub built-corner : (k i l : ℕ) → Reach W s k → i < 3 → l ≢ k
        → HasEdge T l (at T (3 * k + (i + 2) % 3)) (at T (3 * k + i)) → at r.triangle_map l ≡ 4 * at rank k + suc i
    built-corner k i l p b n h =
        omega (arith, built-coarse k p, returned-corner N T P ρ r R k i l (reach-centre k p) b n h)

    -- so that the reading's own maps pass every test
    pub built-found : {agree : Agreement} → IsReading agree N T r
        → Found agree N T W s M C vertex_rank rank r.vertex_map r.triangle_map
    built-found is = record {
      quarter = ranked-quarter M (triangles C) vertex_rank rank built.ranked;
      count = built-count;
      long_vertices = R.is.matched.vertices.long;
      long_triangles = R.is.matched.faces.long;
      kept = λ v p. sym (built-kept v p);
      between = built-between;
      centres = λ k p. sym (built-centre k p);
      corners = built-corner;
      agreed = λ k l. rw (built-vertices, built-mesh) (is.matched.agreed k l);
    }

    -- and a vertex map that passes `kept` and `between` is the reading's
    pub found-vertices : (vm : List ℕ) → ((v : ℕ) → InRow W s v → at vm v ≡ at vertex_rank v)
        → ((k i : ℕ) → Reach W s k → i < 3 → at vm (at T (3 * k + i)) ≡ edge_no M C (3 * at rank k + i))
        → (v : ℕ) → v < N → at vm v ≡ at r.vertex_map v
    found-vertices vm kept between v l = go (kept-or-between N T P.otherwise r R.is v l)
      where
        corner : (k : ℕ) × Centre r k × On T k v → at vm v ≡ at r.vertex_map v
        corner (k, c, o) =
            let p : Reach W s k = centre-reach k c in
            let b : o.corner % 3 < 3 = omega arith in
            subst (λ (u : ℕ). at vm u ≡ at r.vertex_map u) (on-place o)
            (between k (o.corner % 3) p b ∙ sym (built-between k (o.corner % 3) p b))

        go : Kept r v ⊎ Between r v → at vm v ≡ at r.vertex_map v
        go (inl q) = kept v (kept-in-row v q) ∙ built-kept v (kept-in-row v q)
        go (inr q) = corner (between-on N T P.otherwise r R.is v q)

    -- as is a triangle map that passes `centres` and `corners`
    pub found-triangles : (tm : List ℕ) → ((k : ℕ) → Reach W s k → at tm k ≡ 4 * at rank k)
        → ((k i l : ℕ) → Reach W s k → i < 3 → l ≢ k → HasEdge T l (at T (3 * k + (i + 2) % 3)) (at T (3 * k + i))
        → at tm l ≡ 4 * at rank k + suc i)
        → (k : ℕ) → k < triangles T → at tm k ≡ at r.triangle_map k
    found-triangles tm centres corners k l = go (role-exists N T P r R.is k l)
      where
        corner : (j : ℕ) → Reach W s j → k ≢ j → (i : ℕ) × (i < 3) × Side T j i k → at tm k ≡ at r.triangle_map k
        corner j p n (i, b, h) = corners j i k p b n h ∙ sym (built-corner j i k p b n h)

        over : (i : ℕ) → i < 3 → CentreOver T r k (at T (3 * k + (i + 1) % 3)) (at T (3 * k + (i + 2) % 3))
            → at tm k ≡ at r.triangle_map k
        over i b c = corner c.triangle (centre-reach c.triangle c.is) (λ e. c.other (sym e))
            (shared-side c.has
            (side P.otherwise k ((i + 1) % 3) ((i + 2) % 3) l (omega arith) (omega arith) (omega arith)))

        go : (σ : ℕ) × (σ ≤ 3) × RoleOf T r k σ → at tm k ≡ at r.triangle_map k
        go (σ, _, RoleOf.centre c) = centres k (centre-reach k c) ∙ built-centre k (centre-reach k c)
        go (σ, _, RoleOf.corner i b _ p) = over i b (corner-over N T P.otherwise r R.is k i l b p)
