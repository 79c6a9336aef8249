-- Sound: what passes every test is the returned reading in the role of its start. The coarse mesh is proper because
-- its triangles are reached rows of the covering mesh; the maps are one-to-one because each is onto a range of its own
-- size. That no two coarse triangles are the same follows: their centres would be.
use Prim.Native.Nat.{ℕ, zero, suc, ◌+◌, ◌*◌, ◌/◌, ◌%◌, ◌<◌}
use native.Mathlib.Decide.{dec_lt}
use native.Mathlib.Omega.{arith}
use mathlib.Core.Path.{◌≡◌, refl, sym, ap, ◌∙◌, subst}
use mathlib.Core.List.{List}
use lib.ListN.{length}
use Rattle.theory.specs.Mesh.{at, triangles, On, HasEdge, Same, Reach, here, step, Proper}
use Rattle.theory.specs.Splitting.{next, edges, edge_no, split}
use Rattle.theory.specs.Reading.{Agreement, Match, Reading, IsReading, Kept, Centre, RoleOf, Returned}
use Rattle.theory.proofs.Finite.{onto-match}
use Rattle.theory.proofs.Numbering.{ranks-apart}
use Rattle.theory.proofs.Mesh.{on-place, across-edge, same-sym, reach-trans, reach-sym, on-triangle, on-vertex}
use Rattle.theory.proofs.Agreement.{Implies, reading-same}
use Rattle.theory.proofs.Splitting.{Side, side-same_edge, same-side, edge_no-same, edge_no-hit, split-triangles}
use Rattle.theory.proofs.Rows.{Opposite}
use Rattle.theory.proofs.Tiles.{Start, InRow, row_kept, kept_row, centre-reached, centre-start}
use Rattle.theory.proofs.Built.{Search, Built, Found}
use Rattle.theory.proofs.Coarse.{row_inside, reach-tile, row-across, row-corner, tile-corner-below, entry-in_row}
use Rattle.theory.proofs.Coarse.{in_row-below, corner-row, coarse-below, coarse-different}

-- the reading that a coarse mesh and two maps make
abbrev reading : ℕ → List ℕ → List ℕ → List ℕ → Reading
reading M C vm tm = record { vertices = M; mesh = C; vertex_map = vm; triangle_map = tm }

module _ {N : ℕ} {T W : List ℕ} {s M : ℕ} {C vertex_rank rank vm tm : List ℕ} (S : Search N T W s)
    (built : Built W s M C vertex_rank rank) {agree : Agreement} (I : Implies agree)
    (found : Found agree N T W s M C vertex_rank rank vm tm) where
  -- ---- the coarse mesh: its vertices are used and its triangles connected

  -- a vertex of a reached row stands, by its rank, on the coarse triangle of the row's rank
  row-coarse : {k v : ℕ} → Reach W s k → On W k v → On C (at rank k) (at vertex_rank v)
  row-coarse {k} {v} q o = record {
    corner = 3 * at rank k + o.corner % 3;
    inside = omega (arith, built.ranked.rows.below k q, built.whole);
    triangle = omega arith;
    holds = built.rows k (o.corner % 3) q (omega arith) ∙ ap (at vertex_rank) (on-place o);
  }

  -- every coarse vertex is in a coarse triangle, as it is the rank of a vertex of a reached row
  coarse-used : (y : ℕ) → y < M → (j : ℕ) × On C j y
  coarse-used y l = go (built.ranked.vertices.onto y l)
    where
      go : (v : ℕ) × InRow W s v × (at vertex_rank v ≡ y) → (j : ℕ) × On C j y
      go (v, r, e) = (at rank r.row, rw e at (row-coarse r.reached r.on))

  -- an edge of a reached row is one of its coarse triangle
  coarse-edge : {k u v : ℕ} → Reach W s k → HasEdge W k u v → HasEdge C (at rank k) (at vertex_rank u) (at vertex_rank v)
  coarse-edge {k} {u} {v} q e = record {
    differ = λ f. e.differ (ranks-apart built.ranked.vertices u v (record { row = k; reached = q; on = e.one_end })
        (record { row = k; reached = q; on = e.other_end }) f);
    one_end = row-coarse q e.one_end;
    other_end = row-coarse q e.other_end;
  }

  -- so a way over the rows is a way over the coarse triangles
  coarse-reach : {k : ℕ} → Reach W s k → Reach C (at rank s) (at rank k)
  coarse-reach here = here
  coarse-reach (step q e) = step (coarse-reach q) (record {
    u = at vertex_rank e.u;
    v = at vertex_rank e.v;
    one = coarse-edge q e.one;
    other = coarse-edge (step q e) e.other;
  })

  -- and the coarse triangles are connected
  coarse-connected : (j : ℕ) → j < triangles C → Reach C 0 j
  coarse-connected j l = go (built.ranked.rows.onto 0 (omega arith)) (built.ranked.rows.onto j l)
    where
      go : (k : ℕ) × Reach W s k × (at rank k ≡ 0) → (k : ℕ) × Reach W s k × (at rank k ≡ j) → Reach C 0 j
      go (k, p, d) (m, q, e) =
          reach-trans (reach-sym (subst (λ (i : ℕ). Reach C (at rank s) i) d (coarse-reach p)))
          (subst (λ (i : ℕ). Reach C (at rank s) i) e (coarse-reach q))

  -- ---- the match of the vertices

  -- the corners of a reached tile stand between: on the edges of its coarse triangle
  between-corner : (k h : ℕ) → Reach W s k → at rank k ≡ h / 3 → at vm (at T (3 * k + h % 3)) ≡ edge_no M C h
  between-corner k h q e =
      let same : 3 * at rank k + h % 3 ≡ h = omega arith in
      found.between k (h % 3) q (omega arith) ∙ ap (edge_no M C) same

  -- each vertex of the splitting is hit: a coarse one by an entry of a reached row, any other by a corner of its tile
  vertices-onto : (y : ℕ) → y < M + edges C → (v : ℕ) × (v < N) × (at vm v ≡ y)
  vertices-onto y l = elim (dec_lt y M) [
    | yes b ↦ coarse (built.ranked.vertices.onto y b)
    | no b ↦ between (edge_no-hit M C y (omega arith) l)
  ]
    where
      coarse : (v : ℕ) × InRow W s v × (at vertex_rank v ≡ y) → (v : ℕ) × (v < N) × (at vm v ≡ y)
      coarse (v, r, e) = (v, in_row-below S v r, found.kept v r ∙ e)

      corner : (h : ℕ) → edge_no M C h ≡ y → (k : ℕ) × Reach W s k × (at rank k ≡ h / 3)
          → (v : ℕ) × (v < N) × (at vm v ≡ y)
      corner h e (k, q, f) =
          (at T (3 * k + h % 3), tile-corner-below S k (h % 3) q (omega arith), between-corner k h q f ∙ e)

      between : (h : ℕ) × (h < length C) × (edge_no M C h ≡ y) → (v : ℕ) × (v < N) × (at vm v ≡ y)
      between (h, b, e) = corner h e (corner-row S built h b)

  -- so the vertices are matched
  vertices-match : Match vm N (M + edges C)
  vertices-match = onto-match vm N (M + edges C) found.long_vertices found.count vertices-onto

  -- ---- the match of the triangles

  -- the triangle over the edge that ends at a tile's corner i goes to the triangle of the coarse corner i
  over-edge : (k i : ℕ) → Reach W s k → i < 3 → (l : ℕ) × (l < triangles T) × (at tm l ≡ 4 * at rank k + suc i)
  over-edge k i q b = go (row-across S k i q b)
    where
      go : Opposite T k i (at W (3 * k + i)) → (l : ℕ) × (l < triangles T) × (at tm l ≡ 4 * at rank k + suc i)
      go a = (
        a.other,
        on-triangle S.proper.otherwise a.has_u,
        found.corners k i a.other q b a.another (across-edge ((reach-tile S k q).regular i b).has_one.differ a),
      )

  -- each triangle of the splitting is hit: by a reached tile, or by a triangle over an edge of one
  triangles-onto : (t : ℕ) → t < triangles (split M C) → (k : ℕ) × (k < triangles T) × (at tm k ≡ t)
  triangles-onto t l = go (t % 4) refl (built.ranked.rows.onto (t / 4) (omega (arith, split-triangles M C)))
    where
      go : (m : ℕ) → t % 4 ≡ m → (k : ℕ) × Reach W s k × (at rank k ≡ t / 4)
          → (k : ℕ) × (k < triangles T) × (at tm k ≡ t)
      go zero z (k, q, e) = (k, row_inside S k q, found.centres k q ∙ omega arith)
      go (suc i) z (k, q, e) =
          let same : 4 * at rank k + suc i ≡ t = omega arith in
          rw same at (over-edge k i q (omega arith))

  -- so the triangles are matched
  triangles-match : Match tm (triangles T) (triangles (split M C))
  triangles-match = onto-match tm (triangles T) (triangles (split M C)) found.long_triangles
      (found.quarter ∙ sym (split-triangles M C)) triangles-onto

  -- ---- the coarse mesh is proper

  -- tiles whose coarse triangles are the same have the same corners: these stand between, on the same edges
  tile-same : (k l : ℕ) → Reach W s k → Reach W s l → Same C (at rank k) C (at rank l) → (v : ℕ) → On T k v → On T l v
  tile-same k l p q same v o = record {
    corner = 3 * l + g % 3;
    inside = row-corner S l (g % 3) q (omega arith);
    triangle = omega arith;
    holds = vertices-match.apart _ v (tile-corner-below S l (g % 3) q (omega arith))
        (on-vertex S.proper.otherwise o) alike;
  }
    where
      i : ℕ
      i = o.corner % 3

      h : ℕ
      h = 3 * at rank k + i

      side : Side C (at rank l) (at C h) (at C (next h))
      side = same-side C built.whole (coarse-different S built) (at rank k) (at rank l) h same
          (omega (arith, built.whole, built.ranked.rows.below k p)) (omega arith)

      g : ℕ
      g = side.half

      alike : at vm (at T (3 * l + g % 3)) ≡ at vm v
      alike =
          between-corner l g q (sym side.triangle)
          ∙ edge_no-same M C g h (side-same_edge h side)
          ∙ sym (found.between k i p (omega arith)) ∙ ap (at vm) (on-place o)

  -- so no two coarse triangles are the same
  coarse-unlike : (i j : ℕ) → i < triangles C → j < triangles C → Same C i C j → i ≡ j
  coarse-unlike i j a b same = go (built.ranked.rows.onto i a) (built.ranked.rows.onto j b)
    where
      go : (k : ℕ) × Reach W s k × (at rank k ≡ i) → (l : ℕ) × Reach W s l × (at rank l ≡ j) → i ≡ j
      go (k, p, d) (l, q, e) =
          let alike : Same C (at rank k) C (at rank l) = rw (d, e) same in
          sym d ∙ ap (at rank) (S.proper.otherwise.unlike k l (row_inside S k p) (row_inside S l q) (record {
            there = tile-same k l p q alike;
            back = tile-same l k q p (same-sym alike);
          })) ∙ e

  -- and the coarse mesh is proper
  coarse-proper : Proper M C
  coarse-proper = record {
    otherwise = record {
      whole = built.whole;
      below = coarse-below S built;
      different = coarse-different S built;
      unlike = coarse-unlike;
      used = coarse-used;
    };
    connected = coarse-connected;
  }

  -- ---- the reading

  -- the coarse mesh and the maps are a reading
  is-reading : IsReading agree N T (reading M C vm tm)
  is-reading = record {
    proper = coarse-proper;
    matched = record { vertices = vertices-match; faces = triangles-match; agreed = found.agreed };
  }

  -- and so one by `Same`
  is_same : IsReading Same N T (reading M C vm tm)
  is_same = reading-same I is-reading

  -- the start is a centre
  start-centre : Centre (reading M C vm tm) s
  start-centre =
      record { inside = omega (arith, S.inside, found.long_triangles); fourth = omega (arith, found.centres s here) }

  -- every centre is reached
  centre-row : (k : ℕ) → Centre (reading M C vm tm) k → Reach W s k
  centre-row k c = centre-reached N T S.proper W S.cover (reading M C vm tm) is_same s k start-centre c

  -- every kept vertex stands in a reached row
  kept-in_row : (v : ℕ) → Kept (reading M C vm tm) v → InRow W s v
  kept-in_row v k = kept_row N T S.proper W S.cover (reading M C vm tm) is_same s v start-centre k

  -- so the kept vertices are numbered upward
  kept-upward : (u v : ℕ) → Kept (reading M C vm tm) u → Kept (reading M C vm tm) v → u < v → at vm u < at vm v
  kept-upward u v a b l =
      let p : InRow W s u = kept-in_row u a in
      let q : InRow W s v = kept-in_row v b in
      omega (arith, found.kept u p, found.kept v q, built.ranked.vertices.upward.grows u v p q l)

  -- and so are the centres
  centres-upward : (j k : ℕ) → Centre (reading M C vm tm) j → Centre (reading M C vm tm) k → j < k → at tm j < at tm k
  centres-upward j k a b l =
      let p : Reach W s j = centre-row j a in
      let q : Reach W s k = centre-row k b in
      omega (arith, found.centres j p, found.centres k q, built.ranked.rows.upward.grows j k p q l)

  -- a centre gives the coarse triangle of its row
  centre-rows : (k i : ℕ) → Centre (reading M C vm tm) k → i < 3
      → (w : ℕ) × Kept (reading M C vm tm) w × Opposite T k i w × (at C (3 * (at tm k / 4) + i) ≡ at vm w)
  centre-rows k i c b =
      let q : Reach W s k = centre-row k c in
      let r : InRow W s (at W (3 * k + i)) = entry-in_row S k i q b in
      let same : 3 * (at tm k / 4) + i ≡ 3 * at rank k + i = omega (arith, found.centres k q) in (
        at W (3 * k + i),
        row_kept N T S.proper W S.cover (reading M C vm tm) is_same s (at W (3 * k + i)) start-centre r,
        row-across S k i q b,
        ap (at C) same ∙ built.rows k i q b ∙ sym (found.kept (at W (3 * k + i)) r),
      )

  -- each triangle that the search starts from has the role that it starts in
  pub found-role : (k ρ : ℕ) → k < triangles T → Start T k ρ s → RoleOf T (reading M C vm tm) k ρ
  found-role k ρ l start =
      centre-start N T S.proper W S.cover (reading M C vm tm) is_same k ρ s l start start-centre

  -- so what is found from triangle 0 is the returned reading in the role of the start
  pub found-returned : (ρ : ℕ) → 0 < triangles T → Start T 0 ρ s
      → Returned agree N T ρ (record { vertices = M; mesh = C; vertex_map = vm; triangle_map = tm })
  found-returned ρ some start = record {
    is = is-reading;
    in_role = found-role 0 ρ some start;
    kept_upward = kept-upward;
    centres_upward = centres-upward;
    rows = centre-rows;
  }
