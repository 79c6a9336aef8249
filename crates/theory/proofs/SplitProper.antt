-- The splitting of a proper mesh is proper, with V + E vertices and 4F triangles, and the mesh is its returned reading
-- in role 0, with identity maps. And V ≤ 3F in a proper mesh.
use Prim.Native.Nat.{ℕ, suc, ◌+◌, ◌*◌, ◌-◌, ◌/◌, ◌%◌, ◌≤◌, ◌<◌}
use mathlib.Core.Path.{◌≡◌, refl, ap, ◌∙◌, subst}
use mathlib.Core.Logic.{◌≢◌}
use mathlib.Core.List.{List}
use native.Mathlib.Decide.{ℕ_discrete, dec_lt}
use native.Mathlib.Omega.{arith}
use lib.ListN.{length}
use Rattle.theory.specs.Mesh.{at, triangles, On, HasEdge, Share, OtherwiseProper, Proper}
use Rattle.theory.specs.Mesh.{Reach, here, step}
use Rattle.theory.specs.Splitting.{next, edges, edge_no, split}
use Rattle.theory.specs.Reading.{Agreement, Matched, Reading, IsReading, Kept, Centre, centre, Across, Returned}
use Rattle.theory.proofs.Finite.{onto-le, identity, identity-at, identity-length}
use Rattle.theory.proofs.Corners.{triangle-place, triangle-inside, next-triangle, before-place, before-next}
use Rattle.theory.proofs.Mesh.{on-place, share-sym, on-triangle, on-vertex}
use Rattle.theory.proofs.Splitting.{Joins, along, against, joins-same_edge, Side, edge-side}
use Rattle.theory.proofs.Splitting.{edge_no-same, edge_no-above, edge_no-hit}
use Rattle.theory.proofs.Splitting.{split-length, split-triangles, split-centre}
use Rattle.theory.proofs.Splitting.{on-centre, on-tip, on-leaving, on-entering}
use Rattle.theory.proofs.Heart.{split_below, split-different, split-unlike, centre-shares}
use Rattle.theory.proofs.Lawful.{Lawful, matched-identity}

-- ---- the splitting is proper

module _ (N : ℕ) (T : List ℕ) (P : OtherwiseProper N T) where
  -- where a coarse vertex stands, it is on the triangle at that corner
  tip-on : {k v : ℕ} (o : On T k v) → On (split N T) (4 * k + suc (o.corner % 3)) v
  tip-on {k} o = rw (on-place o) at (on-tip N T k (o.corner % 3) (on-triangle P o) (omega arith))

  -- "every vertex is in a triangle": a coarse one in the triangle at its corner, the others in a centre
  split-used : (v : ℕ) → v < N + edges T → (t : ℕ) × On (split N T) t v
  split-used v l = elim (dec_lt v N) [
    | yes b ↦ coarse (P.used v b)
    | no b ↦ between (edge_no-hit N T v (omega arith) l)
  ]
    where
      coarse : (k : ℕ) × On T k v → (t : ℕ) × On (split N T) t v
      coarse (k, o) = (_, tip-on o)

      between : (h : ℕ) × (h < length T) × (edge_no N T h ≡ v) → (t : ℕ) × On (split N T) t v
      between (h, b, e) = (
        _,
        rw (triangle-place h (h / 3) refl, e) at
            (on-centre N T (h / 3) (h % 3) (omega (arith, P.whole)) (omega arith)),
      )

  -- the conditions other than being connected
  split-otherwise : OtherwiseProper (N + edges T) (split N T)
  split-otherwise = record {
    whole = omega (arith, split-length N T);
    below = split_below N T P;
    different = split-different N T P.whole P.different P.below;
    unlike = split-unlike N T P;
    used = split-used;
  }

  -- an edge u-v of triangle k in the splitting: where u stands, a half-edge on the edge, and its vertex on the triangle
  -- at u's corner
  record Halved (k u v : ℕ) : Type 0 where
    start : On T k u
    half : ℕ
    joins : Joins T half u v
    on : On (split N T) (4 * k + suc (start.corner % 3)) (edge_no N T half)

  -- every edge of a triangle is halved: its half-edge leaves u's corner, or enters it
  edge-halved : {k u v : ℕ} → HasEdge T k u v → Halved k u v
  edge-halved {k} {u} {v} e = go s.joins
    where
      s : Side T k u v
      s = edge-side e

      c : ℕ
      c = s.half

      l : k < triangles T
      l = on-triangle P e.one_end

      beyond : next c / 3 ≡ k
      beyond = next-triangle c ∙ s.triangle

      go : Joins T c u v → Halved k u v
      go (along p q) = record {
        start = record { corner = c; inside = s.inside; triangle = s.triangle; holds = p };
        half = c;
        joins = along p q;
        on = rw (triangle-place c k s.triangle) at (on-leaving N T k (c % 3) l (omega arith));
      }
      go (against p q) = record {
        start = record {
          corner = next c;
          inside = triangle-inside (length T) (next c) c P.whole s.inside (next-triangle c);
          triangle = beyond;
          holds = q;
        };
        half = c;
        joins = against p q;
        on = rw (before-place (next c) k beyond, before-next c) at (on-entering N T k (next c % 3) l (omega arith));
      }

  -- where two triangles share an edge u-v, the triangles at u's corners share the edge from u to the vertex on u-v
  corners-beside : {k l u v : ℕ} (s : Halved k u v) (t : Halved l u v)
      → Share (split N T) (4 * k + suc (s.start.corner % 3)) (4 * l + suc (t.start.corner % 3))
  corners-beside {k} {l} {u} {v} s t = record {
    u = u;
    v = edge_no N T s.half;
    one = record { differ = apart; one_end = tip-on s.start; other_end = s.on };
    other = record { differ = apart; one_end = tip-on t.start; other_end = rw same t.on };
  }
    where
      same : edge_no N T s.half ≡ edge_no N T t.half
      same = edge_no-same N T s.half t.half (joins-same_edge s.joins t.joins)

      apart : u ≢ edge_no N T s.half
      apart = omega (arith, on-vertex P s.start, edge_no-above N T s.half)

  -- the centres of triangles that are connected are connected
  centres-reach : {j : ℕ} → Reach T 0 j → Reach (split N T) 0 (4 * j)
  centres-reach here = here
  centres-reach (step r e) = over (centres-reach r) (edge-halved e.one) (edge-halved e.other)
    where
      out : {k u v : ℕ} (s : Halved k u v) → Share (split N T) (4 * k) (4 * k + suc (s.start.corner % 3))
      out {k} s = centre-shares N T P k (s.start.corner % 3) (on-triangle P s.start) (omega arith)

      over : {k l u v : ℕ} → Reach (split N T) 0 (4 * k) → Halved k u v → Halved l u v → Reach (split N T) 0 (4 * l)
      over r s t = step (step (step r (out s)) (corners-beside s t)) (share-sym (out t))

module _ (N : ℕ) (T : List ℕ) (P : Proper N T) where
  -- every triangle of the splitting is a centre or beside one
  split-connected : (t : ℕ) → t < triangles (split N T) → Reach (split N T) 0 t
  split-connected t l = elim (ℕ_discrete (t % 4) 0) [
    | yes e ↦ rw (exact e) at r
    | no e ↦ rw (rest e) (step r (beside e))
  ]
    where
      in_four : t / 4 < triangles T
      in_four = omega (arith, split-triangles N T)

      r : Reach (split N T) 0 (4 * (t / 4))
      r = centres-reach N T P.otherwise (P.connected (t / 4) in_four)

      exact : t % 4 ≡ 0 → 4 * (t / 4) ≡ t
      exact e = omega arith

      rest : t % 4 ≢ 0 → t ≡ 4 * (t / 4) + suc (t % 4 - 1)
      rest e = omega arith

      beside : t % 4 ≢ 0 → Share (split N T) (4 * (t / 4)) (4 * (t / 4) + suc (t % 4 - 1))
      beside e = centre-shares N T P.otherwise (t / 4) (t % 4 - 1) in_four (omega arith)

  -- the splitting of a proper mesh is proper
  pub split-proper : Proper (N + edges T) (split N T)
  split-proper = record { otherwise = split-otherwise N T P.otherwise; connected = split-connected }

  -- "In a proper mesh V ≤ 3F": every vertex has a corner
  pub vertices-le : N ≤ 3 * triangles T
  vertices-le = rw P.otherwise.whole at (onto-le (at T) (length T) N λ v l. stood (P.otherwise.used v l))
    where
      stood : {v : ℕ} → (k : ℕ) × On T k v → (c : ℕ) × (c < length T) × (at T c ≡ v)
      stood (k, o) = (o.corner, o.inside, o.holds)

-- ---- the mesh as a reading of its splitting

-- the mesh itself, as a reading of its splitting
abbrev pub itself : ℕ → List ℕ → Reading
itself N T = record {
  vertices = N;
  mesh = T;
  vertex_map = identity (N + edges T);
  triangle_map = identity (4 * triangles T);
}

module _ (N : ℕ) (T : List ℕ) where
  -- a coarse vertex is kept
  coarse-kept : (v : ℕ) → v < N → Kept (itself N T) v
  coarse-kept v b = record {
    inside = rw (identity-length (N + edges T)) (omega arith);
    coarse = rw (identity-at (N + edges T) v (omega arith)) b;
  }

  -- a kept vertex keeps its number
  kept-itself : (v : ℕ) → Kept (itself N T) v → at (identity (N + edges T)) v ≡ v
  kept-itself v k = identity-at (N + edges T) v (omega (arith, identity-length (N + edges T), k.inside))

  -- and so does a centre
  centre-itself : (k : ℕ) → Centre (itself N T) k → at (identity (4 * triangles T)) k ≡ k
  centre-itself k c = identity-at (4 * triangles T) k (omega (arith, identity-length (4 * triangles T), c.inside))

  -- so a centre is triangle 4j of the splitting
  centre-fourth : (k : ℕ) → Centre (itself N T) k → (k / 4 < triangles T) × (4 * (k / 4) ≡ k)
  centre-fourth k c = omega (arith, identity-length (4 * triangles T), centre-itself k c, c.inside, c.fourth)

  -- triangle 0 is a centre
  centre-first : 0 < triangles T → Centre (itself N T) 0
  centre-first l = record {
    inside = rw (identity-length (4 * triangles T)) (omega arith);
    fourth = rw (identity-at (4 * triangles T) 0 (omega arith));
  }

module _ (N : ℕ) (T : List ℕ) (P : Proper N T) where
  -- the mesh is a reading of its splitting
  itself-reading : {agree : Agreement} → Lawful agree → IsReading agree (N + edges T) (split N T) (itself N T)
  itself-reading {agree} A = record {
    proper = P;
    matched = subst (λ n. Matched agree (identity (N + edges T)) (identity n) (N + edges T) (split N T) (N + edges T)
        (split N T)) (split-triangles N T)
        (matched-identity A (N + edges T) (split N T) (split_below N T P.otherwise));
  }

  -- across the edge of centre 4j that ends at its corner i stands the coarse vertex at corner i of j
  centre-across : (j i : ℕ) → j < triangles T → i < 3
      → Across (split N T) (4 * j) (at (split N T) (3 * (4 * j) + (i + 2) % 3)) (at (split N T) (3 * (4 * j) + i))
      (at T (3 * j + i))
  centre-across j i l b = rw (entry i b, entry ((i + 2) % 3) (omega arith)) (record {
    other = 4 * j + suc i;
    another = omega arith;
    has_u = on-entering N T j i l b;
    has_v = on-leaving N T j i l b;
    has_w = on-tip N T j i l b;
    not_u = apart ((i + 2) % 3);
    not_v = apart i;
  })
    where
      entry : (m : ℕ) → m < 3 → at (split N T) (3 * (4 * j) + m) ≡ edge_no N T (3 * j + m)
      entry m d = ap (at (split N T)) (omega arith) ∙ split-centre N T j m l d

      coarse : at T (3 * j + i) < N
      coarse = P.otherwise.below (3 * j + i) (omega (arith, P.otherwise.whole))

      apart : (m : ℕ) → at T (3 * j + i) ≢ edge_no N T (3 * j + m)
      apart m = omega (arith, coarse, edge_no-above N T (3 * j + m))

  -- a centre's row is the coarse triangle
  centre-row : (k i : ℕ) → Centre (itself N T) k → i < 3
      → (w : ℕ) × Kept (itself N T) w
      × Across (split N T) k (at (split N T) (3 * k + (i + 2) % 3)) (at (split N T) (3 * k + i)) w
      × (at T (3 * (at (identity (4 * triangles T)) k / 4) + i) ≡ at (identity (N + edges T)) w)
  centre-row k i c b = (w, kept, across, rw (centre-itself N T k c, kept-itself N T w kept))
    where
      w : ℕ
      w = at T (3 * (k / 4) + i)

      kept : Kept (itself N T) w
      kept = coarse-kept N T w
          (P.otherwise.below (3 * (k / 4) + i) (omega (arith, P.otherwise.whole, centre-fourth N T k c)))

      across : Across (split N T) k (at (split N T) (3 * k + (i + 2) % 3)) (at (split N T) (3 * k + i)) w
      across = subst (λ m. Across (split N T) m (at (split N T) (3 * m + (i + 2) % 3)) (at (split N T) (3 * m + i)) w)
          (centre-fourth N T k c).1 (centre-across (k / 4) i (centre-fourth N T k c).0 b)

  -- the mesh is its splitting's returned reading in role 0
  pub split-returned : {agree : Agreement} → Lawful agree → 0 < triangles T
      → Returned agree (N + edges T) (split N T) 0 (itself N T)
  split-returned A l = record {
    is = itself-reading A;
    in_role = centre (centre-first N T l);
    kept_upward = λ u v k m b. rw (kept-itself N T u k, kept-itself N T v m) b;
    centres_upward = λ j k c d b. rw (centre-itself N T j c, centre-itself N T k d) b;
    rows = centre-row;
  }
