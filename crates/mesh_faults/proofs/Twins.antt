-- Triangles with the same vertices, by half-edges with the same edge and the same third vertex: the least half-edge
-- with a twin before it is one of the least triangle that is the same as an earlier one.
use Prim.Native.Nat.{ℕ, ◌*◌, ◌/◌, ◌<◌}
use native.Mathlib.Decide.{ℕ_discrete}
use native.Mathlib.Omega.{arith}
use mathlib.Core.Path.{◌≡◌, refl, sym, ap, ◌∙◌}
use mathlib.Core.Logic.{◌≢◌}
use mathlib.Core.List.{List}
use lib.ListN.{length}
use Rattle.theory.specs.Mesh.{at, On, HasEdge, Same}
use Rattle.theory.specs.Splitting.{next, first_on}
use Rattle.theory.specs.Refusals.{SameAsEarlier}
use Rattle.theory.proofs.Corners.{before, missed-corner}
use Rattle.theory.proofs.Splitting.{SameEdge, same_edge-sym, Side, side-same_edge, edge-side, first_on-cong}
use Rattle.std.proofs.Common.{Option, option_map}
use Rattle.lists.specs.Places.{Least}
use Rattle.lists.proofs.Places.{least-third}
use Rattle.lists.specs.Tables.{Tabulated}
use Rattle.lists.proofs.Lists.{by-eq}
use Rattle.mesh_rings.specs.Tables.{third, Different}
use Rattle.mesh_rings.proofs.EdgeRings.{first-same_edge}
use Rattle.mesh_rings.proofs.Sides.{stands_on, Half, End, end, other_end, end_on, end_moved, side-third}
use Rattle.mesh_rings.proofs.Sides.{different-apart}
use Rattle.mesh_faults.specs.Twins.{HasTwin}

-- the three vertices of a half-edge's triangle: its two ends and the third vertex
data Vertex (T : List ℕ) (h v : ℕ) : Type 0 where
  along : End T h v → Vertex T h v
  across : v ≡ third T h → Vertex T h v

module _ {T : List ℕ} {F k h v : ℕ} (H : Half T F k h) where
  -- these stand on the triangle
  vertex-on : Vertex T h v → On T k v
  vertex-on (along p) = end_on H p
  vertex-on (across e) = stands_on (before h) (omega arith) (omega arith) (sym e)

  -- and no others do
  on-vertex : On T k v → Vertex T h v
  on-vertex o = go (ℕ_discrete o.corner h) (ℕ_discrete o.corner (next h))
    where
      holds : {c : ℕ} → o.corner ≡ c → v ≡ at T c
      holds e = sym o.holds ∙ ap (at T) e

      go : Dec (o.corner ≡ h) → Dec (o.corner ≡ next h) → Vertex T h v
      go (yes e) d = along (end (holds e))
      go (no m) (yes e) = along (other_end (holds e))
      go (no m) (no n) = across (holds (sym (missed-corner h o.corner (omega (arith, o.triangle)) m n)))

-- half-edges with the same edge and the same third vertex have the same three vertices
vertex-moved : {T : List ℕ} {g h v : ℕ} → SameEdge T g h → third T g ≡ third T h → Vertex T g v → Vertex T h v
vertex-moved e f (along p) = along (end_moved e p)
vertex-moved e f (across s) = across (s ∙ f)

-- so their triangles are the same
twins-same : {T : List ℕ} {F j k g h : ℕ} → Half T F j g → Half T F k h → SameEdge T g h → third T g ≡ third T h
    → Same T j T k
twins-same G H e f =
    record {
      there = λ v o. vertex-on H (vertex-moved e f (on-vertex G o));
      back = λ v o. vertex-on G (vertex-moved (same_edge-sym e) (sym f) (on-vertex H o));
    }

-- the half-edge of triangle j that has the edge and the third vertex of a half-edge of triangle k
record Twin (T : List ℕ) (j h : ℕ) : Type 0 where
  half : ℕ
  inside : half < length T
  triangle : half / 3 ≡ j
  edge : SameEdge T half h
  vertex : third T half ≡ third T h

-- a triangle that is the same as one with three different corners has a twin of each half-edge of it
same-twin : {T : List ℕ} {F j k h : ℕ} → Half T F k h → Different T k → Same T j T k → Twin T j h
same-twin {T} {F} {j} {k} {h} H D S =
    record {
      half = s.half;
      inside = s.inside;
      triangle = s.triangle;
      edge = side-same_edge h s;
      vertex = side-third s (S.back _ (vertex-on H (across refl)))
          (different-apart D (before h) h (omega arith) H.triangle (omega arith))
          (different-apart D (before h) (next h) (omega arith) (omega arith) (omega arith));
    }
  where
    shared : HasEdge T j (at T h) (at T (next h))
    shared = record {
      differ = different-apart D h (next h) H.triangle (omega arith) (omega arith);
      one_end = S.back _ (end_on H (end refl));
      other_end = S.back _ (end_on H (other_end refl));
    }

    s : Side T j (at T h) (at T (next h))
    s = edge-side shared

-- ---- the least twin

-- different half-edges of a triangle have different third corners
missed-apart : (g h : ℕ) → g / 3 ≡ h / 3 → g ≢ h → before g ≢ before h
missed-apart g h e n s = omega arith

module _ (T : List ℕ) (F : ℕ) {thirds : List ℕ} (whole : length T ≡ 3 * F)
    (apart : (k : ℕ) → k < F → Different T k) (tabled : Tabulated (third T) (3 * F) thirds) where
  -- h is a half-edge of its triangle
  half : (h : ℕ) → h < 3 * F → Half T F (h / 3) h
  half h l = record { whole = whole; inside = l; triangle = refl }

  -- a triangle with a half-edge that has a twin before it is the same as an earlier one
  twin-same_as_earlier : {h : ℕ} → h < 3 * F → HasTwin (first_on T) thirds h → SameAsEarlier T (h / 3)
  twin-same_as_earlier {h} l t =
      record {
        earlier = t.twin / 3;
        before = by-eq (t.twin / 3) (h / 3) (λ e. absurd (other e)) (λ n. omega (arith, t.before));
        inside = omega arith;
        same = twins-same (half t.twin b) (half h l) (first-same_edge T t.twin h t.edge) vertex;
      }
    where
      b : t.twin < 3 * F
      b = omega (arith, t.before)

      vertex : third T t.twin ≡ third T h
      vertex = sym (tabled.entry t.twin b) ∙ t.vertex ∙ tabled.entry h l

      other : t.twin / 3 ≢ h / 3
      other e =
          different-apart (apart (h / 3) (omega arith)) (before t.twin) (before h) (omega arith) (omega arith)
          (missed-apart t.twin h e (omega (arith, t.before))) vertex

  -- and where a triangle is, its first half-edge has one
  same_as_earlier-twin : {k : ℕ} → k < F → SameAsEarlier T k → HasTwin (first_on T) thirds (3 * k)
  same_as_earlier-twin {k} l S =
      record {
        twin = t.half;
        before = omega (arith, t.triangle, S.before);
        edge = first_on-cong T t.half (3 * k) t.edge;
        vertex = tabled.entry t.half (omega (arith, t.inside)) ∙ t.vertex
            ∙ sym (tabled.entry (3 * k) (omega arith));
      }
    where
      t : Twin T S.earlier (3 * k)
      t = same-twin (record { whole = whole; inside = omega arith; triangle = omega arith }) (apart k l) S.same

  -- so the least half-edge with a twin before it tells the least such triangle
  pub least-same : {r : Option ℕ} → Least (HasTwin (first_on T) thirds) (3 * F) r
      → Least (SameAsEarlier T) F (option_map (λ h. h / 3) r)
  least-same =
      least-third (λ h l t. twin-same_as_earlier l t) (λ k l S. (3 * k, omega arith, same_as_earlier-twin l S))
