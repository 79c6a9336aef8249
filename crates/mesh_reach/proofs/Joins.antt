-- What is reached by the rings of the edges is what is reached over shared edges: triangles that share an edge are
-- joined by its first appearance, and triangles that are joined share an edge, if the first has three different
-- corners.
use Prim.Native.Nat.{ℕ, ◌*◌, ◌<◌}
use native.Mathlib.Omega.{arith}
use mathlib.Core.Path.{◌≡◌}
use mathlib.Core.Logic.{◌≢◌}
use mathlib.Core.List.{List}
use lib.ListN.{length}
use Rattle.theory.specs.Mesh.{at, Share, Reach, here as start, step as over}
use Rattle.theory.specs.Splitting.{next, first_on}
use Rattle.theory.proofs.Splitting.{same_edge-refl, Side, sides-same_edge, edge-side, first_on-cong}
use Rattle.mesh_rings.specs.Tables.{Different, Corners}
use Rattle.mesh_rings.proofs.Sides.{Half, same_edge-has_edge, different-apart, edge-different}
use Rattle.mesh_rings.proofs.EdgeRings.{first-same_edge}
use Rattle.mesh_reach.specs.Reached.{Joined, Joins, here, step}

module _ (T : List ℕ) (F : ℕ) (whole : length T ≡ 3 * F) where
  -- ---- from shared edges to first appearances

  -- triangles that share an edge are joined
  share-joined : {k l : ℕ} → Share T k l → Joined F (first_on T) k l
  share-joined {k} {l} s =
      record {
        mine = a.half;
        yours = b.half;
        inside_mine = omega (arith, a.inside);
        inside_yours = omega (arith, b.inside);
        of_mine = a.triangle;
        of_yours = b.triangle;
        same = first_on-cong T a.half b.half (sides-same_edge a b);
      }
    where
      a : Side T k s.u s.v
      a = edge-side s.one

      b : Side T l s.u s.v
      b = edge-side s.other

  -- so what is reached is joined by steps
  pub reach-joins : {s k : ℕ} → Reach T s k → Joins F (first_on T) s k
  reach-joins start = here
  reach-joins (over r s) = step (reach-joins r) (share-joined s)

  -- ---- from first appearances to shared edges

  -- a triangle with three different corners shares an edge with each that it is joined to
  joined-share : {k l : ℕ} → Different T k → Joined F (first_on T) k l → Share T k l
  joined-share {k} {l} D J =
      record {
        u = at T g;
        v = at T (next g);
        one = same_edge-has_edge mine (same_edge-refl T g) apart;
        other = same_edge-has_edge yours (first-same_edge T g h J.same) apart;
      }
    where
      g : ℕ
      g = J.mine

      h : ℕ
      h = J.yours

      mine : Half T F k g
      mine = record { whole = whole; inside = J.inside_mine; triangle = J.of_mine }

      yours : Half T F l h
      yours = record { whole = whole; inside = J.inside_yours; triangle = J.of_yours }

      apart : at T g ≢ at T (next g)
      apart = different-apart D g (next g) J.of_mine (omega (arith, J.of_mine)) (omega arith)

  module _ (corners : (k : ℕ) → k < F → Corners T k) {s : ℕ} (begins : Different T s) where
    -- along joins each triangle has three different corners, since it has two different vertices
    pub joins-different : {k : ℕ} → Joins F (first_on T) s k → Different T k
    joins-different here = begins
    joins-different {k} (step p J) =
        edge-different (corners k (omega (arith, J.inside_yours, J.of_yours)))
        (joined-share (joins-different p) J).other

    -- so what is joined by steps is reached
    pub joins-reach : {k : ℕ} → Joins F (first_on T) s k → Reach T s k
    joins-reach here = start
    joins-reach (step p J) = over (joins-reach p) (joined-share (joins-different p) J)
