-- `mesh_faults::TwinSearch::walk_to` meets its contract. The loop's invariant: x is on the edge, and the half-edges of
-- the edge before x are met. The measure is what is left up to h.
use Prim.Native.Nat.{◌-◌}
use Rattle.mesh_faults.specs.Looks.{SameTables}
use Rattle.mesh_faults.proofs.Search.{Walked, OnRing}
use Rattle.mesh_faults.proofs.TwinSearch.walk_to.Given as goal

abbrev pub invariant-loop-x : goal.invariant-loop-x
invariant-loop-x l =
    let s = l.initial.self in
    record {
      same : SameTables s l.self;
      on : OnRing l.h s.n s.ring.now l.x;
      walked : Walked l.h s.n s.ring.now s.thirds.now l.least s.stamp.now l.x l.found l.self.stamp.now;
    }

abbrev pub decreases-loop-x : goal.decreases-loop-x
decreases-loop-x l = l.h - l.x
