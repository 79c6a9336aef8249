-- `mesh_faults::least_twin` meets its contract. The loop's invariant: the edges that end before h are looked at, and no
-- stamp is from h up, but n.
use Prim.Native.Nat.{ℕ, ◌≤◌, ◌<◌}
use mathlib.Core.Logic.{◌≢◌}
use mathlib.Core.List.{List}
use Rattle.theory.specs.Mesh.{at}
use Rattle.mesh_rings.specs.Ring.{RingBy}
use Rattle.mesh_faults.specs.Looks.{SameTables}
use Rattle.mesh_faults.specs.Twins.{LeastBefore}
use Rattle.mesh_faults.proofs.least_twin.Given as goal

pub record Turn (n : ℕ) (ring thirds stamp : List ℕ) (least h : ℕ) : Type 0 where
  pub fresh : (g x : ℕ) → h ≤ g → g < n → x < n → at stamp (at thirds x) ≢ g
  pub counted : (key : ℕ → ℕ) → RingBy n key ring → LeastBefore n key thirds h least

abbrev pub invariant-loop-h : goal.invariant-loop-h
invariant-loop-h l = record {
  same : SameTables l.initial.search l.search;
  turn : Turn l.n l.ring l.thirds l.search.stamp.now l.least l.h;
}
