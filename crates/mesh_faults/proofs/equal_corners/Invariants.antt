-- `mesh_faults::equal_corners` meets its contract. The loop's invariant: no triangle before k has two equal corners.
use Prim.Native.Nat.{ℕ, ◌<◌}
use Rattle.theory.specs.Refusals.{EqualCorners}
use Rattle.mesh_faults.proofs.equal_corners.Given as goal

abbrev pub invariant-loop-k : goal.invariant-loop-k
invariant-loop-k l = (j : ℕ) → j < l.k → EqualCorners l.list j → ⊥
