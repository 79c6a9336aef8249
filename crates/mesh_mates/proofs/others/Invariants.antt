-- `mesh_mates::others`: the first h entries are made.
use Rattle.std.proofs.Common.{◌<◌, ℕ}
use Rattle.theory.specs.Mesh.{at}
use Rattle.mesh_rings.specs.Ring.{Chosen}
use Rattle.mesh_mates.proofs.others.Given as goal

abbrev pub invariant-loop-h : goal.invariant-loop-h
invariant-loop-h l = (g : ℕ) → g < l.h → Chosen (at l.ring (at l.ring g)) g (at l.ring g) l.n (at l.other g)
