-- `mesh_counts::count_passing`: of the half-edges before h so many pass, and no more than there are.
use Rattle.mesh_counts.specs.Counts.{PassingOf}
use Rattle.mesh_counts.proofs.count_passing.Given as goal

abbrev pub invariant-loop-h : goal.invariant-loop-h
invariant-loop-h g l = PassingOf (goal.F-post g l.passes) l.h l.ring l.count
