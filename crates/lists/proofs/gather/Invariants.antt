-- `lists::gather` meets its contract. The loop's invariant: the first p entries of `out` are looked up.
use Rattle.theory.specs.Mesh.{at}
use Rattle.lists.specs.Tables.{Tabulated}
use Rattle.lists.proofs.gather.Given as goal

abbrev pub invariant-loop-p : goal.invariant-loop-p
invariant-loop-p l = Tabulated (λ q. at l.table (at l.keys q)) l.p l.out
