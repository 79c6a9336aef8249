-- `index_read::runs::after_separators` meets its contract. The invariant: the separators from the start on end where those
-- from the place on do.
use Rattle.std.proofs.Common.{◌≡◌, ◌+◌, drop}
use Rattle.std.specs.List.{prefix_len}
use Rattle.theory.specs.Index.{separator}
use Rattle.index_read.proofs.runs.after_separators.Given as goal

abbrev pub invariant-loop-at : goal.invariant-loop-at
invariant-loop-at l = l.from + prefix_len separator (drop l.from l.text) ≡ l.at + prefix_len separator (drop l.at l.text)
