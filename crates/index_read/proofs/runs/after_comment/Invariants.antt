-- `index_read::runs::after_comment` meets its contract. The invariant: the first end of a line from the start on is that
-- from the place on.
use Rattle.std.proofs.Common.{◌≡◌, ◌+◌, drop}
use Rattle.std.specs.List.{position_or_len}
use Rattle.theory.specs.Index.{line_end}
use Rattle.index_read.proofs.runs.after_comment.Given as goal

abbrev pub invariant-loop-at : goal.invariant-loop-at
invariant-loop-at l = l.from + position_or_len line_end (drop l.from l.text) ≡ l.at + position_or_len line_end (drop l.at l.text)
