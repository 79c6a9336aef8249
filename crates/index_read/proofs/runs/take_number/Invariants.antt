-- `index_read::runs::take_number` meets its contract. The invariant: the run says what the bytes left say after the
-- digits so far, and ends where they do.
use Prim.Native.Nat.{ℕ, ◌+◌, ◌≤◌}
use mathlib.Core.Path.{◌≡◌}
use mathlib.Core.List.{List}
use lib.ListN.{length, drop}
use Rattle.theory.specs.Index.{decimal_value, corner_said, says}
use Rattle.index_read.specs.Runs.{stretch}
use Rattle.index_read.proofs.runs.take_number.Given as goal

pub record Turn (text : List ℕ) (from at value : ℕ) : Type 0 where
  pub small : value ≤ 65535
  pub same : says (stretch (drop from text)) ≡ corner_said (decimal_value value (stretch (drop at text)))
  pub ends : from + length (stretch (drop from text)) ≡ at + length (stretch (drop at text))

abbrev pub invariant-loop-at : goal.invariant-loop-at
invariant-loop-at l = Turn l.text l.from l.at l.value
