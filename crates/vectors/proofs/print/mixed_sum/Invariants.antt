-- `vectors::print::mixed_sum` meets its contract.
-- The invariant: the sum is below the modulus.
use Rattle.std.proofs.Common.{◌<◌}
use Rattle.vectors.proofs.print.mixed_sum.Given as goal

abbrev pub invariant-loop-entry : goal.invariant-loop-entry
invariant-loop-entry l = l.sum < 1000003
