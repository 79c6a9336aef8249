use Prim.Native.Nat.{ℕ, ◌+◌, ◌<◌}
use native.Mathlib.Omega.{arith}
use mathlib.Core.Path.{◌≡◌, refl}
use mathlib.Core.List.{List}
use lib.ListN.{length, set}
use Rattle.theory.specs.Mesh.{at}
use Rattle.theory.specs.Counting.{count}
use Rattle.lists.specs.Marks.{bit_of, RanksOf}
use Rattle.lists.proofs.Tables.{tabulated-store}
use Rattle.lists.proofs.Marks.{count-marked, total-le}
use Rattle.lists.proofs.ranks.Goals as goal

-- at first nothing is counted
begun : {marks rank : List ℕ} → RanksOf 0 marks 0 rank
unfolding count
begun = record { entry = λ i l. absurd (omega arith); all = refl }

-- index i gets its rank, and is counted if it is marked
turned : {marks rank : List ℕ} {total i b : ℕ} → RanksOf i marks total rank → i < length rank → b ≡ bit_of (at marks i)
    → RanksOf (i + 1) marks (total + b) (set rank i total)
turned {marks} {i = i} R room e =
    record {
      entry = (tabulated-store (omega arith) room R.all (record { entry = R.entry })).entry;
      all = omega (arith, count-marked marks i);
    }

pub loop-i-init : goal.loop-i-init
loop-i-init c = begun

pub overflow_cast-rank : goal.overflow_cast-rank
overflow_cast-rank c = omega (arith, total-le c.loop-i.invariant)

pub overflow_add-count : goal.overflow_add-count
overflow_add-count c = omega (arith, total-le (turned c.loop-i.invariant (omega arith) c.bit-count.ensures))

pub loop-i-preserved : goal.loop-i-preserved
loop-i-preserved c = turned c.loop-i.invariant (omega arith) c.bit-count.ensures
