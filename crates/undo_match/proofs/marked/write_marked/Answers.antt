use native.Mathlib.Omega.{arith}
use Rattle.theory.proofs.Counting.{count-le}
use Rattle.lists.specs.Marks.{marked}
use Rattle.undo_match.proofs.Runs.{stored-none, stored-spared, stored-room, stored-more}
use Rattle.undo_match.proofs.marked.write_marked.Goals as goal
use Rattle.undo_match.proofs.marked.write_marked.Goals.{then-marks-k-ne0, else-marks-k-ne0}

pub loop-k-init : goal.loop-k-init
loop-k-init g c = stored-none

pub overflow_mul-count : goal.overflow_mul-count
overflow_mul-count g c =
    omega (arith, stored-room c.loop-k.invariant c.if-marks-k-ne0.true c.requires c.loop-k-test.true c.loop-k.auto.out)

pub write-requires-clause-room : goal.write-requires-clause-room
write-requires-clause-room g c = stored-room c.loop-k.invariant c.if-marks-k-ne0.true c.requires c.loop-k-test.true c.loop-k.auto.out

pub overflow_add-count : goal.overflow_add-count
overflow_add-count g c = omega (arith, c.loop-k.invariant.all, count-le (marked c.args.marks.now) c.loop-k.k)

pub loop-k-preserved : goal.loop-k-preserved
loop-k-preserved g c =
    elim c.if-marks-k-ne0.branch [
      | then-marks-k-ne0 w ↦
          rw (w.count-is, w.out-is, w.write.ensures)
          (stored-more c.loop-k.invariant w.if-marks-k-ne0.true (g.met.R.Runs.long c.args.runs.now c.loop-k.k)
          (stored-room c.loop-k.invariant w.if-marks-k-ne0.true c.requires c.loop-k-test.true c.loop-k.auto.out))
      | else-marks-k-ne0 w ↦ rw (w.count-is, w.out-is) (stored-spared c.loop-k.invariant w.if-marks-k-ne0.false)
    ]
