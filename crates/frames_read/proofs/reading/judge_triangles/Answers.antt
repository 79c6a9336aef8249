-- `frames_read::reading::judge_triangles` meets its contract: the lines are judged one after the other.
use native.Mathlib.Omega.{arith}
use Rattle.std.proofs.lemmas.Grind.{common_steps}
use Rattle.frames_read.specs.Judging.{right, wrong}
use Rattle.frames_read.proofs.Triangles.{whole-taken, refused-not-taken, reached-more, reached-wrong}
use Rattle.frames_read.proofs.Triangles.{all-behind, all-end}
use Rattle.frames_read.proofs.reading.judge_triangles.Goals as goal

pub returns-in_default : goal.returns-in_default
returns-in_default c =
    wrong _ (reached-wrong c.loop-k.invariant.reached c.loop-k-test.true (refused-not-taken _ _ c.in_default.ensures))

pub loop-k-preserved : goal.loop-k-preserved
loop-k-preserved c = record {
  so_far = _;
  reached = reached-more c.loop-k.invariant.reached _ _ c.loop-k-test.true (whole-taken _ _ c.in-Some.ensures);
}

pub returns-then-not-is_empty : goal.returns-then-not-is_empty
returns-then-not-is_empty c =
    wrong _ (all-behind c.loop-k.invariant.reached (omega arith) (grind (arith, common_steps)))

pub returns : goal.returns
returns c = right _ (all-end c.loop-k.invariant.reached (omega arith) (grind (arith, common_steps)))
