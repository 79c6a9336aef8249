use native.Mathlib.Omega.{arith}
use Prim.Native.Nat.{ℕ, ◌+◌}
use mathlib.Core.Path.{◌≡◌, sym, ◌∙◌}
use mathlib.Core.Bool.{false}
use mathlib.Core.List.{List}
use lib.ListN.{length, drop}
use Rattle.std.specs.List.{prefix_len}
use Rattle.theory.specs.Mesh as mesh
use Rattle.theory.specs.Index.{separator}
use Rattle.index_read.specs.Runs.{comment_at, SameRuns, NextRun}
use Rattle.index_read.proofs.Stretches.{SeparatorsPassed, separators-passed, comment-inside, comment-lent, comment-passed}
use Rattle.index_read.proofs.Stretches.{test-inside, byte-goes_on, no_end}
use Rattle.index_read.proofs.runs.next_run.Goals as goal

-- from one place to the next, and on from there
same_runs : {text : List ℕ} {from at next : ℕ} → SameRuns text from at → SameRuns text at next → SameRuns text from next
same_runs M N = record {
  onward = omega (arith, M.onward, N.onward);
  within = N.within;
  same = M.same ∙ N.same;
}

module _ {text : List ℕ} {from at : ℕ} (I : SeparatorsPassed text from at) where
  -- a comment is passed over, and the separators after it
  turned : {end next : ℕ} → SameRuns text at end → next ≡ end + prefix_len separator (drop end text)
      → SeparatorsPassed text from next
  turned C behind =
      let S = separators-passed text _ C.within behind in
      record { passed = same_runs (same_runs I.passed C) S.passed; stops = S.stops }

  -- where no comment starts, a run does, or the text ends
  finished : comment_at text at ≡ false → NextRun text from at
  unfolding comment_at
  finished e = record {
    passed = I.passed;
    starts = λ l.
        let no-comment = sym (test-inside at (length text) _ l) ∙ e in
        byte-goes_on text at l (no_end (mesh.at text at) (I.stops l) no-comment);
  }

pub loop-at-init : goal.loop-at-init
loop-at-init c = separators-passed _ _ c.requires c.after_separators-at.ensures

pub after_comment-requires : goal.after_comment-requires
after_comment-requires c = comment-lent _ _ (sym c.loop-at-test.ensures)

pub after_separators-at-requires-in-loop-at : goal.after_separators-at-requires-in-loop-at
after_separators-at-requires-in-loop-at c =
    (comment-passed _ _ (sym c.loop-at-test.ensures) c.after_comment.ensures).within

pub loop-at-smaller : goal.loop-at-smaller
loop-at-smaller c =
    omega (
      arith,
      c.after_comment.ensures,
      c.after_separators-at-in-loop-at.ensures,
      comment-inside _ _ (sym c.loop-at-test.ensures),
    )

pub loop-at-preserved : goal.loop-at-preserved
loop-at-preserved c =
    turned c.loop-at.invariant (comment-passed _ _ (sym c.loop-at-test.ensures) c.after_comment.ensures)
    c.after_separators-at-in-loop-at.ensures

pub returns : goal.returns
returns c = finished c.loop-at.invariant (sym c.comment_at.ensures ∙ c.loop-at-test.false)
