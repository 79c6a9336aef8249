use Prim.Native.Nat.{ℕ, ◌<◌}
use mathlib.Core.Path.{◌≡◌, refl, sym, ◌∙◌}
use mathlib.Core.List.{List}
use lib.ListN.{length}
use Rattle.std.specs.Prelude.{Option, Some, None, Result, Ok, Err, IsErrAnd, ok_or}
use Rattle.limits.specs.declared.refusal.Refusal.{Refusal}
use Rattle.limits.specs.declared.refusal.Refusal.TheVariants.{TextWrong}
use Rattle.theory.specs.Index.{face_after, wrong_at, text_says}
use Rattle.index_read.specs.Runs.{NextRun, RunTaken}
use Rattle.index_read.specs.Faces.{Right, Stepped, TextJudged}
use Rattle.index_read.specs.declared.runs.Run.{Run}
use Rattle.index_read.specs.declared.faces.Tally.{Tally}
use Rattle.index_read.proofs.Walks.{walk-begun, walk-fault, Met, met-end, met_less}
use Rattle.index_read.proofs.Walks.{met_turned, walk-missing, walk-finished}
use Rattle.index_read.proofs.faces.judge_text.Invariants.{Turn}
use Rattle.index_read.proofs.faces.judge_text.Goals as goal

-- a fault is named, where there is nothing to go on with
fault-named : {A : Type 0} (text : List ℕ) {at : ℕ} {option : Option A} {given : Refusal} (verdict : Result ℕ Refusal)
    → text_says text ≡ wrong_at at → option ≡ None
    → ◌≡◌ {A = Result A Refusal} (Err given) (ok_or option (TextWrong at)) → IsErrAnd verdict (λ e. e ≡ given)
    → TextJudged text verdict
fault-named text (Ok F) fault n e g = absurd g
fault-named text {at = at} {given = given} (Err refusal) fault n e g =
    let named : given ≡ TextWrong at = cc (n, e) in
    record { place = at; fault = fault; names = g ∙ named }

module _ {text : List ℕ} {at : ℕ} {so_far : Tally} (I : Turn text at so_far.corners so_far.face) (l : at < length text)
    {answer : Option (Run × ℕ)} (taken : RunTaken text at answer) where
  -- a wrong run is at fault
  wrong-fault : answer ≡ None → text_says text ≡ wrong_at at
  unfolding face_after
  wrong-fault e = walk-fault I.walk l taken (rw e)

  module _ {run : Run} {end : ℕ} (read : answer ≡ Some (run, end)) {stepped : Option Tally}
      (S : Stepped run so_far stepped) where
    -- and so is one that is not right after those so far
    step-fault : stepped ≡ None → text_says text ≡ wrong_at at
    step-fault e = walk-fault I.walk l taken (rw read (rw e at S))

    module _ {next : Tally} (steps : stepped ≡ Some next) where
      right : Right run so_far next
      right = rw steps at S

      -- else it is met
      step-met : Met text I.so_far at so_far.corners so_far.face run end next.face
      step-met = record { walk = I.walk; inside = l; taken = rw read at taken; after = right.after }

      -- all runs before the next place are right
      turned : {place : ℕ} → NextRun text end place → Turn text place next.corners next.face
      turned N = record { so_far = _; walk = met_turned step-met N right.count }

pub loop-at-init : goal.loop-at-init
loop-at-init c = record { so_far = _; walk = walk-begun c.next_run-at.ensures }

pub returns-in_err-run : goal.returns-in_err-run
returns-in_err-run c =
    let none = c.in_err-run.ensures.ok_part in
    fault-named _ c.from_residual.result
    (wrong-fault c.loop-at.invariant c.loop-at-test.true c.take_run.ensures none)
    none c.in_err-run.ensures.value c.from_residual.ensures.1

pub returns-in_err-so_far : goal.returns-in_err-so_far
returns-in_err-so_far c =
    let none = c.in_err-so_far.ensures.ok_part in
    fault-named _ c.from_residual-in_err-so_far.result
    (step-fault c.loop-at.invariant c.loop-at-test.true c.take_run.ensures c.in_ok-run.ensures.ok_part c.after.ensures none)
    none c.in_err-so_far.ensures.value c.from_residual-in_err-so_far.ensures.1

-- the run at the place is met
met : (c : goal.In_ok-so_far)
    → Met c.args.text.now c.loop-at.invariant.so_far c.loop-at.at c.loop-at.so_far.corners c.loop-at.so_far.face
    c.in_ok-run.run' c.in_ok-run.end c.in_ok-so_far.so_far.face
met c =
    step-met c.loop-at.invariant c.loop-at-test.true c.take_run.ensures c.in_ok-run.ensures.ok_part c.after.ensures
    c.in_ok-so_far.ensures.ok_part

pub next_run-at-requires-in-loop-at : goal.next_run-at-requires-in-loop-at
next_run-at-requires-in-loop-at c = met-end (met c)

pub loop-at-smaller : goal.loop-at-smaller
loop-at-smaller c =
    met_less
    (step-met c.loop-at.invariant c.loop-at-test.true c.take_run.ensures c.in_ok-run.ensures.ok_part c.after.ensures
    c.in_ok-so_far.ensures.ok_part)
    c.next_run-at-in-loop-at.ensures

pub loop-at-preserved : goal.loop-at-preserved
loop-at-preserved c =
    turned c.loop-at.invariant c.loop-at-test.true c.take_run.ensures c.in_ok-run.ensures.ok_part c.after.ensures
    c.in_ok-so_far.ensures.ok_part c.next_run-at-in-loop-at.ensures

pub returns-then-not-is_whole : goal.returns-then-not-is_whole
returns-then-not-is_whole c = record {
  place = _;
  fault = walk-missing c.loop-at.invariant.walk c.loop-at-test.false (sym c.if-not-is_whole.ensures);
  names = refl;
}

pub returns : goal.returns
returns c = walk-finished c.loop-at.invariant.walk c.loop-at-test.false (sym c.if-not-is_whole.ensures)
