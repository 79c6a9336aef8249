use native.Mathlib.Nat.{add-zero, zero-add}
use native.Mathlib.Omega.{arith}
use Prim.Native.Nat.{ℕ, ◌+◌, ◌≤◌, ◌<◌}
use mathlib.Core.Path.{◌≡◌, ◌∙◌, refl, ap}
use mathlib.Core.Option.{none, some}
use mathlib.Core.List.{List, [], ◌++◌}
use lib.ListN.{length, set}
use lib.Seq.{sets, sets-eq, length-sets}
use Rattle.std.specs.Prelude.{Option, Some, None, IsSome}
use Rattle.theory.specs.Calls.{written}
use Rattle.theory.specs.Index.{face_after, corners_said}
use Rattle.lists.proofs.Stores.{sets-append}
use Rattle.index_read.specs.Runs.{NextRun, RunTaken, said_by, said_of}
use Rattle.index_read.specs.Faces.{CornersLent, CornersWritten}
use Rattle.index_read.specs.declared.runs.Run.{Run}
use Rattle.index_read.specs.declared.runs.Run.TheVariants as run
use Rattle.index_read.proofs.Walks.{walk-begun, walk-fault, Met, met-end, met-few, met_less, met_turned, walk-list}
use Rattle.index_read.proofs.corners.write_corners.Invariants.{Turn}
use Rattle.index_read.proofs.corners.write_corners.Goals as goal
use Rattle.index_read.proofs.corners.write_corners.Goals.{in-Corner, in_default}

-- nothing is stored at first
begun : {text out : List ℕ} {at : ℕ} → CornersLent text out → NextRun text 0 at → Turn text out out at 0
begun lent N = record { lent = lent; so_far = []; face = 0; walk = walk-begun N; stored = refl }

module _ {text out₀ out : List ℕ} {at corners : ℕ} (I : Turn text out₀ out at corners) where
  -- the buffer keeps its length
  kept : length out ≡ length out₀
  kept = ap length I.stored ∙ length-sets out₀ 0 I.so_far

  module _ (l : at < length text) {answer : Option (Run × ℕ)} (taken : RunTaken text at answer) where
    -- no run is at fault, as the text is right
    no-fault : face_after I.face (said_of answer) ≡ none → ⊥
    no-fault e =
        let z : ◌≡◌ {A = ℕ} 0 1 = cc (walk-fault I.walk l taken e, I.lent.right) in
        omega arith

    -- so it is one that is right
    some-taken : IsSome answer
    unfolding face_after
    some-taken = go answer refl
      where
        go : (a : Option (Run × ℕ)) → answer ≡ a → IsSome a
        go None e = absurd (no-fault (rw e))
        go (Some pair) e = refl

    module _ {pair : Run × ℕ} (read : answer ≡ Some pair) where
      -- in its face
      right : (next : ℕ) × (face_after I.face (said_by pair.0) ≡ some next)
      right = go (face_after I.face (said_by pair.0)) refl
        where
          go : (after : _) → face_after I.face (said_by pair.0) ≡ after
              → (next : ℕ) × (face_after I.face (said_by pair.0) ≡ some next)
          go none e = absurd (no-fault (rw read e))
          go (some next) e = (next, e)

      run-met : Met text I.so_far at corners I.face pair.0 pair.1 right.0
      run-met = record { walk = I.walk; inside = l; taken = rw read at taken; after = right.1 }

      -- there is room for its corner after those before
      room : corners + length (corners_said (said_by pair.0)) ≤ length out
      room = omega (arith, met-few run-met I.lent.list I.lent.right, I.lent.room, kept)

      -- it stands after those before
      turned : {place more : ℕ} {out' : List ℕ} → out' ≡ sets out corners (corners_said (said_by pair.0))
          → more ≡ corners + length (corners_said (said_by pair.0)) → NextRun text pair.1 place
          → Turn text out₀ out' place more
      turned w m N =
          let behind : corners ≡ 0 + length I.so_far = omega (arith, I.walk.count) in
          record {
            lent = I.lent;
            so_far = I.so_far ++ corners_said (said_by pair.0);
            face = right.0;
            walk = met_turned run-met N m;
            stored = w ∙ rw (I.stored, behind) (sets-append out₀ 0 I.so_far (corners_said (said_by pair.0)));
          }

      module _ {place more : ℕ} {out' : List ℕ} (N : NextRun text pair.1 place) where
        -- if it is one
        corner-turned : {corner k : ℕ} → pair.0 ≡ run.Corner corner → out' ≡ set out k corner → k ≡ corners
            → more ≡ corners + 1 → Turn text out₀ out' place more
        unfolding corners_said
        corner-turned e w here m = turned (rw e (rw here at w)) (rw e m) N

        -- else all stays
        close-turned : pair.0 ≡ run.Close → out' ≡ out → more ≡ corners → Turn text out₀ out' place more
        unfolding corners_said
        close-turned e w m = turned (rw e w) (rw (e, add-zero corners) m) N

  -- all corners are stored
  finished : length text ≤ at → CornersWritten text out₀ out
  finished l = record { leaves = λ T e. rw (walk-list I.walk l T e) in-front }
    where
      in-front : out ≡ written I.so_far out₀
      in-front =
          let same = ap length (walk-list I.walk l I.lent.list I.lent.right) in
          I.stored ∙ sets-eq I.so_far out₀ 0 (omega (arith, same, I.lent.room)) ∙ rw zero-add

pub loop-at-init : goal.loop-at-init
loop-at-init c = begun c.requires c.next_run-at.ensures

pub unwrap-run-requires : goal.unwrap-run-requires
unwrap-run-requires c = some-taken c.loop-at.invariant c.loop-at-test.true c.take_run.ensures

pub bounds-out-corners : goal.bounds-out-corners
unfolding corners_said
bounds-out-corners c =
    let fits = room c.loop-at.invariant c.loop-at-test.true c.take_run.ensures c.unwrap-run.ensures in
    omega (arith, rw c.in-Corner.is at fits)

pub next_run-at-requires-in-loop-at : goal.next_run-at-requires-in-loop-at
next_run-at-requires-in-loop-at c =
    met-end (run-met c.loop-at.invariant c.loop-at-test.true c.take_run.ensures c.unwrap-run.ensures)

pub loop-at-smaller : goal.loop-at-smaller
loop-at-smaller c =
    met_less (run-met c.loop-at.invariant c.loop-at-test.true c.take_run.ensures c.unwrap-run.ensures)
    c.next_run-at-in-loop-at.ensures

pub loop-at-preserved : goal.loop-at-preserved
loop-at-preserved c =
    elim c.match-run.branch [
      | in-Corner w ↦ corner-turned c.loop-at.invariant c.loop-at-test.true c.take_run.ensures c.unwrap-run.ensures
          c.next_run-at-in-loop-at.ensures w.in-Corner.is w.out-is (omega arith) w.corners-is
      | in_default w ↦ close-turned c.loop-at.invariant c.loop-at-test.true c.take_run.ensures c.unwrap-run.ensures
          c.next_run-at-in-loop-at.ensures w.in_default.is w.out-is w.corners-is
    ]

pub returns : goal.returns
returns c = finished c.loop-at.invariant c.loop-at-test.false
