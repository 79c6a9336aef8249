-- `mesh_judge::judge` meets its contract: each call judges its rows where those before it are passed.
use native.Mathlib.Omega.{arith}
use Prim.Native.Nat.{ℕ, ◌*◌}
use mathlib.Core.Path.{◌≡◌}
use mathlib.Core.List.{List}
use lib.ListN.{length}
use Rattle.std.proofs.Common.{Result, Ok, Err, OnOk}
use Rattle.std.proofs.lemmas.Result.{IfOk-from_err}
use Rattle.theory.specs.Mesh.{triangles}
use Rattle.theory.specs.Splitting.{first_on}
use Rattle.theory.specs.Refusals.{Passed}
use Rattle.theory.proofs.Refusals.{corners-different}
use Rattle.limits.specs.declared.refusal.Refusal.{Refusal}
use Rattle.limits.proofs.Judgement.{judged-ok, judged-then, judged-exit}
use Rattle.mesh_rings.specs.Ring.{RingBy}
use Rattle.mesh_judge.specs.Judging.{corner_rules, JudgeLent, ConnectLent}
use Rattle.mesh_judge.proofs.judge.Goals as goal

-- what `judge_connected` requires, once the rings are made, since every slice keeps its length; the queue has room for
-- one triangle more, since there are three half-edges for each
connectable : {N F : ℕ} {T ring work1 work2 work3 work4 : List ℕ} {ring' work1' work2' work3' : List ℕ}
    → JudgeLent N F T ring work1 work2 work3 work4 → Passed (corner_rules N T)
    → RingBy (3 * F) (first_on T) ring' → length ring' ≡ length ring → length work1' ≡ length work1
    → length work2' ≡ length work2 → length work3' ≡ length work3 → ConnectLent T ring' work1' work2' work3'
unfolding Passed
connectable {N} {F} {T} L passed ringed a b c d =
    let size : triangles T ≡ F = omega (arith, L.whole.whole) in
    record {
      whole = omega (arith, L.whole.whole);
      small = omega (arith, L.small);
      some = omega (arith, L.some);
      different = corners-different N T passed.1.0;
      ringed = rw size ringed;
      ring_room = omega (arith, L.ring_room);
      marks_room = omega (arith, L.work1_room);
      queue_room = omega (arith, L.work2_room, L.some);
      opened_room = omega (arith, L.work3_room);
    }

-- what holds whatever the result is holds where it is accepted
on-ok : {P : Type 0} (result : Result Unit Refusal) → P → OnOk result P
on-ok (Ok accepted) p = p
on-ok (Err refusal) p = tt

pub returns-in_err-judge_corners : goal.returns-in_err-judge_corners
returns-in_err-judge_corners c =
    record {
      verdict = judged-exit _ _ _ c.in_err-judge_corners.ensures c.from_residual.ensures.1;
      ringed = IfOk-from_err _ _ c.from_residual.ensures.0;
    }

pub judge_triangles-requires : goal.judge_triangles-requires
judge_triangles-requires c =
    record { lent = c.requires; corners = judged-ok c.in_ok-judge_corners.ensures (omega arith) }

pub returns-in_err-judge_triangles : goal.returns-in_err-judge_triangles
returns-in_err-judge_triangles c =
    record {
      verdict = judged-then _ c.in_ok-judge_corners.ensures (omega arith)
          (judged-exit _ _ _ c.in_err-judge_triangles.ensures.verdict
          c.from_residual-in_err-judge_triangles.ensures.1);
      ringed = IfOk-from_err _ _ c.from_residual-in_err-judge_triangles.ensures.0;
    }

pub judge_connected-requires : goal.judge_connected-requires
judge_connected-requires c =
    connectable c.requires (judged-ok c.in_ok-judge_corners.ensures (omega arith))
    c.in_ok-judge_triangles.ensures.ringed c.judge_triangles.auto.ring c.judge_triangles.auto.work1
    c.judge_triangles.auto.work2 c.judge_triangles.auto.work3

pub returns : goal.returns
returns c =
    record {
      verdict = judged-then _ c.in_ok-judge_corners.ensures (omega arith)
          (judged-then _ c.in_ok-judge_triangles.ensures.verdict (omega arith) c.judge_connected.ensures);
      ringed = on-ok c.judge_connected.result c.in_ok-judge_triangles.ensures.ringed;
    }
