-- `calls_undo_one::undo_mesh` meets its contract: what 1 to 5 and `judge` refuse is refused, then what has no reading,
-- and else the reading that stands in the buffers is written.
use Rattle.std.specs.Prelude.{Ok}
use native.Mathlib.Omega.{arith}
use mathlib.Core.Path.{refl, ◌∙◌}
use Rattle.std.proofs.lemmas.Result.{err_from_is_err_and}
use Rattle.theory.specs.Refusals.{mesh_rules, Passed}
use Rattle.limits.proofs.Judgement.{judged-ok}
use Rattle.answers.specs.Answers.{outputs}
use Rattle.undo_role.specs.Buffers.{buffers}
use Rattle.undo_role.proofs.Rooms.{SameLengths, judged-kept}
use Rattle.calls_undo_one.specs.Undoing.{UndoLent}
use Rattle.calls_undo_one.proofs.Housed.{housed-kept, judgeable, countable}
use Rattle.calls_undo_one.proofs.UndoneMesh.{lent-as, refusing-sizes, lent-housed, boundary-told, refusing, uneven}
use Rattle.calls_undo_one.proofs.UndoneMesh.{coverable, choosable, writable, answerable, concluding}
use Rattle.calls_undo_one.proofs.undo_mesh.Goals as goal
use Rattle.calls_undo_one.proofs.undo_mesh.Goals.{In_ok-sized, After-judge, In_ok-judge, After-cover, After-chosen_role-taken}

-- past the sizes
ready : (c : In_ok-sized)
    → UndoLent (Ok tt) c.args.vertices c.args.list.now c.args.asked
    (outputs c.args.mesh.now c.args.vertex_map.now c.args.triangle_map.now)
    (buffers c.args.other.now c.args.rows.now c.args.ring.now c.args.marks.now c.args.coarse.now c.args.numbers.now
    c.args.map.now c.args.faces.now c.args.table.now)
ready c = lent-as c.requires c.in_ok-sized.was

-- past the judgement
passed : (c : In_ok-judge) → Passed (mesh_rules c.args.vertices c.args.list.now)
passed c = judged-ok c.in_ok-judge.ensures.verdict (omega arith)

-- ---- the work buffers keep their lengths

-- while the mesh is judged
judge-kept : (c : After-judge)
    → SameLengths
    (buffers c.args.other.now c.args.rows.now c.args.ring.now c.args.marks.now c.args.coarse.now c.args.numbers.now
    c.args.map.now c.args.faces.now c.args.table.now)
    (buffers c.args.other.now c.args.rows.now c.judge.new.ring c.judge.new.work1 c.judge.new.work2 c.judge.new.work3
    c.judge.new.work4 c.args.faces.now c.args.table.now)
judge-kept c = judged-kept c.judge.auto.work1 c.judge.auto.work2 c.judge.auto.work3 c.judge.auto.work4 c.judge.auto.ring

-- while the covering mesh is made
cover-kept : (c : After-cover)
    → SameLengths
    (buffers c.args.other.now c.args.rows.now c.args.ring.now c.args.marks.now c.args.coarse.now c.args.numbers.now
    c.args.map.now c.args.faces.now c.args.table.now)
    (buffers c.cover.new.other c.cover.new.tiles c.cover.new.ring c.cover.new.work1 c.cover.new.work2 c.cover.new.work3
    c.cover.new.work4 c.args.faces.now c.args.table.now)
cover-kept c = record {
  other = c.cover.auto.other;
  rows = c.cover.auto.tiles;
  ring = c.cover.auto.ring ∙ c.judge.auto.ring;
  marks = c.cover.auto.work1 ∙ c.judge.auto.work1;
  coarse = c.cover.auto.work2 ∙ c.judge.auto.work2;
  numbers = c.cover.auto.work3 ∙ c.judge.auto.work3;
  map = c.cover.auto.work4 ∙ c.judge.auto.work4;
  faces = refl;
  table = refl;
}

-- and while a role is chosen
choice-kept : (c : After-chosen_role-taken)
    → SameLengths
    (buffers c.args.other.now c.args.rows.now c.args.ring.now c.args.marks.now c.args.coarse.now c.args.numbers.now
    c.args.map.now c.args.faces.now c.args.table.now)
    (buffers c.cover.new.other c.cover.new.tiles c.cover.new.ring c.chosen_role-taken.new.marks
    c.chosen_role-taken.new.coarse c.chosen_role-taken.new.numbers c.chosen_role-taken.new.map
    c.chosen_role-taken.new.faces c.chosen_role-taken.new.table)
choice-kept c = record {
  other = c.cover.auto.other;
  rows = c.cover.auto.tiles;
  ring = c.cover.auto.ring ∙ c.judge.auto.ring;
  marks = c.chosen_role-taken.auto.marks ∙ c.cover.auto.work1 ∙ c.judge.auto.work1;
  coarse = c.chosen_role-taken.auto.coarse ∙ c.cover.auto.work2 ∙ c.judge.auto.work2;
  numbers = c.chosen_role-taken.auto.numbers ∙ c.cover.auto.work3 ∙ c.judge.auto.work3;
  map = c.chosen_role-taken.auto.map ∙ c.cover.auto.work4 ∙ c.judge.auto.work4;
  faces = c.chosen_role-taken.auto.faces;
  table = c.chosen_role-taken.auto.table;
}

-- ---- the answers

pub returns-in_err-sized : goal.returns-in_err-sized
returns-in_err-sized c =
    let p = err_from_is_err_and c.from_residual.result c.from_residual.ensures.1 in
    rw (p.1, p.2) (refusing-sizes (lent-as c.requires c.in_err-sized.was))

pub judge-requires : goal.judge-requires
judge-requires c = judgeable (lent-housed (ready (goal.at.judge-requires c).In_ok-sized))

pub returns-in_err-judge : goal.returns-in_err-judge
returns-in_err-judge c =
    let p = err_from_is_err_and c.from_residual-in_err-judge.result c.from_residual-in_err-judge.ensures.1 in
    rw (p.1, p.2) (refusing (ready (goal.at.returns-in_err-judge c).In_ok-sized) c.in_err-judge.ensures)

pub returns-then-triangles-ne0 : goal.returns-then-triangles-ne0
returns-then-triangles-ne0 c =
    uneven (ready (goal.at.returns-then-triangles-ne0 c).In_ok-sized) (passed (goal.at.returns-then-triangles-ne0 c).In_ok-judge)
    (λ e. omega (arith, e, c.if-triangles-ne0.true))

pub count_boundary-boundary-requires : goal.count_boundary-boundary-requires
count_boundary-boundary-requires c = let k = goal.at.count_boundary-boundary-requires c in
    countable (housed-kept (judge-kept k.After-judge) (lent-housed (ready k.In_ok-sized)))

pub cover-requires : goal.cover-requires
cover-requires c = let k = goal.at.cover-requires c in
    coverable (ready k.In_ok-sized) (judge-kept k.After-judge) (passed k.In_ok-judge) c.in_ok-judge.ensures.ringed

pub chosen_role-taken-requires : goal.chosen_role-taken-requires
chosen_role-taken-requires c = let k = goal.at.chosen_role-taken-requires c in
    choosable (ready k.In_ok-sized) (cover-kept k.After-cover) (passed k.In_ok-judge) c.cover.ensures

pub write_reading-requires : goal.write_reading-requires
write_reading-requires c = let k = goal.at.write_reading-requires c in
    writable (ready k.In_ok-sized) (choice-kept k.After-chosen_role-taken) (passed k.In_ok-judge) c.chosen_role-taken.ensures

pub answer_taken-requires : goal.answer_taken-requires
answer_taken-requires c = let k = goal.at.answer_taken-requires c in
    answerable (ready k.In_ok-sized) (choice-kept k.After-chosen_role-taken) (passed k.In_ok-judge) c.chosen_role-taken.ensures

pub returns : goal.returns
returns c = let k = goal.at.returns c in rw c.answer_taken.ensures
    (concluding (ready k.In_ok-sized) (choice-kept k.After-chosen_role-taken) (passed k.In_ok-judge) c.chosen_role-taken.ensures
    c.write_reading.ensures
    (boundary-told (ready k.In_ok-sized) c.count_boundary-boundary.ensures c.in_ok-judge.ensures.ringed))
