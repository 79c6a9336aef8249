-- `calls_undo_several::undo_mesh_levels` meets its contract: what 1 to 5 and `judge` refuse is refused, and else what
-- `undo_levels` undoes from a copy of the list is what the call undoes.
use Rattle.std.specs.Prelude.{Ok}
use native.Mathlib.Omega.{arith}
use mathlib.Core.Path.{refl}
use Rattle.std.proofs.lemmas.Result.{err_from_is_err_and}
use Rattle.theory.specs.Refusals.{mesh_rules, Passed}
use Rattle.limits.proofs.Judgement.{judged-ok}
use Rattle.undo_role.specs.Buffers.{buffers}
use Rattle.undo_role.proofs.Rooms.{SameLengths, judged-kept}
use Rattle.calls_undo_one.proofs.Housed.{housed-kept, judgeable, countable}
use Rattle.calls_undo_several.specs.UndoingSeveral.{SeveralLent}
use Rattle.calls_undo_several.proofs.UndoneLevels.{lent-as, refusing-sizes, lent-housed, refusing, list_copied}
use Rattle.calls_undo_several.proofs.UndoneLevels.{levels-lent, accepting}
use Rattle.calls_undo_several.proofs.undo_mesh_levels.Goals as goal
use Rattle.calls_undo_several.proofs.undo_mesh_levels.Goals.{In_ok-sized, After-judge, In_ok-judge}

-- past the sizes
ready : (c : In_ok-sized)
    → SeveralLent (Ok tt) c.args.vertices c.args.list.now c.args.asked c.args.out.now c.args.current.now
    (buffers c.args.other.now c.args.rows.now c.args.ring.now c.args.marks.now c.args.coarse.now c.args.numbers.now
    c.args.map.now c.args.faces.now c.args.table.now)
ready c = lent-as c.requires c.in_ok-sized.was

-- the work buffers keep their lengths while the mesh is judged
judge-kept : (c : After-judge)
    → SameLengths
    (buffers c.args.other.now c.args.rows.now c.args.ring.now c.args.marks.now c.args.coarse.now c.args.numbers.now
    c.args.map.now c.args.faces.now c.args.table.now)
    (buffers c.args.other.now c.args.rows.now c.judge.new.ring c.judge.new.work1 c.judge.new.work2 c.judge.new.work3
    c.judge.new.work4 c.args.faces.now c.args.table.now)
judge-kept c = judged-kept c.judge.auto.work1 c.judge.auto.work2 c.judge.auto.work3 c.judge.auto.work4 c.judge.auto.ring

-- past the judgement
passed : (c : In_ok-judge) → Passed (mesh_rules c.args.vertices c.args.list.now)
passed c = judged-ok c.in_ok-judge.ensures.verdict (omega arith)

-- ---- the answers

pub returns-in_err-sized : goal.returns-in_err-sized
returns-in_err-sized c =
    let p = err_from_is_err_and c.from_residual.result c.from_residual.ensures.1 in
    rw (p.1, p.2) (refusing-sizes (lent-as c.requires c.in_err-sized.was))

pub judge-requires : goal.judge-requires
judge-requires c = judgeable (lent-housed (ready (goal.at.judge-requires c).In_ok-sized))

pub returns-in_err-judge : goal.returns-in_err-judge
returns-in_err-judge c =
    let p = err_from_is_err_and c.from_residual-in_err-judge.result c.from_residual-in_err-judge.ensures.1 in
    rw (p.1, p.2) (refusing (ready (goal.at.returns-in_err-judge c).In_ok-sized) c.in_err-judge.ensures)

pub count_edges-edges-requires : goal.count_edges-edges-requires
count_edges-edges-requires c = let k = goal.at.count_edges-edges-requires c in
    countable (housed-kept (judge-kept k.After-judge) (lent-housed (ready k.In_ok-sized)))

pub count_boundary-boundary-requires : goal.count_boundary-boundary-requires
count_boundary-boundary-requires c = let k = goal.at.count_boundary-boundary-requires c in
    countable (housed-kept (judge-kept k.After-judge) (lent-housed (ready k.In_ok-sized)))

pub copy-requires-clause-n_in_bounds_2 : goal.copy-requires-clause-n_in_bounds_2
copy-requires-clause-n_in_bounds_2 c = (list_copied (ready (goal.at.copy-requires-clause-n_in_bounds_2 c).In_ok-sized)).1

pub undo_levels-requires : goal.undo_levels-requires
undo_levels-requires c = let k = goal.at.undo_levels-requires c in
    levels-lent (ready k.In_ok-sized) c.copy.ensures (passed k.In_ok-judge) (judge-kept k.After-judge) c.copy.auto.to
    c.in_ok-judge.ensures.ringed c.count_edges-edges.ensures c.count_boundary-boundary.ensures

pub returns : goal.returns
returns c = let k = goal.at.returns c in
    accepting (ready k.In_ok-sized) c.copy.ensures (passed k.In_ok-judge) c.undo_levels.ensures
