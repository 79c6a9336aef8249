-- `calls_split::split_mesh` meets its contract: what the sizes or `judge` refuse is refused, and else the numbers of
-- the edge vertices are those of the splitting, so that it is the splitting that is written.
use native.Mathlib.Omega.{arith}
use mathlib.Core.Path.{◌≡◌, ◌∙◌}
use Rattle.std.proofs.lemmas.Grind.{common_steps}
use Rattle.std.proofs.Common.{Err}
use Rattle.calls_split.proofs.SplitMesh.{refusing-sizes, judgeable, numberable, writable, countable, splittable}
use Rattle.calls_split.proofs.SplitMesh.{refusing, accepting}
use Rattle.calls_split.proofs.split_mesh.Goals as goal

-- what is returned there is what the sizes came to
pub returns-in_err-sized : goal.returns-in_err-sized
returns-in_err-sized c =
    let refused : c.args.sized ≡ Err c.in_err-sized.field-0.0 = grind (arith, common_steps) in
    refusing-sizes c.requires _ refused c.from_residual.ensures.1

pub judge-requires : goal.judge-requires
judge-requires c = judgeable c.requires c.in_ok-sized.was

pub returns-in_err-judge : goal.returns-in_err-judge
returns-in_err-judge c =
    refusing c.requires c.in_ok-sized.was _ c.in_err-judge.ensures c.from_residual-in_err-judge.ensures.1

pub number_edges-edges-requires : goal.number_edges-edges-requires
number_edges-edges-requires c =
    numberable c.requires c.in_ok-sized.was c.in_ok-judge.ensures.ringed c.judge.auto.ring c.judge.auto.work1

pub write_fours-requires : goal.write_fours-requires
write_fours-requires c =
    writable c.requires c.in_ok-sized.was (c.number_edges-edges.auto.numbers ∙ c.judge.auto.work1)

pub count_boundary-boundary-requires : goal.count_boundary-boundary-requires
count_boundary-boundary-requires c = countable c.requires c.in_ok-sized.was c.judge.auto.ring

pub split_counts-requires : goal.split_counts-requires
split_counts-requires c =
    splittable c.requires c.in_ok-sized.was c.in_ok-judge.ensures.ringed c.number_edges-edges.ensures
    c.count_boundary-boundary.ensures

pub returns : goal.returns
returns c =
    accepting c.requires c.in_ok-sized.was c.in_ok-judge.ensures c.number_edges-edges.ensures c.write_fours.ensures
    c.count_boundary-boundary.ensures c.split_counts.ensures
