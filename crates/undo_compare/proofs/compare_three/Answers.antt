-- `undo_compare::compare_three` meets its contract: the two tests tell how the vertices compare.
use Rattle.lists.proofs.Decides.{decided-not}
use Rattle.undo_compare.specs.Compared.{ComparedThree}
use Rattle.undo_compare.proofs.compare_three.Goals as goal

pub returns-then-rotated : goal.returns-then-rotated
returns-then-rotated c = ComparedThree.rotated (c.rotated.ensures.sound c.if-rotated.true)

pub returns-then-same_vertices : goal.returns-then-same_vertices
returns-then-same_vertices c = ComparedThree.reversed (c.same_vertices.ensures.sound c.if-same_vertices.true)
    (decided-not c.rotated.ensures c.if-rotated.false)

pub returns : goal.returns
returns c = ComparedThree.other (decided-not c.same_vertices.ensures c.if-same_vertices.false)
