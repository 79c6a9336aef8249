-- `flatcarol::call_split::flatcarol_split` meets its contract: the verdict on its sizes by the shortest work buffer is
-- that by all of them, `split_mesh` does what the call promises for when the work buffers are cleared, and `clear_five`
-- clears them.
use mathlib.Core.List.{[], ◌∷◌}
use Rattle.std.proofs.Common.{rules}
use lib.ListN.{length}
use Rattle.theory.specs.Mesh.{triangles}
use Rattle.theory.specs.Limits.{most_split_triangles}
use Rattle.theory.specs.Refusals.{size_rules}
use Rattle.theory.specs.Calls.{split_rooms}
use Rattle.calls_sizes.proofs.Shortest.{judged-by-all}
use Rattle.calls_work.proofs.Buffers.{used-cleared}
use Rattle.flatcarol.proofs.call_split.flatcarol_split.Goals as goal

pub split_mesh-answer-requires : goal.split_mesh-answer-requires
split_mesh-answer-requires c =
    let a = c.args in
    record {
      judged = judged-by-all (size_rules most_split_triangles a.vertices (length a.list.now)) a.vertices
          (triangles a.list.now)
          (split_rooms a.vertices (triangles a.list.now) (length a.out.now) [])
          (length a.work1.now) (length a.work2.now ∷ length a.work3.now ∷ length a.work4.now ∷ length a.work5.now ∷ [])
          c.shortest-work.ensures c.judge_split_size-sized.ensures;
    }

pub returns : goal.returns
returns c =
    let a = c.args in
    let u = c.split_mesh-answer in
    rw (
      c.into.ensures,
      used-cleared
          (a.work1.now ∷ a.work2.now ∷ a.work3.now ∷ a.work4.now ∷ a.work5.now ∷ [])
          (u.new.ring ∷ u.new.work1 ∷ u.new.work2 ∷ u.new.work3 ∷ u.new.work4 ∷ [])
          _ (search rules) c.clear_five.ensures,
    ) u.ensures
