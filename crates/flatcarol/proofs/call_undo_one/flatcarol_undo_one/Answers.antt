-- `flatcarol::call_undo_one::flatcarol_undo_one` meets its contract: the verdict on its sizes by the shortest work
-- buffer is that by all of them, `undo_mesh` does what the call promises for when the work buffers are cleared, and
-- `clear_nine` clears them.
use mathlib.Core.List.{[], ◌∷◌}
use lib.ListN.{length}
use Rattle.std.proofs.Common.{rules}
use Rattle.theory.specs.Mesh.{triangles}
use Rattle.theory.specs.Limits.{any_role}
use Rattle.theory.specs.Calls.{undo_number_rules, undo_one_rooms}
use Rattle.calls_sizes.proofs.Shortest.{judged-by-all}
use Rattle.calls_work.proofs.Buffers.{used-cleared}
use Rattle.flatcarol.proofs.call_undo_one.flatcarol_undo_one.Goals as goal

pub undo_mesh-answer-requires : goal.undo_mesh-answer-requires
undo_mesh-answer-requires c =
    let a = c.args in
    record {
      judged = judged-by-all (undo_number_rules any_role a.vertices (length a.list.now) a.asked) a.vertices
          (triangles a.list.now)
          (undo_one_rooms a.vertices (triangles a.list.now) (length a.mesh.now) (length a.vertex_map.now)
          (length a.triangle_map.now) [])
          (length a.work1.now) (length a.work2.now ∷ length a.work3.now ∷ length a.work4.now ∷ length a.work5.now
          ∷ length a.work6.now ∷ length a.work7.now ∷ length a.work8.now ∷ length a.work9.now ∷ [])
          c.shortest-work.ensures c.judge_undo_one_size-sized.ensures;
    }

pub returns : goal.returns
returns c =
    let a = c.args in
    let u = c.undo_mesh-answer in
    rw (
      c.into.ensures,
      used-cleared
          (a.work1.now ∷ a.work2.now ∷ a.work3.now ∷ a.work4.now ∷ a.work5.now ∷ a.work6.now ∷ a.work7.now
          ∷ a.work8.now ∷ a.work9.now ∷ [])
          (u.new.other ∷ u.new.rows ∷ u.new.ring ∷ u.new.marks ∷ u.new.coarse ∷ u.new.numbers ∷ u.new.map
          ∷ u.new.faces ∷ u.new.table ∷ [])
          _ (search rules) c.clear_nine.ensures,
    ) u.ensures
