-- `flatcarol::call_undo_several::flatcarol_undo_several` meets its contract: the verdict on its sizes by the shortest
-- work buffer is that by all of them, `undo_mesh_levels` does what the call promises for when the work buffers are
-- cleared, and `clear_ten` clears them.
use mathlib.Core.List.{[], ◌∷◌}
use lib.ListN.{length}
use Rattle.std.proofs.Common.{rules}
use Rattle.theory.specs.Mesh.{triangles}
use Rattle.theory.specs.Limits.{most_levels}
use Rattle.theory.specs.Calls.{undo_number_rules, undo_several_rooms}
use Rattle.calls_sizes.proofs.Shortest.{judged-by-all}
use Rattle.calls_work.proofs.Buffers.{used-cleared}
use Rattle.flatcarol.proofs.call_undo_several.flatcarol_undo_several.Goals as goal

pub undo_mesh_levels-answer-requires : goal.undo_mesh_levels-answer-requires
undo_mesh_levels-answer-requires c =
    let a = c.args in
    record {
      judged = judged-by-all (undo_number_rules most_levels a.vertices (length a.list.now) a.asked) a.vertices
          (triangles a.list.now)
          (undo_several_rooms a.vertices (triangles a.list.now) (length a.out.now) [])
          (length a.work1.now) (length a.work2.now ∷ length a.work3.now ∷ length a.work4.now ∷ length a.work5.now
          ∷ length a.work6.now ∷ length a.work7.now ∷ length a.work8.now ∷ length a.work9.now ∷ length a.work10.now
          ∷ [])
          c.shortest-work.ensures c.judge_undo_several_size-sized.ensures;
    }

pub returns : goal.returns
returns c =
    let a = c.args in
    let u = c.undo_mesh_levels-answer in
    let z = c.clear_ten in
    rw (
      c.into.ensures,
      used-cleared
          (a.work1.now ∷ a.work2.now ∷ a.work3.now ∷ a.work4.now ∷ a.work5.now ∷ a.work6.now ∷ a.work7.now
          ∷ a.work8.now ∷ a.work9.now ∷ a.work10.now ∷ [])
          (u.new.current ∷ u.new.other ∷ u.new.rows ∷ u.new.ring ∷ u.new.marks ∷ u.new.coarse ∷ u.new.numbers
          ∷ u.new.map ∷ u.new.faces ∷ u.new.table ∷ [])
          (z.new.a ∷ z.new.b ∷ z.new.c ∷ z.new.d ∷ z.new.e ∷ z.new.f ∷ z.new.g ∷ z.new.h ∷ z.new.i ∷ z.new.j ∷ [])
          (search rules) z.ensures,
    ) u.ensures
