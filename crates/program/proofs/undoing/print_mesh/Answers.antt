-- `program::undoing::print_mesh` meets its contract: every array has the program's room, and keeps it.
use native.Mathlib.Omega.{arith}
use mathlib.Core.Path.{refl, sym}
use lib.Seq.{length-take-le}
use Rattle.answers.specs.Answers.{outputs}
use Rattle.program.proofs.Printed.{refusal-left}
use Rattle.program.proofs.Rooms.{arrays-room, program-lent}
use Rattle.program.proofs.Undone.{Accepted, accepted, refusal-right, vertices-held, triangles-held, reading-room, reading-put}
use Rattle.program.proofs.undoing.print_mesh.Goals as goal
use Rattle.program.proofs.undoing.print_mesh.Goals.{In_ok-undone}

-- what is undone was accepted
held : (c : In_ok-undone)
    → Accepted c.args.vertices c.args.list.now c.args.asked c.in_ok-undone.undone
    (outputs c.undo_mesh.new.mesh c.undo_mesh.new.vertex_map c.undo_mesh.new.triangle_map)
held c =
    accepted arrays-room (record { long = refl })
    (record {
      mesh = omega (arith, c.undo_mesh.auto.mesh);
      vertices = omega (arith, c.undo_mesh.auto.vertex_map);
      triangles = omega (arith, c.undo_mesh.auto.triangle_map);
    })
    c.in_ok-undone.ensures

pub undo_mesh-requires : goal.undo_mesh-requires
undo_mesh-requires c = program-lent arrays-room (record { long = refl }) c.judge_undo_one_size-sized.ensures

pub returns-in_err-undone : goal.returns-in_err-undone
returns-in_err-undone c =
    refusal-left _ _ _ _ c.from_residual.ensures.1
    (refusal-right arrays-room (record { long = refl }) _ c.in_err-undone.ensures)

pub slice_bounds-vertex_map-end : goal.slice_bounds-vertex_map-end
slice_bounds-vertex_map-end c = vertices-held (held (goal.at.slice_bounds-vertex_map-end c).In_ok-undone)

pub slice_bounds-print_reading-end-2 : goal.slice_bounds-print_reading-end-2
slice_bounds-print_reading-end-2 c =
    sym (length-take-le _ _ (vertices-held (held (goal.at.slice_bounds-print_reading-end-2 c).In_ok-undone)))

pub slice_bounds-triangle_map-end : goal.slice_bounds-triangle_map-end
slice_bounds-triangle_map-end c = triangles-held (held (goal.at.slice_bounds-triangle_map-end c).In_ok-undone)

pub slice_bounds-print_reading-end-3 : goal.slice_bounds-print_reading-end-3
slice_bounds-print_reading-end-3 c =
    sym (length-take-le _ _ (triangles-held (held (goal.at.slice_bounds-print_reading-end-3 c).In_ok-undone)))

pub print_reading-requires : goal.print_reading-requires
print_reading-requires c = reading-room (held (goal.at.print_reading-requires c).In_ok-undone) c.requires

pub returns : goal.returns
returns c = reading-put (held (goal.at.returns c).In_ok-undone) c.print_reading.ensures
