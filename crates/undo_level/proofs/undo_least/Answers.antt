-- `undo_level::undo_least` meets its contract: triangles that are no multiple of four have no reading; else the
-- covering mesh is made by the rings of the mesh's edges, the least role is tried by the covering mesh, and the rings
-- are made of the coarser mesh where there is one.
use native.Mathlib.Omega.{arith}
use mathlib.Core.Path.{sym, subst, ◌∙◌}
use Rattle.undo_role.specs.Buffers.{buffers}
use Rattle.undo_role.proofs.Rooms.{SameLengths}
use Rattle.undo_roles.specs.Least.{LeastTried}
use Rattle.undo_level.specs.Level.{Coarser, found}
use Rattle.undo_level.proofs.Level.{level-uneven, least-none, least-found}
use Rattle.undo_level.proofs.Level.{Smaller, level-smaller, level-rings}
use Rattle.undo_level.proofs.undo_least.Goals as goal
use Rattle.undo_level.proofs.undo_least.Goals.{In-Ok}

-- the buffers keep their lengths while the covering mesh is made and the roles are tried
kept : (c : In-Ok)
    → SameLengths
    (buffers c.args.other.now c.args.rows.now c.args.ring.now c.args.marks.now c.args.coarse.now c.args.numbers.now
    c.args.map.now c.args.faces.now c.args.table.now)
    (buffers c.cover.new.other c.cover.new.tiles c.cover.new.ring c.least_role.new.marks c.least_role.new.coarse
    c.least_role.new.numbers c.least_role.new.map c.least_role.new.faces c.least_role.new.table)
kept c = record {
  other = c.cover.auto.other;
  rows = c.cover.auto.tiles;
  ring = c.cover.auto.ring;
  marks = c.least_role.auto.marks ∙ c.cover.auto.work1;
  coarse = c.least_role.auto.coarse ∙ c.cover.auto.work2;
  numbers = c.least_role.auto.numbers ∙ c.cover.auto.work3;
  map = c.least_role.auto.map ∙ c.cover.auto.work4;
  faces = c.least_role.auto.faces;
  table = c.least_role.auto.table;
}

-- the coarser mesh stands in `coarse` where a reading is taken
coarser : (c : In-Ok)
    → Coarser c.args.mesh.vertices c.args.mesh.triangles c.args.mesh.list.now c.least_role.new.coarse c.in-Ok.reading.role
    c.in-Ok.reading.vertices c.in-Ok.reading.triangles
coarser c = least-found (subst (LeastTried _ _ _ _ _ _) c.in-Ok.is c.least_role.ensures)

-- and is smaller
small : (c : In-Ok)
    → Smaller c.args.mesh.vertices c.args.mesh.triangles c.least_role.new.coarse c.in-Ok.reading.vertices
    c.in-Ok.reading.triangles
small c = level-smaller c.requires (kept c) (coarser c)

-- ---- the answers

pub returns-then-mesh-ne0 : goal.returns-then-mesh-ne0
returns-then-mesh-ne0 c = level-uneven c.requires.level.mesh c.if-mesh-ne0.true

pub returns-in_default : goal.returns-in_default
returns-in_default c = least-none (subst (LeastTried _ _ _ _ _ _) c.in_default.is c.least_role.ensures)

pub overflow_mul-coarser : goal.overflow_mul-coarser
overflow_mul-coarser c =
    omega (arith, (small (goal.at.overflow_mul-coarser c).In-Ok).fourth, c.requires.level.mesh.halves)

pub slice_bounds-coarser-end : goal.slice_bounds-coarser-end
slice_bounds-coarser-end c = (small (goal.at.slice_bounds-coarser-end c).In-Ok).fit

pub slice_bounds-coarser-end-2 : goal.slice_bounds-coarser-end-2
slice_bounds-coarser-end-2 c = sym (small (goal.at.slice_bounds-coarser-end-2 c).In-Ok).whole

pub ring_table-requires : goal.ring_table-requires
ring_table-requires c = let k = (goal.at.ring_table-requires c).In-Ok in level-rings c.requires (kept k) (coarser k)

pub returns : goal.returns
returns c = found (coarser (goal.at.returns c).In-Ok) c.ring_table.ensures
