-- `undo_roles::least_role`: no role below the next has a reading, the first that has one by the old rule is remembered,
-- the roles are lent what they need, and the buffers have kept their lengths.
use Rattle.undo_role.specs.Buffers.{buffers}
use Rattle.undo_roles.proofs.Least.{Turn}
use Rattle.undo_roles.proofs.least_role.Given as goal

abbrev pub invariant-loop-role : goal.invariant-loop-role
invariant-loop-role l =
    Turn l.mesh.vertices l.mesh.triangles l.mesh.list.now
    (buffers l.cover.other.now l.cover.rows.now l.cover.ring.now l.fn.marks l.fn.coarse l.fn.numbers l.fn.map l.fn.faces l.fn.table)
    (buffers l.cover.other.now l.cover.rows.now l.cover.ring.now l.marks l.coarse l.numbers l.map l.faces l.table) l.remembered l.role
