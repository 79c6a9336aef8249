-- `undo_roles::least_role` meets its contract.
use native.Mathlib.Omega.{arith}
use mathlib.Core.Path.{refl, subst}
use Rattle.undo_role.specs.Tried.{TriedRole}
use Rattle.undo_role.proofs.Rooms.{tried-kept}
use Rattle.undo_roles.proofs.Least.{begun, turned, first-least, no-role}
use Rattle.undo_roles.proofs.least_role.Goals as goal

pub loop-role-init : goal.loop-role-init
loop-role-init c = begun c.requires

pub returns-in-Ok : goal.returns-in-Ok
returns-in-Ok c =
    first-least c.loop-role.invariant (subst (TriedRole _ _ _ _ _ _ _) c.in-Ok.is c.try_role.ensures)

pub loop-role-preserved : goal.loop-role-preserved
loop-role-preserved c =
    turned c.loop-role.invariant (omega arith)
    (tried-kept c.try_role.auto.marks c.try_role.auto.coarse c.try_role.auto.numbers c.try_role.auto.map c.try_role.auto.faces c.try_role.auto.table)
    (subst (TriedRole _ _ _ _ _ _ _) c.in-Err.is c.try_role.ensures) c.earlier-remembered.ensures

pub returns : goal.returns
returns c = no-role c.loop-role.invariant (omega arith)
