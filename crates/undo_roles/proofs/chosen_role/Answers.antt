-- `undo_roles::chosen_role` meets its contract: asked for any role it takes the least, and else the role asked.
use Rattle.undo_roles.proofs.Least.{asked-least, asked-triable, asked-tried}
use Rattle.undo_roles.proofs.chosen_role.Goals as goal

pub returns-then-asked-eq-ANY_ROLE : goal.returns-then-asked-eq-ANY_ROLE
returns-then-asked-eq-ANY_ROLE c =
    asked-least c.requires.lent.mesh.proper c.if-asked-eq-ANY_ROLE.true c.least_role.ensures

pub returns : goal.returns
returns c = asked-tried (asked-triable c.requires c.if-asked-eq-ANY_ROLE.false) c.try_role.ensures
