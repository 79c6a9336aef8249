-- The measure is the allowance. The coarser mesh is lent to the call of itself as the mesh is lent to it, with one
-- level less; what that call undoes and the level make all levels.
use Rattle.undo_levels.proofs.+undo_levels.Given as goal

abbrev pub decreases-undo_levels : goal.decreases-undo_levels
decreases-undo_levels l = l.allowance
