-- The role that is asked for, by the tables: what it is lent, and what it comes to.
use Rattle.std.specs.Prelude.{ℕ, ◌≤◌, List}
use Rattle.theory.specs.Limits.{any_role}
use Rattle.theory.specs.Mesh.{Same, Rotated}
use Rattle.theory.specs.Reading.{Returned}
use Rattle.theory.specs.Choice.{Chosen, NoneChosen}
use Rattle.theory.specs.Refusals.{InsideOut, LeastPlace}
use Rattle.answers.specs.Taken.{Taken, reads, stopped_at, nothing, reading_in}
use Rattle.undo_role.specs.Buffers.{Buffers}
use Rattle.undo_role.specs.Tried.{RolesLent}

-- What `chosen_role` is lent: a number asked, and what every role is lent.
pub record ChoiceLent (asked N F : ℕ) (T : List ℕ) (b : Buffers) : Type 0 where
  pub known : asked ≤ any_role
  pub lent : RolesLent N F T b

-- The role is the chosen one, and the returned reading, with M vertices and n triangles, stands in the buffers; or none
-- is chosen, but one by the old rule, and k is the place of that; or none is by either.
pub data ChosenTried (asked N F : ℕ) (T coarse map faces : List ℕ) : Taken → Type 0 where
  found : {role M n : ℕ} → Chosen Rotated N T asked role
      → Returned Rotated N T role (reading_in N F M n coarse map faces)
      → ChosenTried asked N F T coarse map faces (reads role M n)
  inside_out : {k : ℕ} → LeastPlace (InsideOut N T asked) k
      → ChosenTried asked N F T coarse map faces (stopped_at k)
  none : NoneChosen Same N T asked → ChosenTried asked N F T coarse map faces nothing
