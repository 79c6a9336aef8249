-- Several levels: what they are lent, and what they come to.
use Rattle.std.specs.Prelude.{ℕ, ◌*◌, ◌≤◌, ◌≡◌, List, length, take}
use Rattle.theory.specs.Limits.{most_levels}
use Rattle.theory.specs.Choice.{Several, seven_places}
use Rattle.theory.specs.Calls.{written}
use Rattle.answers.specs.declared.counts.Counts.{Counts}
use Rattle.answers.specs.declared.levels.Levels.{Levels}
use Rattle.answers.specs.Counts.{counts_of}
use Rattle.mesh_rings.specs.Tables.{Work}
use Rattle.undo_role.specs.Buffers.{Buffers, Rooms}
use Rattle.undo_level.specs.Level.{Level}

-- What `undo_levels` is lent: a proper mesh in the first entries of a list, what is counted of it, the rings of its
-- edges, and room.
pub record LevelsLent (allowance : ℕ) (counts : Counts) (list out : List ℕ) (b : Buffers) : Type 0 where
  pub few : allowance ≤ most_levels
  pub level : Level counts.vertices counts.triangles (take (3 * counts.triangles) list) b.ring
  pub counted : counts ≡ counts_of counts.vertices (take (3 * counts.triangles) list)
  pub list_room : Work counts.vertices counts.triangles list
  pub out_room : 3 * counts.triangles ≤ length out
  pub rooms : Rooms counts.vertices counts.triangles b

-- The levels that document 01 names, with their roles in seven places, and the mesh that is left in `out`, with what is
-- counted of it.
pub record LevelsUndone (allowance N : ℕ) (T out out' : List ℕ) (answer : Levels) : Type 0 where
  pub roles : List ℕ
  pub mesh : List ℕ
  pub several : Several allowance N T answer.levels roles answer.left.vertices mesh
  pub counted : answer.left ≡ counts_of answer.left.vertices mesh
  pub places : answer.roles ≡ seven_places roles
  pub left : out' ≡ written mesh out
