-- The least role that has a reading, by the tables: what trying the roles comes to.
use Rattle.std.specs.Prelude.{ℕ, List}
use Rattle.theory.specs.Mesh.{Same, Rotated}
use Rattle.theory.specs.Reading.{Returned}
use Rattle.theory.specs.Choice.{LeastRole, NoRole}
use Rattle.answers.specs.Taken.{Taken, reads, stopped_at, nothing, reading_in}
use Rattle.undo_role.specs.Tried.{OldOnly}

-- The role is the least that has a reading, and the returned one, with M vertices and n triangles, stands in the
-- buffers; or some role has one by the old rule alone, and k is the triangle that stands in the way in the least of
-- these; or no role has a reading by either.
pub data LeastTried (N F : ℕ) (T coarse map faces : List ℕ) : Taken → Type 0 where
  found : {role M n : ℕ} → LeastRole Rotated N T role → Returned Rotated N T role (reading_in N F M n coarse map faces)
      → LeastTried N F T coarse map faces (reads role M n)
  inside_out : {role k : ℕ} → NoRole Rotated N T → LeastRole Same N T role → OldOnly N T role k
      → LeastTried N F T coarse map faces (stopped_at k)
  none : NoRole Same N T → LeastTried N F T coarse map faces nothing
