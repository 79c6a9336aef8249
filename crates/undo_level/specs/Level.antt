-- One level of undo several, by the tables.
use Rattle.std.specs.Prelude.{ℕ, ◌*◌, List, take, Option, Some, None}
use Rattle.theory.specs.Mesh.{Rotated}
use Rattle.theory.specs.Splitting.{first_on}
use Rattle.theory.specs.Reading.{Returned}
use Rattle.theory.specs.Choice.{LeastRole, NoRole}
use Rattle.answers.specs.declared.taken.RoleRead.{RoleRead}
use Rattle.answers.specs.Taken.{reading_in}
use Rattle.mesh_rings.specs.Ring.{RingBy}
use Rattle.undo_role.specs.Buffers.{Buffers, Rooms}
use Rattle.undo_role.specs.Tried.{Undoable}

-- A proper mesh of F triangles on N vertices, small enough for 16 bits, with the rings of its edges.
pub record Level (N F : ℕ) (T ring : List ℕ) : Type 0 where
  pub mesh : Undoable N F T
  pub ringed : RingBy (3 * F) (first_on T) ring

-- What `undo_least` is lent: a mesh, and room.
pub record LevelLent (N F : ℕ) (T : List ℕ) (b : Buffers) : Type 0 where
  pub level : Level N F T b.ring
  pub rooms : Rooms N F b

-- The role is the least that has a reading, and the mesh of the returned one, with M vertices and n triangles, stands
-- in `coarse`.
pub record Coarser (N F : ℕ) (T coarse : List ℕ) (role M n : ℕ) : Type 0 where
  pub least : LeastRole Rotated N T role
  pub map : List ℕ
  pub faces : List ℕ
  pub returned : Returned Rotated N T role (reading_in N F M n coarse map faces)

-- There is a coarser mesh, and the rings of its edges stand in `ring`; or no role has a reading.
pub data LevelTried (N F : ℕ) (T coarse ring : List ℕ) : Option RoleRead → Type 0 where
  found : {role M n : ℕ} → Coarser N F T coarse role M n → RingBy (3 * n) (first_on (take (3 * n) coarse)) ring
      → LevelTried N F T coarse ring (Some (record { role = role; vertices = M; triangles = n }))
  none : NoRole Rotated N T → LevelTried N F T coarse ring None
