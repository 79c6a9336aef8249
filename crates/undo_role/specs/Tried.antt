-- A role that is tried, by the tables: what it is lent, and whether the mesh has a reading in it.
use Rattle.std.specs.Prelude.{ℕ, ◌+◌, ◌*◌, ◌≤◌, ◌<◌, ◌≡◌, List, length}
use Rattle.theory.specs.Mesh.{Same, Rotated, Proper}
use Rattle.theory.specs.Reading.{Reading, ReadingIn, Disagrees, Returned}
use Rattle.theory.specs.Refusals.{LeastPlace}
use Rattle.answers.specs.Taken.{Taken, reads, stopped_at, nothing, reading_in}
use Rattle.answers.specs.declared.taken.NoReading.{NoReading}
use Rattle.answers.specs.declared.taken.NoReading.TheVariants.{InsideOut, Nothing}
use Rattle.undo_compare.specs.declared.Mismatch.{Mismatch}
use Rattle.undo_compare.specs.declared.Mismatch.TheVariants as mismatch
use Rattle.undo_cover.specs.Cover.{CoverMade}
use Rattle.undo_role.specs.Buffers.{Buffers, Rooms}

-- A proper mesh of F triangles on N vertices, small enough for 16 bits.
pub record Undoable (N F : ℕ) (T : List ℕ) : Type 0 where
  pub proper : Proper N T
  pub whole : length T ≡ 3 * F
  pub some : 0 < F
  pub small : N + F < 65536
  pub halves : 3 * F < 65536

-- What every role is lent: a mesh, its covering mesh, and room.
pub record RolesLent (N F : ℕ) (T : List ℕ) (b : Buffers) : Type 0 where
  pub mesh : Undoable N F T
  pub made : CoverMade F T b.other b.rows b.ring
  pub rooms : Rooms N F b

-- What `try_role` is lent.
pub record RoleLent (role N F : ℕ) (T : List ℕ) (b : Buffers) : Type 0 where
  pub is_role : role ≤ 3
  pub lent : RolesLent N F T b

-- The mesh has a reading in the role by the old rule alone: of the one that the old rule returns, triangle k is the
-- least that disagrees with the splitting.
pub record OldOnly (N : ℕ) (T : List ℕ) (role k : ℕ) : Type 0 where
  pub reading : Reading
  pub returned : Returned Same N T role reading
  pub least : LeastPlace (Disagrees Rotated T reading) k

-- The mesh has a reading in the role, and the returned one, with M vertices and n triangles, stands in the buffers; or
-- it has one by the old rule alone; or none by either.
pub data TriedRole (role N F : ℕ) (T coarse map faces : List ℕ) : Taken → Type 0 where
  found : {M n : ℕ} → Returned Rotated N T role (reading_in N F M n coarse map faces)
      → TriedRole role N F T coarse map faces (reads role M n)
  inside_out : {k : ℕ} → OldOnly N T role k → TriedRole role N F T coarse map faces (stopped_at k)
  none : (ReadingIn Same N T role → ⊥) → TriedRole role N F T coarse map faces nothing

-- Why there is none, where the triangles do not all agree.
abbrev pub no_reading_of : Mismatch → NoReading
no_reading_of (mismatch.InsideOut triangle) = InsideOut triangle
no_reading_of mismatch.Differ = Nothing
