-- What an undo takes, where it stands in the buffers, and what becomes of it.
use Rattle.std.specs.Prelude.{ℕ, ◌*◌, ◌≤◌, List, length, take, Result, Ok, Err}
use Rattle.theory.specs.Reading.{Reading}
use Rattle.theory.specs.Calls.{OneAnswer, Outputs, one_accepted, written_reading}
use Rattle.limits.specs.declared.refusal.Refusal.{Refusal}
use Rattle.limits.specs.declared.refusal.Refusal.TheVariants as refusal
use Rattle.answers.specs.declared.counts.Counts.{Counts}
use Rattle.answers.specs.declared.taken.RoleRead.{RoleRead}
use Rattle.answers.specs.declared.taken.NoReading.{NoReading}
use Rattle.answers.specs.declared.taken.NoReading.TheVariants as none
use Rattle.answers.specs.declared.taken.Undone.{Undone}
use Rattle.answers.specs.Counts.{accepted_counts, coarse_counts}

-- What is taken: a role that has a reading, with the counts of its coarse mesh, or why there is none.
abbrev pub Taken : Type 0
Taken = Result RoleRead NoReading

-- The role has a reading, whose coarse mesh has M vertices and n triangles.
abbrev pub reads : ℕ → ℕ → ℕ → Taken
reads role M n = Ok (record { role = role; vertices = M; triangles = n })

-- It has one by the old rule alone, and triangle k stands in its way.
abbrev pub stopped_at : ℕ → Taken
stopped_at k = Err (none.InsideOut k)

-- It has none.
abbrev pub nothing : Taken
nothing = Err none.Nothing

-- The reading of a mesh of F triangles on N vertices that stands in the first entries of three buffers, with M vertices
-- and n triangles.
abbrev pub reading_in : (N F M n : ℕ) (coarse map faces : List ℕ) → Reading
reading_in N F M n coarse map faces =
    record { vertices = M; mesh = take (3 * n) coarse; vertex_map = take N map; triangle_map = take F faces }

-- How many triangles the coarse mesh has, if there is one.
abbrev pub centres_of : Taken → ℕ
centres_of (Ok r) = r.triangles
centres_of (Err none) = 0

-- How many vertices it has.
abbrev pub kept_of : Taken → ℕ
kept_of (Ok r) = r.vertices
kept_of (Err none) = 0

-- Of two roles, one after the other, that have no reading, the first that has one by the old rule.
abbrev pub earlier_of : Taken → Taken → Taken
earlier_of (Ok r) tried = Ok r
earlier_of (Err (none.InsideOut k)) tried = Err (none.InsideOut k)
earlier_of (Err none.Nothing) tried = tried

-- What `write_reading` is lent: the three buffers of what is taken, and room for it in the outputs.
pub record ReadingLent (found : Taken) (N F : ℕ) (coarse map faces : List ℕ) (out : Outputs) : Type 0 where
  pub coarse_room : 3 * centres_of found ≤ length coarse
  pub map_room : N ≤ length map
  pub faces_room : F ≤ length faces
  pub mesh : 3 * centres_of found ≤ length out.mesh
  pub vertex_map : N ≤ length out.vertex_map
  pub triangle_map : F ≤ length out.triangle_map

-- The outputs afterwards: the reading is written where one is taken, and they stay where none is.
abbrev pub left_by : Taken → (N F : ℕ) (coarse map faces : List ℕ) → Outputs → Outputs
left_by (Ok r) N F coarse map faces out =
    written_reading (reading_in N F r.vertices r.triangles coarse map faces) out
left_by (Err none) N F coarse map faces out = out

-- "15, in place of 11", at the triangle that stands in the way; or "11: no reading in the role asked".
abbrev pub refusal_of : NoReading → Refusal
refusal_of (none.InsideOut triangle) = refusal.InsideOut triangle
refusal_of none.Nothing = refusal.NoReading

-- What comes of it, where the input has N vertices and B boundary edges: the role and what is counted of the coarse mesh;
-- or the refusal.
abbrev pub undone_of : Taken → (N B : ℕ) → Result Undone Refusal
undone_of (Ok r) N B = Ok (record { role = r.role; counts = coarse_counts N B r.vertices r.triangles })
undone_of (Err none) N B = Err (refusal_of none)

-- The answer to a mesh of which so much is counted, in a role.
abbrev pub answer_to_reading : ℕ → Counts → OneAnswer
answer_to_reading role counts = one_accepted role (accepted_counts counts)
