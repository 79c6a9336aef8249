-- Document 01, "Calls", "Refusals by number" and the room below them: for each call the relation between what it is
-- given and what it answers and leaves in the lent buffers. `proofs/Determined` shows that each leaves at most one
-- result. The calls for frames are in `Frames`.
use Rattle.std.specs.Prelude.{ℕ, ◌+◌, ◌*◌, ◌/◌, ◌≡◌, List, [], ◌∷◌, ◌++◌, map, length, drop, replicate}
use Rattle.theory.specs.Limits.{most_triangles, most_split_triangles, any_role, most_levels}
use Rattle.theory.specs.Mesh.{triangles, Rotated}
use Rattle.theory.specs.Splitting.{edges, boundary_edges, split}
use Rattle.theory.specs.Reading.{Reading, Returned}
use Rattle.theory.specs.Choice.{Chosen, Several, seven_places}
use Rattle.theory.specs.Refusals.{Rule, Room, asked_too_much, too_short, size_rules, mesh_rules, reading_rules}
use Rattle.theory.specs.Refusals.{Passed, Refused}

-- ---- answers

-- "An answer holds the refusal number (0 when accepted), the place, the resulting V and F", and by #102 "also .. the
-- resulting mesh's edge count and boundary edge count".
pub record Answer : Type 0 where
  pub refusal : ℕ
  pub place : ℕ
  pub vertices : ℕ
  pub triangles : ℕ
  pub edges : ℕ
  pub boundary_edges : ℕ

-- ".. and for undo the role".
pub record OneAnswer : Type 0 where
  pub common : Answer
  pub role : ℕ

-- ".. or the levels and roles".
pub record SeveralAnswer : Type 0 where
  pub common : Answer
  pub levels : ℕ
  pub roles : List ℕ

-- "Other numbers in a refusal are 0"; #102: "and zeros in a refusal".
abbrev pub refusal : ℕ → ℕ → Answer
refusal number place =
    record { refusal = number; place = place; vertices = 0; triangles = 0; edges = 0; boundary_edges = 0 }

-- An acceptance: 0, place 0, and the resulting V, F, E and B.
abbrev pub accepted : ℕ → ℕ → ℕ → ℕ → Answer
accepted N F E B = record { refusal = 0; place = 0; vertices = N; triangles = F; edges = E; boundary_edges = B }

-- The acceptance whose resulting mesh is this one.
abbrev pub accepted_mesh : ℕ → List ℕ → Answer
accepted_mesh N T = accepted N (triangles T) (edges T) (boundary_edges T)

-- A refusal of undo one: the role is 0 too.
abbrev pub one_refusal : ℕ → ℕ → OneAnswer
one_refusal number place = record { common = refusal number place; role = 0 }

-- An acceptance of undo one: the role, beside what is accepted.
abbrev pub one_accepted : ℕ → Answer → OneAnswer
one_accepted role common = record { common = common; role = role }

-- A refusal of undo several: no levels and no roles.
abbrev pub several_refusal : ℕ → ℕ → SeveralAnswer
several_refusal number place = record { common = refusal number place; levels = 0; roles = seven_places [] }

-- An acceptance of undo several: the levels, and the roles taken in seven places, beside what is accepted.
abbrev pub several_accepted : ℕ → List ℕ → Answer → SeveralAnswer
several_accepted levels roles common = record { common = common; levels = levels; roles = seven_places roles }

-- ---- buffers

-- "Acceptance writes only the entries it needs and the rest stay."
abbrev pub written : List ℕ → List ℕ → List ℕ
written new old = new ++ drop (length new) old

-- "Work buffers are all zero after every call."
abbrev pub zeros : List ℕ → List ℕ
zeros buffer = replicate (length buffer) 0

-- "Work buffers have a length in V and F": each must have V + 3F entries.
abbrev pub work_entries : ℕ → ℕ → ℕ
work_entries N F = N + 3 * F

-- Work buffers of these lengths, each with what it needs.
abbrev pub work_rooms : ℕ → ℕ → List ℕ → List Room
work_rooms N F works = map (λ work. record { lent = work; needed = work_entries N F }) works

-- ---- split

-- An output buffer of so many entries, "split 12F", and work buffers of these lengths.
abbrev pub split_rooms : ℕ → ℕ → ℕ → List ℕ → List Room
split_rooms N F out works = record { lent = out; needed = 12 * F } ∷ work_rooms N F works

-- 2 to 5 of a split, which are judged from numbers alone: "(split: above 4,096)".
abbrev pub split_size_rules : ℕ → ℕ → List Room → List Rule
split_size_rules N entries rooms = size_rules most_split_triangles N entries ++ (too_short rooms ∷ [])

-- "Splitting gives 2 to 10".
abbrev pub split_rules : ℕ → List ℕ → List Room → List Rule
split_rules N T rooms = split_size_rules N (length T) rooms ++ mesh_rules N T

-- The room that split is lent.
abbrev pub lent_to_split : ℕ → List ℕ → List ℕ → List (List ℕ) → List Room
lent_to_split N T out works = split_rooms N (triangles T) (length out) (map length works)

-- The call split: given (N, T) and the buffers, it answers `answer` and leaves the buffers as `out'` and `works'`.
pub data Splits (N : ℕ) (T out : List ℕ) (works : List (List ℕ)) (answer : Answer) (out' : List ℕ)
    (works' : List (List ℕ)) : Type 0 where
  refuses : (number place : ℕ) → Refused (split_rules N T (lent_to_split N T out works)) number place
      → answer ≡ refusal number place → out' ≡ out → works' ≡ map zeros works → Splits N T out works answer out' works'
  accepts : Passed (split_rules N T (lent_to_split N T out works))
      → answer ≡ accepted_mesh (N + edges T) (split N T) → out' ≡ written (split N T) out → works' ≡ map zeros works
      → Splits N T out works answer out' works'

-- ---- undo one

-- "undo one needs 3 times (F divided by 4, rounded down) for the mesh, V and F for the two maps".
abbrev pub undo_one_rooms : ℕ → ℕ → ℕ → ℕ → ℕ → List ℕ → List Room
undo_one_rooms N F mesh vertex_map triangle_map works =
    record { lent = mesh; needed = 3 * (F / 4) }
    ∷ record { lent = vertex_map; needed = N }
    ∷ record { lent = triangle_map; needed = F }
    ∷ work_rooms N F works

-- 1 to 4 of an undo of which at most so much may be asked.
abbrev pub undo_number_rules : ℕ → ℕ → ℕ → ℕ → List Rule
undo_number_rules most N entries asked = asked_too_much most asked ∷ size_rules most_triangles N entries

-- 1 to 5 of undo one, which are judged from numbers alone: "asked above 4 (undo one)".
abbrev pub undo_one_size_rules : ℕ → ℕ → ℕ → List Room → List Rule
undo_one_size_rules N entries asked rooms = undo_number_rules any_role N entries asked ++ (too_short rooms ∷ [])

-- 6 to 10, and 15 or 11.
abbrev pub undo_one_mesh_rules : ℕ → List ℕ → ℕ → List Rule
undo_one_mesh_rules N T asked = mesh_rules N T ++ reading_rules N T asked

-- The rows of undo one, 1 to 11 and 15.
abbrev pub undo_one_rules : ℕ → List ℕ → ℕ → List Room → List Rule
undo_one_rules N T asked rooms = undo_one_size_rules N (length T) asked rooms ++ undo_one_mesh_rules N T asked

-- The lent output buffers of undo one.
pub record Outputs : Type 0 where
  pub mesh : List ℕ
  pub vertex_map : List ℕ
  pub triangle_map : List ℕ

-- The room that undo one is lent.
abbrev pub lent_to_undo_one : ℕ → List ℕ → Outputs → List (List ℕ) → List Room
lent_to_undo_one N T out works =
    undo_one_rooms N (triangles T) (length out.mesh) (length out.vertex_map) (length out.triangle_map)
    (map length works)

-- A reading written to the three output buffers.
abbrev pub written_reading : Reading → Outputs → Outputs
written_reading r out = record {
  mesh = written r.mesh out.mesh;
  vertex_map = written r.vertex_map out.vertex_map;
  triangle_map = written r.triangle_map out.triangle_map;
}

-- A reading answered: its role, and what is counted of its mesh.
abbrev pub accepted_reading : ℕ → Reading → OneAnswer
accepted_reading role r = one_accepted role (accepted_mesh r.vertices r.mesh)

-- The call undo one: accepted exactly with the role that is chosen, and the returned reading in it.
pub data UndoesOne (N : ℕ) (T : List ℕ) (asked : ℕ) (out : Outputs) (works : List (List ℕ)) (answer : OneAnswer)
    (out' : Outputs) (works' : List (List ℕ)) : Type 0 where
  refuses : (number place : ℕ)
      → Refused (undo_one_rules N T asked (lent_to_undo_one N T out works)) number place
      → answer ≡ one_refusal number place → out' ≡ out → works' ≡ map zeros works
      → UndoesOne N T asked out works answer out' works'
  accepts : (role : ℕ) (r : Reading)
      → Passed (undo_one_rules N T asked (lent_to_undo_one N T out works))
      → Chosen Rotated N T asked role → Returned Rotated N T role r
      → answer ≡ accepted_reading role r → out' ≡ written_reading r out → works' ≡ map zeros works
      → UndoesOne N T asked out works answer out' works'

-- ---- undo several

-- "undo several 3F", and work buffers of these lengths.
abbrev pub undo_several_rooms : ℕ → ℕ → ℕ → List ℕ → List Room
undo_several_rooms N F out works = record { lent = out; needed = 3 * F } ∷ work_rooms N F works

-- 1 to 5 of undo several, which are judged from numbers alone: "above 7 (undo several)".
abbrev pub undo_several_size_rules : ℕ → ℕ → ℕ → List Room → List Rule
undo_several_size_rules N entries asked rooms = undo_number_rules most_levels N entries asked ++ (too_short rooms ∷ [])

-- "Undo several gives 1 to 10".
abbrev pub undo_several_rules : ℕ → List ℕ → ℕ → List Room → List Rule
undo_several_rules N T asked rooms = undo_several_size_rules N (length T) asked rooms ++ mesh_rules N T

-- The room that undo several is lent.
abbrev pub lent_to_undo_several : ℕ → List ℕ → List ℕ → List (List ℕ) → List Room
lent_to_undo_several N T out works = undo_several_rooms N (triangles T) (length out) (map length works)

-- Levels answered: how many they are, their roles, and what is counted of the mesh that they leave.
abbrev pub accepted_levels : ℕ → List ℕ → ℕ → List ℕ → SeveralAnswer
accepted_levels levels roles M C = several_accepted levels roles (accepted_mesh M C)

-- The call undo several: level by level, with the allowance asked.
pub data UndoesSeveral (N : ℕ) (T : List ℕ) (asked : ℕ) (out : List ℕ) (works : List (List ℕ)) (answer : SeveralAnswer)
    (out' : List ℕ) (works' : List (List ℕ)) : Type 0 where
  refuses : (number place : ℕ) → Refused (undo_several_rules N T asked (lent_to_undo_several N T out works)) number place
      → answer ≡ several_refusal number place → out' ≡ out → works' ≡ map zeros works
      → UndoesSeveral N T asked out works answer out' works'
  accepts : (levels M : ℕ) (roles C : List ℕ)
      → Passed (undo_several_rules N T asked (lent_to_undo_several N T out works))
      → Several asked N T levels roles M C
      → answer ≡ accepted_levels levels roles M C → out' ≡ written C out → works' ≡ map zeros works
      → UndoesSeveral N T asked out works answer out' works'
