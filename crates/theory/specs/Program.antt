-- Document 01, "Frames", the program: the text that it prints for the bytes of its input and a number asked.
use Rattle.std.specs.Prelude.{ℕ, ◌*◌, ◌/◌, ◌≡◌, List, [], ◌∷◌, ◌++◌, length}
use Rattle.theory.specs.Limits.{program_triangles, program_vertices}
use Rattle.theory.specs.Mesh.{triangles, Rotated}
use Rattle.theory.specs.Reading.{Reading, Returned}
use Rattle.theory.specs.Choice.{Chosen}
use Rattle.theory.specs.Refusals.{Rule, Room, input_too_long, Passed, Refused}
use Rattle.theory.specs.Calls.{undo_one_rules, undo_one_rooms}
use Rattle.theory.specs.Frames.{two_digits, four_digits, line, frames, LinesSay, read_rules}

-- "writes 41, then two digits each of refusal number and role, and four of place".
unfoldable pub answer_line : ℕ → ℕ → ℕ → List ℕ
answer_line number role place = line 0x41 (two_digits number ++ two_digits role ++ four_digits place)

-- One frame of a kind, of four digits, for each entry of a map.
unfoldable pub map_lines : ℕ → List ℕ → List ℕ
map_lines kind [] = []
map_lines kind (entry ∷ entries) = line kind (four_digits entry) ++ map_lines kind entries

-- "After 00 follow the coarse mesh's frames, one 56 frame .. per input vertex .., and one 54 frame per input
-- triangle".
unfoldable pub reading_text : ℕ → Reading → List ℕ
reading_text role r =
    answer_line 0 role 0 ++ frames r.vertices r.mesh
    ++ map_lines 0x56 r.vertex_map ++ map_lines 0x54 r.triangle_map

-- "has room for 1,024 triangles and 1,026 vertices (.. more vertices 5 by undoing)"; no work buffers are lent to it.
abbrev pub program_rooms : ℕ → ℕ → List Room
program_rooms N F = undo_one_rooms N F (3 * (program_triangles / 4)) program_vertices program_triangles []

-- What is printed for a mesh that has been read: "A refusal .. prints its one line only".
pub data PrintsMesh (N : ℕ) (T : List ℕ) (asked : ℕ) (text : List ℕ) : Type 0 where
  refuses : (number place : ℕ) → Refused (undo_one_rules N T asked (program_rooms N (triangles T))) number place
      → text ≡ answer_line number 0 place → PrintsMesh N T asked text
  accepts : (role : ℕ) (r : Reading) → Passed (undo_one_rules N T asked (program_rooms N (triangles T)))
      → Chosen Rotated N T asked role → Returned Rotated N T role r → text ≡ reading_text role r
      → PrintsMesh N T asked text

-- "the program gives 13 before anything else", then what reading gives: "(more triangles are refused 5 by reading)".
abbrev pub input_rules : List ℕ → List Rule
input_rules bytes = input_too_long (length bytes) ∷ read_rules (3 * program_triangles) bytes

-- The program's text: that of a refusal, "from reading or undoing or 13", or that of a reading.
pub data Prints (bytes : List ℕ) (asked : ℕ) (text : List ℕ) : Type 0 where
  refuses : (number place : ℕ) → Refused (input_rules bytes) number place
      → text ≡ answer_line number 0 place → Prints bytes asked text
  reads : (N : ℕ) (T : List ℕ) → Passed (input_rules bytes) → LinesSay bytes N T
      → PrintsMesh N T asked text → Prints bytes asked text
