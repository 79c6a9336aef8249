-- What the program lends and what is printed: everything has room for 1,024 triangles and 1,026 vertices.
use Rattle.std.specs.Prelude.{ℕ, ◌+◌, ◌*◌, ◌/◌, ◌≤◌, ◌≡◌, List, length, take, drop, Result, Ok, Err}
use Rattle.theory.specs.Limits.{program_triangles, program_vertices}
use Rattle.theory.specs.Program.{answer_line}
use Rattle.limits.specs.declared.refusal.Refusal.{Refusal}
use Rattle.limits.specs.Numbers.{number_of, place_of}
use Rattle.frames_write.specs.declared.puts.Writer.{Writer}
use Rattle.frames_write.specs.Putting.{Put}

-- ---- the text

-- The longest text: the answer, the frames of a quarter of the triangles, and both maps.
abbrev pub longest_text : ℕ
longest_text = 11 + (11 + 15 * (program_triangles / 4)) + 7 * program_vertices + 7 * program_triangles

-- There is room for it.
pub record TextLent (text : List ℕ) : Type 0 where
  pub long : longest_text ≤ length text

-- The first r bytes are a right text, and the others stay.
pub record Printed (right : List ℕ → Type 0) (text : List ℕ) (r : ℕ) (text' : List ℕ) : Type 0 where
  pub prints : right (take r text')
  pub short : r ≤ longest_text
  pub stays : drop r text' ≡ drop r text

-- ---- what came of an input

-- There is room for the longest text from the writer's place on.
pub record TextRoom (w : Writer) : Type 0 where
  pub fits : w.place + longest_text ≤ length w.bytes.now

-- A right text was put.
pub record TextPut (right : List ℕ → Type 0) (w w' : Writer) : Type 0 where
  pub text : List ℕ
  pub is : right text
  pub short : length text ≤ longest_text
  pub put : Put text w w'

-- Nothing was put, and the refusal's line is the right text.
pub record TextLeft (right : List ℕ → Type 0) (refusal : Refusal) (w w' : Writer) : Type 0 where
  pub is : right (answer_line (number_of refusal) 0 (place_of refusal))
  pub stays : w' ≡ w

-- What came of an input or of a mesh.
abbrev pub Answered : (right : List ℕ → Type 0) → Writer → Result Unit Refusal → Writer → Type 0
Answered right w (Ok done) w' = TextPut right w w'
Answered right w (Err refusal) w' = TextLeft right refusal w w'
