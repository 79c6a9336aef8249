-- Document 02, #101: the index list of a mesh as the coordIndex text of a VRML97 IndexedFaceSet, read and written. All
-- of it computes on lists of bytes.
use Rattle.std.specs.Prelude.{ℕ, zero, suc, ◌+◌, ◌-◌, ◌*◌, ◌/◌, ◌%◌, ◌≡◌, Bool, true, false, not, ◌&&◌, ◌||◌, List, [], ◌∷◌, ◌++◌, leb, ltb, eqb, length}
use Rattle.std.proofs.Math.Option.{Option, none, some}
use Rattle.theory.specs.Limits.{most_triangles, most_corner}
use Rattle.theory.specs.Mesh.{at, triangles}
use Rattle.theory.specs.Refusals.{Rule, not_threes, too_large, too_short, Passed, Refused}
use Rattle.theory.specs.Calls.{written}
use Rattle.theory.specs.Frames.{FramesAnswer, frames_refusal, frames_accepted, read_rooms}

-- ---- runs

-- "separated by spaces, tabs, CR, LF or commas".
unfoldable pub separator : ℕ → Bool
separator byte = eqb byte 32 || (eqb byte 9 || (eqb byte 13 || (eqb byte 10 || eqb byte 44)))

-- "# starting a comment".
unfoldable pub comment_start : ℕ → Bool
comment_start byte = eqb byte 35

-- "that runs to the line end": "up to the next CR or LF".
unfoldable pub line_end : ℕ → Bool
line_end byte = eqb byte 13 || eqb byte 10

-- "A run is a longest stretch of other bytes": the place of its first byte, and its bytes.
pub record Run : Type 0 where
  pub place : ℕ
  pub bytes : List ℕ

-- A byte of a run and the runs after it: it belongs to the first of them if that starts at the next place.
unfoldable pub joined : ℕ → ℕ → List Run → List Run
joined place byte [] = record { place = place; bytes = byte ∷ [] } ∷ []
joined place byte (run ∷ runs) =
    elim (eqb run.place (suc place)) [
      | true ↦ record { place = place; bytes = byte ∷ run.bytes } ∷ runs
      | false ↦ record { place = place; bytes = byte ∷ [] } ∷ run ∷ runs
    ]

-- The runs of the bytes from a place on, which is in a comment or not: "a run ends at a separator, # or the end".
unfoldable pub runs : Bool → ℕ → List ℕ → List Run
runs comment place [] = []
runs true place (byte ∷ bytes) = runs (not (line_end byte)) (suc place) bytes
runs false place (byte ∷ bytes) =
    elim (comment_start byte) [
      | true ↦ runs true (suc place) bytes
      | false ↦ elim (separator byte) [
        | true ↦ runs false (suc place) bytes
        | false ↦ joined place byte (runs false (suc place) bytes)
      ]
    ]

-- ---- what a run says

-- A run is a corner, or closes a face, or is "text not of this form".
pub data Said : Type 0 where
  corner : ℕ → Said
  close : Said
  wrong : Said

-- "unsigned decimal integers": the value of digits, the first counting most, after digits worth `before`; "leading
-- zeros in any number are allowed".
unfoldable pub decimal_value : ℕ → List ℕ → Option ℕ
decimal_value before [] = some before
decimal_value before (byte ∷ bytes) =
    elim (leb 48 byte && leb byte 57) [ true ↦ decimal_value (10 * before + (byte - 48)) bytes | false ↦ none ]

-- A number as a corner: "a corner above 65,535" is at fault.
unfoldable pub corner_said : Option ℕ → Said
corner_said none = wrong
corner_said (some n) = elim (leb n most_corner) [ true ↦ corner n | false ↦ wrong ]

-- "-1 closing a face".
abbrev pub minus_one : List ℕ
minus_one = 45 ∷ 49 ∷ []

-- Whether the bytes are those two.
unfoldable pub is_minus_one : List ℕ → Bool
is_minus_one [] = false
is_minus_one (first ∷ []) = false
is_minus_one (first ∷ second ∷ []) = eqb first 45 && eqb second 49
is_minus_one (first ∷ second ∷ third ∷ others) = false

-- "A run is right if it is -1, or digits 0 to 9 only with a value of at most 65,535".
unfoldable pub says : List ℕ → Said
says bytes = elim (is_minus_one bytes) [ true ↦ close | false ↦ corner_said (decimal_value 0 bytes) ]

-- ---- faces

-- How many corners the present face has after a run, when it had so many before: "a fourth corner" is at fault, and so
-- is "an early -1".
unfoldable pub face_after : ℕ → Said → Option ℕ
face_after face (corner n) = elim (ltb face 3) [ true ↦ some (suc face) | false ↦ none ]
face_after face close = elim (eqb face 3) [ true ↦ some 0 | false ↦ none ]
face_after face wrong = none

-- The corner that a run adds to the list, if it is one.
unfoldable pub corners_said : Said → List ℕ
corners_said (corner n) = n ∷ []
corners_said close = []
corners_said wrong = []

-- What a text says: a list of corners, three for each face, or the place of its fault.
pub data Faces : Type 0 where
  faces : List ℕ → Faces
  wrong_at : ℕ → Faces

-- "place the first byte of the first run at fault .., or the text's length if corners are missing", "the last -1
-- optional": what a text of so many bytes says by the runs that are left, after the corners so far, of which the last
-- `face` are those of the present face.
unfoldable pub faces_from : ℕ → List ℕ → ℕ → List Run → Faces
faces_from long so_far face [] = elim (eqb face 0 || eqb face 3) [ true ↦ faces so_far | false ↦ wrong_at long ]
faces_from long so_far face (run ∷ runs) =
    elim (face_after face (says run.bytes)) [
      | none ↦ wrong_at run.place
      | some next ↦ faces_from long (so_far ++ corners_said (says run.bytes)) next runs
    ]

-- What the whole text says.
unfoldable pub text_says : List ℕ → Faces
text_says text = faces_from (length text) [] 0 (runs false 0 text)

-- F, the number of faces. A text at fault has none: 14 is given before F is asked for.
unfoldable pub face_count : Faces → ℕ
face_count (faces T) = triangles T
face_count (wrong_at place) = 0

-- ---- the call read index

-- 14: "text not of this form, a corner above 65,535 or a face not of three corners".
abbrev pub text_wrong : List ℕ → Rule
text_wrong text = record { number = 14; given = λ place. text_says text ≡ wrong_at place }

-- "before 4", and "The reader gives 4 and 5", "5 (3F entries)": the rows, with `out` entries lent.
abbrev pub read_index_rules : ℕ → List ℕ → ℕ → List Rule
read_index_rules N text out =
    text_wrong text
    ∷ too_large most_triangles N (face_count (text_says text))
    ∷ too_short (read_rooms (face_count (text_says text)) out)
    ∷ []

-- The call read index: "The vertex count comes from the caller".
pub data ReadsIndex (N : ℕ) (text out : List ℕ) (answer : FramesAnswer) (out' : List ℕ) : Type 0 where
  refuses : (number place : ℕ) → Refused (read_index_rules N text (length out)) number place
      → answer ≡ frames_refusal number place → out' ≡ out → ReadsIndex N text out answer out'
  accepts : (T : List ℕ) → Passed (read_index_rules N text (length out)) → text_says text ≡ faces T
      → answer ≡ frames_accepted N (triangles T) → out' ≡ written T out → ReadsIndex N text out answer out'

-- ---- writing

-- How many digits a number up to 65,535 takes, without leading zeros.
unfoldable pub digits_needed : ℕ → ℕ
digits_needed n =
    elim (ltb n 10) [
      | true ↦ 1
      | false ↦ elim (ltb n 100) [
        | true ↦ 2
        | false ↦ elim (ltb n 1000) [ true ↦ 3 | false ↦ elim (ltb n 10000) [ true ↦ 4 | false ↦ 5 ] ]
      ]
    ]

-- The last digits of a number, so many, the first counting most.
unfoldable pub last_digits : ℕ → ℕ → List ℕ
last_digits zero n = []
last_digits (suc count) n = last_digits count (n / 10) ++ ((48 + n % 10) ∷ [])

-- A number as it is written.
unfoldable pub decimal : ℕ → List ℕ
decimal n = last_digits (digits_needed n) n

-- A corner as it is written, and the blank after it.
unfoldable pub corner_text : ℕ → List ℕ
corner_text n = decimal n ++ (32 ∷ [])

-- "one blank between numbers", "nothing before": a blank before every face but the first.
unfoldable pub gap : ℕ → List ℕ
gap zero = []
gap (suc k) = 32 ∷ []

-- The text of face k: its corners, "and closes each face".
unfoldable pub face_text : List ℕ → ℕ → List ℕ
face_text T k =
    gap k ++ corner_text (at T (3 * k)) ++ corner_text (at T (3 * k + 1)) ++ corner_text (at T (3 * k + 2)) ++ minus_one

-- The text of the first n faces.
unfoldable pub faces_text : List ℕ → ℕ → List ℕ
faces_text T zero = []
faces_text T (suc n) = faces_text T n ++ face_text T n

-- The text of a mesh: "0 1 2 -1 0 2 3 -1", "F = 0 writes nothing".
unfoldable pub index_text : List ℕ → List ℕ
index_text T = faces_text T (triangles T)

-- ---- the call write index

-- "refusal, place, vertices, triangles and bytes, how many were written".
pub record TextAnswer : Type 0 where
  pub common : FramesAnswer
  pub bytes : ℕ

-- "(0 in a refusal)".
abbrev pub text_refusal : ℕ → ℕ → TextAnswer
text_refusal number place = record { common = frames_refusal number place; bytes = 0 }

-- An acceptance: the V and F written, in so many bytes.
abbrev pub text_accepted : ℕ → ℕ → ℕ → TextAnswer
text_accepted N F bytes = record { common = frames_accepted N F; bytes = bytes }

-- "the writer 2, 4, and 5 for the bytes it writes": the rows, with `out` bytes lent.
abbrev pub write_index_rules : ℕ → List ℕ → ℕ → List Rule
write_index_rules N T out =
    not_threes (length T)
    ∷ too_large most_triangles N (triangles T)
    ∷ too_short (record { lent = out; needed = length (index_text T) } ∷ [])
    ∷ []

-- The call write index.
pub data WritesIndex (N : ℕ) (T out : List ℕ) (answer : TextAnswer) (out' : List ℕ) : Type 0 where
  refuses : (number place : ℕ) → Refused (write_index_rules N T (length out)) number place
      → answer ≡ text_refusal number place → out' ≡ out → WritesIndex N T out answer out'
  accepts : Passed (write_index_rules N T (length out)) → answer ≡ text_accepted N (triangles T) (length (index_text T))
      → out' ≡ written (index_text T) out → WritesIndex N T out answer out'
