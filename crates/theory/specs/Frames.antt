-- Document 01, "Frames": meshes as lines of hexadecimal digits, written and read. All of it computes on lists of
-- bytes.
use Rattle.std.specs.Prelude.{ℕ, zero, suc, ◌+◌, ◌-◌, ◌*◌, ◌/◌, ◌%◌, ◌≡◌, true, false, ◌&&◌, List, [], ◌∷◌, ◌++◌, leb, ltb, eqb, length}
use Rattle.std.proofs.Math.Option.{Option, none, some}
use Rattle.theory.specs.Limits.{most_triangles}
use Rattle.theory.specs.Mesh.{at, triangles}
use Rattle.theory.specs.Refusals.{Rule, Room, NoPlace, not_threes, too_large, too_short, Passed, Refused}
use Rattle.theory.specs.Calls.{written}

-- ---- answers

-- "An answer holds the refusal number (0 when accepted), the place, the resulting V and F (for frames, those read or
-- written)".
pub record FramesAnswer : Type 0 where
  pub refusal : ℕ
  pub place : ℕ
  pub vertices : ℕ
  pub triangles : ℕ

-- "Other numbers in a refusal are 0."
abbrev pub frames_refusal : ℕ → ℕ → FramesAnswer
frames_refusal number place = record { refusal = number; place = place; vertices = 0; triangles = 0 }

-- An acceptance: 0, place 0, and the V and F read or written.
abbrev pub frames_accepted : ℕ → ℕ → FramesAnswer
frames_accepted N F = record { refusal = 0; place = 0; vertices = N; triangles = F }

-- ---- writing

-- "Upper-case hexadecimal", and #105: "We go on writing upper case and LF": the byte of the digit n.
unfoldable pub digit : ℕ → ℕ
digit n = elim (ltb n 10) [ true ↦ 48 + n | false ↦ 55 + n ]

-- "two digits": the digits of a number below 256, the first counting most.
unfoldable pub two_digits : ℕ → List ℕ
two_digits n = digit (n / 16 % 16) ∷ digit (n % 16) ∷ []

-- "four digits": the same of a number below 65,536.
unfoldable pub four_digits : ℕ → List ℕ
four_digits n = digit (n / 4096 % 16) ∷ digit (n / 256 % 16) ∷ digit (n / 16 % 16) ∷ digit (n % 16) ∷ []

-- "no blanks, each line ended by one LF": the line's kind in two digits, what it says, LF.
unfoldable pub line : ℕ → List ℕ → List ℕ
line kind says = two_digits kind ++ says ++ (10 ∷ [])

-- "First line: 4D, V in four digits, F in four digits."
unfoldable pub mesh_line : ℕ → ℕ → List ℕ
mesh_line N F = line 0x4D (four_digits N ++ four_digits F)

-- "46 and three corners of four digits each": the line of triangle k.
unfoldable pub triangle_line : List ℕ → ℕ → List ℕ
triangle_line T k =
    line 0x46 (four_digits (at T (3 * k)) ++ four_digits (at T (3 * k + 1)) ++ four_digits (at T (3 * k + 2)))

-- The lines of the first n triangles.
unfoldable pub triangle_lines : List ℕ → ℕ → List ℕ
triangle_lines T zero = []
triangle_lines T (suc n) = triangle_lines T n ++ triangle_line T n

-- The frames of a mesh: "Then exactly F lines".
unfoldable pub frames : ℕ → List ℕ → List ℕ
frames N T = mesh_line N (triangles T) ++ triangle_lines T (triangles T)

-- ---- reading

-- #105: "Digits may be of either case": the number that a byte stands for, if it is one of 0 to 9, A to F, a to f.
unfoldable pub digit_value : ℕ → Option ℕ
digit_value byte =
    elim (leb 48 byte && leb byte 57) [
      | true ↦ some (byte - 48)
      | false ↦ elim (leb 65 byte && leb byte 70) [
        | true ↦ some (byte - 55)
        | false ↦ elim (leb 97 byte && leb byte 102) [ true ↦ some (byte - 87) | false ↦ none ]
      ]
    ]

-- What was read, and the bytes after it.
pub record Taken (A : Type 0) : Type 0 where
  pub value : A
  pub rest : List ℕ

-- A number of n digits, the first counting most, after digits worth `before`.
unfoldable pub take_digits : ℕ → ℕ → List ℕ → Option (Taken ℕ)
take_digits zero before bytes = some (record { value = before; rest = bytes })
take_digits (suc n) before [] = none
take_digits (suc n) before (byte ∷ bytes) =
    elim (digit_value byte) [ none ↦ none | some d ↦ take_digits n (16 * before + d) bytes ]

-- n numbers of four digits each.
unfoldable pub take_numbers : ℕ → List ℕ → Option (Taken (List ℕ))
take_numbers zero bytes = some (record { value = []; rest = bytes })
take_numbers (suc n) bytes =
    elim (take_digits 4 0 bytes) [
      | none ↦ none
      | some first ↦ elim (take_numbers n first.rest) [
        | none ↦ none
        | some others ↦ some (record { value = first.value ∷ others.value; rest = others.rest })
      ]
    ]

-- LF, the byte 10.
unfoldable pub take_lf : List ℕ → Option (List ℕ)
take_lf [] = none
take_lf (byte ∷ bytes) = elim (eqb byte 10) [ true ↦ some bytes | false ↦ none ]

-- #105: "each line may end in LF or CR LF"; CR is the byte 13.
unfoldable pub take_end : List ℕ → Option (List ℕ)
take_end [] = none
take_end (byte ∷ bytes) = elim (eqb byte 13) [ true ↦ take_lf bytes | false ↦ take_lf (byte ∷ bytes) ]

-- One line of a kind with n numbers.
unfoldable pub take_line : ℕ → ℕ → List ℕ → Option (Taken (List ℕ))
take_line kind n bytes =
    elim (take_digits 2 0 bytes) [
      | none ↦ none
      | some found ↦ elim (eqb found.value kind) [
        | false ↦ none
        | true ↦ elim (take_numbers n found.rest) [
          | none ↦ none
          | some numbers ↦ elim (take_end numbers.rest) [
            | none ↦ none
            | some rest ↦ some (record { value = numbers.value; rest = rest })
          ]
        ]
      ]
    ]

-- The corners of the triangle lines, or the first line that is not as required.
pub data Corners : Type 0 where
  corners : List ℕ → Corners
  wrong_line : ℕ → Corners

-- "Then exactly F lines": n more triangle lines from the given line on and nothing after them, after the corners so
-- far.
-- "If lines run out, the place is the first missing one; bytes after the last frame are refused at line F + 1."
unfoldable pub take_triangles : ℕ → ℕ → List ℕ → List ℕ → Corners
take_triangles zero at-line so_far [] = corners so_far
take_triangles zero at-line so_far (byte ∷ bytes) = wrong_line at-line
take_triangles (suc n) at-line so_far bytes =
    elim (take_line 0x46 3 bytes) [
      | none ↦ wrong_line at-line
      | some taken ↦ take_triangles n (suc at-line) (so_far ++ taken.value) taken.rest
    ]

-- What the first line says, and the bytes after it. Where it is not as required all of it is 0, and of the rows below
-- only 12 is given.
pub record FirstLine : Type 0 where
  pub vertices : ℕ
  pub triangles : ℕ
  pub rest : List ℕ

-- "First line: 4D, V in four digits, F in four digits."
unfoldable pub first_line : List ℕ → FirstLine
first_line bytes =
    elim (take_line 0x4D 2 bytes) [
      | none ↦ record { vertices = 0; triangles = 0; rest = [] }
      | some taken ↦ record { vertices = at taken.value 0; triangles = at taken.value 1; rest = taken.rest }
    ]

-- The lines after the first: "exactly F lines", from line 1 on.
abbrev pub later_lines : List ℕ → Corners
later_lines bytes = take_triangles (first_line bytes).triangles 1 [] (first_line bytes).rest

-- The lines say the mesh (N, T), where none of the rows below is given: "A frame is either read whole or refused".
pub record LinesSay (bytes : List ℕ) (N : ℕ) (T : List ℕ) : Type 0 where
  pub first : (first_line bytes).vertices ≡ N
  pub later : later_lines bytes ≡ corners T

-- ---- the call read frames

-- 12: "a frame not as required", the first line, which is line 0.
abbrev pub first_line_wrong : List ℕ → Rule
first_line_wrong bytes = record { number = 12; given = NoPlace (take_line 0x4D 2 bytes ≡ none) }

-- 12: "a frame not as required", one of the later lines, at the "least such line".
abbrev pub later_line_wrong : List ℕ → Rule
later_line_wrong bytes = record { number = 12; given = λ place. later_lines bytes ≡ wrong_line place }

-- "reading 3F", into so many entries.
abbrev pub read_rooms : ℕ → ℕ → List Room
read_rooms F out = record { lent = out; needed = 3 * F } ∷ []

-- "Reading gives 12 for the first line, then 4, 5, then 12 for later lines".
abbrev pub read_rules : ℕ → List ℕ → List Rule
read_rules out bytes =
    first_line_wrong bytes
    ∷ too_large most_triangles (first_line bytes).vertices (first_line bytes).triangles
    ∷ too_short (read_rooms (first_line bytes).triangles out)
    ∷ later_line_wrong bytes
    ∷ []

-- The call read frames.
pub data ReadsFrames (bytes out : List ℕ) (answer : FramesAnswer) (out' : List ℕ) : Type 0 where
  refuses : (number place : ℕ) → Refused (read_rules (length out) bytes) number place
      → answer ≡ frames_refusal number place → out' ≡ out → ReadsFrames bytes out answer out'
  accepts : (N : ℕ) (T : List ℕ) → Passed (read_rules (length out) bytes) → LinesSay bytes N T
      → answer ≡ frames_accepted N (triangles T) → out' ≡ written T out → ReadsFrames bytes out answer out'

-- ---- the call write frames

-- "writing 11 + 15F bytes", into so many.
abbrev pub write_rooms : ℕ → ℕ → List Room
write_rooms F out = record { lent = out; needed = 11 + 15 * F } ∷ []

-- "Writing frames gives 2, 4, 5 and allows F = 0"; all are judged from numbers alone.
abbrev pub write_rules : ℕ → ℕ → ℕ → List Rule
write_rules N entries out =
    not_threes entries ∷ too_large most_triangles N (entries / 3) ∷ too_short (write_rooms (entries / 3) out) ∷ []

-- The call write frames.
pub data WritesFrames (N : ℕ) (T out : List ℕ) (answer : FramesAnswer) (out' : List ℕ) : Type 0 where
  refuses : (number place : ℕ) → Refused (write_rules N (length T) (length out)) number place
      → answer ≡ frames_refusal number place → out' ≡ out → WritesFrames N T out answer out'
  accepts : Passed (write_rules N (length T) (length out))
      → answer ≡ frames_accepted N (triangles T) → out' ≡ written (frames N T) out → WritesFrames N T out answer out'
