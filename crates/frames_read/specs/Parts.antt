-- What the answers to reading the parts of a line say: what was read and the bytes after it, or that the part is not
-- there.
use Rattle.std.specs.Prelude.{ℕ, ◌+◌, ◌*◌, ◌<◌, ◌≤◌, ◌≡◌, true, false, List, length, eqb, Option, Some, None}
use Rattle.std.specs.Borrow.{Bor}
use Rattle.std.proofs.Math.Option.{Option as Maybe, none, some}
use Rattle.theory.specs.Mesh.{at}
use Rattle.theory.specs.Frames.{digit_value, Taken, take_digits, take_line}

-- The entry of a byte in the table of digits: its value, or 78 where it is no digit.
unfoldable pub entry_of : ℕ → ℕ
entry_of byte = elim (digit_value byte) [ none ↦ 78 | some value ↦ value ]

-- The table has the entry of each byte.
abbrev pub DigitTable : List ℕ → Type 0
DigitTable table = (byte : ℕ) → byte < 256 → at table byte ≡ entry_of byte

-- What a byte is given as: its value as a digit, or 78 where it is none.
pub data DigitGiven (byte given : ℕ) : Type 0 where
  digit : digit_value byte ≡ some given → DigitGiven byte given
  no_digit : digit_value byte ≡ none → given ≡ 78 → DigitGiven byte given

-- A number, and the bytes after it.
abbrev pub number_of : Option (ℕ × Bor (List ℕ)) → Maybe (Taken ℕ)
number_of (Some (number, rest)) = some (record { value = number; rest = rest.now })
number_of None = none

-- The bytes after the one right thing.
abbrev pub rest_of : Option (Bor (List ℕ)) → Maybe (List ℕ)
rest_of (Some rest) = some rest.now
rest_of None = none

-- The kind of a line, with which theory's `take_line` begins.
unfoldable pub take_kind : ℕ → List ℕ → Maybe (List ℕ)
take_kind kind bytes =
    elim (take_digits 2 0 bytes) [
      | none ↦ none
      | some found ↦ elim (eqb found.value kind) [ true ↦ some found.rest | false ↦ none ]
    ]

-- A line of a kind with n numbers is started: these bytes are left after its kind, and there are as many as it has.
pub record Started (kind n : ℕ) (bytes rest : List ℕ) : Type 0 where
  pub here : take_kind kind bytes ≡ some rest
  pub long : 3 + 4 * n ≤ length bytes

-- The answer to starting a line: it is started, or there is none.
abbrev pub LineStarted : ℕ → ℕ → List ℕ → Option (Bor (List ℕ)) → Type 0
LineStarted kind n bytes (Some rest) = Started kind n bytes rest.now
LineStarted kind n bytes None = take_line kind n bytes ≡ none
