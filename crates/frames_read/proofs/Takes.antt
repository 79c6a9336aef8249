-- Laws of reading from the front of a list of bytes, part by part: digits, numbers, kinds, ends and lines, as theory's
-- readers take them.
use Prim.Native.Nat.{ℕ, zero, suc, ◌+◌, ◌-◌, ◌*◌, ◌/◌, ◌%◌, ◌≤◌, ◌<◌}
use native.Mathlib.Omega.{arith}
use mathlib.Core.Path.{◌≡◌, refl, sym, ap, ◌∙◌}
use mathlib.Core.Option.{Option, none, some}
use mathlib.Core.List.{List, [], ◌∷◌, ◌++◌, append-nil, append_assoc}
use mathlib.Core.Bool.{Bool, true, false}
use borrow.Author.Tests.{eq-eqb, ne_eqb}
use lib.Dec.{eqb}
use lib.ListN.{length, take, drop}
use Rattle.std.specs.Prelude.{Option as Maybe, Some, None}
use Rattle.std.specs.Borrow.{Bor}
use Rattle.std.proofs.lemmas.List.{take_all, length-drop}
use Rattle.theory.specs.Mesh.{at}
use Rattle.theory.specs.Frames.{digit_value, Taken, take_digits, take_numbers, take_lf, take_end, take_line}
use Rattle.theory.proofs.Frames.{digit-below, take_digits-length}
use Rattle.frames_read.specs.Parts.{entry_of, DigitGiven, digit, no_digit, take_kind, rest_of, Started, LineStarted}

-- ---- the bytes from a place on

-- what `&bytes[n..]` is
abbrev pub from : ℕ → List ℕ → List ℕ
from n bytes = take (length bytes - n) (drop n bytes)

-- it is what is left of them
from-drop : (n : ℕ) (bytes : List ℕ) → drop n bytes ≡ from n bytes
from-drop n bytes = sym (take_all _ _ (omega (arith, length-drop n bytes)))

-- ---- what a byte is given as

-- it is its entry in the table of digits
pub entry-given : (byte entry : ℕ) → entry ≡ entry_of byte → DigitGiven byte entry
unfolding entry_of
entry-given byte entry e = go (digit_value byte) refl
  where
    go : (o : Option ℕ) → digit_value byte ≡ o → DigitGiven byte entry
    go none f = no_digit f cc
    go (some value) f =
        let is : entry ≡ value = cc in
        digit (f ∙ ap some (sym is))

module _ {byte given : ℕ} where
  -- a byte that is given as no more than four digits are together is a digit
  is_digit : DigitGiven byte given → given ≤ 60 → digit_value byte ≡ some given
  is_digit (digit e) l = e
  is_digit (no_digit e f) l = absurd (omega arith)

  -- and below 16
  pub given-digit : DigitGiven byte given → given ≤ 60 → given < 16
  given-digit G l = digit-below byte given (is_digit G l)

  -- none is given as more than 78
  pub given-most : DigitGiven byte given → given ≤ 78
  given-most (digit e) = omega (arith, digit-below byte given e)
  given-most (no_digit e f) = omega arith

-- ---- a number of four digits, which are tested together

-- a digit is taken, and then the others
digit-taken : (byte n before : ℕ) {value : ℕ} (rest : List ℕ) → digit_value byte ≡ some value
    → take_digits (suc n) before (byte ∷ rest) ≡ take_digits n (16 * before + value) rest
unfolding take_digits
digit-taken byte n before rest e = cc

module _ {a b c d : ℕ} where
  -- four digits are the number
  pub number-here : (bytes : List ℕ) → 4 ≤ length bytes → DigitGiven (at bytes 0) a → DigitGiven (at bytes 1) b
      → DigitGiven (at bytes 2) c → DigitGiven (at bytes 3) d → a + b + c + d ≤ 60
      → take_digits 4 0 bytes
      ≡ some (record { value = 16 * (16 * (16 * a + b) + c) + d; rest = from 4 bytes })
  unfolding take_digits
  number-here (p ∷ q ∷ r ∷ s ∷ rest) l A B C D m =
      digit-taken p 3 0 (q ∷ r ∷ s ∷ rest) (is_digit A (omega arith))
      ∙ digit-taken q 2 _ (r ∷ s ∷ rest) (is_digit B (omega arith))
      ∙ digit-taken r 1 _ (s ∷ rest) (is_digit C (omega arith))
      ∙ digit-taken s 0 _ rest (is_digit D (omega arith))
      ∙ (let v : 16 * 0 + a ≡ a = omega arith in cc (v, from-drop 4 (p ∷ q ∷ r ∷ s ∷ rest)))
  number-here _ l A B C D m = absurd (omega arith)

  -- where they are together more than digits are, one of them is none
  pub number-wrong : (bytes : List ℕ) → 4 ≤ length bytes → DigitGiven (at bytes 0) a → DigitGiven (at bytes 1) b
      → DigitGiven (at bytes 2) c → DigitGiven (at bytes 3) d → 60 < a + b + c + d → take_digits 4 0 bytes ≡ none
  unfolding take_digits
  number-wrong (p ∷ q ∷ r ∷ s ∷ rest) l (no_digit e _) B C D m = cc
  number-wrong (p ∷ q ∷ r ∷ s ∷ rest) l (digit e) (no_digit f _) C D m = cc
  number-wrong (p ∷ q ∷ r ∷ s ∷ rest) l (digit e) (digit f) (no_digit g _) D m = cc
  number-wrong (p ∷ q ∷ r ∷ s ∷ rest) l (digit e) (digit f) (digit g) (no_digit h _) m =
      digit-taken p 3 0 (q ∷ r ∷ s ∷ rest) e ∙ cc
  number-wrong (p ∷ q ∷ r ∷ s ∷ rest) l (digit e) (digit f) (digit g) (digit h) m =
      absurd (omega (arith, digit-below p a e, digit-below q b f, digit-below r c g, digit-below s d h))
  number-wrong _ l A B C D m = absurd (omega arith)

-- ---- a kind, in two digits

module _ (kind : ℕ) (small : kind < 256) {h : ℕ} where
  -- the first digit is that of another kind
  pub kind-other-first : (bytes : List ℕ) → 2 ≤ length bytes → DigitGiven (at bytes 0) h → (h ≡ kind / 16 → ⊥)
      → take_kind kind bytes ≡ none
  unfolding take_kind take_digits
  kind-other-first (p ∷ q ∷ rest) l (no_digit e _) other = cc
  kind-other-first (p ∷ q ∷ rest) l (digit e) other = go (digit_value q) refl
    where
      go : (o : Option ℕ) → digit_value q ≡ o → take_kind kind (p ∷ q ∷ rest) ≡ none
      go none f = cc
      go (some w) f =
          let wrong : 16 * (16 * 0 + h) + w ≡ kind → ⊥ = λ is. other (omega (arith, digit-below q w f)) in
          cc (ne_eqb _ kind wrong)
  kind-other-first _ l H other = absurd (omega arith)

  -- the second one is
  pub kind-other-second : (bytes : List ℕ) {l : ℕ} → 2 ≤ length bytes → DigitGiven (at bytes 0) h → h ≡ kind / 16
      → DigitGiven (at bytes 1) l → (l ≡ kind % 16 → ⊥) → take_kind kind bytes ≡ none
  unfolding take_kind take_digits
  kind-other-second (p ∷ q ∷ rest) long H first (no_digit f _) other = cc (is_digit H (omega arith))
  kind-other-second (p ∷ q ∷ rest) {l} long H first (digit f) other =
      let wrong : 16 * (16 * 0 + h) + l ≡ kind → ⊥ = λ is. other (omega (arith, digit-below q l f)) in
      cc (is_digit H (omega arith), ne_eqb _ kind wrong)
  kind-other-second _ long H first L other = absurd (omega arith)

  -- both are those of the kind
  pub kind-here : (bytes : List ℕ) {l : ℕ} → 2 ≤ length bytes → DigitGiven (at bytes 0) h → h ≡ kind / 16
      → DigitGiven (at bytes 1) l → l ≡ kind % 16 → take_kind kind bytes ≡ some (from 2 bytes)
  unfolding take_kind take_digits
  kind-here (p ∷ q ∷ rest) {l} long H first L second =
      let right : 16 * (16 * 0 + h) + l ≡ kind = omega arith in
      cc (is_digit H (omega arith), is_digit L (omega arith), eq-eqb _ kind right, from-drop 2 (p ∷ q ∷ rest))
  kind-here _ long H first L second = absurd (omega arith)

-- a kind that is taken is two bytes
take_kind-length : (kind : ℕ) (bytes rest : List ℕ) → take_kind kind bytes ≡ some rest → length bytes ≡ 2 + length rest
unfolding take_kind
take_kind-length kind bytes rest e = go (take_digits 2 0 bytes) refl
  where
    found : (t : Taken ℕ) → take_digits 2 0 bytes ≡ some t → (b : Bool) → eqb t.value kind ≡ b
        → length bytes ≡ 2 + length rest
    found t f true g =
        let r : t.rest ≡ rest = cc in
        omega (arith, take_digits-length 2 0 bytes t f, ap length r)
    found t f false g = cc

    go : (o : Option (Taken ℕ)) → take_digits 2 0 bytes ≡ o → length bytes ≡ 2 + length rest
    go none f = cc
    go (some t) f = found t f (eqb t.value kind) refl

-- ---- the ends of lines

-- there is no end of a line where there are no bytes
take_end-missing : (bytes : List ℕ) → length bytes < 1 → take_end bytes ≡ none
unfolding take_end
take_end-missing [] l = refl
take_end-missing (byte ∷ bytes) l = absurd (omega arith)

-- there is no LF where another byte stands, or none
pub take_lf-wrong : (bytes : List ℕ) → (0 < length bytes → at bytes 0 ≡ 10 → ⊥) → take_lf bytes ≡ none
unfolding take_lf
take_lf-wrong [] other = refl
take_lf-wrong (byte ∷ rest) other = cc (ne_eqb byte 10 (other (omega arith)))

-- the byte 10 is LF
pub take_lf-here : (bytes : List ℕ) → 0 < length bytes → at bytes 0 ≡ 10 → take_lf bytes ≡ some (from 1 bytes)
unfolding take_lf
take_lf-here [] l e = absurd (omega arith)
take_lf-here (byte ∷ rest) l e = cc (from-drop 1 (byte ∷ rest))

-- the end of a line is LF, where no CR stands
pub take_end-no-CR : (bytes : List ℕ) → 0 < length bytes → (at bytes 0 ≡ 13 → ⊥) → take_end bytes ≡ take_lf bytes
unfolding take_end
take_end-no-CR [] l other = absurd (omega arith)
take_end-no-CR (byte ∷ rest) l other = cc (ne_eqb byte 13 other)

-- where one stands, it is the LF after it
pub take_end-CR : (bytes : List ℕ) → 0 < length bytes → at bytes 0 ≡ 13 → take_end bytes ≡ take_lf (from 1 bytes)
unfolding take_end
take_end-CR [] l e = absurd (omega arith)
take_end-CR (byte ∷ rest) l e = cc (from-drop 1 (byte ∷ rest))

-- ---- lines

-- n numbers more and the end of the line, after the numbers so far
unfoldable pub go_on : ℕ → List ℕ → List ℕ → Option (Taken (List ℕ))
go_on n so_far bytes =
    elim (take_numbers n bytes) [
      | none ↦ none
      | some numbers ↦ elim (take_end numbers.rest) [
        | none ↦ none
        | some rest ↦ some (record { value = so_far ++ numbers.value; rest = rest })
      ]
    ]

-- a line is its kind and what goes on after it
take_line-kind : (kind n : ℕ) (bytes : List ℕ)
    → take_line kind n bytes ≡ elim (take_kind kind bytes) [ none ↦ none | some rest ↦ go_on n [] rest ]
unfolding take_line take_kind go_on
take_line-kind kind n bytes = go (take_digits 2 0 bytes) refl
  where
    found : (t : Taken ℕ) → take_digits 2 0 bytes ≡ some t → (b : Bool) → eqb t.value kind ≡ b
        → take_line kind n bytes ≡ elim (take_kind kind bytes) [ none ↦ none | some rest ↦ go_on n [] rest ]
    found t f true g = cc
    found t f false g = cc

    go : (o : Option (Taken ℕ)) → take_digits 2 0 bytes ≡ o
        → take_line kind n bytes ≡ elim (take_kind kind bytes) [ none ↦ none | some rest ↦ go_on n [] rest ]
    go none f = cc
    go (some t) f = found t f (eqb t.value kind) refl

-- without its kind there is no line
pub no_kind : (kind n : ℕ) (bytes : List ℕ) → take_kind kind bytes ≡ none → take_line kind n bytes ≡ none
no_kind kind n bytes e = take_line-kind kind n bytes ∙ rw e

-- a line of which so much has been read, the kind of two bytes and numbers of four
pub record Begun (kind n : ℕ) (bytes : List ℕ) (m : ℕ) (so_far rest : List ℕ) : Type 0 where
  pub goes : take_line kind n bytes ≡ go_on m so_far rest
  pub used : length bytes + 4 * m ≡ 2 + 4 * n + length rest

-- after its kind stand its numbers
begins : (kind n : ℕ) (bytes rest : List ℕ) → take_kind kind bytes ≡ some rest → Begun kind n bytes n [] rest
begins kind n bytes rest e = record {
  goes = take_line-kind kind n bytes ∙ rw e;
  used = omega (arith, take_kind-length kind bytes rest e);
}

module _ {kind n : ℕ} {bytes so_far rest : List ℕ} where
  -- a number is missing
  pub no_number : {m : ℕ} → Begun kind n bytes (suc m) so_far rest → take_digits 4 0 rest ≡ none
      → take_line kind n bytes ≡ none
  unfolding go_on take_numbers
  no_number I e = cc I.goes

  -- one number more is read
  pub number_read : {m v : ℕ} {others : List ℕ} → Begun kind n bytes (suc m) so_far rest
      → take_digits 4 0 rest ≡ some (record { value = v; rest = others })
      → Begun kind n bytes m (so_far ++ v ∷ []) others
  unfolding go_on take_numbers
  number_read {m} {v} {others} I e = record {
    goes = I.goes ∙ go (take_numbers m others) refl;
    used = omega (arith, I.used, take_digits-length 4 0 rest (record { value = v; rest = others }) e);
  }
    where
      ended : (t : Taken (List ℕ)) → take_numbers m others ≡ some t → (o : Option (List ℕ)) → take_end t.rest ≡ o
          → go_on (suc m) so_far rest ≡ go_on m (so_far ++ v ∷ []) others
      ended t f none g = cc
      ended t f (some r) g = cc (append_assoc so_far (v ∷ []) t.value)

      go : (o : Option (Taken (List ℕ))) → take_numbers m others ≡ o
          → go_on (suc m) so_far rest ≡ go_on m (so_far ++ v ∷ []) others
      go none f = cc
      go (some t) f = ended t f (take_end t.rest) refl

  -- the end is missing
  pub no_end : Begun kind n bytes 0 so_far rest → take_end rest ≡ none → take_line kind n bytes ≡ none
  unfolding go_on take_numbers
  no_end I e = cc I.goes

  -- the line is read
  pub line_read : {others : List ℕ} → Begun kind n bytes 0 so_far rest → take_end rest ≡ some others
      → take_line kind n bytes ≡ some (record { value = so_far; rest = others })
  unfolding go_on take_numbers
  line_read I e = cc (I.goes, append-nil so_far)

-- a line of which so much has been read is none where fewer bytes are left than the others take
cut_short : {kind n : ℕ} {bytes : List ℕ} (m : ℕ) (so_far rest : List ℕ) → Begun kind n bytes m so_far rest
    → length rest < 4 * m + 1 → take_line kind n bytes ≡ none
cut_short zero so_far rest I l = no_end I (take_end-missing rest (omega arith))
cut_short {kind} {n} {bytes} (suc m) so_far rest I l =
    go (take_digits 4 0 rest) refl (λ v others. cut_short m (so_far ++ v ∷ []) others)
  where
    go : (o : Option (Taken ℕ)) → take_digits 4 0 rest ≡ o
        → ((v : ℕ) (others : List ℕ) → Begun kind n bytes m (so_far ++ v ∷ []) others
        → length others < 4 * m + 1 → take_line kind n bytes ≡ none)
        → take_line kind n bytes ≡ none
    go none e next = no_number I e
    go (some t) e next =
        next t.value t.rest (number_read I e)
        (omega (arith, take_digits-length 4 0 rest t e))

-- fewer bytes than a line has are no line
pub take_line-short : (kind n : ℕ) (bytes : List ℕ) → length bytes < 3 + 4 * n → take_line kind n bytes ≡ none
take_line-short kind n bytes l = go (take_kind kind bytes) refl
  where
    go : (o : Option (List ℕ)) → take_kind kind bytes ≡ o → take_line kind n bytes ≡ none
    go none e = no_kind kind n bytes e
    go (some rest) e =
        cut_short n [] rest (begins kind n bytes rest e) (omega (arith, take_kind-length kind bytes rest e))

-- ---- a line whose bytes are all there, read from its start on

-- its kind tells whether it is started, where they are
pub start-told : (kind n : ℕ) (bytes : List ℕ) (answer : Maybe (Bor (List ℕ))) → 3 + 4 * n ≤ length bytes
    → rest_of answer ≡ take_kind kind bytes → LineStarted kind n bytes answer
start-told kind n bytes (Some rest) long e = record { here = sym e; long = long }
start-told kind n bytes None long e = no_kind kind n bytes (sym e)

-- once it is, its numbers are to be read
pub started : {kind n : ℕ} {bytes rest : List ℕ} → Started kind n bytes rest → Begun kind n bytes n [] rest
started S = begins _ _ _ _ S.here

module _ {kind n : ℕ} {bytes so_far rest : List ℕ} where
  -- the bytes of its next number are left
  pub number-there : {m : ℕ} → Begun kind n bytes (suc m) so_far rest → 3 + 4 * n ≤ length bytes → 4 ≤ length rest
  number-there I long = omega (arith, I.used)

  -- after all of its numbers that of the end is
  pub end-there : Begun kind n bytes 0 so_far rest → 3 + 4 * n ≤ length bytes → 0 < length rest
  end-there I long = omega (arith, I.used)
