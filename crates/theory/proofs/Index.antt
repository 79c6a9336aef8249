-- The laws of index texts: a word between blanks is one run, and a number that is written says that corner; so written
-- text reads back to its list. A face is at most 21 bytes. What a text says is three corners of 16 bits for each face.
use Prim.Native.Nat.{ℕ, zero, suc, ◌+◌, ◌-◌, ◌*◌, ◌/◌, ◌%◌, ◌≤◌, ◌<◌}
use native.Mathlib.Omega.{arith}
use mathlib.Core.Path.{◌≡◌, refl, sym, ap, ◌∙◌}
use mathlib.Core.Bool.{Bool, true, false, not, ◌||◌}
use mathlib.Core.Option.{Option, none, some}
use mathlib.Core.List.{List, [], ◌∷◌, ◌++◌, append-nil, append_assoc}
use borrow.Author.Tests.{ltb-true, leb-true, eqb-true, lt-ltb, le-leb, eq-eqb, ne_eqb}
use lib.Dec.{leb, ltb, eqb}
use lib.ListN.{length, take, length-append}
use lib.Seq.{take-suc, take_all}
use Rattle.theory.specs.Limits.{most_corner}
use Rattle.theory.specs.Mesh.{at, triangles}
use Rattle.theory.specs.Index.{separator, comment_start, line_end, Run, joined, runs, minus_one}
use Rattle.theory.specs.Index.{Said, corner, close, wrong, decimal_value, corner_said, is_minus_one, says}
use Rattle.theory.specs.Index.{face_after, corners_said, faces, faces_from, text_says}
use Rattle.theory.specs.Index.{digits_needed, last_digits, decimal, corner_text, gap, face_text, faces_text, index_text}
use Rattle.theory.proofs.Reader.{by-test}
use Rattle.theory.proofs.Frames.{some-from, true-from, Small, small-none, small_one, small-append}
use Rattle.theory.proofs.FrameDemands.{FourDigitCorners}

-- ---- bytes

-- What holds of each byte.
abbrev pub Each : (ℕ → Type 0) → List ℕ → Type 0
Each Holds [] = Unit {0}
Each Holds (byte ∷ bytes) = Holds byte × Each Holds bytes

-- what holds of each byte of two lists holds of each of both
each_append : (Holds : ℕ → Type 0) (xs ys : List ℕ) → Each Holds xs → Each Holds ys → Each Holds (xs ++ ys)
each_append Holds [] ys p q = q
each_append Holds (x ∷ xs) ys p q = (p.0, each_append Holds xs ys p.1 q)

-- what follows from it holds too
each-implies : {Holds Also : ℕ → Type 0} (xs : List ℕ) → ((x : ℕ) → Holds x → Also x) → Each Holds xs → Each Also xs
each-implies [] next p = tt
each-implies (x ∷ xs) next p = (next x p.0, each-implies xs next p.1)

-- A byte of a run: neither a separator nor the start of a comment.
pub record Ordinary (byte : ℕ) : Type 0 where
  pub no_comment : comment_start byte ≡ false
  pub no_separator : separator byte ≡ false

-- A digit.
pub record Digit (byte : ℕ) : Type 0 where
  pub low : 48 ≤ byte
  pub high : byte ≤ 57

-- a digit is a byte of a run
pub digit-ordinary : (byte : ℕ) → Digit byte → Ordinary byte
unfolding comment_start separator
digit-ordinary byte d = record {
  no_comment = ne_eqb byte 35 (λ e. omega (arith, d.low));
  no_separator = cc (
    ne_eqb byte 32 (λ e. omega (arith, d.low)),
    ne_eqb byte 9 (λ e. omega (arith, d.low)),
    ne_eqb byte 13 (λ e. omega (arith, d.low)),
    ne_eqb byte 10 (λ e. omega (arith, d.low)),
    ne_eqb byte 44 (λ e. omega (arith, d.low)),
  );
}

-- so are the two of -1
minus_one-ordinary : Each Ordinary minus_one
unfolding comment_start separator
minus_one-ordinary = (
  record { no_comment = refl; no_separator = refl },
  (record { no_comment = refl; no_separator = refl }, tt),
)

-- ---- runs

-- a separator is passed over
pub runs-separator : (place byte : ℕ) (bytes : List ℕ) → comment_start byte ≡ false → separator byte ≡ true
    → runs false place (byte ∷ bytes) ≡ runs false (suc place) bytes
unfolding runs
runs-separator place byte bytes p q = cc

-- a byte of a run belongs to the first of the runs after it, or is one
pub runs-ordinary : (place byte : ℕ) (bytes : List ℕ) → Ordinary byte
    → runs false place (byte ∷ bytes) ≡ joined place byte (runs false (suc place) bytes)
unfolding runs
runs-ordinary place byte bytes o = cc (o.no_comment, o.no_separator)

-- The first of the runs, if there is one, starts at a place or later.
pub data From (place : ℕ) : List Run → Type 0 where
  no_run : From place []
  first_run : {run : Run} {after : List Run} → place ≤ run.place → From place (run ∷ after)

-- runs from the next place on are runs from this on
from_next : {place : ℕ} {after : List Run} → From (suc place) after → From place after
from_next no_run = no_run
from_next (first_run {run} {after} l) = first_run {run = run} {after = after} (omega arith)

-- with a byte of a run before them, they start at that
joined-from : (place byte : ℕ) (after : List Run) → From place (joined place byte after)
unfolding joined
joined-from place byte [] = let here : place ≤ place = omega arith in first_run here
joined-from place byte (run ∷ after) =
    let here : place ≤ place = omega arith in
    by-test (From place) (eqb run.place (suc place)) (λ e. first_run here) (λ e. first_run here)

-- the runs of the bytes from a place on start there or later
pub runs-from : (comment : Bool) (place : ℕ) (bytes : List ℕ) → From place (runs comment place bytes)
unfolding runs
runs-from comment place [] = no_run
runs-from true place (byte ∷ bytes) = from_next (runs-from (not (line_end byte)) (suc place) bytes)
runs-from false place (byte ∷ bytes) =
    by-test (From place) (comment_start byte) (λ e. from_next (runs-from true (suc place) bytes)) λ e.
    by-test (From place) (separator byte) (λ e. from_next (runs-from false (suc place) bytes)) λ e.
    joined-from place byte (runs false (suc place) bytes)

-- a byte does not belong to a run that starts after the next place
joined-apart : (place byte : ℕ) {after : List Run} → From (suc (suc place)) after
    → joined place byte after ≡ record { place = place; bytes = byte ∷ [] } ∷ after
unfolding joined
joined-apart place byte no_run = refl
joined-apart place byte (first_run {run} l) = cc (ne_eqb run.place (suc place) (λ e. omega arith))

-- it belongs to one that starts there
joined-next : (place byte : ℕ) (bytes : List ℕ) (after : List Run)
    → joined place byte (record { place = suc place; bytes = bytes } ∷ after)
    ≡ record { place = place; bytes = byte ∷ bytes } ∷ after
unfolding joined
joined-next place byte bytes after = cc (eq-eqb (suc place) (suc place) refl)

-- a blank is passed over
runs-blank : (place : ℕ) (rest : List ℕ) → runs false place (32 ∷ rest) ≡ runs false (suc place) rest
unfolding comment_start separator
runs-blank place rest = runs-separator place 32 rest refl refl

-- no run starts at the end
pub nothing-apart : (place : ℕ) → From (suc place) (runs false place [])
unfolding runs
nothing-apart place = no_run

-- nor at a blank
pub blank-apart : (place : ℕ) (rest : List ℕ) → From (suc place) (runs false place (32 ∷ rest))
blank-apart place rest = rw (runs-blank place rest) (runs-from false (suc place) rest)

-- bytes of a run, at least one, before bytes at which no run starts, are one run
pub runs-word : (place there : ℕ) (word rest : List ℕ) → there ≡ place + length word → 0 < length word
    → Each Ordinary word → From (suc there) (runs false there rest)
    → runs false place (word ++ rest) ≡ record { place = place; bytes = word } ∷ runs false there rest
runs-word place there [] rest e long each apart = absurd (omega arith)
runs-word place there (byte ∷ []) rest e long each apart =
    let next : there ≡ suc place = omega arith in
    rw next (runs-ordinary place byte rest each.0 ∙ joined-apart place byte (rw next at apart))
runs-word place there (byte ∷ second ∷ word) rest e long each apart =
    runs-ordinary place byte (second ∷ word ++ rest) each.0
    ∙ ap (joined place byte)
    (runs-word (suc place) there (second ∷ word) rest (omega arith) (omega arith) each.1 apart)
    ∙ joined-next place byte (second ∷ word) (runs false there rest)

-- so are such bytes before a blank
pub runs-word-blank : (place : ℕ) (word rest : List ℕ) → 0 < length word → Each Ordinary word
    → runs false place (word ++ 32 ∷ rest)
    ≡ record { place = place; bytes = word } ∷ runs false (suc (place + length word)) rest
runs-word-blank place word rest long each =
    runs-word place (place + length word) word (32 ∷ rest) refl long each (blank-apart _ rest)
    ∙ ap (λ (after : List Run). record { place = place; bytes = word } ∷ after) (runs-blank (place + length word) rest)

-- ---- numbers

-- ten times itself, so often
ten_to : ℕ → ℕ
ten_to zero = 1
ten_to (suc count) = 10 * ten_to count

-- a digit counts one, and those before it ten times as much
pub decimal_value-digit : (before byte : ℕ) (bytes : List ℕ) → Digit byte
    → decimal_value before (byte ∷ bytes) ≡ decimal_value (10 * before + (byte - 48)) bytes
unfolding decimal_value
decimal_value-digit before byte bytes d = cc (le-leb 48 byte d.low, le-leb byte 57 d.high)

-- the last digit of a number
last-digit : (n : ℕ) → Digit (48 + n % 10)
last-digit n = record { low = omega arith; high = omega arith }

-- the last digits of a number are digits
last_digits-digits : (count n : ℕ) → Each Digit (last_digits count n)
unfolding last_digits
last_digits-digits zero n = tt
last_digits-digits (suc count) n =
    each_append Digit (last_digits count (n / 10)) _ (last_digits-digits count (n / 10)) (last-digit n, tt)

-- and worth the number, if there are enough of them
last_digits-value : (count n : ℕ) (bytes : List ℕ) → n < ten_to count
    → decimal_value 0 (last_digits count n ++ bytes) ≡ decimal_value n bytes
unfolding last_digits ten_to
last_digits-value zero n bytes l = ap (λ (m : ℕ). decimal_value m bytes) (omega arith)
last_digits-value (suc count) n bytes l =
    let digit : ℕ = 48 + n % 10 in
    let worth : 10 * (n / 10) + (digit - 48) ≡ n = omega arith in
    ap (decimal_value 0) (append_assoc (last_digits count (n / 10)) (digit ∷ []) bytes)
    ∙ last_digits-value count (n / 10) (digit ∷ bytes) (omega arith)
    ∙ decimal_value-digit (n / 10) digit bytes (last-digit n)
    ∙ ap (λ (m : ℕ). decimal_value m bytes) worth

-- a number of 16 bits is given enough of them
digits_needed-enough : (n : ℕ) → n < 65536 → n < ten_to (digits_needed n)
unfolding digits_needed ten_to
digits_needed-enough n l =
    let enough : ℕ → Type 0 = λ d. n < ten_to d in
    by-test enough (ltb n 10) (λ e. omega (arith, ltb-true n 10 e)) λ e.
    by-test enough (ltb n 100) (λ e. omega (arith, ltb-true n 100 e)) λ e.
    by-test enough (ltb n 1000) (λ e. omega (arith, ltb-true n 1000 e)) λ e.
    by-test enough (ltb n 10000) (λ e. omega (arith, ltb-true n 10000 e)) λ e. omega arith

-- a number of 16 bits that is written reads back
pub decimal-value : (n : ℕ) → n < 65536 → decimal_value 0 (decimal n) ≡ some n
unfolding decimal decimal_value
decimal-value n l =
    ap (decimal_value 0) (sym (append-nil (decimal n)))
    ∙ last_digits-value (digits_needed n) n [] (digits_needed-enough n l)

-- digits are not -1
digits-not-close : (bytes : List ℕ) → Each Digit bytes → is_minus_one bytes ≡ false
unfolding is_minus_one
digits-not-close [] d = refl
digits-not-close (first ∷ []) d = refl
digits-not-close (first ∷ second ∷ []) d = cc (ne_eqb first 45 (λ e. omega (arith, d.0.low)))
digits-not-close (first ∷ second ∷ third ∷ others) d = refl

-- the digits of a number
decimal-digits : (n : ℕ) → Each Digit (decimal n)
unfolding decimal
decimal-digits n = last_digits-digits (digits_needed n) n

-- a corner that is written is that corner
pub says-decimal : (n : ℕ) → n < 65536 → says (decimal n) ≡ corner n
unfolding says corner_said
says-decimal n l =
    cc (digits-not-close (decimal n) (decimal-digits n), decimal-value n l, le-leb n most_corner (omega arith))

-- and -1 closes
says-minus_one : says minus_one ≡ close
unfolding says is_minus_one
says-minus_one = refl

-- ---- how long a text is

-- so many digits are so many bytes
pub last_digits-length : (count n : ℕ) → length (last_digits count n) ≡ count
unfolding last_digits
last_digits-length zero n = refl
last_digits-length (suc count) n = simp length-append (omega (arith, last_digits-length count (n / 10)))

-- a number takes one to five
pub digits_needed-few : (n : ℕ) → (1 ≤ digits_needed n) × (digits_needed n ≤ 5)
unfolding digits_needed
digits_needed-few n =
    let few : ℕ → Type 0 = λ d. (1 ≤ d) × (d ≤ 5) in
    by-test few (ltb n 10) (λ e. (omega arith, omega arith)) λ e.
    by-test few (ltb n 100) (λ e. (omega arith, omega arith)) λ e.
    by-test few (ltb n 1000) (λ e. (omega arith, omega arith)) λ e.
    by-test few (ltb n 10000) (λ e. (omega arith, omega arith)) λ e. (omega arith, omega arith)

-- a number has the digits it takes
pub decimal-length : (n : ℕ) → length (decimal n) ≡ digits_needed n
unfolding decimal
decimal-length n = last_digits-length (digits_needed n) n

-- at least one
decimal-some : (n : ℕ) → 0 < length (decimal n)
decimal-some n = omega (arith, decimal-length n, (digits_needed-few n).0)

-- a corner has a blank more
corner_text-length : (n : ℕ) → length (corner_text n) ≡ digits_needed n + 1
unfolding corner_text
corner_text-length n = omega (arith, length-append (decimal n) (32 ∷ []), decimal-length n)

-- a face has the digits of its corners, a blank after each, -1, and what stands before it
pub face_text-counted : (T : List ℕ) (k : ℕ)
    → length (face_text T k) ≡ length (gap k)
    + digits_needed (at T (3 * k)) + digits_needed (at T (3 * k + 1)) + digits_needed (at T (3 * k + 2)) + 5
unfolding face_text
face_text-counted T k = simp (length-append, corner_text-length) (omega arith)

-- a gap is at most one byte
gap_length : (k : ℕ) → length (gap k) ≤ 1
unfolding gap
gap_length zero = omega arith
gap_length (suc k) = omega arith

-- a face is at most 21
pub face_text-length : (T : List ℕ) (k : ℕ) → length (face_text T k) ≤ 21
face_text-length T k = omega (
  arith,
  face_text-counted T k,
  gap_length k,
  (digits_needed-few (at T (3 * k))).1,
  (digits_needed-few (at T (3 * k + 1))).1,
  (digits_needed-few (at T (3 * k + 2))).1,
)

-- n faces are at most 21 n
pub faces_text-length : (T : List ℕ) (n : ℕ) → length (faces_text T n) ≤ 21 * n
unfolding faces_text
faces_text-length T zero = omega arith
faces_text-length T (suc n) = simp length-append (omega (arith, faces_text-length T n, face_text-length T n))

-- "at most 21F bytes"
pub index_text-length : (T : List ℕ) → length (index_text T) ≤ 21 * triangles T
unfolding index_text
index_text-length T = faces_text-length T (triangles T)

-- ---- written text reads back

-- a run that is a corner, where a face lacks one, is added
pub faces_from-corner : (long : ℕ) (so_far : List ℕ) (face n : ℕ) (run : Run) (after : List Run)
    → says run.bytes ≡ corner n → face < 3
    → faces_from long so_far face (run ∷ after) ≡ faces_from long (so_far ++ (n ∷ [])) (suc face) after
unfolding faces_from face_after corners_said
faces_from-corner long so_far face n run after e l = cc (e, lt-ltb face 3 l)

-- one that closes, where the face is whole, adds nothing
pub faces_from-close : (long : ℕ) (so_far : List ℕ) (run : Run) (after : List Run) → says run.bytes ≡ close
    → faces_from long so_far 3 (run ∷ after) ≡ faces_from long so_far 0 after
unfolding faces_from face_after corners_said
faces_from-close long so_far run after e = cc (e, append-nil so_far)

-- the text of n faces from face k on
text_from : List ℕ → ℕ → ℕ → List ℕ
text_from T k zero = []
text_from T k (suc n) = face_text T k ++ text_from T (suc k) n

-- its last face
text_from-last : (T : List ℕ) (k n : ℕ) → text_from T k (suc n) ≡ text_from T k n ++ face_text T (k + n)
unfolding text_from
text_from-last T k zero = let e : k + 0 ≡ k = omega arith in cc (append-nil (face_text T k))
text_from-last T k (suc n) =
    let e : suc k + n ≡ k + suc n = omega arith in
    cc (text_from-last T (suc k) n, append_assoc (face_text T k) (text_from T (suc k) n) (face_text T (suc k + n)))

-- the text of n faces is their text from the first on
faces_text-from : (T : List ℕ) (n : ℕ) → faces_text T n ≡ text_from T 0 n
unfolding faces_text text_from
faces_text-from T zero = refl
faces_text-from T (suc n) =
    let e : 0 + n ≡ n = omega arith in
    cc (faces_text-from T n, text_from-last T 0 n)

-- after a face, no run starts at it
text_from-apart : (T : List ℕ) (k n place : ℕ) → From (suc place) (runs false place (text_from T (suc k) n))
unfolding text_from face_text gap
text_from-apart T k zero place = nothing-apart place
text_from-apart T k (suc n) place = blank-apart place _

module _ (long : ℕ) (T : List ℕ) (small : FourDigitCorners T) where
  -- A text, from any place on, says the rest of the list after the corners so far, of which the last `face` are those
  -- of the present face.
  abbrev SaysRest : List ℕ → ℕ → List ℕ → Type 0
  SaysRest so_far face text = (place : ℕ) → faces_from long so_far face (runs false place text) ≡ faces T

  -- so says a corner as it is written, before text that says the rest after it
  corner-says : (c next face : ℕ) (text : List ℕ) → c < length T → next ≡ suc c → face < 3
      → SaysRest (take next T) (suc face) text → SaysRest (take c T) face (corner_text (at T c) ++ text)
  unfolding corner_text
  corner-says c next face text l e few after place =
      let word : List ℕ = decimal (at T c) in
      ap (λ (t : List ℕ). faces_from long (take c T) face (runs false place t)) (append_assoc word (32 ∷ []) text)
      ∙ ap (faces_from long (take c T) face)
      (runs-word-blank place word text (decimal-some (at T c))
      (each-implies word digit-ordinary (decimal-digits (at T c))))
      ∙ faces_from-corner long (take c T) face (at T c) _ _ (says-decimal (at T c) (small c l)) few
      ∙ rw (sym (take-suc T c 0 l), sym e) (after (suc (place + length word)))

  -- so says -1 after three corners, before text at which no run starts
  close-says : (so_far text : List ℕ) → ((place : ℕ) → From (suc place) (runs false place text))
      → SaysRest so_far 0 text → SaysRest so_far 3 (minus_one ++ text)
  close-says so_far text apart after place =
      ap (faces_from long so_far 3)
      (runs-word place (place + 2) minus_one text refl (omega arith) minus_one-ordinary (apart (place + 2)))
      ∙ faces_from-close long so_far _ _ says-minus_one
      ∙ after (place + 2)

  -- a gap before it says nothing
  gap-says : (k : ℕ) (so_far : List ℕ) (face : ℕ) (text : List ℕ) → SaysRest so_far face text
      → SaysRest so_far face (gap k ++ text)
  unfolding gap
  gap-says zero so_far face text after place = after place
  gap-says (suc k) so_far face text after place =
      ap (faces_from long so_far face) (runs-blank place text) ∙ after (suc place)

  -- so says a face
  face-says : (k : ℕ) (text : List ℕ) → 3 * k + 2 < length T
      → ((place : ℕ) → From (suc place) (runs false place text)) → SaysRest (take (3 * suc k) T) 0 text
      → SaysRest (take (3 * k) T) 0 (face_text T k ++ text)
  unfolding face_text
  face-says k text l apart after =
      simp append_assoc (gap-says k (take (3 * k) T) 0 _
      (corner-says (3 * k) (3 * k + 1) 0 _ (omega arith) (omega arith) (omega arith)
      (corner-says (3 * k + 1) (3 * k + 2) 1 _ (omega arith) (omega arith) (omega arith)
      (corner-says (3 * k + 2) (3 * suc k) 2 _ l (omega arith) (omega arith)
      (close-says (take (3 * suc k) T) text apart after)))))

  -- and the text from face k on
  rest-says : (n k : ℕ) → length T ≡ 3 * (k + n) → SaysRest (take (3 * k) T) 0 (text_from T k n)
  unfolding text_from faces_from runs
  rest-says zero k whole = λ place. ap faces (take_all (3 * k) T (omega arith))
  rest-says (suc n) k whole =
      face-says k (text_from T (suc k) n) (omega arith) (text_from-apart T k n) (rest-says n (suc k) (omega arith))

-- "written text reads back to the mesh list for list (of 16-bit corners)"
pub text-back : (T : List ℕ) → length T ≡ 3 * triangles T → FourDigitCorners T → text_says (index_text T) ≡ faces T
unfolding text_says index_text
text-back T whole small =
    ap (λ (text : List ℕ). text_says text) (faces_text-from T (triangles T))
    ∙ rest-says (length (text_from T 0 (triangles T))) T small (triangles T) 0 (omega arith) 0

-- ---- what right runs add to the corners

-- a number that is a corner is at most 65,535
corner_said-small : (o : Option ℕ) (n : ℕ) → corner_said o ≡ corner n → n < 65536
unfolding corner_said
corner_said-small none n e = let z : ◌≡◌ {A = ℕ} 0 1 = cc in absurd (omega arith)
corner_said-small (some m) n e =
    true-from (leb m most_corner) e (λ w. cc) λ p w.
    let same : m ≡ n = cc in
    omega (arith, leb-true m most_corner p)

-- so is what a run says as a corner
pub says-small : (bytes : List ℕ) (n : ℕ) → says bytes ≡ corner n → n < 65536
unfolding says
says-small bytes n e = go (is_minus_one bytes) e
  where
    go : (t : Bool) → elim t [ true ↦ close | false ↦ corner_said (decimal_value 0 bytes) ] ≡ corner n → n < 65536
    go true w = let z : ◌≡◌ {A = ℕ} 0 1 = cc in absurd (omega arith)
    go false w = corner_said-small (decimal_value 0 bytes) n w

-- What right runs after the corners so far, of which the last `face` are those of the present face, say: those corners
-- and more, each of 16 bits, with which the last face is whole.
pub record CornersAfter (so_far : List ℕ) (face : ℕ) (T : List ℕ) : Type 0 where
  pub more : List ℕ
  pub all : T ≡ so_far ++ more
  pub small : Small (length more) more
  pub whole : (face + length more) % 3 ≡ 0

-- one right run before right runs
run-before : (said : Said) (so_far T : List ℕ) (face next : ℕ) → ((n : ℕ) → said ≡ corner n → n < 65536)
    → face_after face said ≡ some next → CornersAfter (so_far ++ corners_said said) next T → CornersAfter so_far face T
unfolding face_after corners_said
run-before (corner n) so_far T face next low e C =
    true-from (ltb face 3) e (λ w. cc) λ p w.
    let same : suc face ≡ next = cc in
    record {
      more = n ∷ C.more;
      all = cc (C.all, append_assoc so_far (n ∷ []) C.more);
      small = small-append (suc (length C.more)) (omega arith) (small_one n (low n refl)) C.small;
      whole = omega (arith, C.whole);
    }
run-before close so_far T face next low e C =
    true-from (eqb face 3) e (λ w. cc) λ p w.
    let same : 0 ≡ next = cc in
    record {
      more = C.more;
      all = cc (C.all, append-nil so_far);
      small = C.small;
      whole = omega (arith, C.whole, eqb-true face 3 p);
    }
run-before wrong so_far T face next low e C = let z : ◌≡◌ {A = ℕ} 0 1 = cc in absurd (omega arith)

-- the last face is whole where it has no corner or three
whole-face : (face : ℕ) → eqb face 0 || eqb face 3 ≡ true → face % 3 ≡ 0
whole-face face e = go (eqb face 0) refl e
  where
    go : (t : Bool) → eqb face 0 ≡ t → t || eqb face 3 ≡ true → face % 3 ≡ 0
    go true f _ = omega (arith, eqb-true face 0 f)
    go false _ g = omega (arith, eqb-true face 3 g)

-- where the runs say faces, they are right
pub corners-after : (long : ℕ) (so_far : List ℕ) (face : ℕ) (after : List Run) (T : List ℕ)
    → faces_from long so_far face after ≡ faces T → CornersAfter so_far face T
unfolding faces_from
corners-after long so_far face [] T e =
    true-from (eqb face 0 || eqb face 3) e (λ w. cc) λ p w.
    record { more = []; all = cc (append-nil so_far); small = small-none; whole = omega (arith, whole-face face p) }
corners-after long so_far face (run ∷ after) T e =
    some-from (face_after face (says run.bytes)) e (λ w. cc) λ next f w.
    run-before (says run.bytes) so_far T face next (says-small run.bytes) f
    (corners-after long (so_far ++ corners_said (says run.bytes)) next after T w)

-- they are no fewer than the corners so far
pub corners-longer : (long : ℕ) (so_far : List ℕ) (face : ℕ) (after : List Run) (T : List ℕ)
    → faces_from long so_far face after ≡ faces T → length so_far ≤ length T
corners-longer long so_far face after T e =
    let C = corners-after long so_far face after T e in
    omega (arith, ap length C.all ∙ length-append so_far C.more)

-- and three for each face, if those so far are so but for the present face
pub corners-whole : (long : ℕ) (so_far : List ℕ) (face : ℕ) (after : List Run) (T : List ℕ)
    → faces_from long so_far face after ≡ faces T → length so_far % 3 ≡ face % 3 → length T ≡ 3 * triangles T
corners-whole long so_far face after T e f =
    let C = corners-after long so_far face after T e in
    omega (arith, C.whole, ap length C.all ∙ length-append so_far C.more)

-- a text says three corners for each face
pub text-whole : (text T : List ℕ) → text_says text ≡ faces T → length T ≡ 3 * triangles T
unfolding text_says
text-whole text T e = corners-whole (length text) [] 0 (runs false 0 text) T e refl

-- each of 16 bits
pub text-corners : (text T : List ℕ) → text_says text ≡ faces T → FourDigitCorners T
unfolding text_says
text-corners text T e =
    let C = corners-after (length text) [] 0 (runs false 0 text) T e in
    rw C.all C.small.below
