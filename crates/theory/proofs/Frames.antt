-- Written frames read back to the mesh, and a frame file that is read and written again is the same bytes but for case
-- and CR. From digits up to frames, each reader undoes the writer (the law READER-WRITER) and reads only what is
-- written so, in upper case and without CR (the law WRITER-READER).
use Prim.Native.Nat.{ℕ, zero, suc, ◌+◌, ◌-◌, ◌*◌, ◌/◌, ◌%◌, ◌≤◌, ◌<◌, min}
use native.Mathlib.Decide.{dec_lt}
use native.Mathlib.Omega.{arith}
use mathlib.Core.Path.{◌≡◌, refl, sym, ap, ◌∙◌}
use mathlib.Core.Bool.{Bool, true, false, ◌&&◌, ◌||◌, and-eq-true_iff}
use mathlib.Core.Option.{Option, none, some}
use mathlib.Core.List.{List, [], ◌∷◌, ◌++◌, append-nil, append_assoc}
use borrow.Author.Tests.{lt-ltb, le-ltb, le-leb, lt-leb, eq-eqb, ne_eqb, leb-true, ltb-false, eqb-true}
use lib.Dec.{leb, ltb, eqb}
use lib.ListN.{length, take, drop, length-append, length-take, length-drop, take-append-drop, get_or-append}
use lib.Seq.{get_or-take, get_or-drop, get_or-append-add}
use Rattle.theory.specs.Limits.{most_triangles, most_vertices}
use Rattle.theory.specs.Mesh.{at, triangles}
use Rattle.theory.specs.Frames.{digit, two_digits, four_digits, line, mesh_line, triangle_line, triangle_lines}
use Rattle.theory.specs.Frames.{frames, digit_value, Taken, take_digits, take_numbers, take_lf, take_end, take_line}
use Rattle.theory.specs.Frames.{Corners, corners, wrong_line, take_triangles}
use Rattle.theory.specs.Demands.{to_upper, to_upper_and_lf}
use Rattle.theory.proofs.Reader.{within-limits, mesh, mesh_of, read_frames}

-- ---- tests and options

-- where a choice by an option gives what none does not give, there is something
pub some-from : {A B R : Type 0} {other b : B} {step : A → B} (o : Option A)
    → elim o [ none ↦ other | some a ↦ step a ] ≡ b
    → (other ≡ b → ◌≡◌ {A = ℕ} 0 1) → ((a : A) → o ≡ some a → step a ≡ b → R) → R
some-from none e differ next = absurd (omega (arith, differ e))
some-from (some a) e differ next = next a refl e

-- where a choice by a test gives what a failure does not give, the test passes
pub true-from : {B R : Type 0} {x y b : B} (t : Bool) → elim t [ true ↦ x | false ↦ y ] ≡ b
    → (y ≡ b → ◌≡◌ {A = ℕ} 0 1) → (t ≡ true → x ≡ b → R) → R
true-from true e differ next = next refl e
true-from false e differ next = absurd (omega (arith, differ e))

-- where it gives what a pass does not give, the test fails
false-from : {B R : Type 0} {x y b : B} (t : Bool) → elim t [ true ↦ x | false ↦ y ] ≡ b
    → (x ≡ b → ◌≡◌ {A = ℕ} 0 1) → (t ≡ false → y ≡ b → R) → R
false-from true e differ next = absurd (omega (arith, differ e))
false-from false e differ next = next refl e

-- a number that passes the tests of a range is within it
pub within : (low n high : ℕ) → leb low n && leb n high ≡ true → (low ≤ n) × (n ≤ high)
within low n high e =
    let both : (leb low n ≡ true) × (leb n high ≡ true) = (and-eq-true_iff (leb low n) (leb n high)).0 e in
    (leb-true low n both.0, leb-true n high both.1)

-- a number that is not within a range does not pass the tests of it
outside : (low n high : ℕ) → (low ≤ n → high < n) → leb low n && leb n high ≡ false
outside low n high out = go (dec_lt n low)
  where
    go : Dec (n < low) → leb low n && leb n high ≡ false
    go (yes l) = rw (lt-leb low n l)
    go (no l) =
        let below : low ≤ n = omega arith in
        rw (le-leb low n below, lt-leb n high (out below))

-- ---- upper case, and no CR

-- one of a to f becomes one of A to F
pub to_upper-lower : (b : ℕ) → 97 ≤ b → b ≤ 102 → to_upper b ≡ b - 32
unfolding to_upper
to_upper-lower b l m = cc (le-leb 97 b l, le-leb b 102 m)

-- any other byte stays
pub to_upper-other : (b : ℕ) → (97 ≤ b → 102 < b) → to_upper b ≡ b
unfolding to_upper
to_upper-other b other = cc (outside 97 b 102 other)

-- a byte is kept, in upper case, unless it is CR
pub to_upper_and_lf-kept : (b : ℕ) (bytes : List ℕ) → (b ≡ 13 → ⊥)
    → to_upper_and_lf (b ∷ bytes) ≡ to_upper b ∷ to_upper_and_lf bytes
unfolding to_upper_and_lf
to_upper_and_lf-kept b bytes other = cc (ne_eqb b 13 other)

-- a CR is left out
pub to_upper_and_lf-CR : (b : ℕ) (bytes : List ℕ) → b ≡ 13 → to_upper_and_lf (b ∷ bytes) ≡ to_upper_and_lf bytes
unfolding to_upper_and_lf
to_upper_and_lf-CR b bytes e = cc

-- ---- digits

-- a digit below ten is written as 0 to 9
pub digit_low : (d : ℕ) → d < 10 → digit d ≡ 48 + d
unfolding digit
digit_low d l = rw (lt-ltb d 10 l, digit)

-- any other is written as A to F
pub digit-high : (d : ℕ) → 10 ≤ d → digit d ≡ 55 + d
unfolding digit
digit-high d l = rw (le-ltb d 10 l, digit)

-- the bytes 0 to 9 stand for the digits below ten
digit_value-low : (b : ℕ) → 48 ≤ b → b ≤ 57 → digit_value b ≡ some (b - 48)
unfolding digit_value
digit_value-low b l m = cc (le-leb 48 b l, le-leb b 57 m)

-- the bytes A to F stand for the digits from ten on
digit_value-high : (b : ℕ) → 65 ≤ b → b ≤ 70 → digit_value b ≡ some (b - 55)
unfolding digit_value
digit_value-high b l m = cc (le-leb 48 b (omega arith), lt-leb b 57 (omega arith), le-leb 65 b l, le-leb b 70 m)

-- so do the bytes a to f
digit_value-lower : (b : ℕ) → 97 ≤ b → b ≤ 102 → digit_value b ≡ some (b - 87)
unfolding digit_value
digit_value-lower b l m =
    cc (
      outside 48 b 57 (λ other. omega arith),
      outside 65 b 70 (λ other. omega arith),
      le-leb 97 b l,
      le-leb b 102 m,
    )

-- a digit that is written reads back
digit_value-digit : (d : ℕ) → d < 16 → digit_value (digit d) ≡ some d
digit_value-digit d l = go (dec_lt d 10)
  where
    go : Dec (d < 10) → digit_value (digit d) ≡ some d
    go (yes h) =
        let e : 48 + d - 48 ≡ d = omega arith in
        cc (digit_low d h, digit_value-low (48 + d) (omega arith) (omega arith))
    go (no h) =
        let e : 55 + d - 55 ≡ d = omega arith in
        cc (digit-high d (omega arith), digit_value-high (55 + d) (omega arith) (omega arith))

-- the byte of a digit is one of 0 to 9, of A to F or of a to f
by-digit : {C : Type 0} {b d : ℕ} → digit_value b ≡ some d → (d < 10 → b ≡ 48 + d → C)
    → (10 ≤ d → d < 16 → b ≡ 55 + d → C) → (10 ≤ d → d < 16 → b ≡ 87 + d → C) → C
unfolding digit_value
by-digit {C} {b} {d} e low high lower =
    go (leb 48 b && leb b 57) refl (leb 65 b && leb b 70) refl (leb 97 b && leb b 102) refl
  where
    by-low : (48 ≤ b) × (b ≤ 57) → C
    by-low (l, m) =
        let v : d ≡ b - 48 = cc (digit_value-low b l m) in
        low (omega arith) (omega arith)

    by_high : (65 ≤ b) × (b ≤ 70) → C
    by_high (l, m) =
        let v : d ≡ b - 55 = cc (digit_value-high b l m) in
        high (omega arith) (omega arith) (omega arith)

    by-lower : (97 ≤ b) × (b ≤ 102) → C
    by-lower (l, m) =
        let v : d ≡ b - 87 = cc (digit_value-lower b l m) in
        lower (omega arith) (omega arith) (omega arith)

    go : (s : Bool) → leb 48 b && leb b 57 ≡ s → (t : Bool) → leb 65 b && leb b 70 ≡ t
        → (u : Bool) → leb 97 b && leb b 102 ≡ u → C
    go true p t q u r = by-low (within 48 b 57 p)
    go false p true q u r = by_high (within 65 b 70 q)
    go false p false q true r = by-lower (within 97 b 102 r)
    go false p false q false r = let z : ◌≡◌ {A = ℕ} 0 1 = cc in absurd (omega arith)

-- so a digit is below 16
pub digit-below : (b d : ℕ) → digit_value b ≡ some d → d < 16
digit-below b d e = by-digit e (λ l f. omega arith) (λ l m f. m) (λ l m f. m)

-- its byte is no CR, and in upper case it is how the digit is written
digit-digit_value : (b d : ℕ) (bytes : List ℕ) → digit_value b ≡ some d
    → to_upper_and_lf (b ∷ bytes) ≡ digit d ∷ to_upper_and_lf bytes
digit-digit_value b d bytes e =
    by-digit e
    (λ l f. kept (omega arith) (to_upper-other b (λ m. omega arith) ∙ f ∙ sym (digit_low d l)))
    (λ l m f. kept (omega arith) (to_upper-other b (λ n. omega arith) ∙ f ∙ sym (digit-high d l)))
    (λ l m f.
    let upper : b - 32 ≡ 55 + d = omega arith in
    kept (omega arith) (to_upper-lower b (omega arith) (omega arith) ∙ upper ∙ sym (digit-high d l)))
  where
    kept : 13 < b → to_upper b ≡ digit d → to_upper_and_lf (b ∷ bytes) ≡ digit d ∷ to_upper_and_lf bytes
    kept l same = cc (to_upper_and_lf-kept b bytes (λ is. omega arith))

-- ---- numbers of one, two and four digits

-- what was read, and the bytes after it
abbrev taken : {A : Type 0} → A → List ℕ → Taken A
taken a bytes = record { value = a; rest = bytes }

-- a number of one digit, as it is written
abbrev one_digit : ℕ → List ℕ
one_digit d = digit d ∷ []

-- a number of four digits is written as two numbers of two
four_digits-two : (v w : ℕ) → w < 256 → four_digits (256 * v + w) ≡ two_digits v ++ two_digits w
unfolding four_digits two_digits
four_digits-two v w l =
    let p : (256 * v + w) / 4096 % 16 ≡ v / 16 % 16 = omega arith in
    let q : (256 * v + w) / 256 % 16 ≡ v % 16 = omega arith in
    let r : (256 * v + w) / 16 % 16 ≡ w / 16 % 16 = omega arith in
    let s : (256 * v + w) % 16 ≡ w % 16 = omega arith in
    cc

-- a digit that is written is read, and the others after it
take_digits-one_digit : (n before d : ℕ) (bytes : List ℕ) → d < 16
    → take_digits (suc n) before (one_digit d ++ bytes) ≡ take_digits n (16 * before + d) bytes
unfolding take_digits
take_digits-one_digit n before d bytes l = cc (digit_value-digit d l)

-- so are two
take_digits-two_digits : (n before v : ℕ) (bytes : List ℕ) → v < 256
    → take_digits (suc (suc n)) before (two_digits v ++ bytes) ≡ take_digits n (256 * before + v) bytes
unfolding two_digits
take_digits-two_digits n before v bytes l =
    take_digits-one_digit (suc n) before (v / 16 % 16) (digit (v % 16) ∷ bytes) (omega arith)
    ∙ take_digits-one_digit n (16 * before + v / 16 % 16) (v % 16) bytes (omega arith)
    ∙ ap (λ (w : ℕ). take_digits n w bytes) (omega arith)

-- a number of four digits that is written reads back
take_digits-four_digits : (v : ℕ) (bytes : List ℕ) → v < 65536
    → take_digits 4 0 (four_digits v ++ bytes) ≡ some (taken v bytes)
unfolding take_digits
take_digits-four_digits v bytes l =
    let high : ℕ = v / 256 in
    let low : ℕ = v % 256 in
    let e : 256 * high + low ≡ v = omega arith in
    let w : 256 * (256 * 0 + high) + low ≡ v = omega arith in
    cc (
      four_digits-two high low (omega arith),
      append_assoc (two_digits high) (two_digits low) bytes,
      take_digits-two_digits 2 0 high (two_digits low ++ bytes) (omega arith),
      take_digits-two_digits 0 (256 * 0 + high) low bytes (omega arith),
    )

-- the digits that were read begin, in upper case, with a number below base as it is written, and the n after it were
-- read on
record Begins (write : ℕ → List ℕ) (base n before : ℕ) (bytes : List ℕ) (t : Taken ℕ) : Type 0 where
  first : ℕ
  others : List ℕ
  below : first < base
  starts : to_upper_and_lf bytes ≡ write first ++ to_upper_and_lf others
  remains : take_digits n (base * before + first) others ≡ some t

-- digits that are read begin with one as it is written
one_digit-take_digits : (n before : ℕ) (bytes : List ℕ) (t : Taken ℕ) → take_digits (suc n) before bytes ≡ some t
    → Begins one_digit 16 n before bytes t
unfolding take_digits
one_digit-take_digits n before [] t e = let z : ◌≡◌ {A = ℕ} 0 1 = cc in absurd (omega arith)
one_digit-take_digits n before (byte ∷ bytes) t e =
    some-from (digit_value byte) e (λ w. cc) λ d v r. record {
      first = d;
      others = bytes;
      below = digit-below byte d v;
      starts = digit-digit_value byte d bytes v;
      remains = r;
    }

-- and with two
two_digits-take_digits : (n before : ℕ) (bytes : List ℕ) (t : Taken ℕ) → take_digits (suc (suc n)) before bytes ≡ some t
    → Begins two_digits 256 n before bytes t
unfolding two_digits
two_digits-take_digits n before bytes t e = go (one_digit-take_digits (suc n) before bytes t e)
  where
    joined : (a : Begins one_digit 16 (suc n) before bytes t)
        → Begins one_digit 16 n (16 * before + a.first) a.others t → Begins two_digits 256 n before bytes t
    joined a b =
        let p : (16 * a.first + b.first) / 16 % 16 ≡ a.first = omega arith in
        let q : (16 * a.first + b.first) % 16 ≡ b.first = omega arith in
        let s : 256 * before + (16 * a.first + b.first) ≡ 16 * (16 * before + a.first) + b.first = omega arith in
        record {
          first = 16 * a.first + b.first;
          others = b.others;
          below = omega arith;
          starts = cc;
          remains = cc;
        }

    go : Begins one_digit 16 (suc n) before bytes t → Begins two_digits 256 n before bytes t
    go a = joined a (one_digit-take_digits n (16 * before + a.first) a.others t a.remains)

-- what was taken fits, and in upper case stood as it is written before the bytes that are left
pub record TakenAs {A : Type 0} (write : A → List ℕ) (Fits : A → Type 0) (bytes : List ℕ) (t : Taken A) : Type 0 where
  pub fits : Fits t.value
  pub same : to_upper_and_lf bytes ≡ write t.value ++ to_upper_and_lf t.rest

-- a number of four digits that is read stood as it is written
four_digits-take_digits : (bytes : List ℕ) (t : Taken ℕ) → take_digits 4 0 bytes ≡ some t
    → TakenAs four_digits (λ v. v < 65536) bytes t
unfolding take_digits
four_digits-take_digits bytes t e = go (two_digits-take_digits 2 0 bytes t e)
  where
    joined : (a : Begins two_digits 256 2 0 bytes t) → Begins two_digits 256 0 (256 * 0 + a.first) a.others t
        → TakenAs four_digits (λ v. v < 65536) bytes t
    joined a b =
        let w : t.value ≡ 256 * (256 * 0 + a.first) + b.first = cc in
        let v : t.value ≡ 256 * a.first + b.first = omega arith in
        record {
          fits = omega arith;
          same = cc (
            four_digits-two a.first b.first b.below,
            append_assoc (two_digits a.first) (two_digits b.first) (to_upper_and_lf t.rest),
          );
        }

    go : Begins two_digits 256 2 0 bytes t → TakenAs four_digits (λ v. v < 65536) bytes t
    go a = joined a (two_digits-take_digits 0 (256 * 0 + a.first) a.others t a.remains)

-- n digits that are taken are n bytes
pub take_digits-length : (n before : ℕ) (bytes : List ℕ) (t : Taken ℕ) → take_digits n before bytes ≡ some t
    → length bytes ≡ n + length t.rest
unfolding take_digits
take_digits-length zero before bytes t e =
    let r : bytes ≡ t.rest = cc in
    omega (arith, ap length r)
take_digits-length (suc n) before [] t e = let z : ◌≡◌ {A = ℕ} 0 1 = cc in absurd (omega arith)
take_digits-length (suc n) before (byte ∷ bytes) t e =
    some-from (digit_value byte) e (λ w. cc) λ d v r. omega (arith, take_digits-length n (16 * before + d) bytes t r)

-- ---- several numbers

-- numbers one after another, four digits each
unfoldable pub numbers : List ℕ → List ℕ
numbers [] = []
numbers (x ∷ xs) = four_digits x ++ numbers xs

-- n numbers, each of which four digits are enough for
pub record Small (n : ℕ) (xs : List ℕ) : Type 0 where
  pub long : length xs ≡ n
  pub below : (c : ℕ) → c < length xs → at xs c < 65536

-- no numbers at all
pub small-none : Small 0 []
small-none = record { long = refl; below = λ c l. absurd (omega arith) }

-- one small number
pub small_one : (x : ℕ) → x < 65536 → Small 1 (x ∷ [])
small_one x l = record { long = refl; below = go }
  where
    go : (c : ℕ) → c < 1 → at (x ∷ []) c < 65536
    go zero h = l
    go (suc c) h = absurd (omega arith)

-- small numbers one after another are small
pub small-append : {m n : ℕ} {xs ys : List ℕ} (k : ℕ) → k ≡ m + n → Small m xs → Small n ys → Small k (xs ++ ys)
small-append {xs} {ys} k e s t = record {
  long = simp length-append (omega arith);
  below = λ c l. go c (dec_lt c (length xs)) (simp length-append at l);
}
  where
    go : (c : ℕ) → Dec (c < length xs) → c < length xs + length ys → at (xs ++ ys) c < 65536
    go c (yes h) l = rw (get_or-append xs ys 0 c h) (s.below c h)
    go c (no h) l =
        let p : c ≡ length xs + (c - length xs) = omega arith in
        rw (p, get_or-append-add xs ys (c - length xs) 0) (t.below (c - length xs) (omega arith))

-- the first of small numbers are small
small-take : {n : ℕ} {xs : List ℕ} (m : ℕ) → m ≤ n → Small n xs → Small m (take m xs)
small-take {xs} m l s = record { long = simp length-take (omega arith); below = λ c h. go c (simp length-take at h) }
  where
    go : (c : ℕ) → c < min m (length xs) → at (take m xs) c < 65536
    go c h = rw (get_or-take m xs c 0 (omega arith)) (s.below c (omega arith))

-- and so are the numbers after them
small-drop : {n : ℕ} {xs : List ℕ} (m k : ℕ) → n ≡ m + k → Small n xs → Small k (drop m xs)
small-drop {xs} m k e s = record { long = simp length-drop (omega arith); below = λ c h. go c (simp length-drop at h) }
  where
    go : (c : ℕ) → c < length xs - m → at (drop m xs) c < 65536
    go c h = rw (get_or-drop m xs c 0) (s.below (m + c) (omega arith))

-- numbers that are written read back
take_numbers-numbers : (n : ℕ) (xs bytes : List ℕ) → Small n xs
    → take_numbers n (numbers xs ++ bytes) ≡ some (taken xs bytes)
unfolding take_numbers numbers
take_numbers-numbers zero [] bytes s = refl
take_numbers-numbers zero (x ∷ xs) bytes s = absurd (omega arith)
take_numbers-numbers (suc n) [] bytes s = absurd (omega arith)
take_numbers-numbers (suc n) (x ∷ xs) bytes s =
    cc (
      append_assoc (four_digits x) (numbers xs) bytes,
      take_digits-four_digits x (numbers xs ++ bytes) (s.below 0 (omega arith)),
      take_numbers-numbers n xs bytes (small-drop 1 n (omega arith) s),
    )

-- numbers that are read stood as they are written
numbers-take_numbers : (n : ℕ) (bytes : List ℕ) (t : Taken (List ℕ)) → take_numbers n bytes ≡ some t
    → TakenAs numbers (Small n) bytes t
unfolding take_numbers numbers
numbers-take_numbers zero bytes t e =
    let w : t ≡ taken [] bytes = cc in
    rw w (record { fits = small-none; same = refl })
numbers-take_numbers (suc n) bytes t e =
    some-from (take_digits 4 0 bytes) e (λ w. cc) λ a h f.
    some-from (take_numbers n a.rest) f (λ w. cc) λ b k w.
    joined a b (cc) (four_digits-take_digits bytes a h) (numbers-take_numbers n a.rest b k)
  where
    joined : (a : Taken ℕ) (b : Taken (List ℕ)) → t ≡ taken (a.value ∷ b.value) b.rest
        → TakenAs four_digits (λ v. v < 65536) bytes a → TakenAs numbers (Small n) a.rest b
        → TakenAs numbers (Small (suc n)) bytes t
    joined a b w p q = rw w (record {
      fits = small-append (suc n) (omega arith) (small_one a.value p.fits) q.fits;
      same = cc (append_assoc (four_digits a.value) (numbers b.value) (to_upper_and_lf b.rest));
    })

-- ---- lines

-- a line before other bytes: its kind, what it says, its end
line-append : (kind : ℕ) (says bytes : List ℕ) → line kind says ++ bytes ≡ two_digits kind ++ (says ++ 10 ∷ bytes)
unfolding line
line-append kind says bytes = simp append_assoc

-- the LF that is read is the byte 10
take_lf-is : (bytes rest : List ℕ) → take_lf bytes ≡ some rest → bytes ≡ 10 ∷ rest
unfolding take_lf
take_lf-is [] rest e = cc
take_lf-is (byte ∷ bytes) rest e = true-from (eqb byte 10) e (λ w. cc) λ p w. cc (eqb-true byte 10 p)

-- the end of a line that is read is the byte 10, without CR
take_end-ends : (bytes rest : List ℕ) → take_end bytes ≡ some rest → to_upper_and_lf bytes ≡ 10 ∷ to_upper_and_lf rest
unfolding take_end
take_end-ends [] rest e = cc
take_end-ends (byte ∷ bytes) rest e = go (eqb byte 13) refl
  where
    -- LF stays
    kept : to_upper_and_lf (10 ∷ rest) ≡ 10 ∷ to_upper_and_lf rest
    kept = cc (to_upper_and_lf-kept 10 rest (λ is. omega arith), to_upper-other 10 (λ other. omega arith))

    go : (t : Bool) → eqb byte 13 ≡ t → to_upper_and_lf (byte ∷ bytes) ≡ 10 ∷ to_upper_and_lf rest
    go true p =
        let lf : bytes ≡ 10 ∷ rest = take_lf-is bytes rest (cc) in
        cc (to_upper_and_lf-CR byte bytes (eqb-true byte 13 p), kept)
    go false p =
        let lf : byte ∷ bytes ≡ 10 ∷ rest = take_lf-is (byte ∷ bytes) rest (cc) in
        cc kept

-- a line that is written reads back
take_line-line : (kind n : ℕ) (xs bytes : List ℕ) → kind < 256 → Small n xs
    → take_line kind n (line kind (numbers xs) ++ bytes) ≡ some (taken xs bytes)
unfolding take_line take_digits take_end take_lf
take_line-line kind n xs bytes l s =
    cc (
      line-append kind (numbers xs) bytes,
      take_digits-two_digits 0 0 kind (numbers xs ++ 10 ∷ bytes) l,
      eq-eqb (256 * 0 + kind) kind (omega arith),
      take_numbers-numbers n xs (10 ∷ bytes) s,
    )

-- a line that is read stood as it is written
pub line-take_line : (kind n : ℕ) (bytes : List ℕ) (t : Taken (List ℕ)) → take_line kind n bytes ≡ some t
    → TakenAs (λ xs. line kind (numbers xs)) (Small n) bytes t
unfolding take_line take_digits
line-take_line kind n bytes t e =
    some-from (take_digits 2 0 bytes) e (λ w. cc) λ a h f.
    true-from (eqb a.value kind) f (λ w. cc) λ p g.
    some-from (take_numbers n a.rest) g (λ w. cc) λ b i j.
    some-from (take_end b.rest) j (λ w. cc) λ rest k w.
    joined a b rest (eqb-true a.value kind p) (cc) (take_end-ends b.rest rest k)
    (two_digits-take_digits 0 0 bytes a h) (numbers-take_numbers n a.rest b i)
  where
    joined : (a : Taken ℕ) (b : Taken (List ℕ)) (rest : List ℕ) → a.value ≡ kind → t ≡ taken b.value rest
        → to_upper_and_lf b.rest ≡ 10 ∷ to_upper_and_lf rest → Begins two_digits 256 0 0 bytes a
        → TakenAs numbers (Small n) a.rest b
        → TakenAs (λ xs. line kind (numbers xs)) (Small n) bytes t
    joined a b rest p w ends d q =
        let v : a.value ≡ 256 * 0 + d.first = cc in
        let f : d.first ≡ kind = omega arith in
        let r : a.rest ≡ d.others = cc in
        rw w (record { fits = q.fits; same = cc (line-append kind (numbers b.value) (to_upper_and_lf rest)) })

-- ---- triangle lines

-- the line of a triangle after the first three corners is its line without them
triangle_line-later : (a b c n : ℕ) (T : List ℕ) → triangle_line (a ∷ b ∷ c ∷ T) (suc n) ≡ triangle_line T n
unfolding triangle_line
triangle_line-later a b c n T =
    let p : 3 * suc n ≡ suc (suc (suc (3 * n))) = omega arith in
    let q : 3 * suc n + 1 ≡ suc (suc (suc (3 * n + 1))) = omega arith in
    let r : 3 * suc n + 2 ≡ suc (suc (suc (3 * n + 2))) = omega arith in
    cc

-- the lines of a list that begins with three corners: the line of those, and the lines of the others
triangle_lines-three : (a b c n : ℕ) (T : List ℕ)
    → triangle_lines (a ∷ b ∷ c ∷ T) (suc n) ≡ line 0x46 (numbers (a ∷ b ∷ c ∷ [])) ++ triangle_lines T n
unfolding triangle_lines triangle_line numbers line two_digits four_digits
triangle_lines-three a b c zero T = refl
triangle_lines-three a b c (suc n) T = cc (triangle_lines-three a b c n T, triangle_line-later a b c n T)

-- the same with the three corners as a list
triangle_lines-append : (xs T : List ℕ) (n : ℕ) → length xs ≡ 3
    → triangle_lines (xs ++ T) (suc n) ≡ line 0x46 (numbers xs) ++ triangle_lines T n
triangle_lines-append [] T n e = absurd (omega arith)
triangle_lines-append (a ∷ []) T n e = absurd (omega arith)
triangle_lines-append (a ∷ b ∷ []) T n e = absurd (omega arith)
triangle_lines-append (a ∷ b ∷ c ∷ []) T n e = triangle_lines-three a b c n T
triangle_lines-append (a ∷ b ∷ c ∷ d ∷ xs) T n e = absurd (omega arith)

-- triangle lines that are written read back
pub take_triangles-triangle_lines : (n place : ℕ) (so_far T : List ℕ) → Small (3 * n) T
    → take_triangles n place so_far (triangle_lines T n) ≡ corners (so_far ++ T)
unfolding take_triangles triangle_lines
take_triangles-triangle_lines zero place so_far [] s = ap corners (sym (append-nil so_far))
take_triangles-triangle_lines zero place so_far (c ∷ T) s = absurd (omega arith)
take_triangles-triangle_lines (suc n) place so_far T s =
    cc (
      take-append-drop 3 T,
      triangle_lines-append first others n f.long,
      take_line-line 0x46 3 first (triangle_lines others n) (omega arith) f,
      take_triangles-triangle_lines n (suc place) (so_far ++ first) others (small-drop 3 (3 * n) (omega arith) s),
      append_assoc so_far first others,
    )
  where
    first : List ℕ
    first = take 3 T

    others : List ℕ
    others = drop 3 T

    f : Small 3 first
    f = small-take 3 (omega arith) s

-- what was read are the corners before it and small ones whose lines the bytes are, in upper case and without CR
pub record CornersOf (n : ℕ) (so_far bytes T : List ℕ) : Type 0 where
  pub more : List ℕ
  pub all : T ≡ so_far ++ more
  pub small : Small (3 * n) more
  pub same : to_upper_and_lf bytes ≡ triangle_lines more n

-- triangle lines that are read stood as they are written
pub triangle_lines-take_triangles : (n place : ℕ) (so_far bytes T : List ℕ)
    → take_triangles n place so_far bytes ≡ corners T → CornersOf n so_far bytes T
unfolding take_triangles triangle_lines to_upper_and_lf
triangle_lines-take_triangles zero place so_far [] T e =
    record { more = []; all = cc (append-nil so_far); small = small-none; same = refl }
triangle_lines-take_triangles zero place so_far (byte ∷ bytes) T e = let z : ◌≡◌ {A = ℕ} 0 1 = cc in absurd (omega arith)
triangle_lines-take_triangles (suc n) place so_far bytes T e =
    some-from (take_line 0x46 3 bytes) e (λ w. cc) λ a h r.
    joined a (line-take_line 0x46 3 bytes a h)
    (triangle_lines-take_triangles n (suc place) (so_far ++ a.value) a.rest T r)
  where
    joined : (a : Taken (List ℕ)) → TakenAs (λ xs. line 0x46 (numbers xs)) (Small 3) bytes a
        → CornersOf n (so_far ++ a.value) a.rest T → CornersOf (suc n) so_far bytes T
    joined a p q = record {
      more = a.value ++ q.more;
      all = cc (append_assoc so_far a.value q.more);
      small = small-append (3 * suc n) (omega arith) p.fits q.small;
      same = cc (triangle_lines-append a.value q.more n p.fits.long);
    }

-- ---- how long lines are that are read

-- numbers that are taken are four bytes each
take_numbers-length : (n : ℕ) (bytes : List ℕ) (t : Taken (List ℕ)) → take_numbers n bytes ≡ some t
    → length bytes ≡ 4 * n + length t.rest
unfolding take_numbers
take_numbers-length zero bytes t e =
    let r : bytes ≡ t.rest = cc in
    omega (arith, ap length r)
take_numbers-length (suc n) bytes t e =
    some-from (take_digits 4 0 bytes) e (λ w. cc) λ a h f.
    some-from (take_numbers n a.rest) f (λ w. cc) λ b k w.
    let r : b.rest ≡ t.rest = cc in
    omega (arith, take_digits-length 4 0 bytes a h, take_numbers-length n a.rest b k, ap length r)

-- an end that is taken is two bytes at most
take_end-length : (bytes rest : List ℕ) → take_end bytes ≡ some rest → length bytes ≤ 2 + length rest
unfolding take_end
take_end-length [] rest e = omega arith
take_end-length (byte ∷ bytes) rest e = go (eqb byte 13) refl
  where
    go : (t : Bool) → eqb byte 13 ≡ t → length (byte ∷ bytes) ≤ 2 + length rest
    go true f = omega (arith, ap length (take_lf-is bytes rest (cc)))
    go false f = omega (arith, ap length (take_lf-is (byte ∷ bytes) rest (cc)))

-- a line that is taken is two digits, its numbers and the end
take_line-length : (kind n : ℕ) (bytes : List ℕ) (t : Taken (List ℕ)) → take_line kind n bytes ≡ some t
    → length bytes ≤ 4 + 4 * n + length t.rest
unfolding take_line
take_line-length kind n bytes t e =
    some-from (take_digits 2 0 bytes) e (λ w. cc) λ a h f.
    true-from (eqb a.value kind) f (λ w. cc) λ p g.
    some-from (take_numbers n a.rest) g (λ w. cc) λ b i j.
    some-from (take_end b.rest) j (λ w. cc) λ rest k w.
    let r : rest ≡ t.rest = cc in
    omega (
      arith,
      take_digits-length 2 0 bytes a h,
      take_numbers-length n a.rest b i,
      take_end-length b.rest rest k,
      ap length r,
    )

-- n triangle lines that are taken are 16 n bytes at most
take_triangles-length : (n place : ℕ) (so_far bytes T : List ℕ) → take_triangles n place so_far bytes ≡ corners T
    → length bytes ≤ 16 * n
unfolding take_triangles
take_triangles-length zero place so_far [] T e = omega arith
take_triangles-length zero place so_far (byte ∷ bytes) T e = let z : ◌≡◌ {A = ℕ} 0 1 = cc in absurd (omega arith)
take_triangles-length (suc n) place so_far bytes T e =
    some-from (take_line 0x46 3 bytes) e (λ w. cc) λ a h r.
    omega (
      arith,
      take_line-length 0x46 3 bytes a h,
      take_triangles-length n (suc place) (so_far ++ a.value) a.rest T r,
    )

-- ---- frames

-- the mesh line says two numbers
mesh_line-numbers : (xs : List ℕ) → length xs ≡ 2 → mesh_line (at xs 0) (at xs 1) ≡ line 0x4D (numbers xs)
unfolding mesh_line numbers four_digits
mesh_line-numbers [] e = absurd (omega arith)
mesh_line-numbers (N ∷ []) e = absurd (omega arith)
mesh_line-numbers (N ∷ F ∷ []) e = refl
mesh_line-numbers (N ∷ F ∷ x ∷ xs) e = absurd (omega arith)

-- a mesh that is read is made of corners that were read
mesh_of-corners : (M N : ℕ) (C : Corners) (T : List ℕ) → mesh_of M C ≡ mesh N T → (M ≡ N) × (C ≡ corners T)
unfolding mesh_of
mesh_of-corners M N (corners S) T e = (cc, cc)
mesh_of-corners M N (wrong_line place) T e = (cc, cc)

-- the first line of written frames reads back
pub take_line-frames : (N : ℕ) (T : List ℕ) → N < 65536 → triangles T < 65536
    → take_line 0x4D 2 (frames N T) ≡ some (taken (N ∷ triangles T ∷ []) (triangle_lines T (triangles T)))
unfolding frames
take_line-frames N T low few =
    cc (
      mesh_line-numbers (N ∷ triangles T ∷ []) refl,
      take_line-line 0x4D 2 (N ∷ triangles T ∷ []) (triangle_lines T (triangles T)) (omega arith)
          (small-append 2 refl (small_one N low) (small_one (triangles T) few)),
    )

-- written frames read back to the mesh, where its numbers have four digits and the limits and the room allow it
pub read-written : (room N : ℕ) (T : List ℕ) → length T ≡ 3 * triangles T → triangles T ≤ most_triangles
    → N ≤ most_vertices → ((c : ℕ) → c < length T → at T c < 65536) → 3 * triangles T ≤ room
    → read_frames room (frames N T) ≡ mesh N T
unfolding read_frames mesh_of
read-written room N T whole few low small fits =
    cc (
      take_line-frames N T (omega arith) (omega arith),
      le-ltb most_triangles (triangles T) few,
      le-ltb most_vertices N low,
      le-ltb room (3 * triangles T) fits,
      take_triangles-triangle_lines (triangles T) 1 [] T (record { long = whole; below = small }),
    )

-- what was read is whole, within the limits and the room, of four digits and of few bytes, and is written as it was, in
-- upper case and without CR
record ReadAs (room N : ℕ) (bytes T : List ℕ) : Type 0 where
  whole : length T ≡ 3 * triangles T
  few : triangles T ≤ most_triangles
  low : N ≤ most_vertices
  fits : 3 * triangles T ≤ room
  small : (c : ℕ) → c < length T → at T c < 65536
  long : length bytes ≤ 12 + 16 * triangles T
  same : frames N T ≡ to_upper_and_lf bytes

-- a file that is read as a mesh passes the tests, and its lines stood as they are written
read_as : (room N : ℕ) (bytes T : List ℕ) → read_frames room bytes ≡ mesh N T → ReadAs room N bytes T
unfolding read_frames frames
read_as room N bytes T e =
    some-from (take_line 0x4D 2 bytes) e (λ w. cc) λ a h f.
    false-from (ltb most_triangles (at a.value 1) || ltb most_vertices (at a.value 0)) f (λ w. cc) λ p g.
    false-from (ltb room (3 * at a.value 1)) g (λ w. cc) λ q r.
    let m = mesh_of-corners (at a.value 0) N (take_triangles (at a.value 1) 1 [] a.rest) T r in
    joined a (line-take_line 0x4D 2 bytes a h) (take_line-length 0x4D 2 bytes a h) m.0 (within-limits _ _ _ _ p)
    (ltb-false room _ q) (triangle_lines-take_triangles (at a.value 1) 1 [] a.rest T m.1)
    (take_triangles-length (at a.value 1) 1 [] a.rest T m.1)
  where
    joined : (a : Taken (List ℕ)) → TakenAs (λ xs. line 0x4D (numbers xs)) (Small 2) bytes a
        → length bytes ≤ 12 + length a.rest → at a.value 0 ≡ N
        → (at a.value 1 ≤ most_triangles) × (at a.value 0 ≤ most_vertices) → 3 * at a.value 1 ≤ room
        → CornersOf (at a.value 1) [] a.rest T → length a.rest ≤ 16 * at a.value 1 → ReadAs room N bytes T
    joined a p first is limits fits q later =
        let l : length T ≡ 3 * at a.value 1 = omega (arith, ap length q.all) in
        let F : triangles T ≡ at a.value 1 = omega arith in
        record {
          whole = omega arith;
          few = omega arith;
          low = omega arith;
          fits = omega arith;
          small = rw q.all q.small.below;
          long = omega arith;
          same = cc (mesh_line-numbers a.value p.fits.long, p.same);
        }

-- what is read and written again is the same bytes, in upper case and without CR
pub write_read : (room N : ℕ) (bytes T : List ℕ) → read_frames room bytes ≡ mesh N T → frames N T ≡ to_upper_and_lf bytes
write_read room N bytes T e = (read_as room N bytes T e).same

-- what is read is whole
pub read_whole : (room N : ℕ) (bytes T : List ℕ) → read_frames room bytes ≡ mesh N T → length T ≡ 3 * triangles T
read_whole room N bytes T e = (read_as room N bytes T e).whole

-- it is within the limit of triangles
pub read-few : (room N : ℕ) (bytes T : List ℕ) → read_frames room bytes ≡ mesh N T → triangles T ≤ most_triangles
read-few room N bytes T e = (read_as room N bytes T e).few

-- and within that of vertices
pub read_low : (room N : ℕ) (bytes T : List ℕ) → read_frames room bytes ≡ mesh N T → N ≤ most_vertices
read_low room N bytes T e = (read_as room N bytes T e).low

-- it fits into the room
pub read_fits : (room N : ℕ) (bytes T : List ℕ) → read_frames room bytes ≡ mesh N T → 3 * triangles T ≤ room
read_fits room N bytes T e = (read_as room N bytes T e).fits

-- and four digits are enough for each corner
pub read_small : (room N : ℕ) (bytes T : List ℕ) → read_frames room bytes ≡ mesh N T
    → (c : ℕ) → c < length T → at T c < 65536
read_small room N bytes T e = (read_as room N bytes T e).small

-- and the file was 12 + 16F bytes at most
pub read-long : (room N : ℕ) (bytes T : List ℕ) → read_frames room bytes ≡ mesh N T
    → length bytes ≤ 12 + 16 * triangles T
read-long room N bytes T e = (read_as room N bytes T e).long

-- ---- how long frames are

-- n triangle lines are 15 n bytes
triangle_lines-length : (T : List ℕ) (n : ℕ) → length (triangle_lines T n) ≡ 15 * n
unfolding triangle_lines triangle_line line two_digits four_digits
triangle_lines-length T zero = refl
triangle_lines-length T (suc n) = simp length-append (omega (arith, triangle_lines-length T n))

-- "writing 11 + 15F bytes"
pub frames-length : (N : ℕ) (T : List ℕ) → length (frames N T) ≡ 11 + 15 * triangles T
unfolding frames mesh_line line two_digits four_digits
frames-length N T = simp length-append (omega (arith, triangle_lines-length T (triangles T)))
