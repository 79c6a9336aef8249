-- Laws of what a run says: digits and their value, and -1; and of the stretch at a place, read byte by byte.
use Prim.Native.Nat.{ℕ, ◌+◌, ◌-◌, ◌*◌, ◌≤◌, ◌<◌}
use native.Mathlib.Omega.{arith}
use mathlib.Core.Path.{◌≡◌, refl, sym, ap, ◌∙◌}
use mathlib.Core.Bool.{Bool, true, false, not, ◌&&◌, and-true, and-false, and-eq-true_iff}
use mathlib.Core.Option.{none, some}
use mathlib.Core.List.{List, [], ◌∷◌}
use borrow.Author.Tests.{lt-leb, le-leb, lt-ltb, le-ltb, ne_eqb, ltb-true, not-false}
use lib.Dec.{ltb, eqb}
use lib.ListN.{length, drop, drop_of_length-le}
use Rattle.std.specs.Char.{is_ascii_digit}
use Rattle.std.specs.Prelude.{Some, None}
use Rattle.theory.specs.Mesh.{at}
use Rattle.theory.specs.Index.{separator, comment_start, corner, close, wrong, decimal_value, corner_said, is_minus_one, says}
use Rattle.theory.proofs.Frames.{within}
use Rattle.theory.proofs.Index.{Digit, digit-ordinary, decimal_value-digit}
use Rattle.index_read.specs.Bytes.{ends_run}
use Rattle.index_read.specs.Runs.{goes_on, close_at, stretch, RunLent, RunTaken}
use Rattle.index_read.specs.declared.runs.Run.TheVariants as run
use Rattle.index_read.proofs.Stretches.{test-inside, test-outside, byte-goes_on, no_end, stretch-ends}
use Rattle.index_read.proofs.Stretches.{stretch-here}
use Rattle.lists.proofs.Lists.{by-lt, drop-inside}

-- ---- digits

-- a digit is 48 to 57
pub digit-range : (byte : ℕ) → is_ascii_digit byte ≡ true → Digit byte
digit-range byte e =
    let range = within 48 byte 57 e in
    record { low = range.0; high = range.1 }

-- a digit ends no run
digit-no-end : (byte : ℕ) → is_ascii_digit byte ≡ true → ends_run byte ≡ false
digit-no-end byte e =
    let ordinary = digit-ordinary byte (digit-range byte e) in
    no_end byte ordinary.no_separator ordinary.no_comment

-- where one stands, the stretch starts with it
pub digit-stretch : (text : List ℕ) (i : ℕ) → i < length text → is_ascii_digit (at text i) ≡ true
    → stretch (drop i text) ≡ at text i ∷ stretch (drop (i + 1) text)
digit-stretch text i l digit = stretch-here text i l (byte-goes_on text i l (digit-no-end (at text i) digit))

-- ---- values

-- another byte than a digit is in no number
pub value-wrong : (before byte : ℕ) (bytes : List ℕ) → is_ascii_digit byte ≡ false
    → decimal_value before (byte ∷ bytes) ≡ none
unfolding decimal_value
value-wrong before byte bytes e = cc

-- a value that is too large stays so, whatever follows
pub too_large : (before : ℕ) (bytes : List ℕ) → 65535 < before → corner_said (decimal_value before bytes) ≡ wrong
unfolding corner_said decimal_value
too_large before [] l = cc (lt-leb before 65535 l)
too_large before (byte ∷ bytes) l =
    go (is_ascii_digit byte) refl (too_large (10 * before + (byte - 48)) bytes (omega arith))
  where
    go : (b : Bool) → is_ascii_digit byte ≡ b → corner_said (decimal_value (10 * before + (byte - 48)) bytes) ≡ wrong
        → corner_said (decimal_value before (byte ∷ bytes)) ≡ wrong
    go true e later = ap corner_said (decimal_value-digit before byte bytes (digit-range byte e)) ∙ later
    go false e later = ap corner_said (value-wrong before byte bytes e)

-- a value that is not is a corner
pub small-corner : (n : ℕ) → n ≤ 65535 → corner_said (some n) ≡ corner n
unfolding corner_said
small-corner n l = cc (le-leb n 65535 l)

-- ---- what bytes say

-- bytes that are not -1 are judged as a number
pub says-number : (bytes : List ℕ) → is_minus_one bytes ≡ false → says bytes ≡ corner_said (decimal_value 0 bytes)
unfolding says
says-number bytes e = cc

-- -1 closes a face
says-close : (bytes : List ℕ) → is_minus_one bytes ≡ true → says bytes ≡ close
unfolding says
says-close bytes e = cc

-- and has two bytes
minus_one-long : (bytes : List ℕ) → is_minus_one bytes ≡ true → length bytes ≡ 2
unfolding is_minus_one
minus_one-long [] e = let z : ◌≡◌ {A = ℕ} 0 1 = cc in absurd (omega arith)
minus_one-long (first ∷ []) e = let z : ◌≡◌ {A = ℕ} 0 1 = cc in absurd (omega arith)
minus_one-long (first ∷ second ∷ []) e = refl
minus_one-long (first ∷ second ∷ third ∷ others) e = let z : ◌≡◌ {A = ℕ} 0 1 = cc in absurd (omega arith)

-- ---- the run at a place

module _ (text : List ℕ) (i : ℕ) where
  -- where no run goes on, the stretch is empty
  pub stretch-none : goes_on text i ≡ false → stretch (drop i text) ≡ []
  unfolding goes_on stretch
  stretch-none e = by-lt i (length text) inside (λ l. rw (drop_of_length-le text l))
    where
      inside : i < length text → stretch (drop i text) ≡ []
      inside l =
          let test = not (ends_run (at text i)) in
          rw (drop-inside text i l)
          (stretch-ends (at text i) (drop (i + 1) text)
          (not-false (ends_run (at text i)) (sym (test-inside i (length text) test l) ∙ e)))

  -- as it is at a byte that ends one
  pub stretch-stops : i < length text → ends_run (at text i) ≡ true → stretch (drop i text) ≡ []
  stretch-stops l e = rw (drop-inside text i l) (stretch-ends (at text i) (drop (i + 1) text) e)

  -- and behind the text
  pub stretch-end : length text ≤ i → stretch (drop i text) ≡ []
  unfolding goes_on
  stretch-end l = stretch-none (test-outside i (length text) _ l)

  -- where one does, a byte stands
  on-inside : goes_on text i ≡ true → i < length text
  unfolding goes_on
  on-inside on =
      ltb-true i (length text) ((and-eq-true_iff (ltb i (length text)) (not (ends_run (at text i)))).0 on).0

  -- and the stretch starts with it
  pub stretch-on : goes_on text i ≡ true → stretch (drop i text) ≡ at text i ∷ stretch (drop (i + 1) text)
  stretch-on on = stretch-here text i (on-inside on) on

-- the tests of two bytes, and of the place behind them, are those of the bytes of the run there
module _ (text : List ℕ) (from : ℕ) (lent : RunLent text from) where
  -- a 1 goes on with a run
  one-goes_on : from + 1 < length text → at text (from + 1) ≡ 49 → goes_on text (from + 1) ≡ true
  unfolding ends_run separator comment_start
  one-goes_on l e = byte-goes_on text (from + 1) l (rw e refl)

  -- the tests of the two bytes
  abbrev first : Bool
  first = eqb (at text from) 45

  abbrev second : Bool
  second = eqb (at text (from + 1)) 49

  -- what the tests say, where the run is its first byte and others
  abbrev As : List ℕ → Type 0
  As others = close_at text from ≡ is_minus_one (at text from ∷ others)

  -- the text ends behind it
  at_end : length text ≤ from + 1 → As (stretch (drop (from + 1) text))
  unfolding close_at is_minus_one
  at_end l =
      rw (stretch-end text (from + 1) l, le-ltb (from + 1) (length text) l, and-false first)

  module _ (l : from + 1 < length text) where
    -- the run ends behind it
    alone : goes_on text (from + 1) ≡ false → As (stretch (drop (from + 1) text))
    unfolding close_at is_minus_one
    alone e =
        let other : eqb (at text (from + 1)) 49 ≡ false =
        ne_eqb (at text (from + 1)) 49 (λ one.
        let z : ◌≡◌ {A = ℕ} 0 1 = cc (e, one-goes_on l one) in
        absurd (omega arith)) in
        rw (stretch-none text (from + 1) e, lt-ltb (from + 1) (length text) l, other, and-false first)

    -- the run goes on with another byte
    followed : goes_on text (from + 1) ≡ true → As (stretch (drop (from + 1) text))
    unfolding close_at is_minus_one
    followed on =
        let e : from + 1 + 1 ≡ from + 2 = omega arith in
        rw (stretch-on text (from + 1) on, lt-ltb (from + 1) (length text) l, e) (go (goes_on text (from + 2)) refl)
      where
        go : (b : Bool) → goes_on text (from + 2) ≡ b
            → (first && second) && not (goes_on text (from + 2))
            ≡ is_minus_one (at text from ∷ at text (from + 1) ∷ stretch (drop (from + 2) text))
        go true more = rw (stretch-on text (from + 2) more, more) (and-false (first && second))
        go false over = rw (stretch-none text (from + 2) over, over) (and-true (first && second))

  pub close-run : close_at text from ≡ is_minus_one (stretch (drop from text))
  close-run =
      rw (stretch-here text from lent.inside lent.starts)
      (by-lt (from + 1) (length text) (λ l. go l (goes_on text (from + 1)) refl) at_end)
    where
      go : from + 1 < length text → (b : Bool) → goes_on text (from + 1) ≡ b → As (stretch (drop (from + 1) text))
      go l true on = followed l on
      go l false e = alone l e

-- ---- what is taken

-- a run that says nothing right is answered so
pub taken-wrong : {text : List ℕ} {from : ℕ} → says (stretch (drop from text)) ≡ wrong → RunTaken text from None
taken-wrong e = record { said = sym e; ends = tt }

-- and -1 closes a face
pub taken-close : {text : List ℕ} {from : ℕ} → is_minus_one (stretch (drop from text)) ≡ true
    → RunTaken text from (Some (run.Close, from + 2))
taken-close {text} {from} e = record {
  said = sym (says-close _ e);
  ends = omega (arith, minus_one-long (stretch (drop from text)) e);
}
