-- Laws of the runs of a text, place by place: bytes of no run are passed over, and a stretch of others is one run.
use Prim.Native.Nat.{ℕ, suc, ◌+◌, ◌≤◌, ◌<◌}
use native.Mathlib.Nat.{add-zero}
use native.Mathlib.Numerals.{add-one}
use native.Mathlib.Omega.{arith}
use mathlib.Core.Path.{◌≡◌, refl, sym, ap, ◌∙◌}
use mathlib.Core.Bool.{Bool, true, false, not, ◌&&◌, and-eq-true_iff}
use mathlib.Core.List.{List, [], ◌∷◌, ◌++◌}
use mathlib.Mathlib.Data.Bool.Basic.{or-eq-false-eq-eq-false-and-eq-false as or-eq-false-iff}
use borrow.Author.Tests.{lt-ltb, le-ltb, ltb-true, ne_eqb, eqb-true, not-true, not-false}
use lib.Dec.{ltb, eqb}
use lib.ListN.{length, drop, drop_of_length-le, length-append, length-drop}
use Rattle.std.specs.List.{prefix_len, position_or_len}
use Rattle.std.proofs.lemmas.List.{get_or-drop}
use Rattle.std.proofs.lemmas.List.Sums.{prefix_len-le-length, prefix_len_stops}
use lib.Seq.{drop-drop}
use Rattle.theory.specs.Mesh.{at}
use Rattle.theory.specs.Index.{separator, comment_start, line_end, runs}
use Rattle.theory.proofs.Index.{Each, Ordinary, From, runs-separator, runs-from, nothing-apart, runs-word}
use Rattle.lists.proofs.Lists.{by-lt, drop-inside}
use Rattle.index_read.specs.Bytes.{ends_run}
use Rattle.index_read.specs.Runs.{goes_on, comment_at, stretch, SameRuns}

-- ---- bytes at a place

-- a test of a byte that is to stand at a place is the test alone where one stands
pub test-inside : (i n : ℕ) (test : Bool) → i < n → ltb i n && test ≡ test
test-inside i n test l = rw (lt-ltb i n l)

-- and fails where none does
pub test-outside : (i n : ℕ) (test : Bool) → n ≤ i → ltb i n && test ≡ false
test-outside i n test l = rw (le-ltb i n l)

-- where a run goes on, a byte stands that ends no run
goes_on-byte : (text : List ℕ) (i : ℕ) → i < length text → goes_on text i ≡ true → ends_run (at text i) ≡ false
unfolding goes_on
goes_on-byte text i l e = not-true (ends_run (at text i)) (sym (test-inside i (length text) _ l) ∙ e)

-- where such a byte stands, a run goes on
pub byte-goes_on : (text : List ℕ) (i : ℕ) → i < length text → ends_run (at text i) ≡ false → goes_on text i ≡ true
unfolding goes_on
byte-goes_on text i l e = test-inside i (length text) _ l ∙ ap not e

module _ (text : List ℕ) (i : ℕ) (starts : comment_at text i ≡ true) where
  -- where a comment starts, there is a byte
  pub comment-inside : i < length text
  unfolding comment_at
  comment-inside =
      ltb-true i (length text) ((and-eq-true_iff (ltb i (length text)) (comment_start (at text i))).0 starts).0

  -- after which it goes on
  pub comment-lent : i + 1 ≤ length text
  comment-lent = omega (arith, comment-inside)

  -- it is a #
  pub comment-byte : comment_start (at text i) ≡ true
  unfolding comment_at
  comment-byte = ((and-eq-true_iff (ltb i (length text)) (comment_start (at text i))).0 starts).1

-- ---- bytes of no run

-- a separator starts no comment
separator-no-comment : (byte : ℕ) → separator byte ≡ true → comment_start byte ≡ false
unfolding separator comment_start
separator-no-comment byte e =
    ne_eqb byte 35 λ hash.
    let z : ◌≡◌ {A = ℕ} 0 1 = cc (e, hash) in
    absurd (omega arith)

-- a byte that is neither a separator nor a # ends no run
pub no_end : (byte : ℕ) → separator byte ≡ false → comment_start byte ≡ false → ends_run byte ≡ false
unfolding ends_run
no_end byte s h = cc

-- the end of a line is a separator
line-end-separates : (byte : ℕ) → line_end byte ≡ true → separator byte ≡ true
unfolding line_end separator
line-end-separates byte e = go (eqb byte 13) refl
  where
    go : (b : Bool) → eqb byte 13 ≡ b → separator byte ≡ true
    go true f = let same : byte ≡ 13 = eqb-true byte 13 f in rw same refl
    go false f =
        let ten : eqb byte 10 ≡ true = cc in
        let same : byte ≡ 10 = eqb-true byte 10 ten in
        rw same refl

module _ (place byte : ℕ) (bytes : List ℕ) where
  -- a separator is passed over
  pub runs-separated : separator byte ≡ true → runs false place (byte ∷ bytes) ≡ runs false (suc place) bytes
  runs-separated e = runs-separator place byte bytes (separator-no-comment byte e) e

  -- a # starts a comment
  pub runs-commented : comment_start byte ≡ true → runs false place (byte ∷ bytes) ≡ runs true (suc place) bytes
  unfolding runs
  runs-commented e = cc

  -- which goes on
  pub runs-in-comment : line_end byte ≡ false → runs true place (byte ∷ bytes) ≡ runs true (suc place) bytes
  unfolding runs
  runs-in-comment e = cc

  -- up to the end of its line
  pub runs-line-end : line_end byte ≡ true → runs true place (byte ∷ bytes) ≡ runs false place (byte ∷ bytes)
  unfolding runs
  runs-line-end e = cc (e, runs-separated (line-end-separates byte e))

  -- no run starts at a byte that ends one
  ended-apart : ends_run byte ≡ true → From (suc place) (runs false place (byte ∷ bytes))
  unfolding ends_run
  ended-apart e = go (separator byte) refl
    where
      go : (b : Bool) → separator byte ≡ b → From (suc place) (runs false place (byte ∷ bytes))
      go true f = rw (runs-separated f) (runs-from false (suc place) bytes)
      go false f =
          let hash : comment_start byte ≡ true = cc in
          rw (runs-commented hash) (runs-from true (suc place) bytes)

-- ---- bytes passed over

-- bytes that pass a test are passed over from the front on, where one of them is
passed-by : (comment : Bool) (test : ℕ → Bool)
    → ((place byte : ℕ) (bytes : List ℕ) → test byte ≡ true
    → runs comment place (byte ∷ bytes) ≡ runs comment (suc place) bytes)
    → (place : ℕ) (bytes : List ℕ)
    → runs comment place bytes ≡ runs comment (place + prefix_len test bytes) (drop (prefix_len test bytes) bytes)
unfolding runs
passed-by comment test one place [] = refl
passed-by comment test one place (byte ∷ bytes) = go (test byte) refl (passed-by comment test one (suc place) bytes)
  where
    go : (b : Bool) → test byte ≡ b
        → runs comment (suc place) bytes
        ≡ runs comment (suc place + prefix_len test bytes) (drop (prefix_len test bytes) bytes)
        → runs comment place (byte ∷ bytes)
        ≡ runs comment (place + prefix_len test (byte ∷ bytes)) (drop (prefix_len test (byte ∷ bytes)) (byte ∷ bytes))
    go true e others =
        let k : prefix_len test (byte ∷ bytes) ≡ suc (prefix_len test bytes) = rw e (omega arith) in
        let sum : suc place + prefix_len test bytes ≡ place + suc (prefix_len test bytes) = omega arith in
        rw k (one place byte bytes e ∙ rw sum at others)
    go false e others =
        let k : prefix_len test (byte ∷ bytes) ≡ 0 = cc in
        rw (k, add-zero place)

-- the place behind the bytes from a place on that pass
module _ (text : List ℕ) (from : ℕ) (lent : from ≤ length text) (test : ℕ → Bool) {next : ℕ}
    (behind : next ≡ from + prefix_len test (drop from text)) where
  -- it is within the text
  behind-within : next ≤ length text
  behind-within = omega (arith, behind, prefix_len-le-length test (drop from text), length-drop from text)

  -- the byte there does not pass
  behind-stops : next < length text → test (at text next) ≡ false
  behind-stops l =
      rw (behind, sym (get_or-drop from text (prefix_len test (drop from text)) 0))
      (prefix_len_stops test (drop from text) 0 (omega (arith, l, behind, length-drop from text)))

  -- and the runs go on there
  behind-passed : (comment : Bool)
      → ((place byte : ℕ) (bytes : List ℕ) → test byte ≡ true
      → runs comment place (byte ∷ bytes) ≡ runs comment (suc place) bytes)
      → runs comment from (drop from text) ≡ runs comment next (drop next text)
  behind-passed comment one =
      rw (behind, sym (drop-drop (prefix_len test (drop from text)) from text))
      (passed-by comment test one from (drop from text))

-- the next place is the first where no separator stands, or the text's end
pub record SeparatorsPassed (text : List ℕ) (from next : ℕ) : Type 0 where
  pub passed : SameRuns text from next
  pub stops : next < length text → separator (at text next) ≡ false

-- it is behind the separators
pub separators-passed : (text : List ℕ) (from : ℕ) {next : ℕ} → from ≤ length text
    → next ≡ from + prefix_len separator (drop from text) → SeparatorsPassed text from next
separators-passed text from lent behind = record {
  passed = record {
    onward = omega (arith, behind);
    within = behind-within text from lent separator behind;
    same = behind-passed text from lent separator behind false runs-separated;
  };
  stops = behind-stops text from lent separator behind;
}

-- a comment is passed over, up to where its line or the text ends
module _ (text : List ℕ) (from : ℕ) (starts : comment_at text from ≡ true) {next : ℕ}
    (behind : next ≡ from + 1 + position_or_len line_end (drop (from + 1) text)) where
  -- the runs there are those after the comment
  line-passed : runs true next (drop next text) ≡ runs false next (drop next text)
  unfolding runs
  line-passed =
      by-lt next (length text)
      (λ l. rw (drop-inside text next l)
      (runs-line-end next (at text next) (drop (next + 1) text)
      (not-false (line_end (at text next))
      (behind-stops text (from + 1) (comment-lent text from starts) (λ byte. not (line_end byte)) behind l))))
      (λ l. rw (drop_of_length-le text l))

  pub comment-passed : SameRuns text from next
  comment-passed =
      let lent = comment-lent text from starts in
      record {
        onward = omega (arith, behind);
        within = behind-within text (from + 1) lent (λ byte. not (line_end byte)) behind;
        same =
            rw (drop-inside text from (comment-inside text from starts), add-one from)
            (runs-commented from (at text from) (drop (suc from) text) (comment-byte text from starts))
            ∙ behind-passed text (from + 1) lent (λ byte. not (line_end byte)) behind true
            (λ place byte bytes e. runs-in-comment place byte bytes (not-true (line_end byte) e))
            ∙ line-passed;
      }

-- a byte that ends no run is one of a run
byte-ordinary : (byte : ℕ) → ends_run byte ≡ false → Ordinary byte
unfolding ends_run
byte-ordinary byte e =
    let neither = (or-eq-false-iff (separator byte) (comment_start byte)).0 e in
    record { no_comment = neither.1; no_separator = neither.0 }

-- ---- stretches

-- a byte that ends a run has no stretch
pub stretch-ends : (byte : ℕ) (bytes : List ℕ) → ends_run byte ≡ true → stretch (byte ∷ bytes) ≡ []
unfolding stretch
stretch-ends byte bytes e = cc

-- another byte is the first of it
stretch-more : (byte : ℕ) (bytes : List ℕ) → ends_run byte ≡ false → stretch (byte ∷ bytes) ≡ byte ∷ stretch bytes
unfolding stretch
stretch-more byte bytes e = cc

-- all of it are bytes of a run
stretch-ordinary : (bytes : List ℕ) → Each Ordinary (stretch bytes)
unfolding stretch
stretch-ordinary [] = tt
stretch-ordinary (byte ∷ bytes) = go (ends_run byte) refl (stretch-ordinary bytes)
  where
    go : (b : Bool) → ends_run byte ≡ b → Each Ordinary (stretch bytes) → Each Ordinary (stretch (byte ∷ bytes))
    go true e others = rw (stretch-ends byte bytes e) tt
    go false e others = rw (stretch-more byte bytes e) (byte-ordinary byte e, others)

-- the bytes after it
abbrev after_stretch : List ℕ → List ℕ
after_stretch bytes = drop (length (stretch bytes)) bytes

-- it stands in front of them
stretch-front : (bytes : List ℕ) → stretch bytes ++ after_stretch bytes ≡ bytes
unfolding stretch
stretch-front [] = refl
stretch-front (byte ∷ bytes) = go (ends_run byte) refl (stretch-front bytes)
  where
    go : (b : Bool) → ends_run byte ≡ b → stretch bytes ++ after_stretch bytes ≡ bytes
        → stretch (byte ∷ bytes) ++ after_stretch (byte ∷ bytes) ≡ byte ∷ bytes
    go true e others = rw (stretch-ends byte bytes e)
    go false e others = rw (stretch-more byte bytes e) (ap (λ s. byte ∷ s) others)

-- and no run starts with them
stretch-apart : (place : ℕ) (bytes : List ℕ) → From (suc place) (runs false place (after_stretch bytes))
unfolding stretch
stretch-apart place [] = nothing-apart place
stretch-apart place (byte ∷ bytes) = go (ends_run byte) refl (stretch-apart place bytes)
  where
    go : (b : Bool) → ends_run byte ≡ b → From (suc place) (runs false place (after_stretch bytes))
        → From (suc place) (runs false place (after_stretch (byte ∷ bytes)))
    go true e others = rw (stretch-ends byte bytes e) (ended-apart place byte bytes e)
    go false e others = rw (stretch-more byte bytes e) others

-- ---- the run at a place

module _ (text : List ℕ) (from : ℕ) (inside : from < length text) (starts : goes_on text from ≡ true) where
  -- the stretch there starts with its byte
  pub stretch-here : stretch (drop from text) ≡ at text from ∷ stretch (drop (from + 1) text)
  stretch-here = rw (drop-inside text from inside) (stretch-more _ _ (goes_on-byte text from inside starts))

  -- it has a byte at least, and ends within the text
  pub stretch-some : (0 < length (stretch (drop from text))) × (from + length (stretch (drop from text)) ≤ length text)
  stretch-some =
      let bytes = drop from text in
      let long = ap length (stretch-front bytes) in (
        rw stretch-here (omega arith),
        omega (arith, long, length-append (stretch bytes) (after_stretch bytes), length-drop from text),
      )

  -- the first run is the stretch there, and the others are those after it
  pub runs-stretch : runs false from (drop from text)
      ≡ record { place = from; bytes = stretch (drop from text) }
      ∷ runs false (from + length (stretch (drop from text))) (drop (from + length (stretch (drop from text))) text)
  runs-stretch =
      let bytes = drop from text in
      let s = length (stretch bytes) in
      let rest : drop s bytes ≡ drop (from + s) text = drop-drop s from text in
      ap (runs false from) (sym (stretch-front bytes))
      ∙ runs-word from (from + s) (stretch bytes) (after_stretch bytes) refl stretch-some.0 (stretch-ordinary bytes)
      (stretch-apart (from + s) bytes)
      ∙ ap (λ after. record { place = from; bytes = stretch bytes } ∷ runs false (from + s) after) rest
