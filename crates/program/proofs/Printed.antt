-- What is put, from the front of a buffer on, and what is then printed there.
use Prim.Native.Nat.{ℕ}
use native.Mathlib.Omega.{arith}
use mathlib.Core.Path.{◌≡◌, ◌∙◌, refl, sym, ap, subst}
use mathlib.Core.List.{List}
use lib.ListN.{length, drop}
use lib.Seq.{take_at, drop_at}
use Rattle.std.specs.Prelude.{Result, Ok, Err, IsErrAnd}
use Rattle.theory.specs.Calls.{written}
use Rattle.theory.specs.Program.{answer_line}
use Rattle.limits.specs.declared.refusal.Refusal.{Refusal}
use Rattle.limits.specs.Numbers.{number_of, place_of}
use Rattle.frames_write.specs.declared.puts.Writer.{Writer}
use Rattle.frames_write.specs.Putting.{Room, Put}
use Rattle.frames_write.proofs.Appends.{answer_line-length, put_written}
use Rattle.program.specs.Answering.{TextLent, Printed, TextRoom, TextPut, TextLeft, Answered}

-- the line of a refusal
abbrev pub line_of : Refusal → List ℕ
line_of refusal = answer_line (number_of refusal) 0 (place_of refusal)

-- a refusal that a `?` returns puts nothing
pub refusal-left : (right : List ℕ → Type 0) (refusal : Refusal) (w : Writer) (result : Result Unit Refusal)
    → IsErrAnd result (λ e. e ≡ refusal) → right (line_of refusal) → Answered right w result w
refusal-left right refusal w (Ok done) none is = absurd none
refusal-left right refusal w (Err same) e is = record { is = rw e is; stays = refl }

-- what comes of a mesh comes of the input that it was read from
pub answered-by : {right other : List ℕ → Type 0} (w w' : Writer) (result : Result Unit Refusal)
    → ((text : List ℕ) → other text → right text) → Answered other w result w' → Answered right w result w'
answered-by w w' (Ok done) by A = record { text = A.text; is = by A.text A.is; short = A.short; put = A.put }
answered-by w w' (Err refusal) by A = record { is = by (line_of refusal) A.is; stays = A.stays }

module _ {right : List ℕ → Type 0} where
  -- there is room for its line
  pub line-room : {refusal : Refusal} {w w' : Writer} → TextRoom w → TextLeft right refusal w w' → Room (line_of refusal) w'
  line-room {refusal} room L =
      rw L.stays (record { fits = omega (arith, room.fits, answer_line-length (number_of refusal) 0 (place_of refusal)) })

  -- which is put
  pub line-put : {refusal : Refusal} {w w' w'' : Writer} → TextLeft right refusal w w' → Put (line_of refusal) w' w''
      → TextPut right w w''
  line-put {refusal} L put = record {
    text = line_of refusal;
    is = L.is;
    short = omega (arith, answer_line-length (number_of refusal) 0 (place_of refusal));
    put = rw L.stays at put;
  }

  -- a right text that was put from the front of a buffer on is printed
  pub put-printed : {text : List ℕ} {w w' : Writer} → w.bytes.now ≡ text → w.place ≡ 0 → TextLent text
      → TextPut right w w' → {text' : List ℕ} → text' ≡ w'.bytes.now → Printed right text w'.place text'
  put-printed {text} {w} {w'} same front lent P {text'} kept =
      let new = P.text in
      let long : length new ≡ w'.place = omega (arith, P.put.ends) in
      let leaves : text' ≡ written new text = kept ∙ put_written P.put same front (omega (arith, lent.long, P.short)) in
      record {
        prints = subst right (sym (rw leaves (take_at new (drop (length new) text) w'.place long))) P.is;
        short = omega (arith, P.short);
        stays = rw leaves (drop_at new (drop (length new) text) w'.place long) ∙ ap (λ n. drop n text) long;
      }
