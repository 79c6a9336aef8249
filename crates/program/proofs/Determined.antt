-- The answer's promise leaves one result: how long the text is, and all the bytes of the buffer.
use Prim.Native.Nat.{ℕ}
use native.Mathlib.Omega.{arith}
use mathlib.Core.Path.{◌≡◌, ◌∙◌, sym, ap}
use mathlib.Core.List.{List, ◌++◌}
use lib.ListN.{length, take, drop, take-append-drop}
use lib.Seq.{length-take-le}
use Rattle.theory.specs.Program.{Prints}
use Rattle.theory.proofs.Determined.{prints-determined}
use Rattle.program.specs.Answering.{TextLent, Printed}

-- two results for the same bytes in the same buffer are equal
pub printed-determined : {bytes text : List ℕ} {r s : ℕ} {text' text'' : List ℕ} {asked : ℕ} → TextLent text
    → length text' ≡ length text → length text'' ≡ length text → Printed (Prints bytes asked) text r text'
    → Printed (Prints bytes asked) text s text'' → (r ≡ s) × (text' ≡ text'')
printed-determined {text = text} {r} {s} {text'} {text''} lent long' long'' P Q =
    let same : take r text' ≡ take s text'' = prints-determined P.prints Q.prints in
    let one = length-take-le r text' (omega (arith, lent.long, P.short)) in
    let other = length-take-le s text'' (omega (arith, lent.long, Q.short)) in
    let count : r ≡ s = sym one ∙ ap length same ∙ other in
    let rest : drop r text' ≡ drop s text'' = P.stays ∙ ap (λ n. drop n text) count ∙ sym Q.stays in (
      count,
      sym (take-append-drop r text') ∙ ap (λ front. front ++ drop r text') same
          ∙ ap (λ back. take s text'' ++ back) rest ∙ take-append-drop s text'',
    )
