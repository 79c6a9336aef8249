-- What the call write index promises, by its rows: 2 and 4 judge the numbers, 5 the room, and where all are passed the
-- text is written.
use Prim.Native.Nat.{ℕ, ◌≤◌, ◌<◌}
use native.Mathlib.Omega.{arith}
use mathlib.Core.Path.{◌≡◌, refl}
use mathlib.Core.Logic.{inl, ⊎_elim}
use mathlib.Core.List.{List, [], ◌∷◌}
use lib.ListN.{length}
use Rattle.std.specs.Prelude.{Result, Ok, Err, IsErrAnd}
use Rattle.theory.specs.Limits.{most_triangles}
use Rattle.theory.specs.Mesh.{triangles}
use Rattle.theory.specs.Refusals.{Rule, not_threes, too_large, Short, Passed}
use Rattle.theory.specs.Calls.{written}
use Rattle.theory.specs.Index.{index_text}
use Rattle.theory.specs.Index.{WritesIndex, refuses, accepts}
use Rattle.theory.proofs.Refusals.{large-within, refused-by-front}
use Rattle.limits.specs.declared.refusal.Refusal.{Refusal}
use Rattle.limits.specs.declared.refusal.Refusal.TheVariants.{TooShort}
use Rattle.limits.specs.Judged.{JudgedAs}
use Rattle.limits.proofs.Judgement.{judged-none, judged-at-0, judged-not, judged-passed, judged-err, judged-back}
use Rattle.answers.specs.declared.counts.Text.{Text}
use Rattle.answers.specs.Said.{text_said}

-- The rows that judge the numbers.
abbrev pub sizes : ℕ → List ℕ → List Rule
sizes N T = not_threes (length T) ∷ too_large most_triangles N (triangles T) ∷ []

-- where they are passed, the faces can be counted
pub sizes-countable : (N : ℕ) (T : List ℕ) → Passed (sizes N T) → triangles T ≤ most_triangles
unfolding Passed
sizes-countable N T p = (large-within _ _ _ p.1.0).0

module _ {N : ℕ} {T out : List ℕ} where
  -- a refusal of the numbers is the call's
  pub refuses-size : (refusal : Refusal) (result : Result Text Refusal) → JudgedAs (sizes N T) (Err refusal)
      → IsErrAnd result (λ e. e ≡ refusal) → WritesIndex N T out (text_said result) out
  refuses-size refusal (Ok text) verdict none = absurd none
  refuses-size refusal (Err same) verdict e =
      rw e (refuses _ _ (refused-by-front (sizes N T) _ _ _ (judged-err refusal verdict)) refl refl)

  module _ {bytes : ℕ} (p : Passed (sizes N T)) (long : bytes ≡ length (index_text T)) where
    -- past them, with room for less than the text, it is 5
    pub refuses-room : length out < bytes → WritesIndex N T out (text_said (Err TooShort)) out
    unfolding Short
    refuses-room l =
        refuses _ _ (judged-err TooShort (judged-back (sizes N T) p (judged-at-0 (inl (omega arith))))) refl refl

    -- and with room for it, it is accepted
    pub accepts-room : {out' : List ℕ} → bytes ≤ length out → out' ≡ written (index_text T) out
        → WritesIndex N T out (text_said (Ok (record { size = record { vertices = N; triangles = triangles T }; bytes = bytes }))) out'
    unfolding Short
    accepts-room l w =
        accepts
        (judged-passed
        (judged-back (sizes N T) p (judged-not (⊎_elim (λ h. omega arith) (λ none. none)) judged-none)) refl
        (omega arith))
        (rw long refl) w
