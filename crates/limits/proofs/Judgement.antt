-- The judgement by a list of rows: the first row is given, or it is not and the others judge; of two lists one after
-- the other the second judges where the first is passed; and the last row may be said in other words. Then what a
-- result says, and what a `?` on it leaves.
use Prim.Native.Nat.{ℕ, ◌<◌}
use native.Mathlib.Omega.{arith}
use mathlib.Core.Path.{◌≡◌, refl}
use mathlib.Core.Logic.{◌≢◌, inl, inr}
use mathlib.Core.List.{List, [], ◌∷◌, ◌++◌}
use Rattle.theory.specs.Refusals.{Rule, NoPlace, LeastPlace, Passed, Refused}
use Rattle.theory.proofs.Refusals.{at-place-0, least_number, refused-above, refused-by-front}
use Rattle.theory.proofs.Refusals.{passed-either, refused-either}
use Rattle.std.specs.Prelude.{Result, Ok, Err, IsErrAnd}
use Rattle.limits.specs.declared.refusal.Refusal.{Refusal}
use Rattle.limits.specs.Numbers.{number_of, place_of}
use Rattle.limits.specs.Judged.{Judged, JudgedAs, passes, fails}

-- ---- the first row

-- a row is given nowhere
abbrev pub Nowhere : (ℕ → Type 0) → Type 0
Nowhere given = (place : ℕ) → given place → ⊥

-- no row judges nothing
pub judged-none : Judged [] 0 0
unfolding Passed
judged-none = passes tt

module _ {rule : Rule} {rules : List Rule} where
  -- the least place of the first row is the judgement's
  pub judged-here : {place : ℕ} → LeastPlace rule.given place → Judged (rule ∷ rules) rule.number place
  unfolding Refused
  judged-here least = fails (inl (refl, least))

  -- where the first row is given nowhere, the others judge
  pub judged-later : {number place : ℕ} → Nowhere rule.given → Judged rules number place
      → Judged (rule ∷ rules) number place
  unfolding Passed Refused
  judged-later none (passes p) = passes (none, p)
  judged-later none (fails f) = fails (inr (none, f))

module _ {number : ℕ} {condition : Type 0} {rules : List Rule} where
  -- a row without a place whose condition holds is given at place 0
  pub judged-at-0 : condition → Judged (record { number = number; given = NoPlace condition } ∷ rules) number 0
  judged-at-0 holds = judged-here (at-place-0 holds)

  -- and one whose condition does not hold leaves the judgement to the others
  pub judged-not : {verdict place : ℕ} → (condition → ⊥) → Judged rules verdict place
      → Judged (record { number = number; given = NoPlace condition } ∷ rules) verdict place
  judged-not not others = judged-later (λ p given. not given.0) others

-- ---- the verdict

-- a verdict of 0 says that all rows are passed, where their numbers are above 0
pub judged-passed : {rules : List Rule} {number place : ℕ} → Judged rules number place → number ≡ 0
    → 0 < least_number rules → Passed rules
judged-passed (passes p) e l = p
judged-passed {rules} {number} {place} (fails f) e l = absurd (omega (arith, refused-above rules number place f l))

-- and a verdict other than 0 is a refusal
pub judged-refused : {rules : List Rule} {number place : ℕ} → Judged rules number place → number ≢ 0
    → Refused rules number place
judged-refused (passes p) n = absurd (n refl)
judged-refused (fails f) n = f

-- ---- two lists of rows, one after the other

-- a verdict other than 0 of the first is that of both
pub judged-front : {front : List Rule} (back : List Rule) {number place : ℕ} → Judged front number place → number ≢ 0
    → Judged (front ++ back) number place
judged-front {front} back {number} {place} verdict n =
    fails (refused-by-front front back number place (judged-refused verdict n))

-- and where the first is passed, the second judges
pub judged-back : (front : List Rule) {back : List Rule} {number place : ℕ} → Passed front → Judged back number place
    → Judged (front ++ back) number place
unfolding Passed
judged-back [] p verdict = verdict
judged-back (rule ∷ rules) (none, p) verdict = judged-later none (judged-back rules p verdict)

-- ---- the last row in other words

-- a last row without a place may have another condition that holds exactly if this one does
pub judged-either : (front : List Rule) (number : ℕ) {verdict place : ℕ} {one other : Type 0} → (one → other)
    → (other → one) → Judged (front ++ (record { number = number; given = NoPlace one } ∷ [])) verdict place
    → Judged (front ++ (record { number = number; given = NoPlace other } ∷ [])) verdict place
judged-either front number there back (passes p) = passes (passed-either number there back [] front p)
judged-either front number {verdict} {place} there back (fails f) =
    fails (refused-either number there back [] front verdict place f)

-- ---- of a result

-- every refusal has a number above 0
pub number-above : (refusal : Refusal) → 0 < number_of refusal
number-above refusal = grind arith

-- where the result is accepted, all rows are passed
pub judged-ok : {rules : List Rule} → Judged rules 0 0 → 0 < least_number rules → Passed rules
judged-ok verdict l = judged-passed verdict refl l

-- and a refusal is theirs
pub judged-err : {rules : List Rule} (refusal : Refusal) → JudgedAs rules (Err refusal)
    → Refused rules (number_of refusal) (place_of refusal)
judged-err refusal verdict = judged-refused verdict (λ e. omega (arith, number-above refusal))

-- after a `?`, the rows that come later judge
pub judged-then : (front : List Rule) {back : List Rule} {number place : ℕ} → Judged front 0 0 → 0 < least_number front
    → Judged back number place → Judged (front ++ back) number place
judged-then front verdict l later = judged-back front (judged-ok verdict l) later

-- and where it returns, its refusal is that of all
pub judged-exit : {front : List Rule} (back : List Rule) (refusal : Refusal) (result : Result Unit Refusal)
    → JudgedAs front (Err refusal) → IsErrAnd result (λ e. e ≡ refusal) → JudgedAs (front ++ back) result
judged-exit back refusal (Ok accepted) verdict none = absurd none
judged-exit back refusal (Err same) verdict e =
    rw e (judged-front back verdict (λ z. omega (arith, number-above refusal)))
