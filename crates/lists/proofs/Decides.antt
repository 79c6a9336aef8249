-- Answers of yes or no: what true and false decide.
use Prim.Native.Nat.{ℕ}
use native.Mathlib.Omega.{arith}
use mathlib.Core.Path.{◌≡◌, ◌∙◌, sym}
use mathlib.Core.Bool.{Bool, true, false}
use Rattle.lists.specs.Decides.{Decides}

-- false is not true
pub false-true : false ≡ true → ⊥
false-true e = let z : ◌≡◌ {A = ℕ} 0 1 = cc in absurd (omega arith)

-- an answer that decides A decides B, where each gives the other
pub decides-moved : {A B : Type 0} {answer : Bool} → (A → B) → (B → A) → Decides A answer → Decides B answer
decides-moved there here D = record { sound = λ e. there (D.sound e); complete = λ b. D.complete (here b) }

-- false decides what does not hold
pub decides_not : {A : Type 0} → (A → ⊥) → Decides A false
decides_not n = record { sound = λ e. absurd (false-true e); complete = λ a. absurd (n a) }

-- where the answer is false, A does not hold
pub decided-not : {A : Type 0} {answer : Bool} → Decides A answer → answer ≡ false → A → ⊥
decided-not D e a = false-true (sym e ∙ D.complete a)
