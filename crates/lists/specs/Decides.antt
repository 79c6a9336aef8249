-- Answers of yes or no.
use Rattle.std.specs.Prelude.{◌≡◌, Bool, true}

-- The answer is true exactly if A holds.
pub record Decides (A : Type 0) (answer : Bool) : Type 0 where
  pub sound : answer ≡ true → A
  pub complete : A → answer ≡ true
