-- The judgement by rows of document 01's table of refusals.
use Rattle.std.specs.Prelude.{ℕ, List, Result, Ok, Err}
use Rattle.theory.specs.Refusals.{Rule, Passed, Refused}
use Rattle.limits.specs.declared.refusal.Refusal.{Refusal}
use Rattle.limits.specs.Numbers.{number_of, place_of}

-- The number and the place that the rules give, or 0 and 0 where they are passed.
pub data Judged (rules : List Rule) : ℕ → ℕ → Type 0 where
  passes : Passed rules → Judged rules 0 0
  fails : {number place : ℕ} → Refused rules number place → Judged rules number place

-- ---- of a result, whose error is a refusal

-- The number that a result says, "0 when accepted".
abbrev pub said_number : Result Unit Refusal → ℕ
said_number (Ok accepted) = 0
said_number (Err refusal) = number_of refusal

-- And the place.
abbrev pub said_place : Result Unit Refusal → ℕ
said_place (Ok accepted) = 0
said_place (Err refusal) = place_of refusal

-- The result says the number and the place that the rules give.
abbrev pub JudgedAs : List Rule → Result Unit Refusal → Type 0
JudgedAs rules result = Judged rules (said_number result) (said_place result)
