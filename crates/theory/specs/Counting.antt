-- Two ways of counting that document 01's numberings rest on: how many pass a test, and the first that does.
use Rattle.std.specs.Prelude.{ℕ, zero, suc, ◌+◌, Bool, true, false}

-- 1 for a test that passes, 0 for one that does not.
abbrev pub bit : Bool → ℕ
bit true = 1
bit false = 0

-- How many of the numbers below n pass the test.
unfoldable pub count : (ℕ → Bool) → ℕ → ℕ
count test zero = 0
count test (suc n) = count test n + bit (test n)

-- The first of the n numbers from i on that passes the test; i + n if none does.
unfoldable pub first_from : (ℕ → Bool) → ℕ → ℕ → ℕ
first_from test i zero = i
first_from test i (suc n) = elim (test i) [ true ↦ i | false ↦ first_from test (suc i) n ]
