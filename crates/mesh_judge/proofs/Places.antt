-- From the least place that a search finds to the judgement by a row.
use Prim.Native.Nat.{ℕ, ◌<◌}
use mathlib.Core.List.{List, ◌∷◌}
use Rattle.std.proofs.Common.{Some, None}
use Rattle.theory.specs.Refusals.{Rule}
use Rattle.lists.specs.Places.{Least}
use Rattle.lists.specs.Places.Least.{found, none}
use Rattle.limits.specs.Judged.{Judged}
use Rattle.limits.proofs.Judgement.{Nowhere, judged-here}

-- a place of the first row is the judgement's
pub judged-found : {rule : Rule} {rules : List Rule} {n place : ℕ} → Least rule.given n (Some place)
    → Judged (rule ∷ rules) rule.number place
judged-found (found l here before) = judged-here (record { here = here; before = before })

-- a row that is given below n alone, and has no place there, is given nowhere
pub none-nowhere : {given : ℕ → Type 0} {n : ℕ} → ((k : ℕ) → given k → k < n) → Least given n None → Nowhere given
none-nowhere below (none all) k g = all k (below k g) g
