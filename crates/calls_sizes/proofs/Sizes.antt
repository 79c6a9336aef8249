-- What a list's size says where 2 to 4 are judged as passed.
use Prim.Native.Nat.{ℕ}
use native.Mathlib.Omega.{arith}
use Rattle.theory.specs.Refusals.{size_rules}
use Rattle.theory.proofs.Refusals.{Sized, sized}
use Rattle.limits.specs.Judged.{Judged}
use Rattle.limits.proofs.Judgement.{judged-ok}

pub judged-sized : (most N entries : ℕ) → Judged (size_rules most N entries) 0 0 → Sized most N entries
judged-sized most N entries verdict = sized most N entries (judged-ok verdict (omega arith))
