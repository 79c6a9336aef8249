-- What the part of split that does the work is lent, lengths that have been judged, and what it does.
use Rattle.std.specs.Prelude.{ℕ, List, map, length, Result}
use Rattle.theory.specs.Calls.{Answer, zeros, split_size_rules, lent_to_split, Splits}
use Rattle.limits.specs.declared.refusal.Refusal.{Refusal}
use Rattle.limits.specs.Judged.{JudgedAs}

-- The result is what 2 to 5 come to.
pub record SplitLent (sized : Result Unit Refusal) (N : ℕ) (T out : List ℕ) (works : List (List ℕ)) : Type 0 where
  pub judged : JudgedAs (split_size_rules N (length T) (lent_to_split N T out works)) sized

-- What split does, for when the work buffers are cleared: "Work buffers are all zero after every call."
abbrev pub SplitsMesh : ℕ → List ℕ → List ℕ → List (List ℕ) → Answer → List ℕ → Type 0
SplitsMesh N T out works answer out' = Splits N T out works answer out' (map zeros works)
