-- What the part of undo several that does the work is lent, lengths that have been judged, and what it does.
use Rattle.std.specs.Prelude.{ℕ, List, ◌∷◌, map, length, Result}
use Rattle.theory.specs.Calls.{SeveralAnswer, zeros, undo_several_size_rules, lent_to_undo_several, UndoesSeveral}
use Rattle.limits.specs.declared.refusal.Refusal.{Refusal}
use Rattle.limits.specs.Judged.{JudgedAs}
use Rattle.undo_role.specs.Buffers.{Buffers}
use Rattle.calls_undo_one.specs.Undoing as one

-- The work buffers of undo several: one for the mesh that is undone next, and those of undo one.
abbrev pub works : List ℕ → Buffers → List (List ℕ)
works current b = current ∷ one.works b

-- The result is what 1 to 5 come to.
pub record SeveralLent (sized : Result Unit Refusal) (N : ℕ) (T : List ℕ) (asked : ℕ) (out current : List ℕ) (b : Buffers)
    : Type 0 where
  pub judged : JudgedAs (undo_several_size_rules N (length T) asked (lent_to_undo_several N T out (works current b))) sized

-- What undo several does, for when the work buffers are cleared: "Work buffers are all zero after every call."
abbrev pub UndoesLevels : ℕ → List ℕ → ℕ → List ℕ → List ℕ → Buffers → SeveralAnswer → List ℕ → Type 0
UndoesLevels N T asked out current b answer out' =
    UndoesSeveral N T asked out (works current b) answer out' (map zeros (works current b))
