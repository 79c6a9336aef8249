-- What the part of undo one that does the work is lent, lengths that have been judged, and what it does.
use Rattle.std.specs.Prelude.{ℕ, List, [], ◌∷◌, map, length, Result}
use Rattle.theory.specs.Calls.{OneAnswer, Outputs, zeros, undo_one_size_rules, lent_to_undo_one, UndoesOne}
use Rattle.limits.specs.declared.refusal.Refusal.{Refusal}
use Rattle.limits.specs.Judged.{JudgedAs}
use Rattle.undo_role.specs.Buffers.{Buffers}

-- The work buffers of undo one, in the order in which they are lent.
abbrev pub works : Buffers → List (List ℕ)
works b =
    b.other ∷ b.rows ∷ b.ring ∷ b.marks ∷ b.coarse ∷ b.numbers ∷ b.map ∷ b.faces ∷ b.table ∷ []

-- The result is what 1 to 5 come to.
pub record UndoLent (sized : Result Unit Refusal) (N : ℕ) (T : List ℕ) (asked : ℕ) (out : Outputs) (b : Buffers) : Type 0 where
  pub judged : JudgedAs (undo_one_size_rules N (length T) asked (lent_to_undo_one N T out (works b))) sized

-- What undo one does, for when the work buffers are cleared: "Work buffers are all zero after every call."
abbrev pub UndoesMesh : ℕ → List ℕ → ℕ → Outputs → Buffers → OneAnswer → Outputs → Type 0
UndoesMesh N T asked out b answer out' = UndoesOne N T asked out (works b) answer out' (map zeros (works b))
