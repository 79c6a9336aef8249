-- The verdict on the sizes of a call, which is judged by the shortest of its work buffers, is that by all of them.
use Prim.Native.Nat.{ℕ}
use mathlib.Core.Path.{◌≡◌, subst}
use mathlib.Core.List.{List, [], ◌∷◌, ◌++◌}
use Rattle.theory.specs.Refusals.{Rule, Room, too_short}
use Rattle.theory.specs.Calls.{work_rooms}
use Rattle.theory.proofs.Refusals.{least, shortest-short, short-shortest}
use Rattle.limits.specs.Judged.{Judged}
use Rattle.limits.proofs.Judgement.{judged-either}

-- the row of the room comes last, and of the rooms those of the work buffers
pub judged-by-all : (front : List Rule) (N F : ℕ) (outputs : List Room) (work : ℕ) (works : List ℕ)
    {shortest number place : ℕ} → shortest ≡ least work works
    → Judged (front ++ (too_short (outputs ++ work_rooms N F (shortest ∷ [])) ∷ [])) number place
    → Judged (front ++ (too_short (outputs ++ work_rooms N F (work ∷ works)) ∷ [])) number place
judged-by-all front N F outputs work works {shortest} {number} {place} e verdict =
    judged-either front 5 (shortest-short N F outputs work works) (short-shortest N F outputs work works)
    (subst (λ (n : ℕ). Judged (front ++ (too_short (outputs ++ work_rooms N F (n ∷ [])) ∷ [])) number place) e verdict)
