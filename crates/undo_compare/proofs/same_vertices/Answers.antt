-- `undo_compare::same_vertices` meets its contract: vertices that are not rotated are the same if they are rotated with
-- two of them swapped.
use Prim.Native.Nat.{ℕ}
use native.Mathlib.Omega.{arith}
use mathlib.Core.Path.{◌≡◌, refl}
use mathlib.Core.Bool.{Bool, false}
use Rattle.lists.specs.Decides.{Decides}
use Rattle.undo_compare.specs.Compared.{Apart, RotatedThree, SameThree}
use Rattle.lists.proofs.Decides.{decides-moved, decided-not}
use Rattle.undo_compare.proofs.Threes.{rotated-same, reversed-same, same-reversed}
use Rattle.undo_compare.proofs.same_vertices.Goals as goal

-- where a, b, c are not rotated, and p, q, r are these with the last two swapped, whether p, q, r are rotated decides
swapped-decides : {a b c p q r x y z : ℕ} {answer other : Bool} → Apart x y z → Decides (RotatedThree a b c x y z) answer
    → answer ≡ false → Decides (RotatedThree p q r x y z) other → p ≡ a → q ≡ c → r ≡ b
    → Decides (SameThree a b c x y z) other
swapped-decides d D n E e f g =
    decides-moved (λ o. reversed-same (rw (← e, ← f, ← g) o))
    (λ same. rw (e, f, g) (same-reversed d same (decided-not D n))) E

pub returns-then-rotated : goal.returns-then-rotated
returns-then-rotated c = let same = rotated-same (c.rotated.ensures.sound c.if-rotated.true) in
    record { sound = λ _. same; complete = λ _. refl }

pub returns : goal.returns
returns c = swapped-decides c.requires c.rotated.ensures c.if-rotated.false
    c.rotated-2.ensures (omega arith) (omega arith) (omega arith)
