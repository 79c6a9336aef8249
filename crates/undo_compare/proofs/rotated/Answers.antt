-- `undo_compare::rotated` meets its contract: rotated vertices are those of which each is followed by what follows
-- it in the others.
use Prim.Native.Nat.{ℕ}
use native.Mathlib.Omega.{arith}
use mathlib.Core.Path.{◌≡◌}
use mathlib.Core.Bool.{false}
use lib.Dec.{eqb}
use borrow.Author.Tests.{eqb-true, eq-eqb}
use Rattle.lists.specs.Decides.{Decides}
use Rattle.undo_compare.specs.Compared.{Apart, RotatedThree, Follows}
use Rattle.lists.proofs.Decides.{decides_not}
use Rattle.undo_compare.proofs.Threes.{rotated-on, rotated-follower, followers-rotated}
use Rattle.undo_compare.proofs.rotated.Goals as goal

module _ {a b c x y z p : ℕ} (d : Apart x y z) (A : Follows a x y z p) where
  -- where the second is not what follows the first, they are not rotated
  not-next : (b ≡ p → ⊥) → Decides (RotatedThree a b c x y z) false
  not-next n = decides_not (λ o. n (rotated-follower d o A))

  module _ {q : ℕ} (B : Follows b x y z q) where
    -- nor where the third is not what follows the second
    not-after-next : (c ≡ q → ⊥) → Decides (RotatedThree a b c x y z) false
    not-after-next n = decides_not (λ o. n (rotated-follower d (rotated-on o) B))

    -- where both are, the last test decides
    decided : {r : ℕ} → Follows c x y z r → b ≡ p → c ≡ q → Decides (RotatedThree a b c x y z) (eqb a r)
    decided {r} C e f = record {
      sound = λ g. followers-rotated d A B C e f (eqb-true a r g);
      complete = λ o. eq-eqb a r (rotated-follower d (rotated-on (rotated-on o)) C);
    }

pub returns-then-b-second : goal.returns-then-b-second
returns-then-b-second c = not-next c.requires c.follower-second.ensures (λ e. omega arith)

pub returns-then-c-third : goal.returns-then-c-third
returns-then-c-third c = not-after-next c.requires c.follower-second.ensures c.follower-third.ensures (λ e. omega arith)

pub returns : goal.returns
returns c = decided c.requires c.follower-second.ensures c.follower-third.ensures c.follower.ensures
    (omega arith) (omega arith)
