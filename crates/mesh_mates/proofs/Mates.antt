-- What the tests of `has_mate` say of a half-edge's mate.
use Prim.Native.Nat.{ℕ}
use mathlib.Core.Path.{◌≡◌}
use mathlib.Core.Logic.{◌≢◌}
use mathlib.Core.Bool.{false}
use mathlib.Core.List.{List}
use native.Mathlib.Omega.{arith}
use lib.Dec.{ltb}
use borrow.Author.Tests.{ltb-true, lt-ltb}
use Rattle.theory.specs.Mesh.{at}
use Rattle.mesh_mates.specs.Others.{HasMate}
use Rattle.lists.specs.Decides.{Decides}
use Rattle.lists.proofs.Decides.{decides_not}

module _ {n h x : ℕ} {other : List ℕ} (e : x ≡ at other h) where
  -- an entry that is the half-edge itself is no mate
  pub alone : x ≡ h → Decides (HasMate n other h) false
  alone s = decides_not (λ H. H.another (omega arith))

  -- any other is one exactly if it is a half-edge
  pub mate_below : x ≢ h → Decides (HasMate n other h) (ltb x n)
  mate_below ne =
      record {
        sound = λ t. record { inside = omega (arith, ltb-true x n t); another = omega arith };
        complete = λ H. lt-ltb x n (omega (arith, H.inside));
      }
