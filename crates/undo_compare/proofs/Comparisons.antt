-- How triangles compare: one by its three vertices, and the triangles up to one by those before it and that one.
use Prim.Native.Nat.{ℕ, ◌+◌, ◌*◌, ◌≤◌, ◌<◌}
use native.Mathlib.Omega.{arith}
use mathlib.Core.Path.{◌≡◌}
use mathlib.Core.List.{List}
use Rattle.std.specs.Prelude.{Option, Some, None, Ok, Err}
use Rattle.std.specs.Option.{option_or}
use lib.ListN.{length}
use borrow.Author.Count.{below_more}
use Rattle.theory.specs.Mesh.{at, Same, Rotated}
use Rattle.theory.specs.Reading.{renamed}
use Rattle.theory.proofs.Rotation.{rotated-implies}
use Rattle.undo_compare.specs.Compared.{AllAgree, Compared, agree, inside_out, differ}
use Rattle.undo_compare.specs.Compared.{ComparedOne, ComparedThree}
use Rattle.undo_compare.specs.declared.Mismatch.TheVariants as mismatch
use Rattle.undo_compare.specs.declared.Turning.{Turning}
use Rattle.undo_compare.specs.declared.Turning.TheVariants as turning
use Rattle.undo_compare.proofs.Threes.{AtCorners, three-same, same-three, three-rotated, rotated-three}

-- ---- one triangle

module _ (T S : List ℕ) (k t : ℕ) (l : 3 * k + 3 ≤ length T) (m : 3 * t + 3 ≤ length S) where
  -- a triangle compares as the vertices at its corners do
  pub three-compared : {turning : Turning} → AtCorners T S k t (λ a b c x y z. ComparedThree a b c x y z turning)
      → ComparedOne T k S t turning
  three-compared (ComparedThree.rotated o) = ComparedOne.rotated (three-rotated T S k t l m o)
  three-compared (ComparedThree.reversed e n) =
      ComparedOne.reversed (three-same T S k t l m e) (λ o. n (rotated-three T S k t l m o))
  three-compared (ComparedThree.other n) = ComparedOne.other (λ e. n (same-three T S k t l m e))

-- ---- all triangles

-- The least of the triangles before k that is no rotation of its own; none, where each is one.
pub data LeastTurned (k : ℕ) (T f g S : List ℕ) : Option ℕ → Type 0 where
  never : AllAgree Rotated k T f g S → LeastTurned k T f g S None
  first : {j : ℕ} → j < k → (Rotated (renamed f T) j S (at g j) → ⊥) → AllAgree Rotated j T f g S
      → LeastTurned k T f g S (Some j)

-- The triangles before k have the vertices of their own, and the least that is no rotation is known.
pub record SameBefore (k : ℕ) (T f g S : List ℕ) (turned : Option ℕ) : Type 0 where
  pub same : AllAgree Same k T f g S
  pub least : LeastTurned k T f g S turned

module _ {k t : ℕ} {T f g S : List ℕ} (e : t ≡ at g k) where
  -- where triangle k has other vertices than its own, not all have the vertices of their own
  pub other-found : {F : ℕ} → k < F → ComparedOne (renamed f T) k S t turning.Other
      → Compared F T f g S (Err mismatch.Differ)
  other-found l (ComparedOne.other n) = differ (λ all. n (rw e (all k l)))

  module _ {turned : Option ℕ} (B : SameBefore k T f g S turned) where
    -- where it is a rotation, the least stays
    pub rotated-more : ComparedOne (renamed f T) k S t turning.Rotated → SameBefore (k + 1) T f g S turned
    rotated-more (ComparedOne.rotated r) =
        record { same = below_more _ _ B.same (rw e at (rotated-implies.same r)); least = stays B.least }
      where
        stays : {before : Option ℕ} → LeastTurned k T f g S before → LeastTurned (k + 1) T f g S before
        stays (never all) = never (below_more _ _ all (rw e at r))
        stays (first b n all) = first (omega arith) n all

    -- where it only has the vertices of its own, it is the least, if there was none
    pub reversed-more : ComparedOne (renamed f T) k S t turning.Reversed
        → SameBefore (k + 1) T f g S (option_or turned (Some k))
    reversed-more (ComparedOne.reversed s m) =
        record { same = below_more _ _ B.same (rw e at s); least = found B.least }
      where
        found : {before : Option ℕ} → LeastTurned k T f g S before
            → LeastTurned (k + 1) T f g S (option_or before (Some k))
        found (never all) = first (omega arith) (rw e at m) all
        found (first b n all) = first (omega arith) n all

module _ {F k : ℕ} {T f g S : List ℕ} {turned : Option ℕ} (B : SameBefore k T f g S turned) (end : F ≤ k) where
  -- where none of all is turned, they agree
  pub none-turned : turned ≡ None → Compared F T f g S (Ok tt)
  none-turned e = go (rw e at B.least)
    where
      go : LeastTurned k T f g S None → Compared F T f g S (Ok tt)
      go (never all) = agree (λ j l. all j (omega arith))

  -- and else the least is the one to be named
  pub one-turned : {j : ℕ} → k ≤ F → turned ≡ Some j → Compared F T f g S (Err (mismatch.InsideOut j))
  one-turned {j} l e = go (rw e at B.least)
    where
      go : LeastTurned k T f g S (Some j) → Compared F T f g S (Err (mismatch.InsideOut j))
      go (first b n before) = inside_out (λ i m. B.same i (omega arith)) (omega arith) n before
