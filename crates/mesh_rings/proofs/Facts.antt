-- What the ring tells of the indices with h's key: whether h is alone, and whether they are at most two.
use Prim.Native.Nat.{ℕ, ◌<◌}
use native.Mathlib.Omega.{arith}
use mathlib.Core.Path.{◌≡◌, ◌∙◌, sym}
use mathlib.Core.Logic.{◌≢◌}
use mathlib.Core.List.{List}
use Rattle.theory.specs.Mesh.{at}
use Rattle.lists.proofs.Lists.{by-lt}
use Rattle.mesh_rings.specs.Ring.{FollowsBy, RingBy}

module _ {n : ℕ} {key : ℕ → ℕ} where
  -- an index that follows itself is alone
  pub follows-alone : {h : ℕ} → FollowsBy n key h h → (g : ℕ) → g < n → key g ≡ key h → g ≡ h
  follows-alone {h} F g l e =
      by-lt g h (λ b. absurd (F.first (omega arith) g b e))
      (λ b. by-lt h g (λ a. absurd (F.last (omega arith) g a l e)) (λ a. omega arith))

  -- where two follow each other, there is no third
  pub follows-two : {h v : ℕ} → FollowsBy n key h v → FollowsBy n key v h → (g : ℕ) → g < n → key g ≡ key h → g ≢ h
      → g ≡ v
  follows-two {h} {v} F B g l e ne =
      by-lt h v
      (λ up.
      by-lt g h (λ b. absurd (B.first (omega arith) g b back))
      (λ b.
      by-lt g v (λ c. absurd (F.next up g (omega arith) c e))
      (λ c. by-lt v g (λ d. absurd (B.last (omega arith) g d l back)) (λ d. omega arith))))
      (λ down.
      by-lt g v (λ b. absurd (F.first down g b e))
      (λ b.
      by-lt h g (λ c. absurd (F.last down g c l e))
      (λ c. by-lt v g (λ d. absurd (B.next (omega arith) g d (omega arith) back)) (λ d. omega arith))))
    where
      back : key g ≡ key v
      back = e ∙ sym F.same

module _ {n : ℕ} {key : ℕ → ℕ} {ring : List ℕ} (R : RingBy n key ring) where
  -- links stay below n
  pub ring-below : (h : ℕ) → h < n → at ring h < n
  ring-below h l = (R.follows h l).within

  -- what h leads to leads on
  pub onward : (h : ℕ) → h < n → FollowsBy n key (at ring h) (at ring (at ring h))
  onward h l = R.follows (at ring h) (ring-below h l)

  -- where the second link leads back, the first leads to the only other index
  pub back-two : (h : ℕ) → h < n → at ring (at ring h) ≡ h → (g : ℕ) → g < n → key g ≡ key h → g ≢ h → g ≡ at ring h
  back-two h l e = follows-two (R.follows h l) (rw e at (onward h l))
