-- Laws of a walk round a ring from `start`: where it goes from x, that less is left, and what is behind it.
use Prim.Native.Nat.{ℕ, ◌+◌, ◌-◌, ◌*◌, ◌≤◌, ◌<◌, min}
use native.Mathlib.Omega.{arith}
use mathlib.Core.Path.{◌≡◌, sym}
use mathlib.Core.Logic.{◌≢◌}
use Rattle.lists.proofs.Lists.{by-lt}
use Rattle.mesh_rings.specs.Ring.{FollowsBy}

-- Where the walk goes from x: further up behind the start, from there to the first, or up to the start at most.
pub data Goes (start x v : ℕ) : Type 0 where
  further : start < x → x < v → Goes start x v
  over : start < x → v ≤ start → Goes start x v
  nearer : x < start → x < v → v ≤ start → Goes start x v

-- What the walk has left at x: up to n and then to the start, or to the start alone.
unfoldable pub left : ℕ → ℕ → ℕ → ℕ
left start n x = (start - x) + min (65536 * (x - start)) (n + start - x)

-- Index g is behind a walk that has come to x: from the start up, and from the first up once it has gone over.
pub data Behind (start x g : ℕ) : Type 0 where
  up : start ≤ g → (start < x → g < x) → Behind start x g
  wrapped : x ≤ start → g < x → Behind start x g

-- behind the start it is what is left of n, and the start
pub left_up : (start n x : ℕ) → n < 65536 → start < x → x < n → left start n x ≡ n + start - x
unfolding left
left_up start n x small p l = omega arith

-- up to the start it is what is left of that
pub left_down : (start n x : ℕ) → x ≤ start → left start n x ≡ start - x
unfolding left
left_down start n x p = omega arith

-- less is left
pub goes-less : {start n x v : ℕ} → n < 65536 → x < n → v < n → Goes start x v → left start n v < left start n x
goes-less {start} {n} {x} {v} small l b (further p q) =
    omega (arith, left_up start n x small p l, left_up start n v small (omega arith) b)
goes-less {start} {n} {x} {v} small l b (over p q) = omega (arith, left_up start n x small p l, left_down start n v q)
goes-less {start} {n} {x} {v} small l b (nearer p q r) =
    omega (arith, left_down start n x (omega arith), left_down start n v r)

-- after a whole round every index is behind
pub round-behind : {start x : ℕ} → x ≡ start → (g : ℕ) → Behind start x g
round-behind {start} {x} e g =
    by-lt g start (λ l. wrapped (omega arith) (omega arith)) (λ l. up l (λ b. absurd (omega arith)))

module _ {n : ℕ} {key : ℕ → ℕ} {start : ℕ} where
  -- the walk goes on from an index of the ring other than the start
  pub ring-goes : {x v : ℕ} → start < n → key x ≡ key start → x ≢ start → FollowsBy n key x v → Goes start x v
  ring-goes {x} {v} inside same ne F =
      by-lt start x
      (λ p.
      by-lt x v (λ q. further p q)
      (λ q. over p (by-lt start v (λ r. absurd (F.first q start r (sym same))) (λ r. r))))
      (λ p.
      by-lt x v
      (λ q.
      nearer (omega arith) q (by-lt start v (λ r. absurd (F.next q start (omega arith) r (sym same))) (λ r. r)))
      (λ q. absurd (F.last q start (omega arith) inside (sym same))))

  -- of the ring, only the start is behind the first step
  pub first-behind : {v g : ℕ} → FollowsBy n key start v → g < n → key g ≡ key start → g ≢ start → Behind start v g → ⊥
  first-behind {v} {g} F l e ne (up p q) =
      by-lt start v (λ b. F.next b g (omega arith) (q b) e) (λ b. F.last b g (omega arith) l e)
  first-behind {v} {g} F l e ne (wrapped p q) = F.first p g q e

  -- and a further step puts behind it only the index that it leaves
  pub step-behind : {x v g : ℕ} → FollowsBy n key x v → Goes start x v → g < n → key g ≡ key x → g ≢ x
      → Behind start v g → Behind start x g
  step-behind {x} {v} {g} F (further p q) l e ne (up r s) =
      up r (λ _. by-lt g x (λ b. b) (λ b. absurd (F.next q g (omega arith) (s (omega arith)) e)))
  step-behind {x} {v} {g} F (further p q) l e ne (wrapped r s) = absurd (omega arith)
  step-behind {x} {v} {g} F (over p q) l e ne (up r s) =
      up r (λ _. by-lt g x (λ b. b) (λ b. absurd (F.last (omega arith) g (omega arith) l e)))
  step-behind {x} {v} {g} F (over p q) l e ne (wrapped r s) = absurd (F.first (omega arith) g s e)
  step-behind {x} {v} {g} F (nearer p q t) l e ne (up r s) = up r (λ b. absurd (omega arith))
  step-behind {x} {v} {g} F (nearer p q t) l e ne (wrapped r s) =
      wrapped (omega arith) (by-lt g x (λ b. b) (λ b. absurd (F.next q g (omega arith) s e)))
