-- Laws of chains of equal keys: the nearest index that holds a key, from one index to the index before.
use Prim.Native.Nat.{ℕ, suc, ◌<◌}
use native.Mathlib.Omega.{arith}
use mathlib.Core.Path.{◌≡◌}
use mathlib.Core.Logic.{◌≢◌}
use Rattle.lists.proofs.Lists.{by-eq}
use Rattle.mesh_rings.specs.Chains.{Nearest}

module _ {key : ℕ → ℕ} {u : ℕ} where
  -- from n on there is none
  pub nearest-none : (n : ℕ) → Nearest key u n n n
  nearest-none n =
      record {
        from = omega arith;
        within = omega arith;
        holds = λ l. absurd (omega arith);
        before = λ h f l. absurd (omega arith);
      }

  -- an index that holds the key is itself the nearest
  pub nearest-here : (h n : ℕ) → h < n → key h ≡ u → Nearest key u h n h
  nearest-here h n l e =
      record { from = omega arith; within = omega arith; holds = λ _. e; before = λ g f b. absurd (omega arith) }

  -- where an index does not hold the key, the nearest is the one from the next index on
  pub nearest-back : {h n v : ℕ} → key h ≢ u → Nearest key u (suc h) n v → Nearest key u h n v
  nearest-back {h} {n} {v} ne N =
      record {
        from = omega arith;
        within = N.within;
        holds = N.holds;
        before = λ g f b e. by-eq g h (λ same. ne (rw (← same) e)) (λ other. N.before g (omega arith) b e);
      }
