-- Tables that are filled from the front, one entry a turn.
use Prim.Native.Nat.{ℕ, ◌+◌, ◌≤◌, ◌<◌}
use native.Mathlib.Omega.{arith}
use mathlib.Core.Path.{◌≡◌, ◌∙◌, sym, ap}
use mathlib.Core.List.{List}
use lib.ListN.{length, set}
use Rattle.lists.specs.Tables.{Tabulated}
use Rattle.lists.proofs.Lists.{at_set}

-- one entry more
pub tabulated-store : {g : ℕ → ℕ} {n m v : ℕ} {table : List ℕ} → m ≤ n + 1 → n < length table → v ≡ g n
    → Tabulated g n table → Tabulated g m (set table n v)
tabulated-store {g} {n} {m} {v} {table} le room e R =
    record {
      entry = λ h l.
          at_set (λ w. w ≡ g h) table n v h room (λ same. e ∙ ap g (sym same)) (λ other. R.entry h (omega arith));
    }
