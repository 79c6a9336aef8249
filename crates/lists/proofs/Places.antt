-- Laws of the least place at which something is given.
use Prim.Native.Nat.{ℕ, ◌*◌, ◌/◌, ◌≤◌, ◌<◌}
use native.Mathlib.Omega.{arith}
use mathlib.Core.Path.{◌≡◌}
use mathlib.Core.List.{List}
use lib.ListN.{length, take}
use Rattle.std.proofs.Common.{Option, Some, None, MatchOption, option_map, length-take-le}
use Rattle.std.proofs.lemmas.List.{get_or-take}
use Rattle.std.specs.List.{AllWithin, HoldsAt}
use Rattle.theory.specs.Mesh.{at}
use Rattle.lists.specs.Places.{Least}
use Rattle.lists.specs.Places.Least.{found, none}

-- What `position` tells of a list: where it answers an index, that entry has Yes and none before it, and else none has.
abbrev pub FirstOf : (ℕ → Type 0) → (ℕ → Type 0) → List ℕ → Option ℕ → Type 0
FirstOf Yes No xs r =
    MatchOption r (AllWithin No xs 0 (length xs)) (λ i. (i < length xs) × HoldsAt Yes xs i × AllWithin No xs 0 i)

-- asked of the first n entries, it answers the least place
module _ (Yes No : ℕ → Type 0) {given : ℕ → Type 0} (s : List ℕ) {n : ℕ} (room : n ≤ length s)
    (yes : (k : ℕ) → Yes (at s k) → given k) (no : (k : ℕ) → No (at s k) → given k → ⊥) where
  passed : {i : ℕ} → i ≤ n → AllWithin No (take n s) 0 i → (k : ℕ) → k < i → given k → ⊥
  passed le all k l =
      let b : k < n = omega arith in
      no k (rw (get_or-take n s k 0 b) at (all k 0 (omega arith) l))

  pub least-first : (r : Option ℕ) → FirstOf Yes No (take n s) r → Least given n r
  least-first None h = none (passed (omega arith) (rw (length-take-le n s room) at h))
  least-first (Some i) h =
      let l : i < n = omega (arith, h.0, length-take-le n s room) in
      found l (yes i (rw (get_or-take n s i 0 l) at (h.1 0))) (passed (omega arith) h.2)

-- what is given at the same places has the same least one
pub least-alike : {given given' : ℕ → Type 0} {n : ℕ} {r : Option ℕ} → ((k : ℕ) → k < n → given k → given' k)
    → ((k : ℕ) → k < n → given' k → given k) → Least given n r → Least given' n r
least-alike there back (found l g before) = found l (there _ l g) (λ k m h. before k m (back k (omega arith) h))
least-alike there back (none without) = none (λ k l h. without k l (back k l h))

-- what is given of a third where it is given at one of its three places: the least place tells the least third
pub least-third : {given given' : ℕ → Type 0} {n : ℕ} {r : Option ℕ} → ((c : ℕ) → c < 3 * n → given c → given' (c / 3))
    → ((k : ℕ) → k < n → given' k → (c : ℕ) × (c / 3 ≡ k) × given c) → Least given (3 * n) r
    → Least given' n (option_map (λ c. c / 3) r)
least-third there back (found {place} l g before) =
    found (omega arith) (there place l g)
    (λ k m h. let (c, e, b) = back k (omega arith) h in before c (omega arith) b)
least-third there back (none without) =
    none (λ k l h. let (c, e, b) = back k l h in without c (omega arith) b)
