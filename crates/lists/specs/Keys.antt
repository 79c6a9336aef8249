-- Values that are put into a table at their keys.
use Rattle.std.specs.Prelude.{ℕ, ◌≤◌, ◌<◌, ◌≡◌, Bool, true, ◌⊎◌, List, length}
use Rattle.theory.specs.Mesh.{at}

-- What is lent for n keys: keys inside the table, and as many values at least.
pub record ValuesLent (n : ℕ) (keys table : List ℕ) (count : ℕ) : Type 0 where
  pub keyed : n ≤ length keys
  pub inside : (p : ℕ) → p < n → at keys p < length table
  pub valued : n ≤ count

-- The same where the values are the entries of a list.
abbrev pub KeysLent : ℕ → List ℕ → List ℕ → List ℕ → Type 0
KeysLent n keys table values = ValuesLent n keys table (length values)

-- The same where the values are the indices themselves, within 16 bits.
abbrev pub InvertLent : ℕ → List ℕ → List ℕ → Type 0
InvertLent n keys table = ValuesLent n keys table 65536

-- After n values `value p` have been put at their keys: an entry is one of the values of its key, or as it was where
-- no key hits it.
pub record Scattered (value : ℕ → ℕ) (n : ℕ) (keys table table' : List ℕ) : Type 0 where
  pub entry : (v : ℕ)
      → ((p : ℕ) × (p < n) × (at keys p ≡ v) × (at table' v ≡ value p))
      ⊎ (((p : ℕ) → p < n → at keys p ≡ v → ⊥) × (at table' v ≡ at table v))

-- The answer is true exactly if the table holds each of n values at its key.
pub record Holds (value : ℕ → ℕ) (n : ℕ) (keys table : List ℕ) (answer : Bool) : Type 0 where
  pub sound : answer ≡ true → (p : ℕ) → p < n → at table (at keys p) ≡ value p
  pub complete : ((p : ℕ) → p < n → at table (at keys p) ≡ value p) → answer ≡ true
