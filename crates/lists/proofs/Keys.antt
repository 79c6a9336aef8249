-- Laws of values that are put into a table at their keys: what a caller learns.
use Prim.Native.Nat.{ℕ, ◌<◌}
use mathlib.Core.Path.{◌≡◌, ◌∙◌, refl, sym, ap}
use mathlib.Core.Logic.{◌⊎◌, inl, inr}
use mathlib.Core.List.{List}
use Rattle.theory.specs.Mesh.{at}
use Rattle.lists.specs.Keys.{Scattered}

-- A table holds each of n values at its key.
abbrev pub Held : (ℕ → ℕ) → ℕ → List ℕ → List ℕ → Type 0
Held value n keys table = (p : ℕ) → p < n → at table (at keys p) ≡ value p

-- ---- values that are scattered, where a map holds them at their keys

module _ (f : List ℕ) {value : ℕ → ℕ} {n : ℕ} {keys table table' : List ℕ} (S : Scattered value n keys table table')
    (holds : Held value n keys f) where
  -- at the keys the table comes to hold what the map does
  pub scattered-hits : Held value n keys table'
  scattered-hits p l = go (S.entry (at keys p))
    where
      go : ((q : ℕ) × (q < n) × (at keys q ≡ at keys p) × (at table' (at keys p) ≡ value q))
          ⊎ (((q : ℕ) → q < n → at keys q ≡ at keys p → ⊥) × (at table' (at keys p) ≡ at table (at keys p)))
          → at table' (at keys p) ≡ value p
      go (inl (q, b, e, d)) = d ∙ sym (holds q b) ∙ ap (at f) e ∙ holds p l
      go (inr (none, _)) = absurd (none p l refl)

  -- and where the table held it, it still does
  scattered-keeps : (v : ℕ) → at table v ≡ at f v → at table' v ≡ at f v
  scattered-keeps v h = go (S.entry v)
    where
      go : ((q : ℕ) × (q < n) × (at keys q ≡ v) × (at table' v ≡ value q))
          ⊎ (((q : ℕ) → q < n → at keys q ≡ v → ⊥) × (at table' v ≡ at table v))
          → at table' v ≡ at f v
      go (inl (q, b, e, d)) = d ∙ sym (holds q b) ∙ ap (at f) e
      go (inr (_, d)) = d ∙ h

-- after another scattering of what the map holds, the table holds the first values still
pub scattered-twice : (f : List ℕ) {value value' : ℕ → ℕ} {n n' : ℕ} {keys keys' table table' table'' : List ℕ}
    → Scattered value n keys table table' → Held value n keys f
    → Scattered value' n' keys' table' table'' → Held value' n' keys' f → Held value n keys table''
scattered-twice f {keys = keys} S holds S' holds' p l =
    scattered-keeps f S' holds' (at keys p) (scattered-hits f S holds p l ∙ sym (holds p l)) ∙ holds p l
