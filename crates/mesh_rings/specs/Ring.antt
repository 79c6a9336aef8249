-- The rings of the indices with the same key, whatever the key is. The key of a half-edge is its edge's first
-- appearance.
use Rattle.std.specs.Prelude.{ℕ, ◌≤◌, ◌<◌, ◌≡◌, ◌≢◌, List}
use Rattle.theory.specs.Mesh.{at}

-- v follows h among the indices below n with h's key: it is the next one, or, after the last, the first.
pub record FollowsBy (n : ℕ) (key : ℕ → ℕ) (h v : ℕ) : Type 0 where
  pub within : v < n
  pub same : key v ≡ key h
  pub next : h < v → (g : ℕ) → h < g → g < v → key g ≡ key h → ⊥
  pub last : v ≤ h → (g : ℕ) → h < g → g < n → key g ≡ key h → ⊥
  pub first : v ≤ h → (g : ℕ) → g < v → key g ≡ key h → ⊥

-- The rings of the first n indices by their keys.
pub record RingBy (n : ℕ) (key : ℕ → ℕ) (ring : List ℕ) : Type 0 where
  pub follows : (h : ℕ) → h < n → FollowsBy n key h (at ring h)

-- `one` where s is u, else `other`.
pub data Chosen (s u one other : ℕ) : ℕ → Type 0 where
  met : s ≡ u → Chosen s u one other one
  new : s ≢ u → Chosen s u one other other
