-- The other half-edge of an edge that two half-edges are on.
use Rattle.std.specs.Prelude.{ℕ, ◌≤◌, ◌<◌, ◌≡◌, ◌≢◌, ◌⊎◌, List, length}
use Rattle.theory.specs.Mesh.{at}
use Rattle.mesh_rings.specs.Ring.{Chosen}

-- What `others` is lent: n links, which are below n, and room for n entries.
pub record OthersLent (n : ℕ) (ring other : List ℕ) : Type 0 where
  pub small : n < 65536
  pub linked : n ≤ length ring
  pub below : (h : ℕ) → h < n → at ring h < n
  pub roomy : n ≤ length other

-- What `others` makes: the link of h where that leads back, else n.
pub record OthersOf (n : ℕ) (ring other : List ℕ) : Type 0 where
  pub entry : (h : ℕ) → h < n → Chosen (at ring (at ring h)) h (at ring h) n (at other h)

-- Half-edges h and g, of n, are the two with one key.
pub record Mates (n : ℕ) (key : ℕ → ℕ) (h g : ℕ) : Type 0 where
  pub inside : g < n
  pub another : g ≢ h
  pub same : key g ≡ key h
  pub only : (f : ℕ) → f < n → key f ≡ key h → (f ≡ h) ⊎ (f ≡ g)

-- What stands for the other half-edge: h where it is alone, the mate of two, n where there are three and more.
pub data OtherOf (n : ℕ) (key : ℕ → ℕ) (h : ℕ) : ℕ → Type 0 where
  alone : ((g : ℕ) → g < n → key g ≡ key h → g ≡ h) → OtherOf n key h h
  mate : {g : ℕ} → Mates n key h g → OtherOf n key h g
  several : (f g : ℕ) → f < n → g < n → f ≢ h → g ≢ h → f ≢ g → key f ≡ key h → key g ≡ key h → OtherOf n key h n

-- The others of n half-edges, whose keys tell the edges.
pub record Othered (n : ℕ) (key : ℕ → ℕ) (other : List ℕ) : Type 0 where
  pub entry : (h : ℕ) → h < n → OtherOf n key h (at other h)

-- The entry of half-edge h is another half-edge, of n: it has a mate.
pub record HasMate (n : ℕ) (other : List ℕ) (h : ℕ) : Type 0 where
  pub inside : at other h < n
  pub another : at other h ≢ h
