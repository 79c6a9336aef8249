-- Laws for numbering the edges along their rings, and what follows from the numbers that `number_edges` leaves.
use Prim.Native.Nat.{ℕ, ◌+◌, ◌≤◌, ◌<◌}
use native.Mathlib.Omega.{arith}
use mathlib.Core.Path.{◌≡◌, ◌∙◌, sym}
use mathlib.Core.Logic.{◌≢◌}
use mathlib.Core.List.{List}
use lib.ListN.{length}
use borrow.Author.Tests.{eq-eqb, ne_eqb}
use Rattle.theory.specs.Mesh.{at}
use Rattle.theory.specs.Counting.{count}
use Rattle.theory.specs.Splitting.{first_on, is_first, edges, edge_no}
use Rattle.theory.proofs.Counting.{count-passes, count-fails}
use Rattle.theory.proofs.Splitting as splitting
use Rattle.theory.proofs.Splitting.{first_on-same, first_on-cong, edge_no-below}
use Rattle.lists.proofs.Lists.{by-lt}
use Rattle.mesh_rings.specs.Ring.{RingBy}
use Rattle.split.specs.Numbers.{Numbered}

-- one half-edge after h with its key, and none of its key between, is the one that follows h
pub follows_next : {n : ℕ} {key : ℕ → ℕ} {ring : List ℕ} → RingBy n key ring → (h g : ℕ) → h < g → g < n → key g ≡ key h
    → ((f : ℕ) → h < f → f < g → key f ≡ key g → ⊥) → g ≡ at ring h
follows_next {ring = ring} R h g b l e between =
    let F = R.follows h (omega arith) in
    by-lt h (at ring h)
    (λ up.
    by-lt g (at ring h) (λ c. absurd (F.next up g b c e))
    (λ c. by-lt (at ring h) g (λ d. absurd (between (at ring h) up d (F.same ∙ sym e))) (λ d. omega arith)))
    (λ down. absurd (F.last down g b l e))

module _ (N : ℕ) (T : List ℕ) where
  -- half-edges with one first appearance have one number
  pub edge_no-first : (g h : ℕ) → first_on T g ≡ first_on T h → edge_no N T g ≡ edge_no N T h
  unfolding edge_no
  edge_no-first g h e = rw e

  -- the first half-edge of an edge has as many edges before it as its number says
  pub edge_no-own : (h : ℕ) → first_on T h ≡ h → edge_no N T h ≡ N + count (is_first T) h
  unfolding edge_no
  edge_no-own h e = rw e

  -- no edge's number says that there is none
  pub edge_no-given : (h : ℕ) → h < length T → edge_no N T h ≢ N + length T
  edge_no-given h l e = omega (arith, edge_no-below N T h l, splitting.edges_le N T)

module _ (T : List ℕ) where
  -- a first appearance is its own
  pub first_on-own : (h : ℕ) → first_on T h ≡ first_on T (first_on T h)
  first_on-own h = sym (first_on-cong T (first_on T h) h (first_on-same T h))

  -- an edge counts at its first half-edge
  pub counted : (h : ℕ) → first_on T h ≡ h → count (is_first T) (h + 1) ≡ count (is_first T) h + 1
  unfolding is_first
  counted h e = count-passes (is_first T) h (eq-eqb (first_on T h) h e)

  -- and at no other
  pub uncounted : (h : ℕ) → first_on T h ≢ h → count (is_first T) (h + 1) ≡ count (is_first T) h
  unfolding is_first
  uncounted h ne = count-fails (is_first T) h (ne_eqb (first_on T h) h ne)

  -- all are counted at the end
  pub edges-all : {n : ℕ} → length T ≡ n → count (is_first T) n ≡ edges T
  unfolding edges
  edges-all whole = rw whole

-- there are no more edges than half-edges
pub edges_le : {M n E : ℕ} {ring numbers : List ℕ} (T : List ℕ) → length T ≡ n → RingBy n (first_on T) ring
    → Numbered M n ring E numbers → E ≤ n
edges_le {M} T whole R D = omega (arith, D.total T whole R, splitting.edges_le M T)
