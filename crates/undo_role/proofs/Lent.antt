-- What the calls that make the maps and compare are lent: the keys of the maps are vertices and triangles of the mesh,
-- a triangle map that passes stays inside the splitting, and the splitting's triangles have three different corners.
use Prim.Native.Nat.{ℕ, suc, ◌+◌, ◌*◌, ◌/◌, ◌<◌}
use native.Mathlib.Omega.{arith}
use mathlib.Core.Path.{◌≡◌, sym, ap, ◌∙◌}
use mathlib.Core.List.{List}
use lib.ListN.{length}
use Rattle.theory.specs.Mesh.{at, Reach}
use Rattle.theory.specs.Splitting.{split}
use Rattle.theory.proofs.Finite.{injective-onto}
use Rattle.theory.proofs.Heart.{split-different}
use Rattle.theory.proofs.Mesh.{on-triangle}
use Rattle.theory.proofs.Coarse.{in_row-below, coarse-below, coarse-different}
use Rattle.lists.specs.Marks.{RanksOf}
use Rattle.lists.proofs.Keys.{Held}
use Rattle.undo_match.specs.Claims.{Claimed}
use Rattle.undo_match.specs.Selected.{Selected}
use Rattle.undo_role.proofs.Coarse.{Searched, Tables, AcrossOnly}
use Rattle.undo_role.proofs.Coarse.{reach-inside, across-other, by-four, claimed-centre, claimed-corner}
use Rattle.undo_role.proofs.Coarse.{selected-in_row, tables-built}

-- a map that holds each of n numbers at its key, where the keys are below n, holds numbers below n
pub passed-below : (keys table : List ℕ) (n : ℕ) → ((t : ℕ) → t < n → at keys t < n)
    → Held (λ t. t) n keys table → (k : ℕ) → k < n → at table k < n
passed-below keys table n inside once k l = go (injective-onto (at keys) n inside apart k l)
  where
    apart : (t u : ℕ) → t < n → u < n → at keys t ≡ at keys u → t ≡ u
    apart t u a b e = sym (once t a) ∙ ap (at table) e ∙ once u b

    go : (t : ℕ) × (t < n) × (at keys t ≡ k) → at table k < n
    go (t, b, e) = omega (arith, ap (at table) (sym e) ∙ once t b)

module _ {N F : ℕ} {T W : List ℕ} {s : ℕ} {marks : List ℕ} (S : Searched N F T W s marks) where
  -- ---- the keys

  module _ {F' : ℕ} {rank : List ℕ} (ranks : RanksOf F marks F' rank) where
    -- the selected rows hold vertices of the mesh
    pub rows-below : {K : List ℕ} → Selected F W marks F' K → (p : ℕ) → p < 3 * F' → at K p < N
    rows-below {K} rows p l = in_row-below S.search (at K p) (selected-in_row S ranks rows p l)

    -- the claimed triangles are triangles of the mesh
    pub claimed-below : {other claimed : List ℕ} → Claimed F marks other claimed
        → AcrossOnly F T other → (t : ℕ) → t < 4 * F' → at claimed t < F
    claimed-below {claimed = claimed} claims across = by-four S ranks (λ (t : ℕ). at claimed t < F)
        (λ k q. rw (claimed-centre S ranks claims k q) (reach-inside S k q)) corner
      where
        corner : (k i : ℕ) → Reach W s k → i < 3 → at claimed (4 * at rank k + suc i) < F
        corner k i q b = rw (claimed-corner S ranks claims k i q b)
            (omega (
              arith,
              S.whole,
              on-triangle S.search.proper.otherwise (across-other S across k i q b).1.one_end,
            ))

  -- ---- the coarse mesh

  module _ {M F' : ℕ} {K vertex_rank rank C : List ℕ} (B : Tables N F W marks M F' K vertex_rank rank C) where
    -- the triangles of its splitting have three different corners, as its own have
    pub splitting-different : (c d : ℕ) → c < length (split M C) → d < length (split M C) → c / 3 ≡ d / 3
        → at (split M C) c ≡ at (split M C) d → c ≡ d
    splitting-different = split-different M C (tables-built S B).whole
        (coarse-different S.search (tables-built S B)) (coarse-below S.search (tables-built S B))
