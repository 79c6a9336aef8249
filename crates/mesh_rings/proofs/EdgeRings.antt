-- The rings by the pairs of ends of half-edges are the rings by the first appearance of their edges.
use Prim.Native.Nat.{ℕ, ◌<◌}
use native.Mathlib.Omega.{arith}
use mathlib.Core.Path.{◌≡◌, sym, ◌∙◌}
use mathlib.Core.List.{List}
use Rattle.theory.specs.Mesh.{at}
use Rattle.theory.specs.Splitting.{lesser, greater, first_on}
use Rattle.theory.proofs.Splitting.{SameEdge, same_edge-sym, same_edge-trans, first_on-same, first_on-cong}
use Rattle.lists.specs.Tables.{Tabulated}
use Rattle.mesh_rings.specs.Ring.{FollowsBy}
use Rattle.mesh_rings.specs.Making.{SamePair, Follows}

-- half-edges with the same first appearance are on the same edge
pub first-same_edge : (T : List ℕ) (g h : ℕ) → first_on T g ≡ first_on T h → SameEdge T g h
first-same_edge T g h same = same_edge-trans (same_edge-sym (first_on-same T g)) (rw (← same) at (first_on-same T h))

-- where the same pair of keys is the same key, what follows by the one follows by the other
follows_by : {n : ℕ} {low high : ℕ → ℕ} (key : ℕ → ℕ)
    → ((g h : ℕ) → g < n → h < n → SamePair low high g h → key g ≡ key h)
    → ((g h : ℕ) → g < n → h < n → key g ≡ key h → SamePair low high g h)
    → {h v : ℕ} → h < n → Follows n low high h v → FollowsBy n key h v
follows_by {n} key to from {h} {v} l F =
    let within : v < n = F.within in
    record {
      within = within;
      same = to v h within l F.same;
      next = λ b g p q e. F.next b g p q (from g h (omega arith) l e);
      last = λ b g p q e. F.last b g p q (from g h q l e);
      first = λ b g p e. F.first b g p (from g h (omega arith) l e);
    }

-- what follows by the two ends follows by the edge
pub edge-follows : (T : List ℕ) {n : ℕ} {greaters : List ℕ} → Tabulated (greater T) n greaters → {h v : ℕ} → h < n
    → Follows n (lesser T) (at greaters) h v → FollowsBy n (first_on T) h v
edge-follows T {n} {greaters} G = follows_by (first_on T) to from
  where
    to : (g h : ℕ) → g < n → h < n → SamePair (lesser T) (at greaters) g h → first_on T g ≡ first_on T h
    to g h k l S =
        first_on-cong T g h
        (record { low = S.key; high = sym (G.entry g k) ∙ S.other ∙ G.entry h l })

    from : (g h : ℕ) → g < n → h < n → first_on T g ≡ first_on T h → SamePair (lesser T) (at greaters) g h
    from g h k l same =
        let e = first-same_edge T g h same in
        record { key = e.low; other = G.entry g k ∙ e.high ∙ sym (G.entry h l) }
