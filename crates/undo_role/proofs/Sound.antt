-- Sound: where the maps pass the tests, what is built is found, as theory's `Found` says it.
use Prim.Native.Nat.{ℕ, suc, ◌+◌, ◌*◌, ◌%◌, ◌≤◌, ◌<◌}
use native.Mathlib.Omega.{arith}
use mathlib.Core.Path.{◌≡◌, sym, ap, ◌∙◌}
use mathlib.Core.Logic.{◌≢◌}
use mathlib.Core.List.{List}
use lib.ListN.{length, take}
use lib.Seq.{length-take-le, ext_get_or}
use Rattle.theory.specs.Mesh.{at, HasEdge, Same, Reach, OtherwiseProper}
use Rattle.theory.specs.Splitting.{edge_no}
use Rattle.theory.specs.Reading.{renamed}
use Rattle.theory.proofs.Mesh.{on-triangle}
use Rattle.theory.proofs.Renaming.{renamed-at, renamed-length}
use Rattle.theory.proofs.Tiles.{InRow}
use Rattle.theory.proofs.Built.{Found}
use Rattle.theory.proofs.Coarse.{reach-tile, tile-corner-below, in_row-below}
use Rattle.lists.specs.Tables.{Tabulated}
use Rattle.lists.proofs.Lists.{at_take}
use Rattle.lists.proofs.Keys.{Held}
use Rattle.undo_match.specs.Selected.{Selected}
use Rattle.undo_match.specs.Claims.{Claimed}
use Rattle.undo_role.proofs.Coarse.{Searched, Tables, AcrossOnly, Sources, Tested}
use Rattle.undo_role.proofs.Coarse.{reach-inside, rank_below, selected-at}
use Rattle.undo_role.proofs.Coarse.{claimed-centre, claimed-corner, in_row-selected}

-- maps with the same entries at a list's vertices rename it alike
pub renamed-agree : (f g T : List ℕ) → ((c : ℕ) → c < length T → at f (at T c) ≡ at g (at T c))
    → renamed f T ≡ renamed g T
renamed-agree f g T same = ext_get_or 0 (renamed f T) (renamed g T) (renamed-length f T ∙ sym (renamed-length g T))
    (λ c l. entry c (omega (arith, renamed-length f T)))
  where
    entry : (c : ℕ) → c < length T → at (renamed f T) c ≡ at (renamed g T) c
    entry c l = renamed-at f T c l ∙ same c l ∙ sym (renamed-at g T c l)

-- so to rename by a map is to rename by its front, where all vertices are
pub renamed-front : {N : ℕ} {T : List ℕ} → OtherwiseProper N T → (map : List ℕ) → renamed (take N map) T ≡ renamed map T
renamed-front {N} {T} P map = renamed-agree (take N map) map T (λ c l. at_take N map (at T c) (P.below c l))

module _ {N F : ℕ} {T W : List ℕ} {s : ℕ} {marks : List ℕ} (S : Searched N F T W s marks)
    {M F' : ℕ} {K vertex_rank rank C : List ℕ} (B : Tables N F W marks M F' K vertex_rank rank C) where
  -- ---- the vertex map

  -- where the map passes at the vertices of the rows, each of them has its rank
  pub found-kept : (vm : List ℕ) → Held (at C) (3 * F') K vm
      → (v : ℕ) → InRow W s v → at vm v ≡ at vertex_rank v
  found-kept vm passed v r = go (in_row-selected S B.ranks B.rows v r)
    where
      go : (p : ℕ) × (p < 3 * F') × (at K p ≡ v) → at vm v ≡ at vertex_rank v
      go (p, l, e) = ap (at vm) (sym e) ∙ passed p l ∙ B.entries.entry p l ∙ ap (at vertex_rank) e

  -- where it passes at the corners of the tiles, each of them has the number of the vertex on its coarse edge
  pub found_between : (vm : List ℕ) {corners numbers : List ℕ} → Selected F T marks F' corners
      → Tabulated (edge_no M C) (3 * F') numbers → Held (at numbers) (3 * F') corners vm
      → (k i : ℕ) → Reach W s k → i < 3 → at vm (at T (3 * k + i)) ≡ edge_no M C (3 * at rank k + i)
  found_between vm selected numbered passed k i q b =
      let l : 3 * at rank k + i < 3 * F' = omega (arith, rank_below S B.ranks k q) in
      ap (at vm) (sym (selected-at S B.ranks selected k i q b))
      ∙ passed (3 * at rank k + i) l ∙ numbered.entry (3 * at rank k + i) l

  -- ---- the triangle map

  module _ (tm : List ℕ) {other claimed : List ℕ} (quarter : F ≡ 4 * F')
      (claims : Claimed F marks other claimed) (passed : Held (λ t. t) F claimed tm) where
    -- where the map passes, each tile stands at the centre of its coarse triangle
    pub found-centres : (k : ℕ) → Reach W s k → at tm k ≡ 4 * at rank k
    found-centres k q =
        ap (at tm) (sym (claimed-centre S B.ranks claims k q))
        ∙ passed (4 * at rank k) (omega (arith, rank_below S B.ranks k q))

    -- and the triangle over the side that ends at its corner i at corner i
    pub found-corners : AcrossOnly F T other → (k i l : ℕ) → Reach W s k → i < 3 → l ≢ k
        → HasEdge T l (at T (3 * k + (i + 2) % 3)) (at T (3 * k + i)) → at tm l ≡ 4 * at rank k + suc i
    found-corners across k i l q b n h =
        ap (at tm) (across.only k i l (reach-inside S k q) (reach-tile S.search k q) b n h
        ∙ sym (claimed-corner S B.ranks claims k i q b))
        ∙ passed (4 * at rank k + suc i) (omega (arith, rank_below S B.ranks k q))

  -- ---- all tests

  -- maps that pass every test, cut to their lengths, are found
  pub tables-found : {corners numbers claimed vm tm : List ℕ} → N ≤ length vm → F ≤ length tm
      → Sources F T marks M F' C corners numbers claimed → Tested N F M F' T K C corners numbers claimed vm tm
      → Found Same N T W s M C vertex_rank rank (take N vm) (take F tm)
  tables-found {vm = vm} {tm} long_v long_t D E = record {
    quarter = omega (arith, S.whole, B.whole, E.quarter);
    count = E.count;
    long_vertices = length-take-le N vm long_v;
    long_triangles = length-take-le F tm long_t ∙ omega (arith, S.whole);
    kept = λ v r. at_take N vm v (in_row-below S.search v r) ∙ found-kept vm E.kept v r;
    between = λ k i q b.
        at_take N vm (at T (3 * k + i)) (tile-corner-below S.search k i q b)
        ∙ found_between vm D.selected D.numbered E.between k i q b;
    centres = λ k q.
        at_take F tm k (reach-inside S k q) ∙ found-centres tm E.quarter D.claims E.once k q;
    corners = λ k i l q b n h.
        at_take F tm l (omega (arith, S.whole, on-triangle S.search.proper.otherwise h.one_end))
        ∙ found-corners tm E.quarter D.claims E.once D.across k i l q b n h;
    agreed = λ k l.
        let b : k < F = omega (arith, S.whole) in
        rw (renamed-front S.search.proper.otherwise vm, at_take F tm k b) (E.agreed k b);
  }
