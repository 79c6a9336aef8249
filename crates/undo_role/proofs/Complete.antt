-- Complete: where a returned reading exists in the role of the start tile, its maps pass each test of the same tables.
use Prim.Native.Nat.{ℕ, suc, ◌+◌, ◌*◌, ◌<◌}
use native.Mathlib.Omega.{arith}
use mathlib.Core.Path.{◌≡◌, sym, ap, ◌∙◌}
use mathlib.Core.List.{List}
use Rattle.theory.specs.Counting.{count}
use Rattle.theory.specs.Mesh.{at, Same, Reach}
use Rattle.theory.specs.Splitting.{edges, edge_no, split}
use Rattle.theory.specs.Reading.{renamed, Reading, Centre, Returned}
use Rattle.theory.proofs.Numbering.{Numbers, numbers-size, count-numbers}
use Rattle.theory.proofs.Determined.{quarter}
use Rattle.theory.proofs.Tiles.{Start, start-centre}
use Rattle.theory.proofs.Built.{Found}
use Rattle.theory.proofs.Complete.{row-numbers, built-found, found-vertices, found-triangles}
use Rattle.lists.specs.Marks.{marked}
use Rattle.lists.specs.Tables.{Tabulated}
use Rattle.lists.proofs.Keys.{Held}
use Rattle.undo_match.specs.Selected.{Selected}
use Rattle.undo_match.specs.Claims.{Claimed}
use Rattle.undo_role.proofs.Coarse.{Searched, Tables, AcrossOnly, Sources, Tested}
use Rattle.undo_role.proofs.Coarse.{reach-inside, reach-marked, marked-reach}
use Rattle.undo_role.proofs.Coarse.{across-other, by-tile, by-four, selected-at, claimed-centre, claimed-corner}
use Rattle.undo_role.proofs.Coarse.{selected-in_row, tables-built}
use Rattle.undo_role.proofs.Sound.{renamed-agree, found-kept, found_between, found-centres, found-corners}

module _ {N F : ℕ} {T W : List ℕ} {s : ℕ} {marks : List ℕ} (S : Searched N F T W s marks)
    {ρ : ℕ} {r : Reading} (R : Returned Same N T ρ r) (start : Start T 0 ρ s) where
  -- ---- the counts

  -- the start is a centre
  start-is-centre : Centre r s
  start-is-centre = start-centre N T S.search.proper W S.search.cover r R.is 0 ρ s R.in_role start

  -- a quarter of the triangles is marked, since the reading numbers the reached rows
  pub returned-quarter : F ≡ 4 * count (marked marks) F
  returned-quarter = omega (
    arith,
    S.whole,
    quarter R.is,
    numbers-size marks-numbers (row-numbers N T S.search.proper W S.search.cover ρ r R s start-is-centre),
  )
    where
      marks-numbers : Numbers (Reach W s) (count (marked marks)) (count (marked marks) F)
      marks-numbers = count-numbers (Reach W s) (marked marks) F (λ k q. (reach-inside S k q, reach-marked S k q))
          (marked-reach S)

  module _ {M F' : ℕ} {K vertex_rank rank C : List ℕ} (B : Tables N F W marks M F' K vertex_rank rank C) where
    -- the reading's own maps are found
    returned-found : Found Same N T W s M C vertex_rank rank r.vertex_map r.triangle_map
    returned-found =
        built-found N T S.search.proper W S.search.cover ρ r R s start-is-centre M C vertex_rank rank
        (tables-built S B) R.is

    -- there are as many vertices as in the splitting
    pub returned-count : N ≡ M + edges C
    returned-count = returned-found.count

    -- ---- the reading's vertex map

    -- it holds the coarse numbers at the vertices of the rows
    pub returned-kept : Held (at C) (3 * F') K r.vertex_map
    returned-kept p l =
        returned-found.kept (at K p) (selected-in_row S B.ranks B.rows p l) ∙ sym (B.entries.entry p l)

    -- and the numbers of the edge vertices at the corners of the tiles
    pub returned-between : {corners numbers : List ℕ} → Selected F T marks F' corners
        → Tabulated (edge_no M C) (3 * F') numbers → Held (at numbers) (3 * F') corners r.vertex_map
    returned-between {corners} {numbers} selected numbered p l =
        by-tile S B.ranks (λ (c : ℕ). at r.vertex_map (at corners c) ≡ edge_no M C c) entry p l
        ∙ sym (numbered.entry p l)
      where
        entry : (k i : ℕ) → Reach W s k → i < 3
            → at r.vertex_map (at corners (3 * at rank k + i)) ≡ edge_no M C (3 * at rank k + i)
        entry k i q b =
            ap (at r.vertex_map) (selected-at S B.ranks selected k i q b) ∙ returned-found.between k i q b

    -- ---- the reading's triangle map

    -- the map holds each triangle of the splitting at the one that is claimed for it
    pub returned-once : {other claimed : List ℕ} → Claimed F marks other claimed
        → AcrossOnly F T other → Held (λ t. t) F claimed r.triangle_map
    returned-once {claimed = claimed} claims across t l =
        by-four S B.ranks (λ (u : ℕ). at r.triangle_map (at claimed u) ≡ u)
        (λ k q. ap (at r.triangle_map) (claimed-centre S B.ranks claims k q) ∙ returned-found.centres k q)
        corner t (omega (arith, returned-quarter, B.ranks.all))
      where
        corner : (k i : ℕ) → Reach W s k → i < 3
            → at r.triangle_map (at claimed (4 * at rank k + suc i)) ≡ 4 * at rank k + suc i
        corner k i q b =
            ap (at r.triangle_map) (claimed-corner S B.ranks claims k i q b)
            ∙ returned-found.corners k i _ q b (across-other S across k i q b).0 (across-other S across k i q b).1

    -- ---- all triangles

    -- where two maps agree with the reading's, every triangle agrees with its triangle of the splitting
    pub returned-agreed : (vm tm : List ℕ) → ((v : ℕ) → v < N → at vm v ≡ at r.vertex_map v)
        → ((k : ℕ) → k < F → at tm k ≡ at r.triangle_map k)
        → (k : ℕ) → k < F → Same (renamed vm T) k (split M C) (at tm k)
    returned-agreed vm tm same_v same_t k l =
        rw
        (renamed-agree vm r.vertex_map T (λ c b. same_v (at T c) (S.search.proper.otherwise.below c b)), same_t k l)
        (returned-found.agreed k (omega (arith, S.whole)))

    -- a vertex map that passes at the vertices of the rows and at the corners of the tiles agrees with the reading's
    pub passed-vertices : (vm : List ℕ) {corners numbers : List ℕ} → Selected F T marks F' corners
        → Tabulated (edge_no M C) (3 * F') numbers → Held (at C) (3 * F') K vm → Held (at numbers) (3 * F') corners vm
        → (v : ℕ) → v < N → at vm v ≡ at r.vertex_map v
    passed-vertices vm selected numbered kept between =
        found-vertices N T S.search.proper W S.search.cover ρ r R s start-is-centre M C vertex_rank rank
        (tables-built S B) vm (found-kept S B vm kept) (found_between S B vm selected numbered between)

    -- and so does a triangle map that passes at the claimed triangles
    pub passed-triangles : (tm : List ℕ) {other claimed : List ℕ} → Claimed F marks other claimed
        → AcrossOnly F T other → Held (λ t. t) F claimed tm
        → (k : ℕ) → k < F → at tm k ≡ at r.triangle_map k
    passed-triangles tm claims across once k l =
        let quarter : F ≡ 4 * F' = omega (arith, returned-quarter, B.ranks.all) in
        found-triangles N T S.search.proper W S.search.cover ρ r R s start-is-centre M C vertex_rank rank
        (tables-built S B) tm
        (found-centres S B tm quarter claims once)
        (found-corners S B tm quarter claims once across) k (omega (arith, S.whole))

    -- so maps that pass these three tests pass every test
    pub returned-tested : {corners numbers claimed : List ℕ} → Sources F T marks M F' C corners numbers claimed
        → (vm tm : List ℕ) → Held (at C) (3 * F') K vm → Held (at numbers) (3 * F') corners vm
        → Held (λ t. t) F claimed tm → Tested N F M F' T K C corners numbers claimed vm tm
    returned-tested D vm tm kept between once = record {
      quarter = omega (arith, returned-quarter, B.ranks.all);
      count = returned-count;
      kept = kept;
      between = between;
      once = once;
      agreed = returned-agreed vm tm (passed-vertices vm D.selected D.numbered kept between)
          (passed-triangles tm D.claims D.across once);
    }
