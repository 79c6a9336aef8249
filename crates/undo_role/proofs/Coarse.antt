-- From the tables of a role to what an undo builds: the marked triangles are the rows of the covering mesh that are
-- reached from the start tile, the marked vertices are those that stand in these rows, and the coarse mesh's list,
-- made of the ranks of both, is `Built`.
use Prim.Native.Nat.{ℕ, zero, suc, ◌+◌, ◌*◌, ◌/◌, ◌%◌, ◌<◌}
use native.Mathlib.Omega.{arith}
use mathlib.Core.Path.{◌≡◌, refl, ap, ◌∙◌, subst}
use mathlib.Core.Logic.{◌≢◌, ◌⊎◌, inl, inr}
use mathlib.Core.Bool.{not}
use mathlib.Core.List.{List}
use lib.Dec.{T as Passes, eqb}
use lib.ListN.{length}
use Rattle.theory.specs.Counting.{count}
use Rattle.theory.specs.Mesh.{at, triangles, HasEdge, Same, Reach, here}
use Rattle.theory.specs.Splitting.{first_on, edges, edge_no, split}
use Rattle.theory.specs.Reading.{renamed}
use Rattle.theory.proofs.Mesh.{on-place, regular-other}
use Rattle.theory.proofs.Tiles.{IsTile, Row, tile as is_tile, flat, InRow, row-different}
use Rattle.theory.proofs.Built.{Search, Ranked, Built}
use Rattle.theory.proofs.Coarse.{row_inside, reach-tile, entry-in_row, in_row-below}
use Rattle.lists.specs.Marks.{marked, RanksOf}
use Rattle.lists.specs.Tables.{Tabulated}
use Rattle.lists.proofs.Keys.{Held}
use Rattle.lists.proofs.Marks.{MarksOf, marks-ranks}
use Rattle.mesh_rings.specs.Tables.{Different, Corners, different, equal}
use Rattle.mesh_faults.specs.Faults.{UsedMark, used, unused, UsedMarks}
use Rattle.mesh_reach.specs.Reached.{Joins, Marked}
use Rattle.mesh_reach.proofs.Joins.{reach-joins, joins-reach}
use Rattle.undo_match.specs.Selected.{Selected}
use Rattle.undo_match.specs.Claims.{Claimed}

-- ---- the tables

-- A search in a mesh of F triangles, and the marks of what is reached from its start.
pub record Searched (N F : ℕ) (T W : List ℕ) (s : ℕ) (marks : List ℕ) : Type 0 where
  pub search : Search N T W s
  pub whole : length T ≡ 3 * F
  pub reached : Marked s F (first_on W) marks

-- The tables of the marked triangles: their ranks, their rows one after the other, the marks of the vertices in these
-- rows and the ranks of these vertices; and the rows once more with each vertex replaced by its rank.
pub record Tables (N F : ℕ) (W marks : List ℕ) (M F' : ℕ) (K vertex_rank rank C : List ℕ) : Type 0 where
  pub ranks : RanksOf F marks F' rank
  pub rows : Selected F W marks F' K
  pub kept_marks : List ℕ
  pub keeps : UsedMarks N K (3 * F') kept_marks
  pub vertex_ranks : RanksOf N kept_marks M vertex_rank
  pub whole : length C ≡ 3 * F'
  pub entries : Tabulated (λ p. at vertex_rank (at K p)) (3 * F') C

-- The triangle over the side of a tile that ends at corner i is that of the side's other half-edge.
pub record AcrossOnly (F : ℕ) (T other : List ℕ) : Type 0 where
  pub only : (k i l : ℕ) → k < F → IsTile T k → i < 3 → l ≢ k
      → HasEdge T l (at T (3 * k + (i + 2) % 3)) (at T (3 * k + i)) → l ≡ at other (3 * k + (i + 2) % 3) / 3

-- The tables that the maps are made from: the corners of the marked triangles one after the other, the numbers of the
-- vertices on the coarse edges, and the triangles that are claimed for those of the splitting.
pub record Sources (F : ℕ) (T marks : List ℕ) (M F' : ℕ) (C corners numbers claimed : List ℕ) : Type 0 where
  pub selected : Selected F T marks F' corners
  pub numbered : Tabulated (edge_no M C) (3 * F') numbers
  pub other : List ℕ
  pub claims : Claimed F marks other claimed
  pub across : AcrossOnly F T other

-- What is tested: the counts; that the vertex map holds the coarse numbers at the vertices of the rows and the numbers
-- of the edge vertices at the corners of the tiles; that the triangle map holds each triangle of the splitting at the
-- one that is claimed for it; and that every triangle agrees, under the maps, with its triangle of the splitting.
pub record Tested (N F M F' : ℕ) (T K C corners numbers claimed vm tm : List ℕ) : Type 0 where
  pub quarter : F ≡ 4 * F'
  pub count : N ≡ M + edges C
  pub kept : Held (at C) (3 * F') K vm
  pub between : Held (at numbers) (3 * F') corners vm
  pub once : Held (λ t. t) F claimed tm
  pub agreed : (k : ℕ) → k < F → Same (renamed vm T) k (split M C) (at tm k)

-- ---- the marks of the vertices at corners

-- a vertex that stands at a corner is marked
used-passes : {K : List ℕ} {n v m p : ℕ} → UsedMark K n v m → p < n → at K p ≡ v → Passes (not (eqb m 0))
used-passes (used c l e) b f = tt
used-passes (unused none) b f = absurd (none _ b f)

-- and a marked one stands at a corner
passes-used : {K : List ℕ} {n v m : ℕ} → UsedMark K n v m → Passes (not (eqb m 0)) → (p : ℕ) × (p < n) × (at K p ≡ v)
passes-used (used c l e) t = (c, l, e)
passes-used (unused none) t = absurd t

-- ---- the marked triangles are the reached rows

module _ {N F : ℕ} {T W : List ℕ} {s : ℕ} {marks : List ℕ} (S : Searched N F T W s marks) where
  -- the covering mesh has as many rows as there are triangles
  pub rows_whole : length W ≡ 3 * F
  rows_whole = S.search.cover.long ∙ S.whole

  -- a tile's row has three different entries
  tile-different : (k : ℕ) → k < F → IsTile T k → Different W k
  tile-different k l t =
      let b : k < triangles T = omega (arith, S.whole) in
      record { apart = λ i j. row-different N T S.search.proper W S.search.cover k i j b t }

  -- so each row has three different entries or three equal ones
  row-corners : (k : ℕ) → k < F → Corners W k
  row-corners k l = which (S.search.cover.row k (omega (arith, S.whole)))
    where
      which : Row T W k → Corners W k
      which (is_tile t _) = different (tile-different k l t)
      which (flat _ same) = equal same

  -- what is reached is one of the triangles
  pub reach-inside : (k : ℕ) → Reach W s k → k < F
  reach-inside k q = omega (arith, S.whole, row_inside S.search k q)

  -- what is come to by the first half-edges is reached
  pub joins-reached : {k : ℕ} → Joins F (first_on W) s k → Reach W s k
  joins-reached = joins-reach W F rows_whole row-corners (tile-different s (reach-inside s here) S.search.starts)

  -- a reached triangle is marked
  pub reach-marked : (k : ℕ) → Reach W s k → Passes (marked marks k)
  reach-marked k q = rw (S.reached.all k (reach-inside k q) (reach-joins W F rows_whole q)) tt

  -- and a marked one is reached
  pub marked-reach : (k : ℕ) → k < F → Passes (marked marks k) → Reach W s k
  marked-reach k l t = which (S.reached.bit k l)
    where
      which : (at marks k ≡ 0) ⊎ (at marks k ≡ 1) → Reach W s k
      which (inl e) = absurd (rw e at t)
      which (inr e) = joins-reached (S.reached.only k l e)

  -- so the marks are those of the reached rows
  pub reach-marks : MarksOf (Reach W s) F marks
  reach-marks = record { inside = reach-inside; passes = reach-marked; has = marked-reach }

  -- the triangle of the other half-edge of a tile's side is another one that has the side
  pub across-other : {other : List ℕ} → AcrossOnly F T other → (k i : ℕ) → Reach W s k → i < 3
      → (at other (3 * k + (i + 2) % 3) / 3 ≢ k)
      × HasEdge T (at other (3 * k + (i + 2) % 3) / 3) (at T (3 * k + (i + 2) % 3)) (at T (3 * k + i))
  across-other {other} across k i q b = go (regular-other T k _ _ ((reach-tile S.search k q).regular i b))
    where
      go : (l : ℕ) × HasEdge T l (at T (3 * k + (i + 2) % 3)) (at T (3 * k + i)) × (l ≢ k)
          → (at other (3 * k + (i + 2) % 3) / 3 ≢ k)
          × HasEdge T (at other (3 * k + (i + 2) % 3) / 3) (at T (3 * k + (i + 2) % 3)) (at T (3 * k + i))
      go (l, h, n) = rw (← across.only k i l (reach-inside k q) (reach-tile S.search k q) b n h) (n, h)

  -- ---- the numbers of the reached rows

  module _ {F' : ℕ} {rank : List ℕ} (ranks : RanksOf F marks F' rank) where
    -- a reached row's number is how many are marked before it
    rank-count : (k : ℕ) → Reach W s k → at rank k ≡ count (marked marks) k
    rank-count k q = ranks.entry k (reach-inside k q)

    -- it is below the number of rows
    pub rank_below : (k : ℕ) → Reach W s k → at rank k < F'
    rank_below = (marks-ranks reach-marks ranks).below

    -- what holds at the three places of each reached row's number holds at all places below 3F'
    pub by-tile : (P : ℕ → Type 0) → ((k i : ℕ) → Reach W s k → i < 3 → P (3 * at rank k + i))
        → (p : ℕ) → p < 3 * F' → P p
    by-tile P holds p l = go ((marks-ranks reach-marks ranks).onto (p / 3) (omega arith))
      where
        go : (k : ℕ) × Reach W s k × (at rank k ≡ p / 3) → P p
        go (k, q, e) = subst P (omega arith) (holds k (p % 3) q (omega arith))

    -- and what holds at the four triangles of each reached row's number holds at all triangles below 4F'
    pub by-four : (P : ℕ → Type 0) → ((k : ℕ) → Reach W s k → P (4 * at rank k))
        → ((k i : ℕ) → Reach W s k → i < 3 → P (4 * at rank k + suc i)) → (t : ℕ) → t < 4 * F' → P t
    by-four P centre corner t l = go (t % 4) refl ((marks-ranks reach-marks ranks).onto (t / 4) (omega arith))
      where
        go : (m : ℕ) → t % 4 ≡ m → (k : ℕ) × Reach W s k × (at rank k ≡ t / 4) → P t
        go zero z (k, q, e) = subst P (omega arith) (centre k q)
        go (suc i) z (k, q, e) = subst P (omega arith) (corner k i q (omega arith))

    -- the entries of a selected list at a row's number are those of the list at the row
    pub selected-at : {L out : List ℕ} → Selected F L marks F' out → (k i : ℕ) → Reach W s k → i < 3
        → at out (3 * at rank k + i) ≡ at L (3 * k + i)
    selected-at O k i q b = rw (rank-count k q) (O.entry k i (reach-inside k q) (reach-marked k q) b)

    -- ---- the claimed triangles

    module _ {other claimed : List ℕ} (Y : Claimed F marks other claimed) where
      -- for the centre of a reached row's coarse triangle the row's tile is claimed
      pub claimed-centre : (k : ℕ) → Reach W s k → at claimed (4 * at rank k) ≡ k
      claimed-centre k q = rw (rank-count k q) (Y.centre k (reach-inside k q) (reach-marked k q))

      -- and for its corner i the triangle over the side of the tile that ends there
      pub claimed-corner : (k i : ℕ) → Reach W s k → i < 3
          → at claimed (4 * at rank k + suc i) ≡ at other (3 * k + (i + 2) % 3) / 3
      claimed-corner k i q b = rw (rank-count k q) (Y.corner k i (reach-inside k q) (reach-marked k q) b)

    -- ---- the selected rows

    module _ {K : List ℕ} (rows : Selected F W marks F' K) where
      -- a vertex in a reached row stands among the selected rows
      pub in_row-selected : (v : ℕ) → InRow W s v → (p : ℕ) × (p < 3 * F') × (at K p ≡ v)
      in_row-selected v r =
          let q : Reach W s r.row = r.reached in
          let b : r.on.corner % 3 < 3 = omega arith in (
            3 * at rank r.row + r.on.corner % 3,
            omega (arith, rank_below r.row q),
            selected-at rows r.row (r.on.corner % 3) q b ∙ on-place r.on,
          )

      -- and what stands among these is in a reached row
      pub selected-in_row : (p : ℕ) → p < 3 * F' → InRow W s (at K p)
      selected-in_row = by-tile (λ (p : ℕ). InRow W s (at K p))
          (λ k i q b. rw (selected-at rows k i q b) (entry-in_row S.search k i q b))

      -- so the marks of what stands among the selected rows are those of the vertices in reached rows
      pub in_row-marks : {kept : List ℕ} → UsedMarks N K (3 * F') kept → MarksOf (InRow W s) N kept
      in_row-marks {kept} keeps =
          record { inside = in_row-below S.search; passes = λ v r. passes v r (in_row-selected v r); has = has }
        where
          passes : (v : ℕ) → InRow W s v → (p : ℕ) × (p < 3 * F') × (at K p ≡ v) → Passes (marked kept v)
          passes v r (p, l, e) = used-passes (keeps.mark v (in_row-below S.search v r)) l e

          has : (v : ℕ) → v < N → Passes (marked kept v) → InRow W s v
          has v l t = go (passes-used (keeps.mark v l) t)
            where
              go : (p : ℕ) × (p < 3 * F') × (at K p ≡ v) → InRow W s v
              go (p, b, e) = subst (InRow W s) e (selected-in_row p b)

  -- ---- the coarse mesh

  module _ {M F' : ℕ} {K vertex_rank rank C : List ℕ} (B : Tables N F W marks M F' K vertex_rank rank C) where
    -- the marked vertices are those in reached rows
    tables-marks : MarksOf (InRow W s) N B.kept_marks
    tables-marks = in_row-marks B.ranks B.rows B.keeps

    -- the reached rows and their vertices are numbered upward
    pub tables-ranked : Ranked W s M F' vertex_rank rank
    tables-ranked =
        record { vertices = marks-ranks tables-marks B.vertex_ranks; rows = marks-ranks reach-marks B.ranks }

    -- there are F' coarse triangles
    pub coarse-triangles : triangles C ≡ F'
    coarse-triangles = omega (arith, B.whole)

    -- the coarse mesh has the ranks of a row's entries at the row's number
    pub coarse-at : (k i : ℕ) → Reach W s k → i < 3 → at C (3 * at rank k + i) ≡ at vertex_rank (at W (3 * k + i))
    coarse-at k i q b =
        B.entries.entry (3 * at rank k + i) (omega (arith, rank_below B.ranks k q))
        ∙ ap (at vertex_rank) (selected-at B.ranks B.rows k i q b)

    -- so it is built
    pub tables-built : Built W s M C vertex_rank rank
    tables-built =
        record { ranked = rw coarse-triangles tables-ranked; whole = omega (arith, B.whole); rows = coarse-at }
