-- The tables of the coarse mesh, over plain lists: what the calls that make them are lent, each by the tables before
-- it, and that they are the tables that `number_tiles` promises.
use Prim.Native.Nat.{ℕ, ◌+◌, ◌*◌, ◌<◌}
use native.Mathlib.Omega.{arith}
use mathlib.Core.Path.{◌≡◌, ◌∙◌, sym}
use mathlib.Core.List.{List, ◌++◌}
use lib.ListN.{length, take, drop, replicate}
use lib.Seq.{length-take-le}
use Rattle.theory.specs.Mesh.{at}
use Rattle.lists.specs.Keys.{KeysLent}
use Rattle.lists.specs.Marks.{RanksOf}
use Rattle.lists.specs.Tables.{Tabulated}
use Rattle.lists.proofs.Lists.{at_take, at-filled, length-filled}
use Rattle.lists.proofs.Marks.{total-le}
use Rattle.mesh_faults.specs.Faults.{MarksLent, UsedMark, used, unused, UsedMarks}
use Rattle.split.specs.Numbers.{NumberLent, Numbered}
use Rattle.split.proofs.Numbering.{edges_le}
use Rattle.undo_match.specs.Selected.{RingLent, RingSelected}
use Rattle.undo_stages.specs.Role.{CoarseTables, NumberTilesLent}

-- the marks of what stands among the first n entries are those of what stands in the list's front
used-take : {N n : ℕ} {keys marks : List ℕ} → UsedMarks N (take n keys) n marks → UsedMarks N keys n marks
used-take {N} {n} {keys} {marks} U = record { mark = λ v l. whole v (U.mark v l) }
  where
    whole : (v : ℕ) {m : ℕ} → UsedMark (take n keys) n v m → UsedMark keys n v m
    whole v (used c l e) = used c l (sym (at_take n keys c l) ∙ e)
    whole v (unused none) = unused (λ c l e. none c l (at_take n keys c l ∙ e))

module _ {N F n : ℕ} {ring marks kept coarse₀ numbers₀ rank₀ table₀ : List ℕ}
    (L : NumberTilesLent N F n ring marks kept coarse₀ numbers₀ rank₀ table₀) where
  -- what `mark_used` requires, once the table is cleared
  pub markable : {table : List ℕ} → table ≡ replicate N 0 ++ drop N table₀ → MarksLent N n (take (3 * n) kept) table
  markable e = rw e (record {
    listed = record { whole = whole; small = omega (arith, L.small, L.quarter); below = below };
    room = omega (arith, length-filled N 0 table₀ (omega (arith, L.table_room)), L.table_room);
    clear = at-filled N 0 table₀;
  })
    where
      whole : length (take (3 * n) kept) ≡ 3 * n
      whole = length-take-le (3 * n) kept L.kept_room

      below : (c : ℕ) → c < length (take (3 * n) kept) → at (take (3 * n) kept) c < N
      below c l =
          let b : c < 3 * n = omega (arith, whole) in
          omega (arith, at_take (3 * n) kept c b, L.below c b)

  -- what `gather` requires
  pub gatherable : {vertex_rank : List ℕ} → length vertex_rank ≡ length rank₀ → KeysLent (3 * n) kept vertex_rank coarse₀
  gatherable s = record {
    keyed = L.kept_room;
    inside = λ p l. omega (arith, L.below p l, L.rank_room);
    valued = L.coarse_room;
  }

  -- what `selected_ring` requires
  pub selectable : {m : ℕ} {rank table : List ℕ} → length rank ≡ length rank₀ → length table ≡ length table₀
      → RanksOf F marks m rank → RingLent F ring marks rank table
  selectable s t R = record {
    small = L.halves;
    ring_room = L.ring_room;
    marks_room = L.marks_room;
    rank_room = omega (arith, L.rank_room);
    out_room = omega (arith, L.table_room);
    within = L.within;
    ranked = R.entry;
  }

  -- the tables of the coarse mesh
  pub tables : {M m : ℕ} {kept_marks vertex_rank coarse rank ring_c : List ℕ}
      → UsedMarks N (take (3 * n) kept) (3 * n) kept_marks → RanksOf N kept_marks M vertex_rank
      → length coarse ≡ length coarse₀ → Tabulated (λ p. at vertex_rank (at kept p)) (3 * n) coarse
      → RanksOf F marks m rank → RingSelected F ring marks rank ring_c
      → CoarseTables N F n ring marks kept M coarse ring_c
  tables {kept_marks = kept_marks} {vertex_rank} {rank = rank} U R s C Q O = record {
    kept_marks = kept_marks;
    vertex_rank = vertex_rank;
    rank = rank;
    keeps = used-take U;
    vertex_ranks = R;
    room = omega (arith, L.coarse_room);
    entries = C;
    ranks = record { entry = Q.entry; all = L.total };
    links = O;
  }

  module _ {M : ℕ} {coarse ring_c : List ℕ} (B : CoarseTables N F n ring marks kept M coarse ring_c) where
    -- the coarse mesh has n triangles
    coarse-whole : length (take (3 * n) coarse) ≡ 3 * n
    coarse-whole = length-take-le (3 * n) coarse B.room

    -- what `number_edges` requires
    pub numberable : length ring_c ≡ length table₀ → NumberLent M (3 * n) ring_c numbers₀
    numberable s = record {
      small = omega (arith, total-le B.vertex_ranks, L.small, L.quarter);
      ring_room = omega (arith, L.table_room, L.quarter);
      numbers_room = L.numbers_room;
      list = take (3 * n) coarse;
      whole = coarse-whole;
      ringed = L.ringed M coarse ring_c B;
    }

    -- vertices and edges together fit
    pub sum_fits : {E : ℕ} {numbers : List ℕ} → Numbered M (3 * n) ring_c E numbers → M + E < 65536
    sum_fits D =
        omega (
          arith,
          edges_le (take (3 * n) coarse) coarse-whole (L.ringed M coarse ring_c B) D,
          total-le B.vertex_ranks,
          L.small,
          L.quarter,
        )
