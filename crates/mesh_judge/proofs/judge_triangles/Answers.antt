-- `mesh_judge::judge_triangles` meets its contract: corners that passed 6 and 7 have rings of edges, by which 8 is
-- searched, and each search gives the least place of its row, or says that there is none.
use native.Mathlib.Omega.{arith}
use Prim.Native.Nat.{ℕ, ◌*◌}
use mathlib.Core.Path.{◌≡◌}
use mathlib.Core.List.{List}
use lib.ListN.{length}
use Rattle.std.proofs.Common.{None}
use Rattle.theory.specs.Splitting.{first_on}
use Rattle.theory.specs.Refusals.{SameAsEarlier, Passed}
use Rattle.theory.proofs.Refusals.{corners-below, corners-different}
use Rattle.lists.specs.Places.{Least}
use Rattle.limits.proofs.Judgement.{Nowhere, judged-none, judged-later}
use Rattle.mesh_rings.specs.Ring.{RingBy}
use Rattle.mesh_rings.specs.Tables.{Listed}
use Rattle.mesh_rings.specs.Making.{RingLent}
use Rattle.mesh_faults.specs.Faults.{SameLent, UsedLent}
use Rattle.mesh_judge.specs.Judging.{TrianglesLent}
use Rattle.mesh_judge.proofs.Places.{judged-found, none-nowhere}
use Rattle.mesh_judge.proofs.judge_triangles.Goals as goal

module _ {N F : ℕ} {T ring work1 work2 work3 work4 : List ℕ}
    (L : TrianglesLent N F T ring work1 work2 work3 work4) where
  -- corners that passed 6 are below N
  listed : Listed N F T
  unfolding Passed
  listed =
      record {
        whole = L.lent.whole.whole;
        small = L.lent.small;
        below = corners-below N T L.corners.0;
      }

  -- what `ring_table` requires
  joinable : RingLent N F T work1 work2 work3 work4 ring
  joinable =
      record {
        listed = listed;
        bound = L.lent.bound;
        greater_room = L.lent.work1_room;
        head_room = L.lent.work2_room;
        stamp_room = L.lent.work3_room;
        last_room = L.lent.work4_room;
        ring_room = L.lent.ring_room;
      }

  -- what `same_as_earlier` requires, once the rings are made, since every slice keeps its length
  searchable : {work1' work2' ring' : List ℕ} → length work1' ≡ length work1 → length work2' ≡ length work2
      → length ring' ≡ length ring → RingBy (3 * F) (first_on T) ring' → SameLent N F T ring' work1' work2'
  unfolding Passed
  searchable a b c ringed =
      record {
        listed = listed;
        different = corners-different N T L.corners.1.0;
        ringed = ringed;
        ring_room = record { room = omega (arith, L.lent.ring_room) };
        thirds_room = record { room = omega (arith, L.lent.work1_room) };
        stamp_room = record { room = omega (arith, L.lent.work2_room) };
      }

  -- what `in_no_triangle` requires, for the same reason
  markable : {work3' : List ℕ} → length work3' ≡ length work3 → UsedLent N F T work3'
  markable a = record { listed = listed; marks_room = record { room = omega (arith, L.lent.work3_room) } }

  -- where the search for 8 finds none, it is given nowhere
  none-same : Least (SameAsEarlier T) F None → Nowhere (SameAsEarlier T)
  none-same = none-nowhere (λ k f. omega (arith, f.inside, L.lent.whole.whole))

pub ring_table-requires : goal.ring_table-requires
ring_table-requires c = joinable c.requires

pub same_as_earlier-requires : goal.same_as_earlier-requires
same_as_earlier-requires c = searchable c.requires c.ring_table.auto.greater c.ring_table.auto.head
    c.ring_table.auto.ring c.ring_table.ensures

pub returns-in-Some : goal.returns-in-Some
returns-in-Some c = record { verdict = judged-found c.in-Some.ensures; ringed = c.ring_table.ensures }

pub in_no_triangle-requires : goal.in_no_triangle-requires
in_no_triangle-requires c = markable c.requires c.ring_table.auto.stamp

pub returns-in-Some-in_no_triangle : goal.returns-in-Some-in_no_triangle
returns-in-Some-in_no_triangle c =
    record {
      verdict = judged-later (none-same c.requires c.in_default.ensures)
          (judged-found c.in-Some-in_no_triangle.ensures);
      ringed = c.ring_table.ensures;
    }

pub returns : goal.returns
returns c =
    record {
      verdict = judged-later (none-same c.requires c.in_default.ensures)
          (judged-later (none-nowhere (λ v f. f.inside) c.in_default-in_no_triangle.ensures) judged-none);
      ringed = c.ring_table.ensures;
    }
