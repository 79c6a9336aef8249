use Prim.Native.Nat.{ℕ, ◌+◌, ◌*◌, ◌<◌}
use native.Mathlib.Omega.{arith}
use mathlib.Core.Path.{sym}
use mathlib.Core.Logic.{◌≢◌}
use mathlib.Core.List.{List}
use lib.ListN.{length, set}
use lib.Seq.{length-take-le}
use borrow.Author.Count.{below_more}
use Rattle.theory.specs.Mesh.{at}
use Rattle.lists.proofs.Lists.{at_set, at_take}
use Rattle.mesh_faults.specs.Faults.{MarksLent, UsedMark, used, unused, UsedMarks}
use Rattle.mesh_faults.proofs.mark_used.Goals as goal

-- before the first corner no vertex is marked
begun : {T : List ℕ} {N F : ℕ} {marks : List ℕ} → MarksLent N F T marks → UsedMarks N T 0 marks
begun L = record { mark = λ v l. rw (L.clear v l) (unused (λ d b. absurd (omega arith))) }

-- a corner that holds another vertex does not change the mark
mark-kept : {T : List ℕ} {c v w : ℕ} → v ≢ at T c → UsedMark T c v w → UsedMark T (c + 1) v w
mark-kept ne (used d l e) = used d (omega arith) e
mark-kept ne (unused none) = unused (below_more _ _ none (λ e. ne (sym e)))

-- the vertex at corner c is marked
turned : {T marks : List ℕ} {N c : ℕ} → UsedMarks N T c marks → at T c < length marks
    → UsedMarks N T (c + 1) (set marks (at T c) 1)
turned {T} {marks} {c = c} S room =
    record {
      mark = λ v b.
          at_set (λ w. UsedMark T (c + 1) v w) marks (at T c) 1 v room
          (λ same. used c (omega arith) (sym same))
          (λ other. mark-kept other (S.mark v b));
    }

pub loop-corner-init : goal.loop-corner-init
loop-corner-init c = begun c.requires

pub loop-corner-preserved : goal.loop-corner-preserved
loop-corner-preserved c =
    let T = c.args.mesh.list.now in
    let k = c.loop-corner.corner-index in
    let l : k < 3 * c.args.mesh.triangles = omega (arith, length-take-le (3 * c.args.mesh.triangles) T (omega arith)) in
    rw (at_take (3 * c.args.mesh.triangles) T k l)
    (turned c.loop-corner.invariant (omega (arith, c.requires.listed.below k (omega arith))))
