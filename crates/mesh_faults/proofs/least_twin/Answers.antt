use Prim.Native.Nat.{ℕ, ◌+◌, ◌≤◌, ◌<◌}
use native.Mathlib.Omega.{arith}
use mathlib.Core.Path.{◌≡◌, sym, ◌∙◌}
use mathlib.Core.List.{List}
use Rattle.theory.specs.Mesh.{at}
use Rattle.std.proofs.Common.{Some, None}
use Rattle.mesh_faults.specs.Twins.{TwinFound, TwinMet}
use Rattle.mesh_faults.proofs.Search.{least-some, least-nothing}
use Rattle.mesh_faults.proofs.Tables.{same-more}
use Rattle.mesh_faults.proofs.least_twin.Invariants.{Turn}
use Rattle.mesh_faults.proofs.least_twin.Goals as goal

module _ {n : ℕ} {ring thirds stamp : List ℕ} {least h : ℕ} (S : Turn n ring thirds stamp least h) where
  -- the edges that end at h are looked at too
  turned : {found : ℕ} {stamp' : List ℕ} → TwinMet h n ring thirds least stamp found stamp'
      → Turn n ring thirds stamp' found (h + 1)
  turned M =
      record {
        fresh = λ g x b k m e.
            S.fresh g x (omega arith) k m (sym (M.stamps (at thirds x) (omega arith)) ∙ e);
        counted = λ key R. M.more key R (S.counted key R);
      }

  -- in the end all edges are
  module _ (e : h ≡ n) where
    finished : least < n → TwinFound n ring thirds (Some least)
    finished l = record { found = λ key R. least-some (rw e at (S.counted key R)) l }

    finished-none : n ≤ least → TwinFound n ring thirds None
    finished-none l = record { found = λ key R. least-nothing (rw e at (S.counted key R)) l }

-- what `look_at` is lent
pub look_at-least-requires : goal.look_at-least-requires
look_at-least-requires c =
    let S = c.loop-h.invariant in
    let L = c.requires in
    rw (S.same.number, S.same.ring, S.same.thirds)
    (record {
      room = record {
        small = L.room.small;
        ring_room = L.room.ring_room;
        thirds_room = L.room.thirds_room;
        stampable = λ x m. omega (arith, L.room.stampable x m, S.same.long);
        key = L.room.key;
        ringed = L.room.ringed;
      };
      inside = c.loop-h-test.true;
      fresh = S.turn.fresh;
    })

pub loop-h-preserved : goal.loop-h-preserved
loop-h-preserved c =
    let S = c.loop-h.invariant in
    record {
      same = same-more S.same c.look_at-least.ensures.same;
      turn = turned S.turn (rw (S.same.number, S.same.ring, S.same.thirds) at c.look_at-least.ensures.looked);
    }

pub returns-then-least-n : goal.returns-then-least-n
returns-then-least-n c = finished c.loop-h.invariant.turn (omega arith) c.if-least-n.true

pub returns-else-least-n : goal.returns-else-least-n
returns-else-least-n c = finished-none c.loop-h.invariant.turn (omega arith) c.if-least-n.false
