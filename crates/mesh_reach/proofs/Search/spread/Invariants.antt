-- `spread` of the search meets its contract. The loop's invariant: the search has crossed the edges of the queue's entries
-- before `next`. A turn crosses the three edges of one entry more. The measure is what is left of all triangles.
use Prim.Native.Nat.{◌-◌, ◌*◌}
use Rattle.mesh_reach.proofs.Spreading.{Progress}
use Rattle.mesh_reach.proofs.Search.spread.Given as goal

abbrev pub invariant-loop-next : goal.invariant-loop-next
invariant-loop-next l = Progress l.triangles l.ring l.fn.self l.self (3 * l.next)

abbrev pub decreases-loop-next : goal.decreases-loop-next
decreases-loop-next l = l.triangles - l.next
