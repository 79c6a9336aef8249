use native.Mathlib.Omega.{arith}
use mathlib.Core.Path.{refl}
use Rattle.mesh_reach.proofs.Queues.{queued-le}
use Rattle.mesh_reach.proofs.Spreading.{progress-begun, progress-enters, amid-crossed, progress-leaves}
use Rattle.mesh_reach.proofs.Spreading.{progress-finished}
use Rattle.mesh_reach.proofs.Search.spread.Goals as goal

pub loop-next-init : goal.loop-next-init
loop-next-init c = progress-begun c.requires

pub offset_bounds-self-next : goal.offset_bounds-self-next
offset_bounds-self-next c = omega (arith, queued-le c.loop-next.invariant.queued)

pub bounds-self-next : goal.bounds-self-next
bounds-self-next c =
    omega (arith, queued-le c.loop-next.invariant.queued, c.requires.lent.queue_room, c.loop-next.invariant.same.queue_long)

pub loop-next-smaller : goal.loop-next-smaller
loop-next-smaller c = omega (arith, queued-le c.loop-next.invariant.queued)

pub loop-next-preserved : goal.loop-next-preserved
loop-next-preserved c =
    let entered = progress-enters c.loop-next.invariant (omega arith) refl in
    let one = amid-crossed entered (omega arith) (omega arith) c.cross.ensures in
    let two = amid-crossed one (omega arith) (omega arith) c.cross-in-loop-next.ensures in
    progress-leaves (amid-crossed two (omega arith) (omega arith) c.cross-in-loop-next-2.ensures)

pub returns-clause-reached : goal.returns-clause-reached
returns-clause-reached c = progress-finished c.loop-next.invariant (omega arith)
