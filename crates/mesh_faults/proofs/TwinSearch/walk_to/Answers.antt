use Prim.Native.Nat.{◌<◌}
use native.Mathlib.Omega.{arith}
use mathlib.Core.Path.{◌≡◌, ◌∙◌, ap}
use Rattle.theory.specs.Mesh.{at}
use Rattle.mesh_faults.proofs.Tables.{same-none, same-more}
use Rattle.mesh_faults.proofs.Search.{first_on, walked_none, meetable, next-above, next-on}
use Rattle.mesh_faults.proofs.Search.{walked_on, walked_more, walked_all}
use Rattle.mesh_faults.proofs.TwinSearch.walk_to.Goals as goal

-- the walk begins at the first
pub loop-x-init : goal.loop-x-init
loop-x-init c =
    rw c.at-x.ensures
    (record { same = same-none; on = first_on c.requires; walked = walked_none c.requires })

pub meet-found-requires : goal.meet-found-requires
meet-found-requires c =
    let S = c.loop-x.invariant in
    rw S.same.thirds (meetable c.requires S.on S.same.long)

-- what follows x, after it was met
linked : (c : goal.After-at-x-in-loop-x) → c.at-x-in-loop-x.result ≡ at c.args.self.now.ring.now c.loop-x.x
linked c =
    c.at-x-in-loop-x.ensures
    ∙ ap (λ ring. at ring.now c.loop-x.x) (c.meet-found.ensures.same.ring ∙ c.loop-x.invariant.same.ring)

-- in the loop x is before h
before_last : (c : goal.After-at-x-in-loop-x) → c.loop-x.x < c.args.h
before_last c = omega arith

pub loop-x-smaller : goal.loop-x-smaller
loop-x-smaller c = omega (arith, linked c, next-above c.requires c.loop-x.invariant.on (before_last c))

-- x is met, and the walk goes on
pub loop-x-preserved : goal.loop-x-preserved
loop-x-preserved c =
    let S = c.loop-x.invariant in
    let l = before_last c in
    rw (linked c)
    (record {
      same = same-more S.same c.meet-found.ensures.same;
      on = next-on c.requires S.on l;
      walked = walked_on c.requires S.on l
          (walked_more c.requires S.on S.walked (rw S.same.thirds at c.meet-found.ensures.met));
    })

-- in the end it has come to h, which is met too
pub returns-clause-looked : goal.returns-clause-looked
returns-clause-looked c =
    let S = c.loop-x.invariant in
    let e : c.loop-x.x ≡ c.args.h = omega arith in
    walked_all
    (walked_more c.requires (rw e at S.on) (rw e at S.walked) (rw S.same.thirds at c.meet.ensures.met))
