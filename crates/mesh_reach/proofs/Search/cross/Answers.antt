-- `cross` of the search meets its contract: where the second link leads back, the next half-edge of the ring has the only
-- other triangle; an edge that is opened has its triangles marked already; and another one is opened.
use native.Mathlib.Omega.{arith}
use mathlib.Core.Path.{◌≡◌}
use Rattle.theory.specs.Mesh.{at}
use Rattle.mesh_reach.proofs.Spreading.{next-pushable, crossed-two, crossed-opened}
use Rattle.mesh_reach.proofs.Search.cross.Goals as goal

pub push-requires : goal.push-requires
push-requires c = next-pushable c.requires c.at-next.ensures

-- where the test passes, the second link leads back
back : (c : goal.After-push) → at c.args.ring.now c.at-next.result ≡ c.args.h
back c = omega arith

pub returns-then-at-h : goal.returns-then-at-h
returns-then-at-h c = crossed-two c.requires c.at-next.ensures (back c) c.push.ensures

pub returns-then-self-h-ne0 : goal.returns-then-self-h-ne0
returns-then-self-h-ne0 c = crossed-opened c.requires (omega arith)
