-- `mesh_judge::judge_connected` meets its contract: the marks that are 0 are those of the triangles that are not
-- reached over shared edges from triangle 0.
use native.Mathlib.Omega.{arith}
use Prim.Native.Nat.{ℕ, ◌<◌}
use mathlib.Core.Path.{◌≡◌}
use mathlib.Core.Logic.{◌⊎◌, inl, inr}
use mathlib.Core.List.{List}
use Rattle.std.proofs.Common.{Option}
use Rattle.theory.specs.Mesh.{at, triangles, Reach}
use Rattle.theory.specs.Splitting.{first_on}
use Rattle.theory.specs.Refusals.{NotConnected}
use Rattle.lists.specs.Places.{Least}
use Rattle.lists.proofs.Places.{least-alike}
use Rattle.limits.proofs.Judgement.{judged-none, judged-later}
use Rattle.mesh_rings.specs.Tables.{Different, different}
use Rattle.mesh_rings.proofs.Sides.{corners-different}
use Rattle.mesh_reach.specs.Reached.{ReachLent, Marked, Reached}
use Rattle.mesh_reach.proofs.Joins.{reach-joins, joins-reach}
use Rattle.mesh_judge.specs.Judging.{ConnectLent}
use Rattle.mesh_judge.proofs.Places.{judged-found, none-nowhere}
use Rattle.mesh_judge.proofs.judge_connected.Goals as goal

module _ {T ring marks₀ queue opened : List ℕ} (L : ConnectLent T ring marks₀ queue opened) where
  -- what `reach` requires
  reachable : ReachLent 0 (triangles T) ring marks₀ queue opened
  reachable =
      record {
        inside = L.some;
        small = L.small;
        ring_room = L.ring_room;
        marks_room = L.marks_room;
        queue_room = L.queue_room;
        opened_room = L.opened_room;
        key = first_on T;
        ringed = L.ringed;
      }

  -- every triangle has three different corners
  apart : (k : ℕ) → k < triangles T → Different T k
  apart = corners-different L.whole L.different

  module _ {marks : List ℕ} (R : Reached 0 (triangles T) ring marks) where
    -- the marks, by the edges
    marked : Marked 0 (triangles T) (first_on T) marks
    marked = R.marked (first_on T) L.ringed

    -- a triangle whose mark is 0 is not reached
    unreached : (k : ℕ) → k < triangles T → at marks k ≡ 0 → Reach T 0 k → ⊥
    unreached k l e r = omega (arith, marked.all k l (reach-joins T (triangles T) L.whole r))

    -- the mark of a triangle that is not reached is 0
    unmarked : (k : ℕ) → k < triangles T → (Reach T 0 k → ⊥) → at marks k ≡ 0
    unmarked k l n = go (marked.bit k l)
      where
        go : (at marks k ≡ 0) ⊎ (at marks k ≡ 1) → at marks k ≡ 0
        go (inl e) = e
        go (inr e) =
            absurd (n (joins-reach T (triangles T) L.whole (λ j b. different (apart j b)) (apart 0 L.some)
            (marked.only k l e)))

    -- so the least mark that is 0 is that of the least triangle that is not connected to triangle 0
    placed : {answer : Option ℕ} → Least (λ k. at marks k ≡ 0) (triangles T) answer
        → Least (NotConnected T) (triangles T) answer
    placed = least-alike (λ k l e. record { inside = l; apart = unreached k l e }) (λ k l Q. unmarked k l Q.apart)

pub returns-in-Some : goal.returns-in-Some
returns-in-Some c = judged-found (placed c.requires c.reach.ensures c.in-Some.ensures)

pub returns-in-None : goal.returns-in-None
returns-in-None c = judged-later
    (none-nowhere (λ k f. f.inside) (placed c.requires c.reach.ensures c.in-None.ensures)) judged-none
