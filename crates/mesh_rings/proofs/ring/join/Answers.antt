-- `mesh_rings::ring::join` meets its contract.
use Rattle.std.proofs.Common.{◌≡◌, ◌≢◌, ℕ, ◌≤◌, ◌<◌, List, length, set, refl, subst, arith}
use lib.ListN.{length-set}
use Rattle.theory.specs.Mesh.{at}
use Rattle.lists.proofs.Lists.{at_set}
use Rattle.mesh_rings.specs.Ring.{Chosen}
use Rattle.mesh_rings.specs.Making.{JoinLent, Joined}
use Rattle.mesh_rings.proofs.Following.{spliced}
use Rattle.mesh_rings.proofs.Joining.{Walk, walk-begun, walk-link, walk-turned, chosen-le}
use Rattle.mesh_rings.proofs.ring.join.Invariants.{Turn}
use Rattle.mesh_rings.proofs.ring.join.Goals as goal
use Rattle.mesh_rings.proofs.ring.join.Goals.{After-chosen-prev}

-- at the start no index of the chain has been passed
begun : {u start n : ℕ} {greater stamp last ring : List ℕ} → JoinLent u start n greater stamp last ring
    → Turn u start n greater stamp ring stamp last ring start
begun L =
    record { within = L.chain.starts.within; walks = λ low C. walk-begun L.fresh C; stamps = λ x _. refl }

module _ {u start n : ℕ} {greater stamp₀ last₀ ring₀ stamp last ring : List ℕ} {h : ℕ}
    (L : JoinLent u start n greater stamp₀ last₀ ring₀) (T : Turn u start n greater stamp₀ ring₀ stamp last ring h) where
  -- the walk by the keys that the chain came with
  walk : Walk L.low u start n greater ring₀ stamp last ring h
  walk = T.walks L.low L.chain

  -- the choice, as the loop reads its numbers
  read-chosen : {x s c p : ℕ} → x ≡ at greater h → s ≡ at stamp x → c ≡ at last x → Chosen s u c h p
      → Chosen (at stamp (at greater h)) u (at last (at greater h)) h p
  read-chosen {x} {s} {c} {p} ex es ec C =
      subst (λ (y : ℕ). Chosen (at stamp y) u (at last y) h p) ex
      (subst (λ (w : ℕ). Chosen (at stamp x) u w h p) ec (subst (λ (w : ℕ). Chosen w u c h p) es C))

  -- what is chosen is not after h
  prev-not-after : {x s c p : ℕ} → h < n → x ≡ at greater h → s ≡ at stamp x → c ≡ at last x → Chosen s u c h p → p ≤ h
  prev-not-after l ex es ec C = chosen-le walk l (read-chosen ex es ec C)

  -- one turn, as the loop reads its numbers
  turned : {x s c p next : ℕ} → length stamp ≡ length stamp₀ → length last ≡ length last₀ → length ring ≡ length ring₀
      → h < n → x ≡ at greater h → s ≡ at stamp x → c ≡ at last x → Chosen s u c h p → next ≡ at ring h
      → Turn u start n greater stamp₀ ring₀ (set stamp x u) (set last x h) (spliced ring p h) next
  turned {x} {s} {c} {p} stamps lasts rings l ex es ec C en =
      let D = read-chosen ex es ec C in
      let room : at greater h < length stamp = omega (arith, L.stampable h l) in
      rw (ex, en)
      (record {
        within = (walk-link walk l).within;
        walks = λ low K.
            walk-turned (T.walks low K) l room (omega (arith, L.lastable h l)) (omega (arith, L.roomy)) D;
        stamps = λ y.
            at_set (λ w. w ≢ u → w ≡ at stamp₀ y) stamp (at greater h) u y room
            (λ _ ne. absurd (ne refl))
            (λ _. T.stamps y);
      })

  -- the walk goes forward
  onward : {next : ℕ} → h < n → next ≡ at ring h → h < next
  onward l e = omega (arith, (walk-link walk l).from)

  -- at the end of the chain all its indices are in rings
  finished : n ≤ h → Joined u start n greater stamp₀ ring₀ stamp ring
  finished l =
      let e : h ≡ n = omega (arith, T.within) in
      record {
        made = λ low C g b k. rw e at ((T.walks low C).made g (omega arith) k);
        rest = λ low C g b ne. (T.walks low C).rest g b (λ k. absurd (ne k));
        stamps = T.stamps;
      }

-- `prev` is not after h
prev-le : (c : After-chosen-prev) → c.chosen-prev.result ≤ c.loop-h.h
prev-le c =
    prev-not-after c.requires c.loop-h.invariant c.loop-h-test.true c.at-x.ensures c.at.ensures c.at-in-loop-h.ensures
    c.chosen-prev.ensures

pub offset_bounds-ring-prev : goal.offset_bounds-ring-prev
offset_bounds-ring-prev c = omega (arith, prev-le (goal.at.offset_bounds-ring-prev c).After-chosen-prev)

pub bounds-ring-prev : goal.bounds-ring-prev
bounds-ring-prev c = simp length-set (omega (arith, prev-le (goal.at.bounds-ring-prev c).After-chosen-prev))

pub offset_bounds-ring-prev-in-loop-h : goal.offset_bounds-ring-prev-in-loop-h
offset_bounds-ring-prev-in-loop-h c =
    omega (arith, prev-le (goal.at.offset_bounds-ring-prev-in-loop-h c).After-chosen-prev)

pub bounds-ring-prev-in-loop-h : goal.bounds-ring-prev-in-loop-h
bounds-ring-prev-in-loop-h c =
    simp length-set (omega (arith, prev-le (goal.at.bounds-ring-prev-in-loop-h c).After-chosen-prev))

pub loop-h-smaller : goal.loop-h-smaller
loop-h-smaller c = omega (arith, onward c.requires c.loop-h.invariant c.loop-h-test.true c.at-next.ensures)

pub loop-h-preserved : goal.loop-h-preserved
loop-h-preserved c =
    turned c.requires c.loop-h.invariant c.loop-h.auto.stamp c.loop-h.auto.last c.loop-h.auto.ring c.loop-h-test.true
    c.at-x.ensures c.at.ensures c.at-in-loop-h.ensures c.chosen-prev.ensures c.at-next.ensures

pub returns : goal.returns
returns c = finished c.requires c.loop-h.invariant c.loop-h-test.false
