use native.Mathlib.Omega.{arith}
use Prim.Native.Nat.{ℕ, ◌*◌, ◌/◌, ◌≤◌, ◌<◌}
use mathlib.Core.Path.{◌≡◌, ◌∙◌, refl, sym, ap}
use mathlib.Core.Logic.{◌≢◌, inl, inr, ⊎_elim}
use mathlib.Core.List.{List}
use lib.ListN.{length, length-set, set}
use denote.MutBor.{MutBor}
use Rattle.theory.specs.Mesh.{at}
use Rattle.lists.proofs.Lists.{by-eq, at_set_other}
use Rattle.mesh_rings.specs.Ring.{RingBy}
use Rattle.mesh_reach.specs.declared.Search.{Search}
use Rattle.mesh_reach.specs.Searching.{Grown, PushLent, Pushed, HasKey, CrossLent, Crossed}
use Rattle.mesh_reach.proofs.Rounds.{Goes, left, goes-less, round-behind, ring-goes, first-behind, step-behind}
use Rattle.mesh_reach.proofs.Queues.{same-refl, same-trans, grown-none, grown-trans, push-lent, pushed-grown}
use Rattle.mesh_reach.proofs.Queues.{pushed-marked}
use Rattle.mesh_reach.proofs.Spreading.{has_key-moved}
use Rattle.mesh_reach.proofs.Search.open_ring.Invariants.{Turn}
use Rattle.mesh_reach.proofs.Search.open_ring.Goals as goal

-- at first the half-edge itself alone is behind the walk
begun : {h F : ℕ} {ring : List ℕ} {s : Search} {x : ℕ} → CrossLent h F ring s → x ≡ at ring h
    → Turn h F ring s s x
begun {h} {s = s} L e =
    rw e
    (record {
      lent = L;
      same = same-refl;
      within = (L.ringed.follows h L.inside).within;
      keyed = λ key R. (R.follows h L.inside).same;
      grown = λ key R. grown-none L.queued;
      passed = λ key R g l k B.
          by-eq g h
          (λ same. ap (λ f. at s.marks.now (f / 3)) same ∙ L.own)
          (λ ne. absurd (first-behind (R.follows h L.inside) l k ne B));
      opens = λ key R g o. inl o;
    })

module _ {h F : ℕ} {ring : List ℕ} {s₀ s : Search} {x : ℕ} (T : Turn h F ring s₀ s x) where
  -- back at the half-edge all triangles of the ring are marked
  finished : x ≡ h → Crossed h F ring s₀ s
  finished e =
      record {
        grown = T.grown;
        all = all;
        complete = record {
          all = λ key R g l o k H.
              ⊎_elim
              (λ old. (T.grown key R).kept k (T.lent.complete.all key R g l old k H))
              (λ same. all key R k (has_key-moved same H))
              (T.opens key R g o);
        };
        same = T.same;
      }
    where
      all : (key : ℕ → ℕ) → RingBy (3 * F) key ring → (k : ℕ) → HasKey F key h k → at s.marks.now k ≡ 1
      all key R k H = rw H.of at (T.passed key R H.half H.inside H.same (round-behind e H.half))

  -- there is a mark for each triangle
  marks-room : F ≤ length s.marks.now
  marks-room = omega (arith, T.lent.marks_room, T.same.marks_long)

  -- the queue has room for one more
  queue-room : F < length s.queue.now
  queue-room = omega (arith, T.lent.queue_room, T.same.queue_long)

  -- the triangle of x is one
  x_below : x / 3 < F
  x_below = omega (arith, T.within)

  -- where the walk goes
  goes : (key : ℕ → ℕ) → RingBy (3 * F) key ring → x ≢ h → Goes h x (at ring x)
  goes key R ne = ring-goes T.lent.inside (T.keyed key R) ne (R.follows x T.within)

  -- less is left
  less : {v : ℕ} → x ≢ h → v ≡ at ring x → left h (3 * F) v < left h (3 * F) x
  less ne e =
      rw e
      (goes-less T.lent.small T.within (T.lent.ringed.follows x T.within).within
      (goes T.lent.key T.lent.ringed ne))

  -- what is opened is nothing to the queue
  module _ (opened : MutBor (List ℕ)) where
    grown-kept : (key : ℕ → ℕ) → RingBy (3 * F) key ring → Grown F (HasKey F key h) s₀ (record s { opened = opened })
    grown-kept key R =
        let G = T.grown key R in
        let Q = G.queued in
        record {
          queued = record { bit = Q.bit; below = Q.below; marked = Q.marked; apart = Q.apart; held = Q.held };
          more = G.more;
          front = G.front;
          kept = G.kept;
          only = G.only;
        }

    -- what `push` is lent for the triangle of x
    pushable : PushLent (x / 3) (record s { opened = opened })
    pushable = push-lent (grown-kept T.lent.key T.lent.ringed).queued x_below marks-room queue-room T.lent.small

    module _ {t : Search} (P : Pushed (x / 3) (record s { opened = opened }) t)
        (e : opened.now ≡ set s.opened.now x 1) (n : opened.ghost_name ≡ s.opened.ghost_name) where
      -- the growth of this push
      push-grown : (key : ℕ → ℕ) → RingBy (3 * F) key ring
          → Grown F (HasKey F key h) (record s { opened = opened }) t
      push-grown key R =
          pushed-grown (grown-kept key R).queued x_below marks-room queue-room P
          (record { half = x; inside = T.within; same = T.keyed key R; of = refl })

      -- one turn
      turned : {v : ℕ} → x ≢ h → v ≡ at ring x → Turn h F ring s₀ t v
      turned ne q =
          rw q
          (record {
            lent = T.lent;
            same = same-trans T.same (record {
              marks = P.same.marks;
              queue = P.same.queue;
              opened = P.same.opened ∙ n;
              marks_long = P.same.marks_long;
              queue_long = P.same.queue_long;
              opened_long = P.same.opened_long ∙ ap length e ∙ length-set s.opened.now x 1;
            });
            within = (T.lent.ringed.follows x T.within).within;
            keyed = λ key R. (R.follows x T.within).same ∙ T.keyed key R;
            grown = λ key R. grown-trans (grown-kept key R) (push-grown key R);
            passed = λ key R g l k B.
                by-eq g x
                (λ same.
                ap (λ f. at t.marks.now (f / 3)) same
                ∙ pushed-marked (grown-kept key R).queued x_below marks-room queue-room P)
                (λ other.
                (push-grown key R).kept (g / 3)
                (T.passed key R g l k
                (step-behind (R.follows x T.within) (goes key R ne) l (k ∙ sym (T.keyed key R)) other B)));
            opens = λ key R g o.
                by-eq g x
                (λ same. inr (ap key same ∙ T.keyed key R))
                (λ other.
                T.opens key R g
                (λ z. o (ap (λ ys. at ys g) (P.opening ∙ e) ∙ at_set_other s.opened.now x 1 g other ∙ z)));
          })

pub loop-x-init : goal.loop-x-init
loop-x-init c = begun c.requires c.at-x.ensures

pub push-requires : goal.push-requires
push-requires c = pushable c.loop-x.invariant _

pub loop-x-smaller : goal.loop-x-smaller
loop-x-smaller c = less c.loop-x.invariant (omega arith) c.at-x-in-loop-x.ensures

pub loop-x-preserved : goal.loop-x-preserved
loop-x-preserved c = turned c.loop-x.invariant _ c.push.ensures refl refl (omega arith) c.at-x-in-loop-x.ensures

pub returns : goal.returns
returns c = finished c.loop-x.invariant (omega arith)
