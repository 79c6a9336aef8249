-- `split::number_all` meets its contract.
use Rattle.std.proofs.Common.{◌≡◌, ◌≢◌, ◌∙◌, refl, sym, ap, ℕ, ◌+◌, ◌≤◌, ◌<◌, List, length, set, arith}
use lib.ListN.{length-set}
use Rattle.theory.specs.Mesh.{at}
use Rattle.theory.specs.Counting.{count}
use Rattle.theory.specs.Splitting.{first_on, is_first, edge_no}
use Rattle.theory.proofs.Counting.{count-le}
use Rattle.theory.proofs.Splitting.{first_on-le}
use Rattle.lists.proofs.Lists.{by-eq, at_set}
use Rattle.mesh_rings.specs.Ring.{FollowsBy, RingBy}
use Rattle.split.specs.Numbers.{OneNumbered, next, same}
use Rattle.split.proofs.Numbering.{edge_no-first, edge_no-own, edge_no-given, first_on-own, counted, uncounted}
use Rattle.split.proofs.Numbering.{edges-all, follows_next}
use Rattle.split.proofs.number_all.Invariants.{Handed}
use Rattle.split.proofs.number_all.Goals as goal

-- no half-edge has a number at first
begun : {N n : ℕ} {T numbers : List ℕ} → ((h : ℕ) → h < n → at numbers h ≡ N + n) → Handed N n T numbers 0 0
unfolding count
begun none =
    record { given = λ g l b. absurd (omega arith); none = λ g l b e. none g b; total = refl }

module _ {N n : ℕ} {T ring numbers : List ℕ} {E h : ℕ} (R : RingBy n (first_on T) ring) (H : Handed N n T numbers E h)
    (l : h < n) (room : n ≤ length numbers) where
  -- a half-edge that is not the first on its edge was handed the number
  handed-on : first_on T h ≢ h → at numbers h ≡ edge_no N T h
  handed-on ne = H.given h l (omega (arith, first_on-le T h)) (λ f a b. absurd (omega arith))

  -- another half-edge that has the number at h + 1 had it at h
  earlier : (g : ℕ) → g < n → first_on T g < h + 1
      → ((f : ℕ) → h + 1 ≤ f → f < g → first_on T f ≡ first_on T g → ⊥) → g ≢ at ring h → g ≢ h
      → at numbers g ≡ edge_no N T g
  earlier g b c between ne other =
      H.given g b
      (by-eq (first_on T g) h (λ s. absurd (apart (omega (arith, first_on-le T g)) (first_on-own T g ∙ ap (first_on T) s)))
      (λ d. omega arith))
      (λ f p q e.
      by-eq f h (λ s. apart (omega arith) (sym e ∙ ap (first_on T) s)) (λ d. between f (omega arith) q e))
    where
      apart : h < g → first_on T g ≡ first_on T h → ⊥
      apart p e = ne (follows_next R h g p b e (λ f q r. between f (omega arith) r))

  -- h and the next one on its ring get the number of their edge
  placed : {v E' : ℕ} → v ≡ edge_no N T h → E' ≡ count (is_first T) (h + 1)
      → Handed N n T (set (set numbers h v) (at ring h) v) E' (h + 1)
  placed {v} e t =
      record {
        given = λ g b c between.
            both (λ w. w ≡ edge_no N T g) g
            (λ s. e ∙ edge_no-first N T h g (sym (ap (first_on T) s ∙ F.same)))
            (λ s. e ∙ ap (edge_no N T) (sym s))
            (earlier g b c between);
        none = λ g b c own.
            both (λ w. w ≡ N + n) g
            (λ s. absurd (omega (arith, first_on-le T h, ap (first_on T) s, F.same)))
            (λ s. absurd (omega arith))
            (λ _ _. H.none g (omega arith) c own);
        total = t;
      }
    where
      F : FollowsBy n (first_on T) h (at ring h)
      F = R.follows h l

      both : (P : ℕ → Type 0) (g : ℕ) → (g ≡ at ring h → P v) → (g ≡ h → P v)
          → (g ≢ at ring h → g ≢ h → P (at numbers g)) → P (at (set (set numbers h v) (at ring h) v) g)
      both P g onward here elsewhere =
          at_set P (set numbers h v) (at ring h) v g (simp length-set (omega (arith, F.within))) onward
          (λ ne. at_set P numbers h v g (omega arith) here (elsewhere ne))

  -- the next number where h has none, and else the one that it has
  one_more : {E' : ℕ} {numbers' : List ℕ} → length T ≡ n → OneNumbered h (at ring h) (N + n) N E numbers E' numbers'
      → Handed N n T numbers' E' (h + 1)
  one_more whole (next e) = placed (sym (edge_no-own N T h own ∙ ap (λ k. N + k) (sym H.total)))
      (ap (λ k. k + 1) H.total ∙ sym (counted T h own))
    where
      own : first_on T h ≡ h
      own = by-eq (first_on T h) h (λ s. s)
          (λ ne. absurd (edge_no-given N T h (omega arith) (sym (handed-on ne) ∙ e ∙ ap (λ k. N + k) (sym whole))))
  one_more whole (same d) = placed (handed-on other) (H.total ∙ sym (uncounted T h other))
    where
      other : first_on T h ≢ h
      other s = d (H.none h (omega arith) l s)

-- no more edges than half-edges have appeared
edges_few : {N n : ℕ} {T numbers : List ℕ} {E h : ℕ} → Handed N n T numbers E h → E ≤ h
edges_few {T = T} {h = h} H = omega (arith, H.total, count-le (is_first T) h)

pub loop-h-init : goal.loop-h-init
loop-h-init c T whole R = begun c.requires.none

pub number-edges-requires : goal.number-edges-requires
number-edges-requires c = let L = c.requires.lent in
    record {
      room = omega arith;
      next_room = omega (arith, c.at.ensures, (L.ringed.follows c.loop-h.h c.loop-h-test.true).within);
      small = omega (arith, edges_few (c.loop-h.invariant L.list L.whole L.ringed));
    }

pub loop-h-preserved : goal.loop-h-preserved
loop-h-preserved c T whole R =
    one_more R (c.loop-h.invariant T whole R) c.loop-h-test.true (omega arith) whole
    (rw c.at.ensures at c.number-edges.ensures)

pub returns : goal.returns
returns c = let e : c.loop-h.h ≡ c.args.halves = omega (arith, c.loop-h.auto.h-end) in
    record {
      number = λ T whole R. record {
        entry = λ g b.
            (c.loop-h.invariant T whole R).given g b (omega (arith, first_on-le T g)) (λ f p q. absurd (omega arith));
      };
      total = λ T whole R. (c.loop-h.invariant T whole R).total ∙ rw e (edges-all T whole);
    }
