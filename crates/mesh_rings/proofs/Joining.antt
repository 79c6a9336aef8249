-- A walk along a chain that joins its indices to rings, as the loop of `join` takes it: an index a turn.
use Prim.Native.Nat.{ℕ, suc, ◌≤◌, ◌<◌}
use native.Mathlib.Omega.{arith}
use mathlib.Core.Path.{◌≡◌, ◌∙◌, refl, sym, ap}
use mathlib.Core.Logic.{◌≢◌}
use mathlib.Core.List.{List}
use lib.ListN.{length, set}
use Rattle.theory.specs.Mesh.{at}
use Rattle.lists.proofs.Lists.{at_set, at_set_other, by-lt}
use Rattle.mesh_rings.specs.Ring.{Chosen, met, new}
use Rattle.mesh_rings.specs.Chains.{Nearest}
use Rattle.mesh_rings.specs.Making.{SamePair, Follows, Chain}
use Rattle.mesh_rings.proofs.Following.{Latest, Joins, behind, alone, follows_on, latest-on}
use Rattle.mesh_rings.proofs.Following.{spliced, at-spliced, spliced-follows}

-- h is the next index of the chain, the indices of the chain before h are in rings, the others still have the links
-- they came with, and `stamp` and `last` know the latest index before h of each pair of keys.
pub record Walk (low : ℕ → ℕ) (u start n : ℕ) (greater ring₀ stamp last ring : List ℕ) (h : ℕ) : Type 0 where
  pub chain : Chain low u start n ring₀
  pub within : h ≤ n
  pub holds : h < n → low h ≡ u
  pub made : (g : ℕ) → g < h → low g ≡ u → Follows h low (at greater) g (at ring g)
  pub rest : (g : ℕ) → g < n → (low g ≡ u → h ≤ g) → at ring g ≡ at ring₀ g
  pub stamped : (g : ℕ) → g < h → low g ≡ u → at stamp (at greater g) ≡ u
  pub latest : (g : ℕ) → g < n → low g ≡ u → at stamp (at greater g) ≡ u
      → Latest h low (at greater) g (at last (at greater g))

-- at the start no index of the chain has been passed
pub walk-begun : {low : ℕ → ℕ} {u start n : ℕ} {greater stamp last ring : List ℕ}
    → ((h : ℕ) → h < n → at stamp (at greater h) ≢ u) → Chain low u start n ring
    → Walk low u start n greater ring stamp last ring start
walk-begun fresh C =
    record {
      chain = C;
      within = C.starts.within;
      holds = C.starts.holds;
      made = λ g l e. absurd (C.starts.before g (omega arith) l e);
      rest = λ g l _. refl;
      stamped = λ g l e. absurd (C.starts.before g (omega arith) l e);
      latest = λ g l e s. absurd (fresh g l s);
    }

module _ {low : ℕ → ℕ} {u start n : ℕ} {greater ring₀ stamp last ring : List ℕ} {h : ℕ}
    (W : Walk low u start n greater ring₀ stamp last ring h) (l : h < n) where
  -- the link of h is still that of the chain
  pub walk-link : Nearest low u (suc h) n (at ring h)
  walk-link = rw (W.rest h l (λ _. omega arith)) (W.chain.links h l (W.holds l))

  -- an index of the chain before the next one is h or stands before h
  passed : (g : ℕ) → g < at ring h → low g ≡ u → g ≤ h
  passed g b e = by-lt h g (λ f. absurd (walk-link.before g f b e)) (λ f. f)

  -- none between h and the next one has the keys of an index of the chain
  between : (g : ℕ) → low g ≡ u → (f : ℕ) → suc h ≤ f → f < at ring h → SamePair low (at greater) f g → ⊥
  between g e f a b S = walk-link.before f a b (S.key ∙ e)

  -- what is chosen is where h joins its ring
  joins : {p : ℕ} → Chosen (at stamp (at greater h)) u (at last (at greater h)) h p → Joins low (at greater) h p
  joins (met e) = behind (W.latest h l (W.holds l) e)
  joins (new ne) = alone (λ g b S. ne (rw (ap (at stamp) S.other) at (W.stamped g b (S.key ∙ W.holds l))))

  -- h joins behind an index of the chain that is not after it
  joins-holds : {p : ℕ} → Joins low (at greater) h p → (p ≤ h) × (low p ≡ u)
  joins-holds (behind L) = (omega (arith, L.below), L.same.key ∙ W.holds l)
  joins-holds (alone none) = (omega arith, W.holds l)

  -- what is chosen is not after h
  pub chosen-le : {p : ℕ} → Chosen (at stamp (at greater h)) u (at last (at greater h)) h p → p ≤ h
  chosen-le C = (joins-holds (joins C)).0

  module _ (stamp_room : at greater h < length stamp) (last_room : at greater h < length last)
      (ring_room : h < length ring) where
    -- the latest index of each pair, once h is put down
    latest-put : (g : ℕ) → g < n → low g ≡ u → at (set stamp (at greater h) u) (at greater g) ≡ u
        → Latest (at ring h) low (at greater) g (at (set last (at greater h) h) (at greater g))
    latest-put g b e s =
        latest-on walk-link.from (between g e)
        (at_set (λ w. Latest (suc h) low (at greater) g w) last (at greater h) h (at greater g) last_room
        (λ o. record {
          below = omega arith;
          same = record { key = W.holds l ∙ sym e; other = sym o };
          after = λ f c d. absurd (omega arith);
        })
        (λ ne.
        latest-on (omega arith) (λ f c d S. ne (sym S.other ∙ ap (at greater) (top f c d)))
        (W.latest g b e (sym (at_set_other stamp (at greater h) u (at greater g) ne) ∙ s))))
      where
        top : (f : ℕ) → h ≤ f → f < suc h → f ≡ h
        top f c d = omega arith

    -- h joins its ring behind p, and the walk goes on
    stepped : {p : ℕ} → Joins low (at greater) h p → p ≤ h → low p ≡ u
        → Walk low u start n greater ring₀ (set stamp (at greater h) u) (set last (at greater h) h) (spliced ring p h)
        (at ring h)
    stepped {p} J le key =
        record {
          chain = W.chain;
          within = walk-link.within;
          holds = walk-link.holds;
          made = λ g b e.
              follows_on walk-link.from (between g e)
              (spliced-follows ring J behind_room ring_room g (passed g b e) (λ f c k. W.made f c (k ∙ W.holds l))
              (e ∙ sym (W.holds l)));
          rest = λ g b out.
              at-spliced (λ v. v ≡ at ring₀ g) ring p h g behind_room ring_room
              (λ e. absurd (omega (arith, out (rw e key), walk-link.from)))
              (λ ne e. absurd (omega (arith, out (rw e (W.holds l)), walk-link.from)))
              (λ ne other. W.rest g b (λ e. omega (arith, out e, walk-link.from)));
          stamped = λ g b e.
              at_set (λ w. w ≡ u) stamp (at greater h) u (at greater g) stamp_room
              (λ _. refl)
              (λ ne. W.stamped g (before g b e (λ s. ne (ap (at greater) s))) e);
          latest = latest-put;
        }
      where
        behind_room : p < length ring
        behind_room = omega arith

        before : (g : ℕ) → g < at ring h → low g ≡ u → g ≢ h → g < h
        before g b e ne = omega (arith, passed g b e)

    -- one turn
    pub walk-turned : {p : ℕ} → Chosen (at stamp (at greater h)) u (at last (at greater h)) h p
        → Walk low u start n greater ring₀ (set stamp (at greater h) u) (set last (at greater h) h) (spliced ring p h)
        (at ring h)
    walk-turned C = let J = joins C in stepped J (joins-holds J).0 (joins-holds J).1
