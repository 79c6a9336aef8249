-- Laws of the ring of the indices below a bound, as the bound goes up and as the index at the bound joins its ring.
use Prim.Native.Nat.{ℕ, suc, ◌≤◌, ◌<◌}
use native.Mathlib.Omega.{arith}
use mathlib.Core.Path.{◌≡◌, refl, sym, ◌∙◌}
use mathlib.Core.Logic.{◌≢◌}
use mathlib.Core.List.{List}
use lib.ListN.{length, length-set, set}
use Rattle.theory.specs.Mesh.{at}
use Rattle.lists.proofs.Lists.{at_set, at_set_other, by-lt}
use Rattle.mesh_rings.specs.Making.{SamePair, Follows}

-- l is the latest index below e with h's pair of keys.
pub record Latest (e : ℕ) (low high : ℕ → ℕ) (h l : ℕ) : Type 0 where
  pub below : l < e
  pub same : SamePair low high l h
  pub after : (g : ℕ) → l < g → g < e → SamePair low high g h → ⊥

-- The index behind which h joins its ring: the latest one before it, or h itself where none is.
pub data Joins (low high : ℕ → ℕ) (h : ℕ) : ℕ → Type 0 where
  behind : {l : ℕ} → Latest h low high h l → Joins low high h l
  alone : ((g : ℕ) → g < h → SamePair low high g h → ⊥) → Joins low high h h

module _ {low high : ℕ → ℕ} where
  -- an index has its own pair of keys
  pub same_pair-refl : {h : ℕ} → SamePair low high h h
  same_pair-refl = record { key = refl; other = refl }

  -- having the same pair of keys goes the other way round
  same_pair-sym : {g h : ℕ} → SamePair low high g h → SamePair low high h g
  same_pair-sym S = record { key = sym S.key; other = sym S.other }

  -- and on
  same_pair-trans : {f g h : ℕ} → SamePair low high f g → SamePair low high g h → SamePair low high f h
  same_pair-trans S R = record { key = S.key ∙ R.key; other = S.other ∙ R.other }

  -- the bound goes up past indices with other pairs
  pub follows_on : {e n h v : ℕ} → e ≤ n → ((g : ℕ) → e ≤ g → g < n → SamePair low high g h → ⊥)
      → Follows e low high h v → Follows n low high h v
  follows_on {e} {n} {h} {v} le none F =
      record {
        within = omega (arith, F.within);
        same = F.same;
        next = F.next;
        last = λ b g l p S. by-lt g e (λ q. F.last b g l q S) (λ q. none g q p S);
        first = F.first;
      }

  -- so it does for the latest index
  pub latest-on : {e n h l : ℕ} → e ≤ n → ((g : ℕ) → e ≤ g → g < n → SamePair low high g h → ⊥)
      → Latest e low high h l → Latest n low high h l
  latest-on {e} {n} {h} {l} le none L =
      record {
        below = omega (arith, L.below);
        same = L.same;
        after = λ g b p S. by-lt g e (λ q. L.after g b q S) (λ q. none g q p S);
      }

  -- h comes behind the latest one
  pub latest-leads : {h l : ℕ} → Latest h low high h l → Follows (suc h) low high l h
  latest-leads {h} {l} L =
      let below = L.below in
      record {
        within = omega arith;
        same = same_pair-sym L.same;
        next = λ b g f p S. L.after g f p (same_pair-trans S L.same);
        last = λ b. absurd (omega arith);
        first = λ b. absurd (omega arith);
      }

  -- what came behind the latest one is the first, and comes behind h
  pub latest-first : {h l v : ℕ} → Latest h low high h l → Follows h low high l v
      → Follows (suc h) low high h v
  latest-first {h} {l} {v} L F =
      record {
        within = omega (arith, F.within);
        same = same_pair-trans F.same L.same;
        next = λ b. absurd (omega (arith, F.within));
        last = λ b g f p. absurd (omega arith);
        first = λ b g p S. F.first round g p (same_pair-trans S (same_pair-sym L.same));
      }
    where
      round : v ≤ l
      round = by-lt l v (λ b. absurd (L.after v b F.within (same_pair-trans F.same L.same))) (λ b. b)

  -- alone, h comes behind itself
  pub alone-follows : {h : ℕ} → ((g : ℕ) → g < h → SamePair low high g h → ⊥)
      → Follows (suc h) low high h h
  alone-follows {h} none =
      record {
        within = omega arith;
        same = same_pair-refl;
        next = λ b. absurd (omega arith);
        last = λ b g f p. absurd (omega arith);
        first = λ b g p S. none g p S;
      }

  -- any other index leads where it led
  pub others-follow : {h p g v : ℕ} → Joins low high h p → g < h → g ≢ p → Follows h low high g v
      → Follows (suc h) low high g v
  others-follow {h} {p} {g} {v} (alone none) b ne F =
      follows_on (omega arith) (λ f le l S. none g b (same_pair-sym (rw (top f le l) at S))) F
    where
      top : (f : ℕ) → h ≤ f → f < suc h → f ≡ h
      top f le l = omega arith
  others-follow {h} {p} {g} {v} (behind L) b ne F =
      record {
        within = omega (arith, F.within);
        same = F.same;
        next = F.next;
        last = λ back f l u S.
            by-lt f h (λ q. F.last back f l q S)
            (λ q. F.last back p (earlier (same_pair-sym (rw (top f q u) at S))) L.below
            (same_pair-trans L.same (rw (top f q u) at S)));
        first = F.first;
      }
    where
      top : (f : ℕ) → h ≤ f → f < suc h → f ≡ h
      top f le l = omega arith

      earlier : SamePair low high g h → g < p
      earlier S = by-lt p g (λ l. absurd (L.after g l b S)) (λ l. omega arith)

-- The ring after h has joined it behind p.
abbrev pub spliced : List ℕ → ℕ → ℕ → List ℕ
spliced ring p h = set (set (set ring h h) h (at (set ring h h) p)) p h

-- p leads to h, h to where p led, and any other index to where it led
pub at-spliced : (P : ℕ → Type 0) (ring : List ℕ) (p h k : ℕ) → p < length ring → h < length ring → (k ≡ p → P h)
    → (k ≢ p → k ≡ h → P (at ring p)) → (k ≢ p → k ≢ h → P (at ring k)) → P (at (spliced ring p h) k)
at-spliced P ring p h k below room is_p is_h is_other =
    at_set P (set (set ring h h) h (at (set ring h h) p)) p h k (simp length-set below) is_p
    (λ ne.
    at_set P (set ring h h) h (at (set ring h h) p) k (simp length-set room)
    (λ e. rw (at_set_other ring h h p (λ q. ne (omega arith))) (is_h ne e))
    (λ other. rw (at_set_other ring h h k other) (is_other ne other)))

module _ {low high : ℕ → ℕ} (ring : List ℕ) {h : ℕ} where
  -- once h has joined, the ring of an index up to h is that of the indices up to h
  pub spliced-follows : {p : ℕ} → Joins low high h p → p < length ring → h < length ring → (g : ℕ) → g ≤ h
      → ((f : ℕ) → f < h → low f ≡ low h → Follows h low high f (at ring f))
      → low g ≡ low h → Follows (suc h) low high g (at (spliced ring p h) g)
  spliced-follows (alone none) below room g l made key =
      at-spliced (λ v. Follows (suc h) low high g v) ring h h g below room
      (λ e. rw e (alone-follows none))
      (λ ne e. absurd (ne e))
      (λ ne other. others-follow (alone none) (omega arith) ne (made g (omega arith) key))
  spliced-follows {p} (behind L) below room g l made key =
      at-spliced (λ v. Follows (suc h) low high g v) ring p h g below room
      (λ e. rw e (latest-leads L))
      (λ ne e. rw e (latest-first L (made p L.below L.same.key)))
      (λ ne other. others-follow (behind L) (omega arith) ne (made g (omega arith) key))
