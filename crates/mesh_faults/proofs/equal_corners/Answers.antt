use Prim.Native.Nat.{ℕ, ◌+◌, ◌*◌, ◌/◌, ◌<◌}
use native.Mathlib.Omega.{arith}
use mathlib.Core.Path.{◌≡◌, ◌∙◌, refl, sym, ap}
use mathlib.Core.Logic.{◌≢◌}
use mathlib.Core.List.{List}
use borrow.Author.Count.{below_more}
use lib.ListN.{length}
use Rattle.theory.specs.Mesh.{at}
use Rattle.theory.specs.Refusals.{EqualCorners}
use Rattle.lists.specs.Places.Least.{found, none}
use Rattle.lists.proofs.Decides.{false-true}
use Rattle.lists.proofs.Lists.{by-eq, by-lt}
use Rattle.mesh_faults.specs.Faults.{TwoEqual, ab, bc, ca}
use Rattle.mesh_faults.proofs.equal_corners.Goals as goal

-- Two of the corners of triangle k hold the same vertex.
abbrev Twice : List ℕ → ℕ → Type 0
Twice T k = TwoEqual (at T (3 * k)) (at T (3 * k + 1)) (at T (3 * k + 2))

module _ {T : List ℕ} where
  -- two different corners of triangle k that hold the same vertex
  corners-equal : (k c d : ℕ) → 3 * k + 2 < length T → c / 3 ≡ k → d / 3 ≡ k → c ≢ d → at T c ≡ at T d
      → EqualCorners T k
  corners-equal k c d l p q differ e =
      record {
        v = at T d;
        one = record { corner = c; inside = omega arith; triangle = p; holds = e };
        other = record { corner = d; inside = omega arith; triangle = q; holds = refl };
        two = differ;
      }

  -- where two of the three are equal, the triangle has two equal corners
  twice-equal : (k : ℕ) → 3 * k + 2 < length T → Twice T k → EqualCorners T k
  twice-equal k l (ab e) = corners-equal k (3 * k) (3 * k + 1) l (omega arith) (omega arith) (omega arith) e
  twice-equal k l (bc e) = corners-equal k (3 * k + 1) (3 * k + 2) l (omega arith) (omega arith) (omega arith) e
  twice-equal k l (ca e) = corners-equal k (3 * k + 2) (3 * k) l (omega arith) (omega arith) (omega arith) e

  -- and the other way round: one of the two corners stands before the other
  equal-twice : (k : ℕ) → EqualCorners T k → Twice T k
  equal-twice k Q =
      let o = Q.one in
      let p = Q.other in
      by-lt o.corner p.corner
      (λ l. in_order _ _ o.triangle p.triangle l (o.holds ∙ sym p.holds))
      (λ l. in_order _ _ p.triangle o.triangle (omega (arith, Q.two)) (p.holds ∙ sym o.holds))
    where
      in_order : (c d : ℕ) → c / 3 ≡ k → d / 3 ≡ k → c < d → at T c ≡ at T d → Twice T k
      in_order c d p q l e =
          by-eq c (3 * k)
          (λ s.
          by-eq d (3 * k + 1)
          (λ t. ab (ap (at T) (sym s) ∙ e ∙ ap (at T) t))
          (λ t. ca (ap (at T) (omega arith) ∙ sym e ∙ ap (at T) s)))
          (λ s. bc (ap (at T) (omega arith) ∙ e ∙ ap (at T) (omega arith)))

pub returns-then-has_equal : goal.returns-then-has_equal
returns-then-has_equal c =
    found c.loop-k-test.true (twice-equal _ (omega arith) (c.has_equal.ensures.sound c.if-has_equal.true))
    c.loop-k.invariant

pub loop-k-preserved : goal.loop-k-preserved
loop-k-preserved c =
    below_more _ _ c.loop-k.invariant
    (λ Q. false-true (sym c.if-has_equal.false ∙ c.has_equal.ensures.complete (equal-twice _ Q)))

pub returns : goal.returns
returns c = none (λ k l. c.loop-k.invariant k (omega arith))
