-- `undo_compare::compare` meets its contract.
use Prim.Native.Nat.{ℕ, ◌+◌, ◌*◌, ◌/◌, ◌≤◌, ◌<◌}
use native.Mathlib.Omega.{arith}
use mathlib.Core.Path.{◌≡◌, sym, ◌∙◌}
use mathlib.Core.Logic.{◌≢◌}
use mathlib.Core.List.{List}
use lib.ListN.{length}
use Rattle.theory.specs.Mesh.{at}
use Rattle.undo_compare.specs.Compared.{CompareLent, OneLent}
use Rattle.undo_compare.proofs.Comparisons.{never, other-found, rotated-more, reversed-more, none-turned, one-turned}
use Rattle.undo_compare.proofs.compare.Goals as goal
use Rattle.undo_compare.proofs.compare.Goals.{in-Rotated, in-Reversed}

module _ {F : ℕ} {T f g S : List ℕ} (L : CompareLent F T f g S) {k : ℕ} (l : k < F) where
  -- different corners of triangle t of the splitting hold different vertices
  apart : {t : ℕ} (c d : ℕ) → 3 * t + 3 ≤ length S → c / 3 ≡ t → d / 3 ≡ t → c ≢ d → at S c ≢ at S d
  apart c d b p q n e = n (L.different c d (omega arith) (omega arith) (p ∙ sym q) e)

  -- triangle k is lent to `compare_one`
  lent_one : {t : ℕ} → t ≡ at g k → OneLent k T f t S
  lent_one {t} e =
      let inside : 3 * t + 3 ≤ length S = omega (arith, L.inside k l) in
      record {
        listed = omega (arith, L.whole);
        first = L.mapped (3 * k) (omega arith);
        second = L.mapped (3 * k + 1) (omega arith);
        third = L.mapped (3 * k + 2) (omega arith);
        inside = inside;
        apart = record {
          xy = apart (3 * t) (3 * t + 1) inside (omega arith) (omega arith) (omega arith);
          yz = apart (3 * t + 1) (3 * t + 2) inside (omega arith) (omega arith) (omega arith);
          zx = apart (3 * t + 2) (3 * t) inside (omega arith) (omega arith) (omega arith);
        };
      }

pub loop-k-init : goal.loop-k-init
loop-k-init c = record { same = λ j l. absurd (omega arith); least = never (λ j l. absurd (omega arith)) }

pub compare_one-requires : goal.compare_one-requires
compare_one-requires c = lent_one c.requires c.loop-k-test.true c.at.ensures

pub returns-in-Other : goal.returns-in-Other
returns-in-Other c = other-found c.at.ensures c.loop-k-test.true c.in-Other.ensures

pub loop-k-preserved : goal.loop-k-preserved
loop-k-preserved c = elim c.match-compare_one.branch [
  | in-Rotated w ↦ rw w.turned-is (rotated-more c.at.ensures c.loop-k.invariant w.in-Rotated.ensures)
  | in-Reversed w ↦ rw (w.turned-is, w.or-turned.ensures) (reversed-more c.at.ensures c.loop-k.invariant w.in-Reversed.ensures)
]

pub returns-in-Some : goal.returns-in-Some
returns-in-Some c = one-turned c.loop-k.invariant c.loop-k-test.false c.loop-k.auto.k-end c.in-Some.is

pub returns-in-None : goal.returns-in-None
returns-in-None c = none-turned c.loop-k.invariant c.loop-k-test.false c.in-None.is
