use native.Mathlib.Omega.{arith}
use Prim.Native.Nat.{ℕ, ◌+◌, ◌-◌, ◌*◌, ◌≤◌, ◌<◌}
use mathlib.Core.Path.{◌≡◌, refl, sym, ap, ◌∙◌}
use mathlib.Core.Bool.{Bool, true, false}
use mathlib.Core.List.{List, []}
use lib.ListN.{length, drop}
use Rattle.std.specs.Bool.{then_some}
use Rattle.std.specs.Char.{is_ascii_digit}
use Rattle.std.specs.Prelude.{Some, None}
use Rattle.theory.specs.Mesh as mesh
use Rattle.theory.specs.Index.{decimal_value, corner_said, says}
use Rattle.theory.proofs.Index.{decimal_value-digit}
use Rattle.index_read.specs.Bytes.{ends_run}
use Rattle.index_read.specs.Runs.{stretch, NumberLent, RunTaken}
use Rattle.index_read.specs.declared.runs.Run.TheVariants as run
use Rattle.index_read.proofs.Stretches.{byte-goes_on}
use Rattle.index_read.proofs.Sayings.{digit-range, digit-stretch, value-wrong, too_large, small-corner, says-number}
use Rattle.index_read.proofs.Sayings.{stretch-stops, stretch-end, stretch-on, taken-wrong}
use Rattle.index_read.proofs.runs.take_number.Invariants.{Turn}
use Rattle.index_read.proofs.runs.take_number.Goals as goal

-- no digit is read at first
begun : {text : List ℕ} {from : ℕ} → NumberLent text from → Turn text from from 0
begun {text} {from} lent = record { small = omega arith; same = says-number _ lent.number; ends = refl }

module _ {text : List ℕ} {from at value : ℕ} (I : Turn text from at value) where
  -- the run ends
  finished : stretch (drop at text) ≡ [] → RunTaken text from (Some (run.Corner value, at))
  unfolding decimal_value
  finished none = record {
    said = sym (I.same ∙ rw none (small-corner value I.small));
    ends = omega (arith, I.ends, ap length none);
  }

  module _ (inside : at < length text) where
    -- a byte that is no digit ends the run, or is at fault
    stopped : is_ascii_digit (mesh.at text at) ≡ false
        → RunTaken text from (then_some (ends_run (mesh.at text at)) (run.Corner value, at))
    unfolding corner_said
    stopped other = go (ends_run (mesh.at text at)) refl
      where
        go : (b : Bool) → ends_run (mesh.at text at) ≡ b → RunTaken text from (then_some b (run.Corner value, at))
        go true e = finished (stretch-stops text at inside e)
        go false e =
            taken-wrong (I.same
            ∙ rw (stretch-on text at (byte-goes_on text at inside e))
            (ap corner_said (value-wrong value (mesh.at text at) _ other)))

    module _ (digit : is_ascii_digit (mesh.at text at) ≡ true) where
      -- the value with the digit there
      abbrev next : ℕ
      next = 10 * value + (mesh.at text at - 48)

      -- the digit there counts after those so far
      counted : says (stretch (drop from text)) ≡ corner_said (decimal_value next (stretch (drop (at + 1) text)))
      counted =
          I.same ∙ ap (λ s. corner_said (decimal_value value s)) (digit-stretch text at inside digit)
          ∙ ap corner_said (decimal_value-digit value (mesh.at text at) _ (digit-range _ digit))

      -- the value is too large
      large : 65535 < next → RunTaken text from None
      large l = taken-wrong (counted ∙ too_large next (stretch (drop (at + 1) text)) l)

      -- it is not
      turned : next ≤ 65535 → Turn text from (at + 1) next
      turned l = record {
        small = l;
        same = counted;
        ends = omega (arith, I.ends, ap length (digit-stretch text at inside digit));
      }

pub loop-at-init : goal.loop-at-init
loop-at-init c = begun c.requires

pub returns-then-not-is_ascii_digit : goal.returns-then-not-is_ascii_digit
returns-then-not-is_ascii_digit c =
    rw (c.then_some.ensures, c.ends_run.ensures)
    (stopped c.loop-at.invariant c.loop-at-test.true (sym c.if-not-is_ascii_digit.ensures.value))

pub returns-then-value-gt-CORNER : goal.returns-then-value-gt-CORNER
returns-then-value-gt-CORNER c =
    large c.loop-at.invariant c.loop-at-test.true (sym c.if-not-is_ascii_digit.ensures.value)
    (omega (arith, c.if-value-gt-CORNER.true))

pub loop-at-preserved : goal.loop-at-preserved
loop-at-preserved c =
    rw c.from.ensures
    (turned c.loop-at.invariant c.loop-at-test.true (sym c.if-not-is_ascii_digit.ensures.value)
    (omega (arith, c.if-value-gt-CORNER.false)))

pub returns : goal.returns
returns c =
    let end : c.loop-at.at ≡ length c.args.text.now = omega (arith, c.requires.lent.inside) in
    rw end at (finished c.loop-at.invariant (stretch-end c.args.text.now c.loop-at.at (omega arith)))
