-- `index_write::digits::put_number` meets its contract.
use Prim.Native.Nat.{ℕ, suc, ◌+◌, ◌-◌, ◌/◌, ◌%◌, ◌≤◌, ◌<◌}
use native.Mathlib.Omega.{arith}
use mathlib.Core.Path.{◌≡◌, refl, ap, ◌∙◌}
use mathlib.Core.List.{List, [], ◌∷◌}
use lib.ListN.{length, length-set, set}
use lib.Seq.{sets, set_comm}
use Rattle.theory.specs.Index.{digits_needed, last_digits, decimal}
use Rattle.theory.proofs.Index.{decimal-length, last_digits-length}
use Rattle.lists.proofs.Stores.{sets-append}
use Rattle.index_write.proofs.digits.put_number.Goals as goal

-- a store after a run of places may be made first
sets-set : (vs xs : List ℕ) (i j v : ℕ) → i + length vs ≤ j → sets (set xs j v) i vs ≡ set (sets xs i vs) j v
sets-set [] xs i j v h = refl
sets-set (w ∷ vs) xs i j v h =
    ap (λ ys. sets ys (suc i) vs) (set_comm xs j i v w (λ e. omega arith))
    ∙ sets-set vs (set xs i w) (suc i) j v (omega arith)

-- all digits are left at first
begun : (xs : List ℕ) (place value : ℕ) {count : ℕ} → count ≡ digits_needed value
    → sets xs place (last_digits (place + count - place) value) ≡ sets xs place (decimal value)
unfolding decimal
begun xs place value {count} e =
    let all : place + count - place ≡ digits_needed value = omega arith in
    rw all refl

-- once the last of them is stored, the others are
stored : (xs : List ℕ) (place from left : ℕ) → place < from
    → sets (set xs (from - 1) (48 + left % 10)) place (last_digits (from - 1 - place) (left / 10))
    ≡ sets xs place (last_digits (from - place) left)
unfolding last_digits
stored xs place from left b =
    let m : ℕ = from - 1 - place in
    let digits : List ℕ = last_digits m (left / 10) in
    let one : from - place ≡ suc m = omega arith in
    let last : place + length digits ≡ from - 1 = omega (arith, last_digits-length m (left / 10)) in
    sets-set digits xs place (from - 1) (48 + left % 10) (omega arith)
    ∙ (rw last at (sets-append xs place digits ((48 + left % 10) ∷ [])))
    ∙ rw one refl

-- where none is left, all are put
finished : (xs : List ℕ) (place from left : ℕ) {right : List ℕ} → from ≤ place
    → sets xs place (last_digits (from - place) left) ≡ right → xs ≡ right
unfolding last_digits
finished xs place from left l e =
    let none : from - place ≡ 0 = omega arith in
    rw none at e

pub overflow_add-end : goal.overflow_add-end
overflow_add-end c = omega (arith, decimal-length c.args.value)

pub loop-at-init : goal.loop-at-init
loop-at-init c = record { puts = begun _ _ _ c.digits_needed.ensures; long = refl; same = refl; place = refl }

pub bounds-out-at : goal.bounds-out-at
bounds-out-at c = omega (arith, decimal-length c.args.value)

pub loop-at-preserved : goal.loop-at-preserved
loop-at-preserved c =
    let i = c.loop-at.invariant in
    record {
      puts = stored _ _ _ _ c.loop-at-test.true ∙ i.puts;
      long = length-set _ _ _ ∙ i.long;
      same = i.same;
      place = i.place;
    }

pub returns : goal.returns
returns c =
    let i = c.loop-at.invariant in
    record {
      ends = omega (arith, decimal-length c.args.value);
      puts = finished _ _ _ _ c.loop-at-test.false i.puts;
      long = i.long;
      same = i.same;
    }
