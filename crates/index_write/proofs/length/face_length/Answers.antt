-- `index_write::length::face_length` meets its contract: the sum is the length of the face's text, which is small.
use native.Mathlib.Omega.{arith}
use Prim.Native.Nat.{ℕ, zero, suc, ◌+◌, ◌≤◌}
use mathlib.Core.List.{List}
use mathlib.Core.Path.{◌≡◌, refl}
use lib.Dec.{ltb}
use lib.ListN.{length}
use Rattle.std.specs.Int.{from_bool}
use borrow.Author.Tests.{lt-ltb}
use Rattle.theory.specs.Index.{gap, face_text}
use Rattle.theory.proofs.Index.{face_text-counted, face_text-length}
use Rattle.index_write.proofs.length.face_length.Goals as goal

-- one byte before every face but the first
before : (k : ℕ) → from_bool (ltb 0 k) ≡ length (gap k)
unfolding gap
before zero = refl
before (suc k) = rw (lt-ltb 0 (suc k) (omega arith)) refl

-- the sum is the length of the face's text, and small
counted : (c : goal.After-from)
    → let sum =
    c.from.result + c.digits_needed-first.result + c.digits_needed-second.result + c.digits_needed-third.result + 5 in
    (sum ≡ length (face_text c.args.list.now c.args.k)) × (sum ≤ 21)
counted c =
    let T : List ℕ = c.args.list.now in
    let k : ℕ = c.args.k in
    let long : length (face_text T k) ≤ 21 = face_text-length T k in
    let sum : length (face_text T k) ≡ c.from.result + c.digits_needed-first.result + c.digits_needed-second.result
    + c.digits_needed-third.result
    + 5 =
    rw (c.from.ensures, before k, c.digits_needed-first.ensures, c.at.ensures, c.digits_needed-second.ensures, c.at-2.ensures, c.digits_needed-third.ensures, c.at-3.ensures)
    (face_text-counted T k) in
    (omega arith, omega arith)

pub overflow_add-result : goal.overflow_add-result
overflow_add-result c = omega (arith, counted c)

pub overflow_add-result-2 : goal.overflow_add-result-2
overflow_add-result-2 c = omega (arith, counted c)

pub overflow_add-result-3 : goal.overflow_add-result-3
overflow_add-result-3 c = omega (arith, counted c)

pub overflow_add-result-4 : goal.overflow_add-result-4
overflow_add-result-4 c = omega (arith, counted c)

pub returns : goal.returns
returns c = (counted c).0
