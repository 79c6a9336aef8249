-- Laws of marked indices and their ranks: what a mark counts, and what the ranks number.
use Prim.Native.Nat.{ℕ, ◌+◌, ◌≤◌, ◌<◌}
use native.Mathlib.Numerals.{add-one}
use mathlib.Core.Path.{◌≡◌}
use mathlib.Core.Logic.{◌≢◌}
use mathlib.Core.List.{List}
use borrow.Author.Tests.{eq-eqb, ne_eqb}
use lib.Dec.{T}
use Rattle.theory.specs.Mesh.{at}
use Rattle.theory.specs.Counting.{count}
use Rattle.theory.proofs.Counting.{count-le}
use Rattle.theory.proofs.Numbering.{Ranks, count-ranks}
use Rattle.lists.specs.Marks.{marked, bit_of, RanksOf}

-- ---- marks

-- an entry other than 0 is a mark
pub marked-entry : (marks : List ℕ) (i : ℕ) → at marks i ≢ 0 → T (marked marks i)
marked-entry marks i ne = rw (ne_eqb (at marks i) 0 ne) tt

-- and a mark is one
pub entry-marked : (marks : List ℕ) (i : ℕ) → T (marked marks i) → at marks i ≢ 0
entry-marked marks i t e = rw (eq-eqb (at marks i) 0 e) at t

-- a mark counts for one
pub bit_of-mark : (mark : ℕ) → mark ≢ 0 → 1 ≡ bit_of mark
bit_of-mark mark ne = rw (ne_eqb mark 0 ne)

-- and 0 for nothing
pub bit_of-none : (mark : ℕ) → mark ≡ 0 → 0 ≡ bit_of mark
bit_of-none mark e = rw (eq-eqb mark 0 e)

-- one index more is counted
pub count-marked : (marks : List ℕ) (i : ℕ) → count (marked marks) i + bit_of (at marks i) ≡ count (marked marks) (i + 1)
unfolding count
count-marked marks i = rw (add-one i)

-- ---- ranks

-- no more are marked than there are
pub total-le : {n : ℕ} {marks : List ℕ} {total : ℕ} {rank : List ℕ} → RanksOf n marks total rank → total ≤ n
total-le {n} {marks} R = rw R.all (count-le (marked marks) n)

-- The marked indices below n are those with Q.
pub record MarksOf (Q : ℕ → Type 0) (n : ℕ) (marks : List ℕ) : Type 0 where
  pub inside : (i : ℕ) → Q i → i < n
  pub passes : (i : ℕ) → Q i → T (marked marks i)
  pub has : (i : ℕ) → i < n → T (marked marks i) → Q i

-- how many are marked before each is its rank: the ranks number what is marked, upward and without gaps
pub marks-ranks : {Q : ℕ → Type 0} {n total : ℕ} {marks rank : List ℕ} → MarksOf Q n marks → RanksOf n marks total rank
    → Ranks Q rank total
marks-ranks {n = n} {marks = marks} A R =
    rw R.all (count-ranks (marked marks) n (λ i q. (A.inside i q, A.passes i q)) A.has R.entry)
