-- Laws of `count` and `first_from`.
use Prim.Native.Nat.{ℕ, zero, suc, ◌+◌, ◌≤◌, ◌<◌}
use native.Mathlib.Nat.{add-zero, add-suc, not-suc-le-zero}
use native.Mathlib.Numerals.{add-one}
use native.Mathlib.Decide.{ℕ_discrete, dec_lt, le_ind}
use native.Mathlib.Omega.{arith}
use mathlib.Core.Path.{◌≡◌, refl, sym, ap, ap₂, ◌∙◌}
use mathlib.Core.Bool.{Bool, true, false}
use lib.Dec.{T}
use Rattle.theory.specs.Counting.{bit, count, first_from}
use Rattle.theory.proofs.Finite.{neither-less}

-- ---- count

-- a test counts for one at most
pub bit_le : (b : Bool) → bit b ≤ 1
bit_le true = omega arith
bit_le false = omega arith

-- a test that passes counts for one
pub bit-passes : (b : Bool) → T b → bit b ≡ 1
bit-passes true t = refl
bit-passes false t = absurd t

-- a test that counts for something passes
passes-bit : (b : Bool) → 0 < bit b → T b
passes-bit true l = tt
passes-bit false l = absurd (not-suc-le-zero l)

-- a number that passes counts for one
pub count-passes : (test : ℕ → Bool) (h : ℕ) → test h ≡ true → count test (h + 1) ≡ count test h + 1
unfolding count
count-passes test h e = rw (add-one h, e)

-- and one that does not pass counts for nothing
pub count-fails : (test : ℕ → Bool) (h : ℕ) → test h ≡ false → count test (h + 1) ≡ count test h
unfolding count
count-fails test h e = rw (add-one h, e, add-zero)

-- no more pass than there are
pub count-le : (test : ℕ → Bool) (n : ℕ) → count test n ≤ n
unfolding count
count-le test zero = omega arith
count-le test (suc n) = omega (arith, count-le test n, bit_le (test n))

-- the count up to a greater number is no less
pub count-monotone : (test : ℕ → Bool) (m n : ℕ) → m ≤ n → count test m ≤ count test n
unfolding count
count-monotone test m n = le_ind (λ k. count test m ≤ count test k) (omega arith) (λ k _ ih. omega arith) n

-- a number that passes is counted: the count grows past it
pub count-grows : (test : ℕ → Bool) (m n : ℕ) → m < n → T (test m) → count test m < count test n
unfolding count
count-grows test m n l t =
    let past : count test m + bit (test m) ≤ count test n = count-monotone test (suc m) n l in
    omega (arith, bit-passes (test m) t)

-- numbers that pass have different counts
pub count-injective : (test : ℕ → Bool) (m n : ℕ) → T (test m) → T (test n) → count test m ≡ count test n → m ≡ n
count-injective test m n s t e = neither-less
    (λ l. absurd (omega (arith, count-grows test m n l s))) (λ l. absurd (omega (arith, count-grows test n m l t)))

-- every number below the whole count is the count before some number that passes
pub count-hit : (test : ℕ → Bool) (n y : ℕ) → y < count test n → (i : ℕ) × (i < n) × T (test i) × (count test i ≡ y)
unfolding count
count-hit test zero y l = absurd (not-suc-le-zero l)
count-hit test (suc n) y l = go (dec_lt y (count test n)) (count-hit test n y)
  where
    wider : (i : ℕ) × (i < n) × T (test i) × (count test i ≡ y)
        → (i : ℕ) × (i < suc n) × T (test i) × (count test i ≡ y)
    wider (i, h, t, e) = (i, omega arith, t, e)

    go : Dec (y < count test n) → (y < count test n → (i : ℕ) × (i < n) × T (test i) × (count test i ≡ y))
        → (i : ℕ) × (i < suc n) × T (test i) × (count test i ≡ y)
    go (yes k) earlier = wider (earlier k)
    go (no k) earlier =
        (n, omega arith, passes-bit (test n) (omega arith), omega (arith, bit_le (test n)))

-- where one is counted, what passes is one number
pub count-one : (test : ℕ → Bool) (n g h : ℕ) → count test n ≡ 1 → g < n → h < n → T (test g) → T (test h) → g ≡ h
count-one test n g h e a b s t =
    count-injective test g h s t (omega (arith, count-grows test g n a s, count-grows test h n b t))

-- and where one number alone passes, one is counted
pub count-only : (test : ℕ → Bool) (n h : ℕ) → h < n → T (test h) → ((g : ℕ) → g < n → T (test g) → g ≡ h)
    → count test n ≡ 1
count-only test n h l t only = go (dec_lt 1 (count test n))
  where
    two : (i : ℕ) × (i < n) × T (test i) × (count test i ≡ 0) → (j : ℕ) × (j < n) × T (test j) × (count test j ≡ 1) → ⊥
    two (i, a, s, e) (j, b, u, f) = omega (arith, ap (count test) (only i a s ∙ sym (only j b u)))

    go : Dec (1 < count test n) → count test n ≡ 1
    go (yes m) = absurd (two (count-hit test n 0 (omega arith)) (count-hit test n 1 m))
    go (no m) = omega (arith, count-grows test h n l t)

-- of n numbers and k more, those are counted that are counted of the n and of the k
pub count-more : (test : ℕ → Bool) (n k : ℕ) → count test (n + k) ≡ count test n + count (λ i. test (n + i)) k
unfolding count
count-more test n zero = rw (add-zero n, add-zero (count test n))
count-more test n (suc k) = rw (add-suc n k) (omega (arith, count-more test n k))

-- tests that pass together count alike
pub bit-same : (a b : Bool) → (T a → T b) → (T b → T a) → bit a ≡ bit b
bit-same true b f g = sym (bit-passes b (f tt))
bit-same false true f g = absurd (g tt)
bit-same false false f g = refl

-- tests that pass the same numbers count alike
pub count-alike : (f g : ℕ → Bool) (n : ℕ) → ((i : ℕ) → i < n → T (f i) → T (g i))
    → ((i : ℕ) → i < n → T (g i) → T (f i)) → count f n ≡ count g n
unfolding count
count-alike f g zero there back = refl
count-alike f g (suc n) there back = ap₂ ◌+◌
    (count-alike f g n (λ i l. there i (omega arith)) (λ i l. back i (omega arith)))
    (bit-same (f n) (g n) (there n (omega arith)) (back n (omega arith)))

-- a test that does not pass counts for nothing
pub bit-fails : (b : Bool) → (T b → ⊥) → bit b ≡ 0
bit-fails true f = absurd (f tt)
bit-fails false f = refl

-- the count depends only on the tests below
pub count-cong : (f g : ℕ → Bool) (n : ℕ) → ((i : ℕ) → i < n → f i ≡ g i) → count f n ≡ count g n
unfolding count
count-cong f g zero e = refl
count-cong f g (suc n) e = rw (count-cong f g n (λ i l. e i (omega arith)), e n (omega arith))

-- ---- first_from

-- v is the first of the n numbers from i on that passes, or i + n
record First (test : ℕ → Bool) (i n v : ℕ) : Type 0 where
  from : i ≤ v
  le : v ≤ i + n
  passes : v < i + n → T (test v)
  before : (k : ℕ) → i ≤ k → k < v → T (test k) → ⊥

-- a number that passes is the first from itself on
first-here : (test : ℕ → Bool) (i n : ℕ) → T (test i) → First test i (suc n) i
first-here test i n t = record {
  from = omega arith;
  le = omega arith;
  passes = λ _. t;
  before = λ k f l _. absurd (omega arith);
}

-- the first after a number that does not pass is the first from that number on
first-later : (test : ℕ → Bool) (i n v : ℕ) → (T (test i) → ⊥) → First test (suc i) n v → First test i (suc n) v
first-later test i n v fails later = record {
  from = omega (arith, later.from);
  le = omega (arith, later.le);
  passes = λ l. later.passes (omega arith);
  before = before;
}
  where
    before : (k : ℕ) → i ≤ k → k < v → T (test k) → ⊥
    before k f l = elim (ℕ_discrete k i) [ yes e ↦ rw e fails | no e ↦ later.before k (omega arith) l ]

-- that is what first_from finds
first_from-first : (test : ℕ → Bool) (i n : ℕ) → First test i n (first_from test i n)
unfolding first_from
first_from-first test i zero = record {
  from = omega arith;
  le = omega arith;
  passes = λ l. absurd (omega arith);
  before = λ k f l t. absurd (omega arith);
}
first_from-first test i (suc n) = go (test i) refl (first_from-first test (suc i) n)
  where
    go : (b : Bool) → test i ≡ b → First test (suc i) n (first_from test (suc i) n)
        → First test i (suc n) (elim b [ true ↦ i | false ↦ first_from test (suc i) n ])
    go true e later = first-here test i n (rw e tt)
    go false e later = first-later test i n _ (λ t. rw e at t) later

-- it is among the n from i on, or right after them
pub first_from-le : (test : ℕ → Bool) (i n : ℕ) → first_from test i n ≤ i + n
first_from-le test i n = (first_from-first test i n).le

-- it is not before i
pub first_from-from : (test : ℕ → Bool) (i n : ℕ) → i ≤ first_from test i n
first_from-from test i n = (first_from-first test i n).from

-- it passes, unless none does
pub first_from-passes : (test : ℕ → Bool) (i n : ℕ) → first_from test i n < i + n → T (test (first_from test i n))
first_from-passes test i n = (first_from-first test i n).passes

-- nothing before it passes
pub first_from-before : (test : ℕ → Bool) (i n k : ℕ) → i ≤ k → k < first_from test i n → T (test k) → ⊥
first_from-before test i n = (first_from-first test i n).before
