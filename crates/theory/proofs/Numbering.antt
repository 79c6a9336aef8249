-- Numberings: lists of chosen numbers, one-to-one relations and the matches they hold, two numberings of the same
-- things and the match between them, numbering upward, and the numbering by counting, which gives ranks.
use Prim.Native.Nat.{ℕ, zero, suc, ◌≤◌, ◌<◌}
use native.Mathlib.Decide.{ℕ_discrete, dec_lt}
use native.Mathlib.Omega.{arith}
use mathlib.Core.Path.{◌≡◌, refl, sym, ap, ◌∙◌, subst}
use mathlib.Core.Bool.{Bool}
use mathlib.Core.List.{List}
use lib.Dec.{T}
use lib.ListN.{length}
use Rattle.theory.specs.Counting.{count}
use Rattle.theory.specs.Mesh.{at}
use Rattle.theory.specs.Reading.{Match}
use Rattle.theory.proofs.Finite.{neither-less, tabulate, tabulate-length, tabulate-at, injective-le, match-size}
use Rattle.theory.proofs.Counting.{count-grows, count-injective, count-hit}

-- ---- lists of chosen numbers

-- where each number below n has some x, a list holds one for each
pub listed : {Q : ℕ → ℕ → Type 0} (n : ℕ) → ((y : ℕ) → y < n → (x : ℕ) × Q y x)
    → (xs : List ℕ) × (length xs ≡ n) × ((y : ℕ) → y < n → Q y (at xs y))
listed {Q} n some = (
  tabulate chosen n,
  tabulate-length chosen n,
  λ y l. subst (Q y) (sym (tabulate-at chosen n y l)) (picked y l (dec_lt y n)),
)
  where
    pick : (y : ℕ) → Dec (y < n) → ℕ
    pick y (yes l) = (some y l).0
    pick y (no h) = 0

    picked : (y : ℕ) → y < n → (d : Dec (y < n)) → Q y (pick y d)
    picked y l (yes m) = (some y m).1
    picked y l (no h) = absurd (h l)

    chosen : ℕ → ℕ
    chosen y = pick y (dec_lt y n)

-- where each number below m has some number below n, and no two have the same, m is at most n
pub related-le : {R : ℕ → ℕ → Type 0} (m n : ℕ) → ((y : ℕ) → y < m → (x : ℕ) × (x < n) × R y x)
    → ((y z x : ℕ) → y < m → z < m → R y x → R z x → y ≡ z) → m ≤ n
related-le {R} m n some apart =
    go (listed {Q = λ y x. (x < n) × R y x} m (λ y l. ((some y l).0, ((some y l).1, (some y l).2))))
  where
    go : (f : List ℕ) × (length f ≡ m) × ((y : ℕ) → y < m → (at f y < n) × R y (at f y)) → m ≤ n
    go (f, _, each) = injective-le (at f) m n (λ y l. (each y l).0)
        (λ y z k l e. apart y z (at f z) k l (subst (R y) e (each y k).1) (each z l).1)

-- R sends the numbers below m one to one onto the numbers below n
pub record OneToOne (R : ℕ → ℕ → Type 0) (m n : ℕ) : Type 0 where
  pub total : (i : ℕ) → i < m → (y : ℕ) × (y < n) × R i y
  pub one : (i x y : ℕ) → R i x → R i y → x ≡ y
  pub apart : (i j y : ℕ) → i < m → j < m → R i y → R j y → i ≡ j
  pub onto : (y : ℕ) → y < n → (i : ℕ) × (i < m) × R i y

-- a match that keeps to R
pub record Chosen (R : ℕ → ℕ → Type 0) (m n : ℕ) : Type 0 where
  pub list : List ℕ
  pub match : Match list m n
  pub related : (i : ℕ) → i < m → R i (at list i)

-- a relation that is one to one holds a match
pub choose : (R : ℕ → ℕ → Type 0) (m n : ℕ) → OneToOne R m n → Chosen R m n
choose R m n O = made (listed {Q = λ i y. (y < n) × R i y} m
    (λ i l. ((O.total i l).0, ((O.total i l).1, (O.total i l).2))))
  where
    made : (f : List ℕ) × (length f ≡ m) × ((i : ℕ) → i < m → (at f i < n) × R i (at f i)) → Chosen R m n
    made (f, long, each) = record {
      list = f;
      match = record { long = long; below = λ i l. (each i l).0; apart = apart; onto = λ y l. hit y (O.onto y l) };
      related = λ i l. (each i l).1;
    }
      where
        apart : (i j : ℕ) → i < m → j < m → at f i ≡ at f j → i ≡ j
        apart i j a b e = O.apart i j (at f j) a b (rw e at (each i a).1) (each j b).1

        hit : (y : ℕ) → (i : ℕ) × (i < m) × R i y → (i : ℕ) × (i < m) × (at f i ≡ y)
        hit y (i, b, r) = (i, b, O.one i (at f i) y (each i b).1 r)

-- ---- two numberings of the same things

-- φ numbers the numbers with Q, one to one, by the numbers below m
pub record Numbers (Q : ℕ → Type 0) (φ : ℕ → ℕ) (m : ℕ) : Type 0 where
  pub below : (i : ℕ) → Q i → φ i < m
  pub apart : (i j : ℕ) → Q i → Q j → φ i ≡ φ j → i ≡ j
  pub onto : (y : ℕ) → y < m → (i : ℕ) × Q i × (φ i ≡ y)

-- what numbers one kind of things numbers every kind that is the same
pub numbers_of : {Q K : ℕ → Type 0} {φ : ℕ → ℕ} {m : ℕ} → ((i : ℕ) → K i → Q i) → ((i : ℕ) → Q i → K i)
    → Numbers Q φ m → Numbers K φ m
numbers_of {Q} {K} {φ} there back A = record {
  below = λ i q. A.below i (there i q);
  apart = λ i j p q. A.apart i j (there i p) (there j q);
  onto = λ y l. hit y (A.onto y l);
}
  where
    hit : (y : ℕ) → (i : ℕ) × Q i × (φ i ≡ y) → (i : ℕ) × K i × (φ i ≡ y)
    hit y (i, q, e) = (i, back i q, e)

-- a match that takes the numbers of φ to those of ψ
pub record Renumbers (Q : ℕ → Type 0) (φ : ℕ → ℕ) (m : ℕ) (ψ : ℕ → ℕ) (n : ℕ) : Type 0 where
  pub list : List ℕ
  pub match : Match list m n
  pub sends : (i : ℕ) → Q i → at list (φ i) ≡ ψ i

module _ {Q : ℕ → Type 0} {φ ψ : ℕ → ℕ} {m n : ℕ} (A : Numbers Q φ m) (B : Numbers Q ψ n) where
  -- y and x are the two numbers of one thing
  abbrev Both : ℕ → ℕ → Type 0
  Both y x = (i : ℕ) × Q i × (φ i ≡ y) × (ψ i ≡ x)

  -- which is a one-to-one relation
  both-one_to_one : OneToOne Both m n
  both-one_to_one = record {
    total = λ y l. total y (A.onto y l);
    one = λ y x z s t. sym s.3 ∙ ap ψ (A.apart s.0 t.0 s.1 t.1 (s.2 ∙ sym t.2)) ∙ t.3;
    apart = λ y z x k l s t. sym s.2 ∙ ap φ (B.apart s.0 t.0 s.1 t.1 (s.3 ∙ sym t.3)) ∙ t.2;
    onto = λ x l. onto x (B.onto x l);
  }
    where
      total : (y : ℕ) → (i : ℕ) × Q i × (φ i ≡ y) → (x : ℕ) × (x < n) × Both y x
      total y (i, q, e) = (ψ i, B.below i q, (i, q, e, refl))

      onto : (x : ℕ) → (i : ℕ) × Q i × (ψ i ≡ x) → (y : ℕ) × (y < m) × Both y x
      onto x (i, q, e) = (φ i, A.below i q, (i, q, refl, e))

  -- so two numberings of the same things are matched
  pub numbers-matched : Renumbers Q φ m ψ n
  numbers-matched = made (choose Both m n both-one_to_one)
    where
      made : Chosen Both m n → Renumbers Q φ m ψ n
      made C = record {
        list = C.list;
        match = C.match;
        sends = λ i q. both-one_to_one.one (φ i) (at C.list (φ i)) (ψ i)
            (C.related (φ i) (A.below i q)) (i, q, refl, refl);
      }

  -- and have as many numbers
  pub numbers-size : m ≡ n
  numbers-size = match-size numbers-matched.match

-- ---- numbering upward

-- f grows along the i with Q i
pub record Upward (Q : ℕ → Type 0) (f : ℕ → ℕ) : Type 0 where
  pub grows : (i j : ℕ) → Q i → Q j → i < j → f i < f j

-- so it sends different numbers to different ones
pub upward-apart : {Q : ℕ → Type 0} {f : ℕ → ℕ} → Upward Q f → (i j : ℕ) → Q i → Q j → f i ≡ f j → i ≡ j
upward-apart U i j p q e = neither-less
    (λ l. absurd (omega (arith, U.grows i j p q l))) (λ l. absurd (omega (arith, U.grows j i q p l)))

-- and the lesser image is that of the lesser number
pub upward-order : {Q : ℕ → Type 0} {f : ℕ → ℕ} → Upward Q f → (i j : ℕ) → Q i → Q j → f i < f j → i < j
upward-order {f = f} U i j p q b = go (dec_lt i j) (ℕ_discrete i j)
  where
    go : Dec (i < j) → Dec (i ≡ j) → i < j
    go (yes h) e = h
    go (no h) (yes e) = absurd (omega (arith, ap f e))
    go (no h) (no d) = absurd (omega (arith, U.grows j i q p (omega arith)))

-- an upward numbering gives each i the least number that an upward map can
upward-least : {Q : ℕ → Type 0} {f g : ℕ → ℕ} {m : ℕ} → Numbers Q f m → Upward Q f → Upward Q g
    → (y i : ℕ) → Q i → f i ≡ y → y ≤ g i
upward-least F U W zero i q e = omega arith
upward-least {Q} {f} {g} F U W (suc y) i q e = go (F.onto y (omega (arith, F.below i q))) (upward-least F U W y)
  where
    go : (j : ℕ) × Q j × (f j ≡ y) → ((j : ℕ) → Q j → f j ≡ y → y ≤ g j) → suc y ≤ g i
    go (j, p, d) before =
        let b : j < i = upward-order U j i p q (omega arith) in
        omega (arith, before j p d, W.grows j i p q b)

-- so two upward numberings are the same
pub upward-agree : {Q : ℕ → Type 0} {f g : ℕ → ℕ} {m n : ℕ} → Numbers Q f m → Numbers Q g n → Upward Q f → Upward Q g
    → (i : ℕ) → Q i → f i ≡ g i
upward-agree {f = f} {g = g} F G U W i q =
    omega (arith, upward-least F U W (f i) i q refl, upward-least G W U (g i) i q refl)

-- ---- numbering by counting

-- counting from below numbers what passes the test
pub count-numbers : (Q : ℕ → Type 0) (test : ℕ → Bool) (n : ℕ) → ((i : ℕ) → Q i → (i < n) × T (test i))
    → ((i : ℕ) → i < n → T (test i) → Q i) → Numbers Q (count test) (count test n)
count-numbers Q test n pass has = record {
  below = λ i q. count-grows test i n (pass i q).0 (pass i q).1;
  apart = λ i j q p. count-injective test i j (pass i q).1 (pass j p).1;
  onto = λ y l. hit y (count-hit test n y l);
}
  where
    hit : (y : ℕ) → (i : ℕ) × (i < n) × T (test i) × (count test i ≡ y) → (i : ℕ) × Q i × (count test i ≡ y)
    hit y (i, l, t, e) = (i, has i l t, e)

-- ---- ranks

-- a table holds the ranks of the numbers with Q: they are numbered upward, by the numbers below n
pub record Ranks (Q : ℕ → Type 0) (rank : List ℕ) (n : ℕ) : Type 0 where
  pub below : (i : ℕ) → Q i → at rank i < n
  pub upward : Upward Q (at rank)
  pub onto : (y : ℕ) → y < n → (i : ℕ) × Q i × (at rank i ≡ y)

-- different numbers have different ranks
pub ranks-apart : {Q : ℕ → Type 0} {rank : List ℕ} {n : ℕ} → Ranks Q rank n
    → (i j : ℕ) → Q i → Q j → at rank i ≡ at rank j → i ≡ j
ranks-apart R = upward-apart R.upward

-- so the ranks are a numbering
pub ranks-numbers : {Q : ℕ → Type 0} {rank : List ℕ} {n : ℕ} → Ranks Q rank n → Numbers Q (at rank) n
ranks-numbers R = record { below = R.below; apart = ranks-apart R; onto = R.onto }

-- the ranks of what passes a test are how many pass it before
pub count-ranks : {Q : ℕ → Type 0} {rank : List ℕ} (test : ℕ → Bool) (n : ℕ) → ((i : ℕ) → Q i → (i < n) × T (test i))
    → ((i : ℕ) → i < n → T (test i) → Q i) → ((i : ℕ) → i < n → at rank i ≡ count test i) → Ranks Q rank (count test n)
count-ranks {Q} {rank} test n pass has entry = record {
  below = λ i q. rw (held i q) (counts.below i q);
  upward = record { grows = λ i j p q l. rw (held i p, held j q) (count-grows test i j l (pass i p).1) };
  onto = λ y l. hit y (counts.onto y l);
}
  where
    counts : Numbers Q (count test) (count test n)
    counts = count-numbers Q test n pass has

    held : (i : ℕ) → Q i → at rank i ≡ count test i
    held i q = entry i (pass i q).0

    hit : (y : ℕ) → (i : ℕ) × Q i × (count test i ≡ y) → (i : ℕ) × Q i × (at rank i ≡ y)
    hit y (i, q, e) = (i, q, held i q ∙ e)
