-- Numbers below a bound: decisions by trying all, which compute; lists made from a function; one-to-one maps between
-- such ranges (an injective map of [0, m) into [0, n) forces m ≤ n; of [0, n) into itself, onto and one-to-one
-- are the same); and the laws of matches: their size, the identity, their inverse, one after another.
use Prim.Native.Nat.{ℕ, zero, suc, ◌-◌, ◌≤◌, ◌<◌, suc-le-suc, min}
use native.Mathlib.Nat.{not-suc-le-zero, le_of_suc-le-suc, le_step, lt-suc_self, zero-lt-suc}
use native.Mathlib.Decide.{ℕ_discrete, dec_lt}
use native.Mathlib.Omega.{arith}
use mathlib.Core.Path.{◌≡◌, refl, sym, ap, ◌∙◌, subst}
use mathlib.Core.Logic.{◌≢◌, ◌⊎◌, inl, inr, dite, ite}
use mathlib.Core.List.{List, [], ◌∷◌, map}
use lib.ListN.{length, length-map}
use lib.Seq.{ext_get_or}
use Rattle.theory.specs.Mesh.{at}
use Rattle.theory.specs.Reading.{Match}

-- ---- numbers that are equal

-- of two numbers that differ one is less
pub neither-less : {m n : ℕ} → (m < n → ⊥) → (n < m → ⊥) → m ≡ n
neither-less f g = omega arith

-- ---- decisions over the numbers below n

-- what holds below n, and at n, holds below suc n
pub below_last : {P : ℕ → Type 0} (n : ℕ) → ((i : ℕ) → i < n → P i) → P n → (i : ℕ) → i < suc n → P i
below_last {P} n below last i l = go (ℕ_discrete i n)
  where
    go : Dec (i ≡ n) → P i
    go (yes e) = rw e last
    go (no e) = below i (omega arith)

-- either there is a least number below n with P, or each below n has not; the other decisions are read off this one
unfoldable pub first_below : {P : ℕ → Type 0} (n : ℕ) → ((i : ℕ) → i < n → Dec (P i))
    → ((i : ℕ) × (i < n) × P i × ((j : ℕ) → j < i → P j → ⊥)) ⊎ ((i : ℕ) → i < n → P i → ⊥)
first_below zero d = inr (λ i l p. not-suc-le-zero l)
first_below {P} (suc n) d = go (first_below n (λ i l. d i (le_step l)))
  where
    go : ((i : ℕ) × (i < n) × P i × ((j : ℕ) → j < i → P j → ⊥)) ⊎ ((i : ℕ) → i < n → P i → ⊥)
        → ((i : ℕ) × (i < suc n) × P i × ((j : ℕ) → j < i → P j → ⊥)) ⊎ ((i : ℕ) → i < suc n → P i → ⊥)
    go (inl (i, l, p, before)) = inl (i, le_step l, p, before)
    go (inr none) = elim (d n (lt-suc_self n)) [
      | yes p ↦ inl (n, lt-suc_self n, p, none)
      | no q ↦ inr (below_last {P = λ i. P i → ⊥} n none q)
    ]

-- either some number below n has P, or each below n has not
unfoldable pub find-below : {P : ℕ → Type 0} (n : ℕ) → ((i : ℕ) → i < n → Dec (P i))
    → ((i : ℕ) × (i < n) × P i) ⊎ ((i : ℕ) → i < n → P i → ⊥)
unfolding first_below
find-below {P} n d = elim (first_below {P = P} n d) [ inl f ↦ inl (f.0, f.1, f.2) | inr none ↦ inr none ]

-- whether some number below n has P
unfoldable pub some_below : {P : ℕ → Type 0} (n : ℕ) → ((i : ℕ) → i < n → Dec (P i)) → Dec ((i : ℕ) × (i < n) × P i)
unfolding find-below
some_below {P} n d = elim (find-below {P = P} n d) [ inl s ↦ yes s | inr none ↦ no (λ s. none s.0 s.1 s.2) ]

-- whether each number below n has P: a search for one that has not
unfoldable pub all-below : {P : ℕ → Type 0} (n : ℕ) → ((i : ℕ) → i < n → Dec (P i)) → Dec ((i : ℕ) → i < n → P i)
unfolding find-below
all-below {P} n d = go (find-below {P = λ i. P i → ⊥} n (λ i l. denied (d i l)))
  where
    denied : {A : Type 0} → Dec A → Dec (A → ⊥)
    denied (yes a) = no (λ n. n a)
    denied (no n) = yes n

    upheld : {A : Type 0} → Dec A → ((A → ⊥) → ⊥) → A
    upheld (yes a) s = a
    upheld (no n) s = absurd (s n)

    go : ((i : ℕ) × (i < n) × (P i → ⊥)) ⊎ ((i : ℕ) → i < n → (P i → ⊥) → ⊥) → Dec ((i : ℕ) → i < n → P i)
    go (inl (i, l, q)) = no (λ all. q (all i l))
    go (inr none) = yes (λ i l. upheld (d i l) (none i l))

-- the least number with P, where some number has it
unfoldable pub least-of : {P : ℕ → Type 0} (n : ℕ) → ((i : ℕ) → i < n → Dec (P i)) → ((i : ℕ) × (i < n) × P i)
    → (i : ℕ) × (i < n) × P i × ((j : ℕ) → j < i → P j → ⊥)
unfolding first_below
least-of {P} n d s =
    elim (first_below {P = P} n d) [ inl f ↦ f | inr none ↦ absurd (none s.0 s.1 s.2) ]

-- ---- lists made from a function

-- f 0, .., f (n - 1)
unfoldable pub tabulate : (ℕ → ℕ) → ℕ → List ℕ
tabulate f zero = []
tabulate f (suc n) = f 0 ∷ tabulate (λ i. f (suc i)) n

-- it is as long as it says
pub tabulate-length : (f : ℕ → ℕ) (n : ℕ) → length (tabulate f n) ≡ n
unfolding tabulate
tabulate-length f zero = refl
tabulate-length f (suc n) = ap suc (tabulate-length (λ i. f (suc i)) n)

-- its entry i is f i
pub tabulate-at : (f : ℕ → ℕ) (n i : ℕ) → i < n → at (tabulate f n) i ≡ f i
unfolding tabulate
tabulate-at f zero i l = absurd (not-suc-le-zero l)
tabulate-at f (suc n) zero l = refl
tabulate-at f (suc n) (suc i) l = tabulate-at (λ i. f (suc i)) n i (le_of_suc-le-suc l)

-- an entry of a list under a function is the function's value at the entry
pub map_at : (f : ℕ → ℕ) (xs : List ℕ) (i : ℕ) → i < length xs → at (map f xs) i ≡ f (at xs i)
map_at f [] i l = absurd (not-suc-le-zero l)
map_at f (x ∷ xs) zero l = refl
map_at f (x ∷ xs) (suc i) l = map_at f xs i (le_of_suc-le-suc l)

-- ---- maps of [0, m) into [0, n)

-- f with the value n taken away from [0, m): where f has n, the value at m stands instead
without : (ℕ → ℕ) → ℕ → ℕ → ℕ → ℕ
without f m n i = ite (ℕ_discrete (f i) n) (f m) (f i)

-- an injective map of [0, m] into [0, n] gives one of [0, m) into [0, n)
module _ (f : ℕ → ℕ) (m n : ℕ) (below : (i : ℕ) → i < suc m → f i < suc n)
    (apart : (i j : ℕ) → i < suc m → j < suc m → f i ≡ f j → i ≡ j) where
  -- it stays below n
  without-below : (i : ℕ) → i < m → without f m n i < n
  unfolding without
  without-below i l = go (ℕ_discrete (f i) n)
    where
      go : (d : Dec (f i ≡ n)) → ite d (f m) (f i) < n
      go (yes e) =
          let other : f m ≢ n = λ k. absurd (omega (arith, apart i m (omega arith) (omega arith) (e ∙ sym k))) in
          omega (arith, below m (omega arith))
      go (no e) = omega (arith, below i (omega arith))

  -- it is injective
  without-apart : (i j : ℕ) → i < m → j < m → without f m n i ≡ without f m n j → i ≡ j
  unfolding without
  without-apart i j k l = go (ℕ_discrete (f i) n) (ℕ_discrete (f j) n)
    where
      go : (c : Dec (f i ≡ n)) (d : Dec (f j ≡ n)) → ite c (f m) (f i) ≡ ite d (f m) (f j) → i ≡ j
      go (yes a) (yes b) e = apart i j (omega arith) (omega arith) (a ∙ sym b)
      go (yes a) (no b) e = absurd (omega (arith, apart m j (omega arith) (omega arith) e))
      go (no a) (yes b) e = absurd (omega (arith, apart i m (omega arith) (omega arith) e))
      go (no a) (no b) e = apart i j (omega arith) (omega arith) e

-- the pigeonhole principle
pub injective-le : (f : ℕ → ℕ) (m n : ℕ) → ((i : ℕ) → i < m → f i < n)
    → ((i j : ℕ) → i < m → j < m → f i ≡ f j → i ≡ j) → m ≤ n
injective-le f zero n below apart = omega arith
injective-le f (suc m) zero below apart = absurd (not-suc-le-zero (below 0 (zero-lt-suc m)))
injective-le f (suc m) (suc n) below apart =
    suc-le-suc (injective-le (without f m n) m n (without-below f m n below apart) (without-apart f m n below apart))

-- a map of [0, m) onto [0, n) has a way back
module _ (f : ℕ → ℕ) (m n : ℕ) (onto : (y : ℕ) → y < n → (i : ℕ) × (i < m) × (f i ≡ y)) where
  -- the number that is sent to y
  unfoldable pub source : ℕ → ℕ
  unfolding dec_lt
  source y = dite (dec_lt y n) (λ l. (onto y l).0) (λ _. 0)

  -- it is below m, and is sent to y
  source-law : (y : ℕ) → y < n → (source y < m) × (f (source y) ≡ y)
  unfolding source
  source-law y l = go (dec_lt y n)
    where
      go : (d : Dec (y < n))
          → (dite d (λ l. (onto y l).0) (λ _. 0) < m) × (f (dite d (λ l. (onto y l).0) (λ _. 0)) ≡ y)
      go (yes k) = ((onto y k).1, (onto y k).2)
      go (no k) = absurd (k l)

  -- the way back stays below m
  source-below : (y : ℕ) → y < n → source y < m
  source-below y l = (source-law y l).0

  -- the way there undoes the way back
  source-there : (y : ℕ) → y < n → f (source y) ≡ y
  source-there y l = (source-law y l).1

  -- the way back is injective
  source-apart : (x y : ℕ) → x < n → y < n → source x ≡ source y → x ≡ y
  source-apart x y k l e = sym (source-there x k) ∙ ap f e ∙ source-there y l

  -- a map onto a range is from one that is no smaller
  pub onto-le : n ≤ m
  onto-le = injective-le source n m source-below source-apart

-- f on [0, n), and y at n
extended : (ℕ → ℕ) → ℕ → ℕ → ℕ → ℕ
extended f n y i = ite (ℕ_discrete i n) y (f i)

-- an injective map of [0, n) into itself that misses y would send one more number, n, to y
module _ (f : ℕ → ℕ) (n : ℕ) (below : (i : ℕ) → i < n → f i < n)
    (apart : (i j : ℕ) → i < n → j < n → f i ≡ f j → i ≡ j) (y : ℕ) (l : y < n) where
  -- it would stay below n
  extended-below : (i : ℕ) → i < suc n → extended f n y i < n
  unfolding extended
  extended-below i k = go (ℕ_discrete i n)
    where
      go : (d : Dec (i ≡ n)) → ite d y (f i) < n
      go (yes e) = l
      go (no e) = below i (omega arith)

  -- it would be injective
  extended-apart : ((i : ℕ) → i < n → f i ≡ y → ⊥)
      → (i j : ℕ) → i < suc n → j < suc n → extended f n y i ≡ extended f n y j → i ≡ j
  unfolding extended
  extended-apart missed i j h k = go (ℕ_discrete i n) (ℕ_discrete j n)
    where
      go : (c : Dec (i ≡ n)) (d : Dec (j ≡ n)) → ite c y (f i) ≡ ite d y (f j) → i ≡ j
      go (yes a) (yes b) e = a ∙ sym b
      go (yes a) (no b) e = absurd (missed j (omega arith) (sym e))
      go (no a) (yes b) e = absurd (missed i (omega arith) e)
      go (no a) (no b) e = apart i j (omega arith) (omega arith) e

  -- an injective map of [0, n) into itself is onto
  pub injective-onto : (i : ℕ) × (i < n) × (f i ≡ y)
  injective-onto = go (find-below n (λ i _. ℕ_discrete (f i) y))
    where
      go : ((i : ℕ) × (i < n) × (f i ≡ y)) ⊎ ((i : ℕ) → i < n → f i ≡ y → ⊥) → (i : ℕ) × (i < n) × (f i ≡ y)
      go (inl s) = s
      go (inr missed) =
          absurd (omega (arith, injective-le (extended f n y) (suc n) n extended-below (extended-apart missed)))

-- a map of [0, n) onto itself is injective: the way back is onto too, so that it undoes the way there
pub onto-injective : (f : ℕ → ℕ) (n : ℕ) → ((i : ℕ) → i < n → f i < n)
    → ((y : ℕ) → y < n → (i : ℕ) × (i < n) × (f i ≡ y)) → (i j : ℕ) → i < n → j < n → f i ≡ f j → i ≡ j
onto-injective f n below onto i j k l e = sym (back i k) ∙ ap (source f n n onto) e ∙ back j l
  where
    back : (i : ℕ) → i < n → source f n n onto (f i) ≡ i
    back i k = go (injective-onto (source f n n onto) n (source-below f n n onto) (source-apart f n n onto) i k)
      where
        go : (y : ℕ) × (y < n) × (source f n n onto y ≡ i) → source f n n onto (f i) ≡ i
        go (y, l, e) = ap (λ (x : ℕ). source f n n onto (f x)) (sym e)
            ∙ ap (source f n n onto) (source-there f n n onto y l) ∙ e

-- a map of [0, n) onto [0, n) stays below n: cut off at n - 1 it is one-to-one, so just one number goes to n - 1 or up
onto-below : (f : ℕ → ℕ) (n : ℕ) → ((y : ℕ) → y < n → (i : ℕ) × (i < n) × (f i ≡ y)) → (i : ℕ) → i < n → f i < n
onto-below f n onto i l = go (dec_lt (f i) n) (onto (n - 1) (omega arith))
  where
    hit : (y : ℕ) → y < n → (j : ℕ) × (j < n) × (min (f j) (n - 1) ≡ y)
    hit y k = ((onto y k).0, (onto y k).1, omega (arith, (onto y k).2))

    go : Dec (f i < n) → (j : ℕ) × (j < n) × (f j ≡ n - 1) → f i < n
    go (yes k) _ = k
    go (no k) (j, h, e) =
        let same : i ≡ j = onto-injective (λ x. min (f x) (n - 1)) n (λ x _. omega arith) hit i j l h (omega arith) in
        absurd (omega (arith, ap f same))

-- ---- matches

-- matched ranges are of one size
pub match-size : {f : List ℕ} {m n : ℕ} → Match f m n → m ≡ n
match-size {f} {m} {n} F =
    omega (arith, injective-le (at f) m n F.below F.apart, onto-le (at f) m n F.onto)

-- matches that send each number to the same one are the same list
pub match-same : {f g : List ℕ} {m n o : ℕ} → Match f m n → Match g m o → ((i : ℕ) → i < m → at f i ≡ at g i) → f ≡ g
match-same {f} {g} F G e = ext_get_or 0 f g (F.long ∙ sym G.long) (λ i b. e i (omega (arith, F.long)))

-- a function that is one-to-one and onto makes a match
pub match-tabulate : (f : ℕ → ℕ) (m n : ℕ) → ((i : ℕ) → i < m → f i < n)
    → ((i j : ℕ) → i < m → j < m → f i ≡ f j → i ≡ j) → ((y : ℕ) → y < n → (i : ℕ) × (i < m) × (f i ≡ y))
    → Match (tabulate f m) m n
match-tabulate f m n below apart onto = record {
  long = tabulate-length f m;
  below = λ i l. rw (tabulate-at f m i l) (below i l);
  apart = λ i j k l e. apart i j k l (sym (tabulate-at f m i k) ∙ e ∙ tabulate-at f m j l);
  onto = λ y l. hit (onto y l);
}
  where
    hit : {y : ℕ} → (i : ℕ) × (i < m) × (f i ≡ y) → (i : ℕ) × (i < m) × (at (tabulate f m) i ≡ y)
    hit (i, l, e) = (i, l, tabulate-at f m i l ∙ e)

-- a list that is onto a range of its own size is a match
pub onto-match : (f : List ℕ) (m n : ℕ) → length f ≡ m → m ≡ n
    → ((y : ℕ) → y < n → (i : ℕ) × (i < m) × (at f i ≡ y)) → Match f m n
onto-match f m n long size onto = subst (λ (k : ℕ). Match f m k) size
    (record { long = long; below = below; apart = onto-injective (at f) m below back; onto = back })
  where
    back : (y : ℕ) → y < m → (i : ℕ) × (i < m) × (at f i ≡ y)
    back y l = onto y (omega arith)

    below : (i : ℕ) → i < m → at f i < m
    below = onto-below (at f) m back

-- the identity: 0, 1, .., n - 1
pub identity : ℕ → List ℕ
identity n = tabulate (λ i. i) n

-- each number stands at its own place
pub identity-at : (n i : ℕ) → i < n → at (identity n) i ≡ i
unfolding identity
identity-at = tabulate-at (λ i. i)

-- there are n of them
pub identity-length : (n : ℕ) → length (identity n) ≡ n
unfolding identity
identity-length = tabulate-length (λ i. i)

-- every number below n is matched to itself
pub identity-match : (n : ℕ) → Match (identity n) n n
unfolding identity
identity-match n = match-tabulate (λ i. i) n n (λ i l. l) (λ i j l m e. e) (λ y l. (y, l, refl))

-- the match the other way round
unfoldable pub inverse : {f : List ℕ} {m n : ℕ} → Match f m n → List ℕ
unfolding tabulate source
inverse {f} {m} {n} F = tabulate (source (at f) m n F.onto) n

-- the way back undoes the way there
source-back : {f : List ℕ} {m n : ℕ} (F : Match f m n) (i : ℕ) → i < m → source (at f) m n F.onto (at f i) ≡ i
source-back {f} {m} {n} F i l =
    F.apart _ i (source-below (at f) m n F.onto (at f i) (F.below i l)) l
    (source-there (at f) m n F.onto (at f i) (F.below i l))

-- it is a match
pub inverse-match : {f : List ℕ} {m n : ℕ} (F : Match f m n) → Match (inverse F) n m
unfolding inverse
inverse-match {f} {m} {n} F = match-tabulate (source (at f) m n F.onto) n m
    (source-below (at f) m n F.onto)
    (source-apart (at f) m n F.onto)
    (λ i l. (at f i, F.below i l, source-back F i l))

-- it undoes the match
pub inverse-at : {f : List ℕ} {m n : ℕ} (F : Match f m n) (i : ℕ) → i < m → at (inverse F) (at f i) ≡ i
unfolding inverse
inverse-at {f} {m} {n} F i l =
    tabulate-at (source (at f) m n F.onto) n (at f i) (F.below i l) ∙ source-back F i l

-- the match undoes it
pub at-inverse : {f : List ℕ} {m n : ℕ} (F : Match f m n) (y : ℕ) → y < n → at f (at (inverse F) y) ≡ y
unfolding inverse
at-inverse {f} {m} {n} F y l =
    ap (at f) (tabulate-at (source (at f) m n F.onto) n y l) ∙ source-there (at f) m n F.onto y l

-- one match after another
unfoldable pub composed : List ℕ → List ℕ → List ℕ
composed f g = map (at g) f

-- its entry i is where g sends what f sends i to
pub composed-at : (f g : List ℕ) (i : ℕ) → i < length f → at (composed f g) i ≡ at g (at f i)
unfolding composed
composed-at f g i l = map_at (at g) f i l

-- it is a match
pub composed-match : {f g : List ℕ} {l m n : ℕ} → Match f l m → Match g m n → Match (composed f g) l n
unfolding composed
composed-match {f} {g} {l} {m} {n} F G = record {
  long = length-map f (at g) ∙ F.long;
  below = λ i k. rw (step i k) (G.below (at f i) (F.below i k));
  apart = λ i j h k e. F.apart i j h k
      (G.apart (at f i) (at f j) (F.below i h) (F.below j k) (sym (step i h) ∙ e ∙ step j k));
  onto = λ y k. back y (G.onto y k);
}
  where
    step : (i : ℕ) → i < l → at (map (at g) f) i ≡ at g (at f i)
    step i k = map_at (at g) f i (omega (arith, F.long))

    reach : (y j : ℕ) → at g j ≡ y → (i : ℕ) × (i < l) × (at f i ≡ j)
        → (i : ℕ) × (i < l) × (at (map (at g) f) i ≡ y)
    reach y j e (i, h, q) = (i, h, step i h ∙ ap (at g) q ∙ e)

    back : (y : ℕ) → (j : ℕ) × (j < m) × (at g j ≡ y) → (i : ℕ) × (i < l) × (at (map (at g) f) i ≡ y)
    back y (j, k, e) = reach y j e (F.onto j k)
