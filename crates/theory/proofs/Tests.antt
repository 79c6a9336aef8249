-- General tests that compute, of numbers and lists of numbers: Bool tests put together, whether some or all entries
-- pass, whether a number is an entry, which entries pass, whether some or all numbers below a bound pass, whether no
-- entry stands twice, whether entries go upward. Each has a proof that it passes only where it is so (`..-sound`) and
-- one that it passes wherever it is so (`..-complete`).
-- Whoever computes with a test says `unfolding` and its name: it opens all that it is made of.
use Prim.Native.Nat.{ℕ, zero, suc, ◌+◌, ◌≤◌, ◌<◌}
use native.Mathlib.Decide.{ℕ_discrete}
use native.Mathlib.Omega.{arith}
use mathlib.Core.Path.{◌≡◌, refl, sym, ap}
use mathlib.Core.Logic.{◌≢◌, ◌⊎◌, inl, inr}
use mathlib.Core.Bool.{Bool, true, false, not, cond, ◌&&◌, ◌||◌}
use mathlib.Core.List.Memᴰ.{head as first}
use mathlib.Core.List.Memᴰ.{tail as later}
use mathlib.Core.List.{List, [], ◌∷◌, Memᴰ as Member}
use mathlib.Core.List.Memᴰ.{cast as member-cast}
use lib.Dec.{T as So, T_not, not_T, eqb, ltb, eqb→eq, ltb→lt, lt→ltb, eqb_refl}
use lib.ListN.{length}
use Rattle.theory.specs.Mesh.{at}

-- ---- Bool tests

-- a test that is right both ways decides
abbrev pub decided : {P : Type 0} (b : Bool) → (So b → P) → (P → So b) → Dec P
decided true sound complete = yes (sound tt)
decided false sound complete = no complete

-- both pass
pub and_sound : (a b : Bool) → So (a && b) → So a × So b
and_sound true b t = (tt, t)
and_sound false b t = absurd t

-- two that pass, pass together
pub and-complete : (a b : Bool) → So a → So b → So (a && b)
and-complete true b s t = t
and-complete false b s t = absurd s

-- all three pass
pub and₃-sound : (a b c : Bool) → So (a && (b && c)) → So a × So b × So c
and₃-sound true true c t = (tt, tt, t)
and₃-sound true false c t = absurd t
and₃-sound false b c t = absurd t

-- three that pass, pass together
pub and₃-complete : (a b c : Bool) → So a → So b → So c → So (a && (b && c))
and₃-complete a b c p q r = and-complete a (b && c) p (and-complete b c q r)

-- all five pass
pub and₅-sound : (a b c d e : Bool) → So (a && (b && (c && (d && e)))) → So a × So b × So c × So d × So e
and₅-sound true true true true e t = (tt, tt, tt, tt, t)
and₅-sound true true true false e t = absurd t
and₅-sound true true false d e t = absurd t
and₅-sound true false c d e t = absurd t
and₅-sound false b c d e t = absurd t

-- five that pass, pass together
pub and₅-complete : (a b c d e : Bool) → So a → So b → So c → So d → So e → So (a && (b && (c && (d && e))))
and₅-complete a b c d e p q r s t =
    and-complete a _ p (and-complete b _ q (and-complete c _ r (and-complete d e s t)))

-- one of the two passes
pub or_sound : (a b : Bool) → So (a || b) → So a ⊎ So b
or_sound true b t = inl tt
or_sound false b t = inr t

-- it is enough that the first passes
pub or_left : (a b : Bool) → So a → So (a || b)
or_left true b t = tt
or_left false b t = absurd t

-- or that the second does
pub or_right : (a b : Bool) → So b → So (a || b)
or_right true b t = tt
or_right false b t = t

-- whether the second passes if the first does
abbrev pub implies : Bool → Bool → Bool
implies a b = not a || b

-- then where the first passes, so does the second
pub implies-sound : (a b : Bool) → So (implies a b) → So a → So b
implies-sound true b t s = t
implies-sound false b t s = absurd s

-- it is enough that the second passes where the first does
pub implies-complete : (a b : Bool) → (So a → So b) → So (implies a b)
implies-complete true b h = h tt
implies-complete false b h = tt

-- equal numbers pass the test for equality
pub eq→eqb : (m n : ℕ) → m ≡ n → So (eqb m n)
eq→eqb m n e = rw e (eqb_refl n)

-- ---- tests of lists

-- whether some entry passes
unfoldable pub some_of : (ℕ → Bool) → List ℕ → Bool
some_of test [] = false
some_of test (x ∷ xs) =
    let r : Bool = some_of test xs in
    test x || r

-- then one of them passes
pub some_of-sound : (test : ℕ → Bool) (xs : List ℕ) → So (some_of test xs) → (x : ℕ) × Member x xs × So (test x)
unfolding some_of
some_of-sound test [] t = absurd t
some_of-sound test (x ∷ xs) t = go (some_of-sound test xs) (or_sound (test x) (some_of test xs) t)
  where
    go : (So (some_of test xs) → (y : ℕ) × Member y xs × So (test y)) → So (test x) ⊎ So (some_of test xs)
        → (y : ℕ) × Member y (x ∷ xs) × So (test y)
    go below (inl s) = (x, first refl, s)
    go below (inr s) = ((below s).0, later (below s).1, (below s).2)

-- it is enough that one passes
pub some_of-complete : (test : ℕ → Bool) (xs : List ℕ) (x : ℕ) → Member x xs → So (test x) → So (some_of test xs)
unfolding some_of
some_of-complete test [] y x3 t = elim x3 [ ]
some_of-complete test (x ∷ xs) y (first e) t = or_left (test x) (some_of test xs) (rw e at t)
some_of-complete test (x ∷ xs) y (later m) t = or_right (test x) (some_of test xs) (some_of-complete test xs y m t)

-- whether all entries pass
unfoldable pub all_of : (ℕ → Bool) → List ℕ → Bool
all_of test [] = true
all_of test (x ∷ xs) =
    let r : Bool = all_of test xs in
    test x && r

-- then each passes
pub all_of-sound : (test : ℕ → Bool) (xs : List ℕ) → So (all_of test xs) → (x : ℕ) → Member x xs → So (test x)
unfolding all_of
all_of-sound test [] t y x3 = elim x3 [ ]
all_of-sound test (x ∷ xs) t y (first e) = rw e (and_sound (test x) (all_of test xs) t).0
all_of-sound test (x ∷ xs) t y (later m) = all_of-sound test xs (and_sound (test x) (all_of test xs) t).1 y m

-- it is enough that each passes
pub all_of-complete : (test : ℕ → Bool) (xs : List ℕ) → ((x : ℕ) → Member x xs → So (test x)) → So (all_of test xs)
unfolding all_of
all_of-complete test [] h = tt
all_of-complete test (x ∷ xs) h =
    and-complete (test x) (all_of test xs) (h x (first refl)) (all_of-complete test xs (λ y m. h y (later m)))

-- whether the number is an entry
unfoldable pub is_in : ℕ → List ℕ → Bool
unfolding some_of
is_in v xs = some_of (eqb v) xs

-- then it is an entry
pub is_in-sound : (v : ℕ) (xs : List ℕ) → So (is_in v xs) → Member v xs
unfolding is_in
is_in-sound v xs t = go (some_of-sound (eqb v) xs t)
  where
    go : (x : ℕ) × Member x xs × So (eqb v x) → Member v xs
    go (x, m, e) = member-cast (eqb→eq v x e) m

-- an entry is found
pub is_in-complete : (v : ℕ) (xs : List ℕ) → Member v xs → So (is_in v xs)
unfolding is_in
is_in-complete v xs m = some_of-complete (eqb v) xs v m (eqb_refl v)

-- whether there are two different entries
unfoldable pub some_differ : List ℕ → Bool
unfolding some_of
some_differ xs = some_of (λ u. some_of (λ v. not (eqb u v)) xs) xs

-- then there are two
pub some_differ-sound : (xs : List ℕ) → So (some_differ xs) → (u : ℕ) × (v : ℕ) × Member u xs × Member v xs × (u ≢ v)
unfolding some_differ
some_differ-sound xs t = outer (some_of-sound _ xs t)
  where
    inner : (u : ℕ) → Member u xs → (v : ℕ) × Member v xs × So (not (eqb u v))
        → (u : ℕ) × (v : ℕ) × Member u xs × Member v xs × (u ≢ v)
    inner u m (v, n, d) = (u, v, m, n, λ e. T_not (eqb u v) d (eq→eqb u v e))

    outer : (u : ℕ) × Member u xs × So (some_of (λ v. not (eqb u v)) xs)
        → (u : ℕ) × (v : ℕ) × Member u xs × Member v xs × (u ≢ v)
    outer (u, m, s) = inner u m (some_of-sound _ xs s)

-- two are enough
pub some_differ-complete : (xs : List ℕ) (u v : ℕ) → Member u xs → Member v xs → u ≢ v → So (some_differ xs)
unfolding some_differ
some_differ-complete xs u v m n d =
    some_of-complete _ xs u m (some_of-complete _ xs v n (not_T (eqb u v) (λ t. d (eqb→eq u v t))))

-- the entries that pass, in order
unfoldable pub passing : (ℕ → Bool) → List ℕ → List ℕ
passing test [] = []
passing test (x ∷ xs) =
    let r : List ℕ = passing test xs in
    cond (test x) (x ∷ r) r

-- what is kept is an entry that passes
pub passing-sound : (test : ℕ → Bool) (xs : List ℕ) (y : ℕ) → Member y (passing test xs) → Member y xs × So (test y)
unfolding passing
passing-sound test [] y m = elim m [ ]
passing-sound test (x ∷ xs) y m = go (passing-sound test xs y) (test x) refl m
  where
    go : (Member y (passing test xs) → Member y xs × So (test y)) → (b : Bool) → test x ≡ b
        → Member y (cond b (x ∷ passing test xs) (passing test xs)) → Member y (x ∷ xs) × So (test y)
    go below true e (first p) = (first p, rw (p, e) tt)
    go below true e (later n) = (later (below n).0, (below n).1)
    go below false e n = (later (below n).0, (below n).1)

-- an entry that passes is kept
pub passing-complete : (test : ℕ → Bool) (xs : List ℕ) (y : ℕ) → Member y xs → So (test y) → Member y (passing test xs)
unfolding passing
passing-complete test [] y x'' t = elim x'' [ ]
passing-complete test (x ∷ xs) y (first p) t = go (test x) (rw p at t)
  where
    go : (b : Bool) → So b → Member y (cond b (x ∷ passing test xs) (passing test xs))
    go true s = first p
    go false s = absurd s
passing-complete test (x ∷ xs) y (later m) t = go (test x) (passing-complete test xs y m t)
  where
    go : (b : Bool) → Member y (passing test xs) → Member y (cond b (x ∷ passing test xs) (passing test xs))
    go true n = later n
    go false n = n

-- where no entry passes two tests, no more are kept by the two together than there are
pub passing-length : (f g : ℕ → Bool) (xs : List ℕ) → ((x : ℕ) → Member x xs → So (f x) → So (g x) → ⊥)
    → length (passing f xs) + length (passing g xs) ≤ length xs
unfolding passing
passing-length f g [] clash = omega arith
passing-length f g (x ∷ xs) clash =
    go (f x) (g x) (clash x (first refl)) (passing-length f g xs (λ y m. clash y (later m)))
  where
    go : (a b : Bool) → (So a → So b → ⊥) → length (passing f xs) + length (passing g xs) ≤ length xs
        → length (cond a (x ∷ passing f xs) (passing f xs)) + length (cond b (x ∷ passing g xs) (passing g xs))
        ≤ suc (length xs)
    go true true c l = absurd (c tt tt)
    go true false c l = omega arith
    go false true c l = omega arith
    go false false c l = omega arith

-- ---- the numbers below a bound

-- n - 1, .., 0
unfoldable pub numbers : ℕ → List ℕ
numbers zero = []
numbers (suc n) = n ∷ numbers n

-- there are n of them
pub numbers-length : (n : ℕ) → length (numbers n) ≡ n
unfolding numbers
numbers-length zero = refl
numbers-length (suc n) = ap suc (numbers-length n)

-- each is below n
numbers-below : (n i : ℕ) → Member i (numbers n) → i < n
unfolding numbers
numbers-below zero i x' = elim x' [ ]
numbers-below (suc n) i (first e) = omega arith
numbers-below (suc n) i (later m) = omega (arith, numbers-below n i m)

-- each number below n is one of them
pub below-numbers : (n i : ℕ) → i < n → Member i (numbers n)
unfolding numbers
below-numbers zero i l = absurd (omega arith)
below-numbers (suc n) i l = go (below-numbers n i) (ℕ_discrete i n)
  where
    go : (i < n → Member i (numbers n)) → Dec (i ≡ n) → Member i (n ∷ numbers n)
    go below (yes e) = first e
    go below (no d) = later (below (omega arith))

-- whether all numbers below n pass
unfoldable pub all_below : (ℕ → Bool) → ℕ → Bool
unfolding all_of numbers
all_below test n = all_of test (numbers n)

-- then each passes
pub all_below-sound : (test : ℕ → Bool) (n : ℕ) → So (all_below test n) → (i : ℕ) → i < n → So (test i)
unfolding all_below
all_below-sound test n t i l = all_of-sound test (numbers n) t i (below-numbers n i l)

-- it is enough that each passes
pub all_below-complete : (test : ℕ → Bool) (n : ℕ) → ((i : ℕ) → i < n → So (test i)) → So (all_below test n)
unfolding all_below
all_below-complete test n h = all_of-complete test (numbers n) (λ i m. h i (numbers-below n i m))

-- whether some number below n passes
unfoldable pub some_below : (ℕ → Bool) → ℕ → Bool
unfolding some_of numbers
some_below test n = some_of test (numbers n)

-- then one of them passes
pub some_below-sound : (test : ℕ → Bool) (n : ℕ) → So (some_below test n) → (i : ℕ) × (i < n) × So (test i)
unfolding some_below
some_below-sound test n t = go (some_of-sound test (numbers n) t)
  where
    go : (i : ℕ) × Member i (numbers n) × So (test i) → (i : ℕ) × (i < n) × So (test i)
    go (i, m, s) = (i, numbers-below n i m, s)

-- it is enough that one passes
pub some_below-complete : (test : ℕ → Bool) (n i : ℕ) → i < n → So (test i) → So (some_below test n)
unfolding some_below
some_below-complete test n i l s = some_of-complete test (numbers n) i (below-numbers n i l) s

-- ---- entries and their places

-- what stands at a place of the list is an entry
pub at-member : (xs : List ℕ) (i : ℕ) → i < length xs → Member (at xs i) xs
at-member [] i l = absurd (omega arith)
at-member (x ∷ xs) zero l = first refl
at-member (x ∷ xs) (suc i) l = later (at-member xs i (omega arith))

-- an entry stands at some place
pub member-at : {v : ℕ} {xs : List ℕ} → Member v xs → (i : ℕ) × (i < length xs) × (at xs i ≡ v)
member-at (first e) = (0, omega arith, sym e)
member-at {v} (later {x} {xs} m) = go (member-at m)
  where
    go : (i : ℕ) × (i < length xs) × (at xs i ≡ v) → (i : ℕ) × (i < length (x ∷ xs)) × (at (x ∷ xs) i ≡ v)
    go (i, l, e) = (suc i, omega arith, e)

-- whether no entry stands twice
unfoldable pub all_apart : List ℕ → Bool
unfolding is_in
all_apart [] = true
all_apart (x ∷ xs) =
    let r : Bool = all_apart xs in
    not (is_in x xs) && r

-- then no entry after the first is equal to it
first-apart : (x : ℕ) (xs : List ℕ) (j : ℕ) → So (all_apart (x ∷ xs)) → j < length xs → x ≡ at xs j → ⊥
unfolding all_apart
first-apart x xs j t l e =
    T_not (is_in x xs) (and_sound (not (is_in x xs)) (all_apart xs) t).0
    (is_in-complete x xs (member-cast e (at-member xs j l)))

-- and equal entries stand at one place
pub all_apart-sound : (xs : List ℕ) → So (all_apart xs)
    → (i j : ℕ) → i < length xs → j < length xs → at xs i ≡ at xs j → i ≡ j
unfolding all_apart
all_apart-sound [] t i j l m e = absurd (omega arith)
all_apart-sound (x ∷ xs) t zero zero l m e = refl
all_apart-sound (x ∷ xs) t zero (suc j) l m e = absurd (first-apart x xs j t (omega arith) e)
all_apart-sound (x ∷ xs) t (suc i) zero l m e = absurd (first-apart x xs i t (omega arith) (sym e))
all_apart-sound (x ∷ xs) t (suc i) (suc j) l m e =
    ap suc (all_apart-sound xs (and_sound (not (is_in x xs)) (all_apart xs) t).1 i j (omega arith) (omega arith) e)

-- where equal entries stand at one place, no entry stands twice
pub all_apart-complete : (xs : List ℕ) → ((i j : ℕ) → i < length xs → j < length xs → at xs i ≡ at xs j → i ≡ j)
    → So (all_apart xs)
unfolding all_apart
all_apart-complete [] h = tt
all_apart-complete (x ∷ xs) h =
    and-complete (not (is_in x xs)) (all_apart xs) (not_T (is_in x xs) (λ t. go (member-at (is_in-sound x xs t))))
    (all_apart-complete xs (λ i j l m e. omega (arith, h (suc i) (suc j) (omega arith) (omega arith) e)))
  where
    go : (i : ℕ) × (i < length xs) × (at xs i ≡ x) → ⊥
    go (i, l, e) = omega (arith, h (suc i) 0 (omega arith) (omega arith) e)

-- whether the entries at marked places go upward
unfoldable pub upward_test : (ℕ → Bool) → List ℕ → Bool
unfolding all_below
upward_test marked f =
    all_below (λ j. all_below (λ i. implies (marked i && marked j) (ltb (at f i) (at f j))) j) (length f)

-- then of two marked places the later has the greater entry
pub upward_test-sound : (marked : ℕ → Bool) (f : List ℕ) → So (upward_test marked f) → (i j : ℕ) → j < length f
    → So (marked i) → So (marked j) → i < j → at f i < at f j
unfolding upward_test
upward_test-sound marked f t i j l p q b =
    ltb→lt (at f i) (at f j) (implies-sound (marked i && marked j) (ltb (at f i) (at f j))
    (all_below-sound _ j (all_below-sound _ (length f) t j l) i b) (and-complete (marked i) (marked j) p q))

-- it is enough that each marked place has a greater entry than those before it
pub upward_test-complete : (marked : ℕ → Bool) (f : List ℕ)
    → ((i j : ℕ) → So (marked i) → So (marked j) → i < j → at f i < at f j) → So (upward_test marked f)
unfolding upward_test
upward_test-complete marked f h =
    all_below-complete _ (length f) (λ j l. all_below-complete _ j (λ i b.
    implies-complete (marked i && marked j) (ltb (at f i) (at f j)) (λ t. lt→ltb (at f i) (at f j) (go i j b t))))
  where
    go : (i j : ℕ) → i < j → So (marked i && marked j) → at f i < at f j
    go i j b t = h i j (and_sound (marked i) (marked j) t).0 (and_sound (marked i) (marked j) t).1 b
