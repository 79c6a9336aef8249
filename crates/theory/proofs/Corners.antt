-- Corners by their numbers: triangle k has the corners 3k, 3k + 1 and 3k + 2; half-edge c runs from corner c to the
-- next corner of its triangle and misses the one before. All of it is arithmetic.
use Prim.Native.Nat.{ℕ, ◌+◌, ◌*◌, ◌/◌, ◌%◌, ◌-◌, ◌<◌}
use native.Mathlib.Decide.{ℕ_discrete}
use native.Mathlib.Omega.{arith}
use mathlib.Core.Path.{◌≡◌, sym, ap, ◌∙◌}
use mathlib.Core.Logic.{◌≢◌, ◌⊎◌, inl, inr}
use Rattle.theory.specs.Splitting.{next}
use Rattle.theory.proofs.Finite.{injective-onto}

-- ---- the triangle of a corner, and its place there

-- corner 3j + i is of triangle j
pub corner-triangle : (j i : ℕ) → i < 3 → (3 * j + i) / 3 ≡ j
corner-triangle j i b = omega arith

-- and its place there is i
pub corner-place : (j i : ℕ) → i < 3 → (3 * j + i) % 3 ≡ i
corner-place j i b = omega arith

-- a corner is made up of its triangle and its place
pub triangle-place : (c j : ℕ) → c / 3 ≡ j → 3 * j + c % 3 ≡ c
triangle-place c j e = omega arith

-- so it is known by these
pub corner-unique : (c d : ℕ) → c / 3 ≡ d / 3 → c % 3 ≡ d % 3 → c ≡ d
corner-unique c d p q = omega arith

-- the corners of a triangle are inside the list
pub corner-inside : (n j i : ℕ) → n ≡ 3 * (n / 3) → j < n / 3 → i < 3 → 3 * j + i < n
corner-inside n j i whole l b = omega arith

-- they are if one of them is
pub triangle-inside : (n c d : ℕ) → n ≡ 3 * (n / 3) → d < n → c / 3 ≡ d / 3 → c < n
triangle-inside n c d whole l e = omega arith

-- ---- the three corners of a triangle

-- beside two corners of a triangle there is a third one
pub corner-third : (c d k : ℕ) → c / 3 ≡ k → d / 3 ≡ k → c ≢ d → (e : ℕ) × (e / 3 ≡ k) × (e ≢ c) × (e ≢ d)
corner-third c d k p q n = (9 * k + 3 - (c + d), omega arith, omega arith, omega arith)

-- and no fourth one
pub corner-fourth : (a b c d k : ℕ) → a / 3 ≡ k → b / 3 ≡ k → c / 3 ≡ k → d / 3 ≡ k → a ≢ b → b ≢ c → c ≢ a
    → d ≢ a → d ≢ b → d ≡ c
corner-fourth a b c d k p q s t = omega arith

-- a one-to-one map of 0, 1, 2 to the corners of a triangle is onto
pub corners-onto : (κ : ℕ → ℕ) (l : ℕ) → ((i : ℕ) → i < 3 → κ i / 3 ≡ l)
    → ((i j : ℕ) → i < 3 → j < 3 → κ i ≡ κ j → i ≡ j) → (y : ℕ) → y / 3 ≡ l → (i : ℕ) × (i < 3) × (κ i ≡ y)
corners-onto κ l lands apart y e =
    go (injective-onto (λ i. κ i % 3) 3 (λ i b. omega arith) places (y % 3) (omega arith))
  where
    places : (i j : ℕ) → i < 3 → j < 3 → κ i % 3 ≡ κ j % 3 → i ≡ j
    places i j a b p = apart i j a b (omega (arith, lands i a, lands j b))

    go : (i : ℕ) × (i < 3) × (κ i % 3 ≡ y % 3) → (i : ℕ) × (i < 3) × (κ i ≡ y)
    go (i, b, p) = (i, b, omega (arith, lands i b))

-- ---- the next corner and the one before

-- The corner before corner c in its triangle: the one that half-edge c misses.
abbrev pub before : ℕ → ℕ
before c = 3 * (c / 3) + (c + 2) % 3

-- both are in the same triangle
pub next-triangle : (c : ℕ) → next c / 3 ≡ c / 3
next-triangle c = omega arith

pub before-triangle : (c : ℕ) → before c / 3 ≡ c / 3
before-triangle c = omega arith

-- by the places
pub next_place : (c : ℕ) → next c % 3 ≡ (c % 3 + 1) % 3
next_place c = omega arith

pub before-place : (c k : ℕ) → c / 3 ≡ k → 3 * k + (c % 3 + 2) % 3 ≡ before c
before-place c k e = omega arith

-- they undo each other, and the next but one is the one before
pub next-before : (c : ℕ) → next (before c) ≡ c
next-before c = omega arith

pub before-next : (c : ℕ) → before (next c) ≡ c
before-next c = omega arith

pub next-next : (c : ℕ) → next (next c) ≡ before c
next-next c = omega arith

-- the next but one is not the first again
pub next-twice : (g h : ℕ) → g ≡ next h → next g ≡ h → ⊥
next-twice g h p q = omega arith

-- another corner of the triangle is the next one or the one before
pub next-or-before : (x z : ℕ) → x / 3 ≡ z / 3 → x ≢ z → (x ≡ next z) ⊎ (x ≡ before z)
next-or-before x z e n = elim (ℕ_discrete x (next z)) [ yes p ↦ inl p | no p ↦ inr (omega arith) ]

-- so two corners of a triangle follow one another, one way round or the other
pub corners-follow : (a b : ℕ) → a / 3 ≡ b / 3 → a ≢ b → (next a ≡ b) ⊎ (next b ≡ a)
corners-follow a b t n = elim (next-or-before b a (sym t) (λ e. n (sym e))) [
  | inl e ↦ inl (sym e)
  | inr e ↦ inr (ap next e ∙ next-before a)
]

-- and a corner that half-edge h does not touch is the one before
pub missed-corner : (h c : ℕ) → c / 3 ≡ h / 3 → c ≢ h → c ≢ next h → before h ≡ c
missed-corner h c e m n = omega arith

-- two different half-edges of a triangle touch every corner of it
pub touched : (g h c : ℕ) → g / 3 ≡ h / 3 → c / 3 ≡ g / 3 → g ≢ h
    → ((c ≡ g) ⊎ (c ≡ next g)) ⊎ ((c ≡ h) ⊎ (c ≡ next h))
touched g h c p q d = go (ℕ_discrete c g) (ℕ_discrete c (next g)) (ℕ_discrete c h)
  where
    go : Dec (c ≡ g) → Dec (c ≡ next g) → Dec (c ≡ h) → ((c ≡ g) ⊎ (c ≡ next g)) ⊎ ((c ≡ h) ⊎ (c ≡ next h))
    go (yes e) _ _ = inl (inl e)
    go (no n) (yes e) _ = inl (inr e)
    go (no n) (no m) (yes e) = inr (inl e)
    go (no n) (no m) (no o) = inr (inr (omega arith))

-- ---- the ends of a half-edge

-- half-edge h runs between the corners x and y, one way round or the other
pub data Ends (h x y : ℕ) : Type 0 where
  forth : h ≡ x → next h ≡ y → Ends h x y
  back : h ≡ y → next h ≡ x → Ends h x y

-- half-edge `next z` runs between the other two corners of the triangle
pub next-ends : (x y z : ℕ) → x / 3 ≡ z / 3 → y / 3 ≡ z / 3 → x ≢ y → x ≢ z → y ≢ z → Ends (next z) x y
next-ends x y z p q x≢y x≢z y≢z = go (next-or-before x z p x≢z) (next-or-before y z q y≢z)
  where
    go : (x ≡ next z) ⊎ (x ≡ before z) → (y ≡ next z) ⊎ (y ≡ before z) → Ends (next z) x y
    go (inl a) (inl b) = absurd (x≢y (a ∙ sym b))
    go (inl a) (inr b) = forth (sym a) (next-next z ∙ sym b)
    go (inr a) (inl b) = back (sym b) (next-next z ∙ sym a)
    go (inr a) (inr b) = absurd (x≢y (a ∙ sym b))
