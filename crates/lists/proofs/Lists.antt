-- Laws of lists of numbers, read by their entries: what stands at an index after a store, in a repetition, in a
-- part, and in a list whose first entries were replaced (what `fill` and `copy` leave). Choices between numbers
-- stand in front.
use Prim.Native.Nat.{ℕ, ◌+◌, ◌≤◌, ◌<◌}
use native.Mathlib.Decide.{ℕ_discrete, dec_lt}
use native.Mathlib.Numerals.{add-one}
use native.Mathlib.Omega.{arith}
use mathlib.Core.Path.{◌≡◌, ◌∙◌}
use mathlib.Core.Logic.{◌≢◌}
use mathlib.Core.List.{List, ◌∷◌, ◌++◌}
use lib.ListN.{length, set, take, drop, replicate, length-append, length-drop, length-replicate, get_or-replicate}
use lib.ListN.{get_or-append}
use lib.Seq.{length-take-le, take_at, get_or-set_same, get_or-set_other, get_or-take, drop-cons}
use Rattle.theory.specs.Mesh.{at}

-- ---- choices

-- two numbers are equal or not
pub by-eq : {C : Type 0} (m n : ℕ) → (m ≡ n → C) → (m ≢ n → C) → C
by-eq m n equal unequal = elim (ℕ_discrete m n) [ yes h ↦ equal h | no h ↦ unequal h ]

-- one number is below another or not
pub by-lt : {C : Type 0} (m n : ℕ) → (m < n → C) → (n ≤ m → C) → C
by-lt m n below above = elim (dec_lt m n) [ yes h ↦ below h | no h ↦ above (omega arith) ]

-- ---- entries after a store

-- the value stands where it was stored
pub at_set_same : (xs : List ℕ) (i v : ℕ) → i < length xs → at (set xs i v) i ≡ v
at_set_same xs i v l = get_or-set_same xs i v 0 l

-- every other entry is as it was
pub at_set_other : (xs : List ℕ) (i v k : ℕ) → k ≢ i → at (set xs i v) k ≡ at xs k
at_set_other xs i v k ne = get_or-set_other xs i k v 0 ne

-- what holds of the value where it was stored, and of the old entry elsewhere, holds of the entry after the store
pub at_set : (P : ℕ → Type 0) (xs : List ℕ) (i v k : ℕ) → i < length xs → (k ≡ i → P v) → (k ≢ i → P (at xs k))
    → P (at (set xs i v) k)
at_set P xs i v k l same other =
    by-eq k i
    (λ e. rw (e, at_set_same xs i v l) (same e))
    (λ ne. rw (at_set_other xs i v k ne) (other ne))

-- ---- entries of a repetition and of parts

-- every entry of a repetition is the repeated value
pub at-replicate : (n v k : ℕ) → k < n → at (replicate n v) k ≡ v
at-replicate n v k l = get_or-replicate n k v 0 l

-- the first entries of a list stand where they stood
pub at_take : (n : ℕ) (xs : List ℕ) (k : ℕ) → k < n → at (take n xs) k ≡ at xs k
at_take n xs k l = get_or-take n xs k 0 l

-- where an entry stands, it and those from the next place on
pub drop-inside : (xs : List ℕ) (i : ℕ) → i < length xs → drop i xs ≡ at xs i ∷ drop (i + 1) xs
drop-inside xs i l = rw (add-one i, drop-cons xs i 0 l)

-- the entries of the first of two lists put together
pub at-append-left : (xs ys : List ℕ) (k : ℕ) → k < length xs → at (xs ++ ys) k ≡ at xs k
at-append-left xs ys k l = get_or-append xs ys 0 k l

-- lists whose first n entries are the same list have the same entries there
pub at-same-take : (n : ℕ) (xs ys : List ℕ) → take n xs ≡ ys → (k : ℕ) → k < n → at xs k ≡ at ys k
at-same-take n xs ys e k l = rw (← e, at_take n xs k l)

-- ---- a list whose first entries were replaced

-- the replaced entries
pub at_front : (ps ys : List ℕ) (n k : ℕ) → length ps ≡ n → k < n → at (ps ++ drop n ys) k ≡ at ps k
at_front ps ys n k e l = at-append-left ps (drop n ys) k (omega arith)

-- as many entries as before
pub length-replaced : (ps ys : List ℕ) (n : ℕ) → length ps ≡ n → n ≤ length ys → length (ps ++ drop n ys) ≡ length ys
length-replaced ps ys n e l = simp (length-append, length-drop) (omega arith)

-- after `fill` the first n entries are the value
pub at-filled : (n v : ℕ) (xs : List ℕ) (k : ℕ) → k < n → at (replicate n v ++ drop n xs) k ≡ v
at-filled n v xs k l = at_front (replicate n v) xs n k (length-replicate n v) l ∙ at-replicate n v k l

-- `fill` keeps the length
pub length-filled : (n v : ℕ) (xs : List ℕ) → n ≤ length xs → length (replicate n v ++ drop n xs) ≡ length xs
length-filled n v xs l = length-replaced (replicate n v) xs n (length-replicate n v) l

-- the first n entries after `fill`, as a list
pub take-filled : (n v : ℕ) (xs : List ℕ) → take n (replicate n v ++ drop n xs) ≡ replicate n v
take-filled n v xs = take_at (replicate n v) (drop n xs) n (length-replicate n v)

-- the first n entries after `copy`, as a list
pub take-copied : (n : ℕ) (xs ys : List ℕ) → n ≤ length xs → take n (take n xs ++ drop n ys) ≡ take n xs
take-copied n xs ys b = take_at (take n xs) (drop n ys) n (length-take-le n xs b)
