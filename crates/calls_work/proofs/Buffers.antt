-- Work buffers as lists: buffers that keep their lengths are cleared to the same zeros.
use Prim.Native.Nat.{ℕ}
use mathlib.Core.Path.{◌≡◌, ◌∙◌, refl, sym, ap}
use mathlib.Core.List.{List, [], ◌∷◌, ◌++◌, map, map-map}
use lib.ListN.{length, replicate}
use Rattle.theory.specs.Calls.{zeros}

-- ---- a call's buffers, and their lengths, as lists

-- Two lists that are equal entry by entry.
abbrev pub Alike : List ℕ → List ℕ → Type 0
Alike [] [] = Unit {0}
Alike (x ∷ xs) (y ∷ ys) = (x ≡ y) × Alike xs ys
Alike [] (y ∷ ys) = ⊥
Alike (x ∷ xs) [] = ⊥

-- such lists are equal
alike-equal : (xs ys : List ℕ) → Alike xs ys → xs ≡ ys
alike-equal [] [] _ = refl
alike-equal (x ∷ xs) (y ∷ ys) (e, es) = rw (e, alike-equal xs ys es)
alike-equal [] (y ∷ ys) es = absurd es
alike-equal (x ∷ xs) [] es = absurd es

-- ---- cleared buffers

-- what two calls leave, one after the other
pub both_equal : {one one' other other' : List (List ℕ)} → one' ≡ one → other' ≡ other → one' ++ other' ≡ one ++ other
both_equal p q = cc

-- buffers that are used, so that they keep their lengths, and then cleared are zero
pub used-cleared : (works used works' : List (List ℕ)) → Alike (map length used) (map length works)
    → works' ≡ map zeros used → works' ≡ map zeros works
used-cleared works used works' kept cleared =
    cleared
    ∙ sym (map-map zeroed length used)
    ∙ ap (map zeroed) (alike-equal (map length used) (map length works) kept)
    ∙ map-map zeroed length works
  where
    zeroed : ℕ → List ℕ
    zeroed n = replicate n 0
