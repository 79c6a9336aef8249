-- Laws of runs of stores (`sets` of the kit's `lib.Seq`): as single stores, by their entries, one run after another,
-- and a run right after a front part.
use Prim.Native.Nat.{ℕ, zero, suc, ◌+◌, ◌≤◌, ◌<◌}
use native.Mathlib.Nat.{add-zero}
use native.Mathlib.Numerals.{add-one, add-two, add-three}
use native.Mathlib.Omega.{arith}
use mathlib.Core.Path.{◌≡◌, ◌∙◌, refl, ap, sym}
use mathlib.Core.Logic.{◌≢◌}
use mathlib.Core.List.{List, [], ◌∷◌, ◌++◌}
use lib.ListN.{length, length-set, drop, set}
use lib.Seq.{sets, sets-eq, take_at, drop-append-add, drop-drop}
use Rattle.theory.specs.Mesh.{at}
use Rattle.lists.proofs.Lists.{at_set_same, at_set_other, length-replaced}

-- ---- single stores

-- two stores one after the other
pub two-stores : (xs : List ℕ) (i a b : ℕ) → set (set xs i a) (i + 1) b ≡ sets xs i (a ∷ b ∷ [])
two-stores xs i a b = rw (add-one i)

-- three of them
pub three-stores : (xs : List ℕ) (i a b c : ℕ)
    → set (set (set xs i a) (i + 1) b) (i + 2) c ≡ sets xs i (a ∷ b ∷ c ∷ [])
three-stores xs i a b c = rw (add-one i, add-two i)

-- four of them
pub four-stores : (xs : List ℕ) (i a b c d : ℕ)
    → set (set (set (set xs i a) (i + 1) b) (i + 2) c) (i + 3) d ≡ sets xs i (a ∷ b ∷ c ∷ d ∷ [])
four-stores xs i a b c d = rw (add-one i, add-two i, add-three i)

-- ---- entries

-- outside the run the entries are as they were
pub at-sets-other : (vs xs : List ℕ) (i d : ℕ) → ((j : ℕ) → j < length vs → d ≢ i + j) → at (sets xs i vs) d ≡ at xs d
at-sets-other [] xs i d out = refl
at-sets-other (v ∷ vs) xs i d out =
    at-sets-other vs (set xs i v) (suc i) d (λ j l e. out (suc j) (omega arith) (omega arith))
    ∙ at_set_other xs i v d (λ e. out 0 (omega arith) (omega arith))

-- in the run stand the values in order
pub at-sets : (vs xs : List ℕ) (i j : ℕ) → i + length vs ≤ length xs → j < length vs
    → at (sets xs i vs) (i + j) ≡ at vs j
at-sets [] xs i j room l = absurd (omega arith)
at-sets (v ∷ vs) xs i zero room l =
    rw (add-zero i)
    (at-sets-other vs (set xs i v) (suc i) i (λ j b. omega arith) ∙ at_set_same xs i v (omega arith))
at-sets (v ∷ vs) xs i (suc j) room l =
    let e : i + suc j ≡ suc i + j = omega arith in
    rw e (at-sets vs (set xs i v) (suc i) j (simp length-set (omega arith)) (omega arith))

-- ---- runs after one another

-- two runs, the second from where the first ends, are one run
pub sets-append : (xs : List ℕ) (i : ℕ) (vs ws : List ℕ) → sets (sets xs i vs) (i + length vs) ws ≡ sets xs i (vs ++ ws)
sets-append xs i [] ws = rw add-zero
sets-append xs i (v ∷ vs) ws =
    let e : i + suc (length vs) ≡ suc i + length vs = omega arith in
    rw e (sets-append (set xs i v) (suc i) vs ws)

module _ (ps ys : List ℕ) (n : ℕ) (long : length ps ≡ n) where
  -- what is left of the entries after a front part, m of them further on
  drop-behind : (m : ℕ) → drop (n + m) (ps ++ drop n ys) ≡ drop (n + m) ys
  drop-behind m =
      ap (λ (k : ℕ). drop (k + m) (ps ++ drop n ys)) (sym long)
      ∙ drop-append-add ps (drop n ys) m
      ∙ drop-drop m n ys

  -- a run right after a front part makes it longer
  pub sets-front : (vs : List ℕ) → n + length vs ≤ length ys
      → sets (ps ++ drop n ys) n vs ≡ ps ++ vs ++ drop (n + length vs) ys
  sets-front vs room =
      sets-eq vs (ps ++ drop n ys) n (omega (arith, length-replaced ps ys n long (omega arith)))
      ∙ rw (take_at ps (drop n ys) n long, drop-behind)
