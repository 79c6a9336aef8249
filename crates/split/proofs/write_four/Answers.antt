-- `split::write_four` meets its contract: the four triangles, one after the other, are a run of twelve entries.
use native.Mathlib.Omega.{arith}
use Prim.Native.Nat.{ℕ, ◌+◌, ◌*◌}
use mathlib.Core.Path.{◌≡◌, ◌∙◌, refl}
use mathlib.Core.List.{List, [], ◌∷◌, ◌++◌}
use lib.ListN.{length, length-append}
use lib.Seq.{sets}
use Rattle.theory.specs.Mesh.{at}
use Rattle.split.specs.Fours.{four_of}
use Rattle.lists.proofs.Stores.{sets-append}
use Rattle.split.proofs.write_four.Goals as goal

-- four runs of three entries, one after the other, are one run
four_runs : (out : List ℕ) (k : ℕ) (ws xs ys zs : List ℕ) → length ws ≡ 3 → length xs ≡ 3 → length ys ≡ 3
    → sets (sets (sets (sets out (3 * (4 * k)) ws) (3 * (4 * k + 1)) xs) (3 * (4 * k + 2)) ys) (3 * (4 * k + 3)) zs
    ≡ sets out (12 * k) (ws ++ xs ++ ys ++ zs)
four_runs out k ws xs ys zs a b c =
    let from₀ : 3 * (4 * k) ≡ 12 * k = omega arith in
    let from₁ : 3 * (4 * k + 1) ≡ 12 * k + length ws = omega arith in
    let from₂ : 3 * (4 * k + 2) ≡ 12 * k + length (ws ++ xs) = simp length-append (omega arith) in
    let from₃ : 3 * (4 * k + 3) ≡ 12 * k + length (ws ++ xs ++ ys) = simp length-append (omega arith) in
    rw (from₀, from₁, sets-append out, from₂, sets-append out, from₃, sets-append out)

-- the four triangles, each after the one before
stored : (T numbers out : List ℕ) (k : ℕ) {out₁ out₂ out₃ out₄ : List ℕ}
    → out₁ ≡ sets out (3 * (4 * k)) (at numbers (3 * k) ∷ at numbers (3 * k + 1) ∷ at numbers (3 * k + 2) ∷ [])
    → out₂ ≡ sets out₁ (3 * (4 * k + 1)) (at T (3 * k) ∷ at numbers (3 * k) ∷ at numbers (3 * k + 2) ∷ [])
    → out₃ ≡ sets out₂ (3 * (4 * k + 2)) (at T (3 * k + 1) ∷ at numbers (3 * k + 1) ∷ at numbers (3 * k) ∷ [])
    → out₄ ≡ sets out₃ (3 * (4 * k + 3)) (at T (3 * k + 2) ∷ at numbers (3 * k + 2) ∷ at numbers (3 * k + 1) ∷ [])
    → out₄ ≡ sets out (12 * k) (four_of T numbers k)
unfolding four_of
stored T numbers out k first second third fourth =
    fourth ∙ rw (third, second, first)
    (four_runs out k (_ ∷ _ ∷ _ ∷ []) (_ ∷ _ ∷ _ ∷ []) (_ ∷ _ ∷ _ ∷ []) (_ ∷ _ ∷ _ ∷ []) refl refl refl)

pub returns : goal.returns
returns c = stored _ _ _ _ c.write_three.ensures c.write_three-2.ensures
    c.write_three-3.ensures c.write_three-4.ensures
