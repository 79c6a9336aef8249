-- Runs of entries, one for each marked triangle, at the place of its rank: the values at the half-edges of a triangle, and
-- what is stored for the first k triangles.
use Prim.Native.Nat.{ℕ, zero, suc, ◌+◌, ◌*◌, ◌≤◌, ◌<◌}
use native.Mathlib.Nat.{add-zero, mul-suc, mul-le-mul_left}
use native.Mathlib.Omega.{arith}
use mathlib.Core.Path.{◌≡◌, ◌∙◌, refl}
use mathlib.Core.Logic.{◌≢◌}
use mathlib.Core.Bool.{Bool}
use mathlib.Core.List.{List}
use lib.Dec.{T}
use lib.ListN.{length}
use lib.Seq.{sets}
use Rattle.theory.specs.Mesh.{at}
use Rattle.theory.specs.Counting.{count}
use Rattle.theory.proofs.Counting.{count-grows}
use Rattle.lists.specs.Marks.{marked}
use Rattle.lists.proofs.Lists.{by-eq}
use Rattle.lists.proofs.Marks.{marked-entry, entry-marked, bit_of-mark, bit_of-none, count-marked}
use Rattle.lists.proofs.Stores.{at-sets, at-sets-other}
use Rattle.undo_match.specs.Runs.{three_of, RunsLent, RunsStored}

-- ---- the values at the half-edges of a triangle

-- one for each half-edge
pub at-three_of : (f : ℕ → ℕ) (k i : ℕ) → i < 3 → at (three_of f k) i ≡ f (3 * k + i)
at-three_of f k zero b = rw add-zero
at-three_of f k (suc zero) b = refl
at-three_of f k (suc (suc zero)) b = refl
at-three_of f k (suc (suc (suc i))) b = absurd (omega arith)

-- ---- the runs of the first k triangles

-- the run of an earlier marked triangle ends before the place of a later one
place-before : (width : ℕ) (test : ℕ → Bool) (j k : ℕ) → j < k → T (test j)
    → width * count test j + width ≤ width * count test k
place-before width test j k l t =
    omega (arith, mul-le-mul_left width (count-grows test j k l t), mul-suc width (count test j))

-- at first there is none
pub stored-none : {width : ℕ} {run : ℕ → List ℕ} {marks out : List ℕ} → RunsStored width run 0 marks 0 out
unfolding count
stored-none = record { all = refl; entry = λ j i l. absurd (omega arith) }

module _ {width : ℕ} {run : ℕ → List ℕ} {k : ℕ} {marks : List ℕ} {total : ℕ} {out : List ℕ}
    (S : RunsStored width run k marks total out) where
  -- a triangle that is not marked has none
  pub stored-spared : at marks k ≡ 0 → RunsStored width run (k + 1) marks total out
  stored-spared e =
      record {
        all = omega (arith, S.all, count-marked marks k, bit_of-none (at marks k) e);
        entry = λ j i l m b.
            by-eq j k
            (λ same. absurd (entry-marked marks k (rw same at m) e))
            (λ other. S.entry j i (omega arith) m b);
      }

  module _ (ne : at marks k ≢ 0) where
    -- there is room for that of a marked one among the first F triangles
    pub stored-room : {lent : ℕ → Type 0} {F : ℕ} {out₀ : List ℕ} → RunsLent width lent F marks out₀ → k < F
        → length out ≡ length out₀ → width * total + width ≤ length out
    stored-room {F = F} L l e =
        rw S.all (omega (arith, place-before width (marked marks) k F l (marked-entry marks k ne), L.out_room))

    -- which is stored after the others
    pub stored-more : length (run k) ≡ width → width * total + width ≤ length out
        → RunsStored width run (k + 1) marks (total + 1) (sets out (width * total) (run k))
    stored-more long room =
        let room' = rw S.all at room in
        rw S.all
        (record {
          all = omega (arith, count-marked marks k, bit_of-mark (at marks k) ne);
          entry = λ j i l m b.
              by-eq j k
              (λ same. rw same (at-sets (run k) out _ i (omega arith) (omega arith)))
              (λ other.
              let l' : j < k = omega arith in
              at-sets-other (run k) out _ _
              (λ _ _ e. absurd (omega (arith, place-before width (marked marks) j k l' m))) ∙ S.entry j i l' m b);
        })
