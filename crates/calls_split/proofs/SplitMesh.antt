-- The work of split: what `judge`, `number_edges`, `write_fours`, `count_boundary` and `split_counts` are lent, each
-- from what the call is lent and from those before, and what the call comes to.
use native.Mathlib.Omega.{arith}
use Prim.Native.Nat.{ℕ, ◌*◌}
use mathlib.Core.Path.{◌≡◌, ◌∙◌, refl, ap}
use mathlib.Core.List.{List, [], ◌∷◌}
use lib.ListN.{length}
use Rattle.std.specs.Prelude.{Result, Ok, Err, IsErrAnd}
use Rattle.theory.specs.Limits.{most_split_triangles}
use Rattle.theory.specs.Mesh.{triangles}
use Rattle.theory.specs.Splitting.{first_on, boundary_edges, edge_no, split}
use Rattle.theory.specs.Refusals.{Short, Passed, Refused, too_short, size_rules, mesh_rules}
use Rattle.theory.specs.Calls.{written, split_rules, split_size_rules, lent_to_split, Splits}
use Rattle.theory.proofs.Refusals.{Sized, sized, Fits, none-short-fits, not-given, passed-front}
use Rattle.theory.proofs.Refusals.{passed-both, refused-by-front, refused-by-back, passed-proper}
use Rattle.limits.specs.declared.refusal.Refusal.{Refusal}
use Rattle.limits.specs.Numbers.{number_of, place_of}
use Rattle.limits.proofs.Judgement.{judged-ok, judged-err}
use Rattle.answers.specs.declared.counts.Counts.{Counts}
use Rattle.answers.specs.Counts.{accepted_counts, SplitCountsLent, split_counts}
use Rattle.answers.specs.Said.{said}
use Rattle.answers.proofs.Counted.{counts_same, split-counted}
use Rattle.lists.specs.Tables.{Tabulated}
use Rattle.mesh_rings.specs.Ring.{RingBy}
use Rattle.mesh_counts.specs.Counts.{CountLent, CountOf}
use Rattle.mesh_judge.specs.Judging.{JudgeLent, MeshJudged}
use Rattle.split.specs.Numbers.{NumberLent, Numbered}
use Rattle.split.specs.Fours.{FoursLent}
use Rattle.split.proofs.Numbering.{edges_le}
use Rattle.calls_split.specs.Splitting.{SplitLent, SplitsMesh}

-- ---- what is refused

-- what 2 to 10 refuse, with what the `?` returns
refusing-by : {N : ℕ} {T out : List ℕ} {works : List (List ℕ)} (refusal : Refusal) (result : Result Counts Refusal)
    → Refused (split_rules N T (lent_to_split N T out works)) (number_of refusal) (place_of refusal)
    → IsErrAnd result (λ e. e ≡ refusal) → SplitsMesh N T out works (said result) out
refusing-by refusal (Ok counts) refused none = absurd none
refusing-by refusal (Err same) refused e =
    rw e (Splits.refuses (number_of refusal) (place_of refusal) refused refl refl refl)

module _ {verdict : Result Unit Refusal} {N : ℕ} {T out : List ℕ} {works : List (List ℕ)}
    (L : SplitLent verdict N T out works) where
  -- a list that 2 to 5 refuse is refused
  pub refusing-sizes : {refusal : Refusal} (result : Result Counts Refusal) → verdict ≡ Err refusal
      → IsErrAnd result (λ e. e ≡ refusal) → SplitsMesh N T out works (said result) out
  refusing-sizes {refusal} result was =
      refusing-by refusal result
      (refused-by-front (split_size_rules N (length T) (lent_to_split N T out works)) (mesh_rules N T)
      (number_of refusal) (place_of refusal) (judged-err refusal (rw was at L.judged)))

  -- ---- what is not

  module _ (was : verdict ≡ Ok tt) where
    -- 2 to 5 are passed
    passed-sizes : Passed (split_size_rules N (length T) (lent_to_split N T out works))
    passed-sizes = judged-ok (rw was at L.judged) (omega arith)

    -- so the mesh keeps the limits
    sizes : Sized most_split_triangles N (length T)
    sizes =
        sized most_split_triangles N (length T)
        (passed-front (size_rules most_split_triangles N (length T)) (too_short (lent_to_split N T out works) ∷ [])
        passed-sizes)

    -- every buffer is as long as needed
    fits : Fits (lent_to_split N T out works)
    unfolding Passed
    fits =
        none-short-fits (lent_to_split N T out works)
        (not-given (Short (lent_to_split N T out works)) passed-sizes.1.1.1.0)

    -- and the list has a whole number of triangles
    whole : length T ≡ 3 * triangles T
    whole = omega (arith, sizes.threes)

    -- a mesh that is not proper is refused
    pub refusing : {ring : List ℕ} {refusal : Refusal} (result : Result Counts Refusal)
        → MeshJudged N (triangles T) T ring (Err refusal) → IsErrAnd result (λ e. e ≡ refusal)
        → SplitsMesh N T out works (said result) out
    refusing {refusal = refusal} result judged =
        refusing-by refusal result
        (refused-by-back (split_size_rules N (length T) (lent_to_split N T out works)) (mesh_rules N T)
        (number_of refusal) (place_of refusal) passed-sizes (judged-err refusal judged.verdict))

    -- and one that is becomes its splitting
    pub accepting : {ring numbers out' : List ℕ} {edges boundary : ℕ} {counts : Counts}
        → MeshJudged N (triangles T) T ring (Ok tt) → Numbered N (3 * triangles T) ring edges numbers
        → ((N : ℕ) → Tabulated (edge_no N T) (3 * triangles T) numbers → out' ≡ written (split N T) out)
        → CountOf boundary_edges (3 * triangles T) ring boundary
        → counts ≡ split_counts (record { vertices = N; triangles = triangles T; edges = edges; boundary = boundary })
        → SplitsMesh N T out works (accepted_counts counts) out'
    accepting judged M wrote B counted =
        let passed : Passed (mesh_rules N T) = judged-ok judged.verdict (omega arith) in
        Splits.accepts
        (passed-both (split_size_rules N (length T) (lent_to_split N T out works)) (mesh_rules N T) passed-sizes passed)
        (ap accepted_counts (counted ∙ ap split_counts (counts_same refl refl
        (M.total T whole judged.ringed) (B.total T whole judged.ringed))
        ∙ split-counted (passed-proper N T whole passed)))
        (wrote N (M.number T whole judged.ringed))
        refl

    -- `split_counts` has what it requires
    pub splittable : {ring numbers : List ℕ} {edges boundary : ℕ} → RingBy (3 * triangles T) (first_on T) ring
        → Numbered N (3 * triangles T) ring edges numbers → CountOf boundary_edges (3 * triangles T) ring boundary
        → SplitCountsLent (record { vertices = N; triangles = triangles T; edges = edges; boundary = boundary })
    splittable ringed M B = record {
      vertices = omega (arith, sizes.low);
      triangles = omega (arith, sizes.few);
      edges = omega (arith, sizes.few, edges_le T whole ringed M);
      boundary = omega (arith, sizes.few, B.few);
    }

-- ---- what is lent

module _ {verdict : Result Unit Refusal} {N : ℕ} {T out ring work1 work2 work3 work4 : List ℕ}
    (L : SplitLent verdict N T out (ring ∷ work1 ∷ work2 ∷ work3 ∷ work4 ∷ [])) (was : verdict ≡ Ok tt) where
  -- what `judge` requires
  pub judgeable : JudgeLent N (triangles T) T ring work1 work2 work3 work4
  judgeable =
      let rooms = (fits L was).1 in
      record {
        whole = record { whole = whole L was };
        small = omega (arith, (sizes L was).few);
        bound = omega (arith, (sizes L was).low);
        some = (sizes L was).some;
        ring_room = record { room = rooms.0 };
        work1_room = record { room = rooms.1.0 };
        work2_room = record { room = rooms.1.1.0 };
        work3_room = record { room = rooms.1.1.1.0 };
        work4_room = record { room = rooms.1.1.1.1.0 };
      }

  -- and `number_edges`, once the rings are made, since every slice keeps its length
  pub numberable : {ring' work1' : List ℕ} → RingBy (3 * triangles T) (first_on T) ring' → length ring' ≡ length ring
      → length work1' ≡ length work1 → NumberLent N (3 * triangles T) ring' work1'
  numberable ringed a b = record {
    small = omega (arith, (sizes L was).few, (sizes L was).low);
    ring_room = omega (arith, judgeable.ring_room);
    numbers_room = omega (arith, judgeable.work1_room);
    list = T;
    whole = whole L was;
    ringed = ringed;
  }

  -- and `write_fours`
  pub writable : {work1' : List ℕ} → length work1' ≡ length work1 → FoursLent (triangles T) T work1' out
  writable e = record { whole = whole L was; numbered = omega (arith, judgeable.work1_room); room = (fits L was).0 }

  -- and `count_boundary`
  pub countable : {ring' : List ℕ} → length ring' ≡ length ring → CountLent (3 * triangles T) ring'
  countable e = record { small = omega (arith, judgeable.small); room = omega (arith, judgeable.ring_room) }
