-- Whether a row of split holds, as a test that computes.
use Prim.Native.Nat.{ℕ, ◌+◌}
use mathlib.Core.Path.{refl, ap}
use mathlib.Core.Logic.{◌⊎◌, inl, inr}
use mathlib.Core.Bool.{Bool, ◌&&◌, ◌||◌}
use mathlib.Core.List.{List, [], map}
use lib.Dec.{T as So}
use Rattle.theory.specs.Limits.{most_split_triangles}
use Rattle.theory.specs.Counting.{count, first_from}
use Rattle.theory.specs.Splitting.{same_edge, first_on, is_first, edges, appearances, is_boundary, boundary_edges}
use Rattle.theory.specs.Splitting.{edge_no, four, fours, split}
use Rattle.theory.specs.Refusals.{Passed}
use Rattle.theory.specs.Calls.{Answer, refusal, accepted_mesh, written, zeros, lent_to_split, split_rules, Splits}
use Rattle.theory.proofs.Tests.{and₃-sound, or_sound}
use Rattle.theory_table.specs.Table.{splits, Satisfied}
use Rattle.theory_table.proofs.Equal.{equal_lists, equal_lists-sound, equal_answers, equal_answers-sound}
use Rattle.theory_table.proofs.RefusalTests.{Check, DecideAll, mesh_checks, mesh-decides}
use Rattle.theory_table.proofs.RefusalTests.{passed_test, passed_test-sound, refused_test, refused_test-sound}

-- refused with the number and the place of the answer, or accepted with the splitting
unfoldable pub split_test : ℕ → List ℕ → Answer → List ℕ → Bool
unfolding mesh_checks passed_test refused_test equal_answers equal_lists
    split fours four edge_no edges boundary_edges is_boundary appearances is_first first_on same_edge count first_from
split_test N T answer new =
    (refused_test (mesh_checks most_split_triangles N T) answer.refusal answer.place
    && (equal_answers answer (refusal answer.refusal answer.place) && equal_lists new []))
    || (passed_test (mesh_checks most_split_triangles N T)
    && (equal_answers answer (accepted_mesh (N + edges T) (split N T)) && equal_lists new (split N T)))

-- then the row's result satisfies the promise
pub split_test-sound : (N : ℕ) (T : List ℕ) (answer : Answer) (new : List ℕ) → So (split_test N T answer new)
    → Satisfied (splits N T answer new)
unfolding split_test Satisfied Passed
split_test-sound N T answer new t out works enough =
    go (or_sound (refused_test checks number place
    && (equal_answers answer (refusal number place) && equal_lists new [])) _ t)
  where
    number : ℕ
    number = answer.refusal

    place : ℕ
    place = answer.place

    checks : List Check
    checks = mesh_checks most_split_triangles N T

    decided : DecideAll checks (split_rules N T (lent_to_split N T out works))
    decided = mesh-decides most_split_triangles N T (lent_to_split N T out works) enough

    go : So (refused_test checks number place && (equal_answers answer (refusal number place) && equal_lists new []))
        ⊎ So (passed_test checks && (equal_answers answer (accepted_mesh (N + edges T) (split N T))
        && equal_lists new (split N T))) → Splits N T out works answer (written new out) (map zeros works)
    go (inl s) =
        let all = and₃-sound (refused_test checks number place) (equal_answers answer (refusal number place))
        (equal_lists new []) s in
        Splits.refuses number place (refused_test-sound [] number place decided all.0)
        (equal_answers-sound answer (refusal number place) all.1)
        (ap (λ new. written new out) (equal_lists-sound new [] all.2)) refl
    go (inr s) =
        let all = and₃-sound (passed_test checks) (equal_answers answer (accepted_mesh (N + edges T) (split N T)))
        (equal_lists new (split N T)) s in
        Splits.accepts (passed_test-sound [] decided all.0 tt)
        (equal_answers-sound answer (accepted_mesh (N + edges T) (split N T)) all.1)
        (ap (λ new. written new out) (equal_lists-sound new (split N T) all.2)) refl
