-- Whether a row of undo one or of undo several holds, as tests that compute.
use Prim.Native.Nat.{ℕ}
use mathlib.Core.Path.{refl, sym, ap, subst, subst₂}
use mathlib.Core.Logic.{◌⊎◌, inl, inr}
use mathlib.Core.Bool.{Bool, cond, ◌&&◌, ◌||◌}
use mathlib.Core.List.{List, [], ◌∷◌, ◌++◌, map}
use lib.Dec.{T as So, eqb, eqb→eq}
use lib.ListN.{length}
use Rattle.theory.specs.Limits.{most_triangles, any_role, most_levels}
use Rattle.theory.specs.Mesh.{Proper}
use Rattle.theory.specs.Counting.{count, first_from}
use Rattle.theory.specs.Splitting.{same_edge, first_on, is_first, edges, appearances, is_boundary, boundary_edges}
use Rattle.theory.specs.Reading.{Reading}
use Rattle.theory.specs.Refusals.{Room, Rule, Short, too_short, mesh_rules, reading_rules, Passed, Refused}
use Rattle.theory.specs.Calls.{Answer, OneAnswer, SeveralAnswer, Outputs, accepted_mesh, one_refusal, several_refusal}
use Rattle.theory.specs.Calls.{accepted_levels, written, zeros, undo_number_rules}
use Rattle.theory.specs.Calls.{lent_to_undo_one, undo_one_rules, UndoesOne, lent_to_undo_several, UndoesSeveral}
use Rattle.theory.specs.Demands.{Enough, found_roles}
use Rattle.theory.proofs.Tests.{and_sound, and₃-sound, or_sound}
use Rattle.theory.proofs.Decide.{same_test, rotated_test}
use Rattle.theory.proofs.Lawful.{same-lawful}
use Rattle.theory.proofs.Rotation.{rotated-lawful}
use Rattle.theory.proofs.Determined.{judged}
use Rattle.theory.proofs.OldRule.{inside-out-at, chosen-passes, none-refuses, inside-out-refuses}
use Rattle.theory.proofs.ReadingTests.{same-decided, rotated-decided, returned_test, returned_test-sound}
use Rattle.theory.proofs.Undoing.{undoing, reading_in_test, reading_in_test-sound}
use Rattle.theory_table.specs.Table.{undoes_one, undoes_several, written_outputs, nothing_written, Satisfied}
use Rattle.theory_table.proofs.Equal.{equal_lists, equal_lists-sound, equal_answers, equal_answers-sound}
use Rattle.theory_table.proofs.Equal.{equal_ones, equal_ones-sound, equal_severals, equal_severals-sound}
use Rattle.theory_table.proofs.Equal.{equal_outputs, equal_outputs-sound}
use Rattle.theory_table.proofs.RefusalTests.{Check, DecideAll, more, asked_check, asked-decides}
use Rattle.theory_table.proofs.RefusalTests.{mesh_checks, mesh-decides, disagrees_check, disagrees-decides}
use Rattle.theory_table.proofs.RefusalTests.{first_test, first_test-sound, passed_test, passed_test-sound}
use Rattle.theory_table.proofs.RefusalTests.{passed_test-refused, refused_test, refused_test-sound}
use Rattle.theory_table.proofs.ChoiceTests.{chosen_test, chosen_test-sound, none_chosen_test, none_chosen_test-sound}
use Rattle.theory_table.proofs.ChoiceTests.{several_test, several_test-sound}

-- ---- the refusals

-- 1 to 10, where room enough is lent
unfoldable pub undo_checks : ℕ → ℕ → List ℕ → ℕ → List Check
unfolding asked_check mesh_checks
undo_checks most N T asked = asked_check most asked ∷ mesh_checks most_triangles N T

-- the rows that they decide
abbrev undo_rules : ℕ → ℕ → List ℕ → ℕ → List Room → List Rule
undo_rules most N T asked rooms =
    undo_number_rules most N (length T) asked ++ (too_short rooms ∷ mesh_rules N T)

undo-decides : (most N : ℕ) (T : List ℕ) (asked : ℕ) (rooms : List Room) → Enough rooms
    → DecideAll (undo_checks most N T asked) (undo_rules most N T asked rooms)
unfolding undo_checks
undo-decides most N T asked rooms enough =
    more (asked-decides most asked) (mesh-decides most_triangles N T rooms enough)

-- where none of them is given, the mesh is proper
undo-proper : (most N : ℕ) (T : List ℕ) (asked : ℕ) → So (passed_test (undo_checks most N T asked)) → Proper N T
unfolding Passed Short
undo-proper most N T asked t =
    let passed : Passed (undo_rules most N T asked []) =
    passed_test-sound [] (undo-decides most N T asked [] (λ short. short)) t tt in
    judged N T passed.1.0 passed.1.1.1.1.1

-- ---- undo one

-- whether no role is chosen by the old rule: 11
unfoldable pub eleven_test : ℕ → List ℕ → ℕ → ℕ → ℕ → Bool
unfolding none_chosen_test same_test
eleven_test N T asked number place = none_chosen_test same_test N T asked && (eqb number 11 && eqb place 0)

-- the role asked for, or if 4 is asked the first that has a reading by the old rule
unfoldable pub role_by_old : ℕ → List ℕ → ℕ → ℕ
unfolding reading_in_test same_test first_from
role_by_old N T asked = cond (eqb asked any_role) (first_from (reading_in_test same_test N T) 0 4) asked

-- whether this role is chosen by the old rule and none by the rule, and its returned reading disagrees at the place and
-- nowhere before: 15
unfoldable pub fifteen_test : ℕ → List ℕ → ℕ → ℕ → ℕ → Bool
unfolding role_by_old none_chosen_test rotated_test chosen_test reading_in_test undoing first_test disagrees_check
fifteen_test N T asked number place =
    let role : ℕ = role_by_old N T asked in
    (none_chosen_test rotated_test N T asked && chosen_test same_test N T asked role)
    && (reading_in_test same_test N T role && first_test (disagrees_check T (undoing N T role)) number place)

-- whether one of the two is given, and none of 1 to 10
unfoldable pub readings_test : ℕ → List ℕ → ℕ → ℕ → ℕ → Bool
unfolding undo_checks passed_test eleven_test fifteen_test
readings_test N T asked number place =
    passed_test (undo_checks any_role N T asked)
    && (eleven_test N T asked number place || fifteen_test N T asked number place)

-- what undo one shows, as a reading
abbrev shown : OneAnswer → Outputs → Reading
shown answer new = record {
  vertices = answer.common.vertices;
  mesh = new.mesh;
  vertex_map = new.vertex_map;
  triangle_map = new.triangle_map;
}

-- whether the row is accepted: the reading is the returned one in the role that is chosen
unfoldable pub accepted_one_test : ℕ → List ℕ → ℕ → OneAnswer → Outputs → Bool
unfolding undo_checks passed_test returned_test rotated_test chosen_test equal_answers
    edges boundary_edges is_boundary appearances is_first first_on same_edge count first_from
accepted_one_test N T asked answer new =
    (passed_test (undo_checks any_role N T asked)
    && equal_answers answer.common (accepted_mesh answer.common.vertices new.mesh))
    && (returned_test rotated_test N T answer.role (shown answer new)
    && chosen_test rotated_test N T asked answer.role)

-- whether the row is refused with the number and the place of its answer
unfoldable pub refused_one_test : ℕ → List ℕ → ℕ → OneAnswer → Outputs → Bool
unfolding undo_checks refused_test readings_test equal_ones equal_outputs
refused_one_test N T asked answer new =
    (refused_test (undo_checks any_role N T asked) answer.common.refusal answer.common.place
    || readings_test N T asked answer.common.refusal answer.common.place)
    && (equal_ones answer (one_refusal answer.common.refusal answer.common.place)
    && equal_outputs new nothing_written)

-- one of the two
unfoldable pub one_test : ℕ → List ℕ → ℕ → OneAnswer → Outputs → Bool
unfolding refused_one_test accepted_one_test
one_test N T asked answer new = refused_one_test N T asked answer new || accepted_one_test N T asked answer new

-- then 11 is given, if the mesh is proper
eleven_test-sound : {N : ℕ} {T : List ℕ} (asked number place : ℕ) → Proper N T
    → So (eleven_test N T asked number place) → Refused (reading_rules N T asked) number place
unfolding eleven_test
eleven_test-sound {N} {T} asked number place P t =
    let all = and₃-sound (none_chosen_test same_test N T asked) (eqb number 11) (eqb place 0) t in
    subst₂ (Refused (reading_rules N T asked)) (sym (eqb→eq number 11 all.1)) (sym (eqb→eq place 0 all.2))
    (none-refuses (none_chosen_test-sound same-decided same-lawful P asked all.0))

-- and 15 likewise
fifteen_test-sound : {N : ℕ} {T : List ℕ} (asked number place : ℕ) → Proper N T
    → So (fifteen_test N T asked number place) → Refused (reading_rules N T asked) number place
unfolding fifteen_test
fifteen_test-sound {N} {T} asked number place P t =
    let role : ℕ = role_by_old N T asked in
    let halves = and_sound (none_chosen_test rotated_test N T asked && chosen_test same_test N T asked role) _ t in
    let front = and_sound (none_chosen_test rotated_test N T asked) (chosen_test same_test N T asked role) halves.0 in
    let back = and_sound (reading_in_test same_test N T role) _ halves.1 in
    let R = reading_in_test-sound same-decided N T role back.0 in
    let first = first_test-sound (disagrees-decides T (undoing N T role)) back.1 in
    subst (λ n. Refused (reading_rules N T asked) n place) (sym first.0)
    (inside-out-refuses (inside-out-at P (none_chosen_test-sound rotated-decided rotated-lawful P asked front.0)
    (chosen_test-sound same-decided same-lawful P asked front.1 R) R first.1))

-- so the rows refuse
readings_test-sound : (N : ℕ) (T : List ℕ) (asked number place : ℕ) (rooms : List Room) → Enough rooms
    → So (readings_test N T asked number place) → Refused (undo_one_rules N T asked rooms) number place
unfolding readings_test
readings_test-sound N T asked number place rooms enough t =
    let both = and_sound (passed_test (undo_checks any_role N T asked)) _ t in
    passed_test-refused (reading_rules N T asked) number place (undo-decides any_role N T asked rooms enough) both.0
    (given (undo-proper any_role N T asked both.0) (or_sound (eleven_test N T asked number place) _ both.1))
  where
    given : Proper N T → So (eleven_test N T asked number place) ⊎ So (fifteen_test N T asked number place)
        → Refused (reading_rules N T asked) number place
    given P (inl s) = eleven_test-sound asked number place P s
    given P (inr s) = fifteen_test-sound asked number place P s

-- where the row is accepted, its result satisfies the promise
accepted_one_test-sound : (N : ℕ) (T : List ℕ) (asked : ℕ) (answer : OneAnswer) (new out : Outputs)
    (works : List (List ℕ)) → Enough (lent_to_undo_one N T out works) → So (accepted_one_test N T asked answer new)
    → UndoesOne N T asked out works answer (written_outputs new out) (map zeros works)
unfolding accepted_one_test
accepted_one_test-sound N T asked answer new out works enough t =
    let halves = and_sound (passed_test (undo_checks any_role N T asked) && equal_answers answer.common _) _ t in
    let front = and_sound (passed_test (undo_checks any_role N T asked)) (equal_answers answer.common _) halves.0 in
    let back = and_sound (returned_test rotated_test N T answer.role (shown answer new))
    (chosen_test rotated_test N T asked answer.role) halves.1 in
    let R = returned_test-sound rotated-decided N T answer.role (shown answer new) back.0 in
    let proper = undo-proper any_role N T asked front.0 in
    let chosen = chosen_test-sound rotated-decided rotated-lawful proper asked back.1 R in
    UndoesOne.accepts answer.role (shown answer new)
    (passed_test-sound (reading_rules N T asked)
    (undo-decides any_role N T asked (lent_to_undo_one N T out works) enough) front.0 (chosen-passes chosen))
    chosen R
    (ap (λ (a : Answer). record { common = a; role = answer.role }) (equal_answers-sound answer.common _ front.1))
    refl refl

-- and where it is refused
refused_one_test-sound : (N : ℕ) (T : List ℕ) (asked : ℕ) (answer : OneAnswer) (new out : Outputs)
    (works : List (List ℕ)) → Enough (lent_to_undo_one N T out works) → So (refused_one_test N T asked answer new)
    → UndoesOne N T asked out works answer (written_outputs new out) (map zeros works)
unfolding refused_one_test
refused_one_test-sound N T asked answer new out works enough t =
    let all = and₃-sound (refused_test checks number place || readings_test N T asked number place)
    (equal_ones answer (one_refusal number place)) (equal_outputs new nothing_written) t in
    UndoesOne.refuses number place (refuses (or_sound (refused_test checks number place) _ all.0))
    (equal_ones-sound answer (one_refusal number place) all.1)
    (ap (λ new. written_outputs new out) (equal_outputs-sound new nothing_written all.2)) refl
  where
    number : ℕ
    number = answer.common.refusal

    place : ℕ
    place = answer.common.place

    checks : List Check
    checks = undo_checks any_role N T asked

    refuses : So (refused_test checks number place) ⊎ So (readings_test N T asked number place)
        → Refused (undo_one_rules N T asked (lent_to_undo_one N T out works)) number place
    refuses (inl s) = refused_test-sound (reading_rules N T asked) number place
        (undo-decides any_role N T asked (lent_to_undo_one N T out works) enough) s
    refuses (inr s) = readings_test-sound N T asked number place (lent_to_undo_one N T out works) enough s

-- so the row is satisfied
pub one_test-sound : (N : ℕ) (T : List ℕ) (asked : ℕ) (answer : OneAnswer) (new : Outputs)
    → So (one_test N T asked answer new) → Satisfied (undoes_one N T asked answer new)
unfolding one_test Satisfied
one_test-sound N T asked answer new t out works enough = go (or_sound (refused_one_test N T asked answer new) _ t)
  where
    go : So (refused_one_test N T asked answer new) ⊎ So (accepted_one_test N T asked answer new)
        → UndoesOne N T asked out works answer (written_outputs new out) (map zeros works)
    go (inl s) = refused_one_test-sound N T asked answer new out works enough s
    go (inr s) = accepted_one_test-sound N T asked answer new out works enough s

-- ---- undo several

-- whether the row is refused with the number and the place of its answer
unfoldable pub refused_several_test : ℕ → List ℕ → ℕ → SeveralAnswer → List ℕ → Bool
unfolding undo_checks refused_test equal_severals
refused_several_test N T asked answer new =
    refused_test (undo_checks most_levels N T asked) answer.common.refusal answer.common.place
    && (equal_severals answer (several_refusal answer.common.refusal answer.common.place) && equal_lists new [])

-- the answer that says of the levels of these roles that they left (M, C)
abbrev levels_of : List ℕ → ℕ → List ℕ → SeveralAnswer
levels_of roles M C = accepted_levels (length roles) roles M C

-- whether it is accepted: what is written is left by the levels of its roles
unfoldable pub accepted_several_test : ℕ → List ℕ → ℕ → SeveralAnswer → List ℕ → Bool
unfolding undo_checks passed_test several_test equal_severals
    edges boundary_edges is_boundary appearances is_first first_on same_edge count first_from
accepted_several_test N T asked answer new =
    passed_test (undo_checks most_levels N T asked)
    && (equal_severals answer (levels_of (found_roles answer) answer.common.vertices new)
    && several_test asked N T (found_roles answer) answer.common.vertices new)

-- one of the two
unfoldable pub undo_several_test : ℕ → List ℕ → ℕ → SeveralAnswer → List ℕ → Bool
unfolding refused_several_test accepted_several_test
undo_several_test N T asked answer new =
    refused_several_test N T asked answer new || accepted_several_test N T asked answer new

-- so the row is satisfied
pub undo_several_test-sound : (N : ℕ) (T : List ℕ) (asked : ℕ) (answer : SeveralAnswer) (new : List ℕ)
    → So (undo_several_test N T asked answer new) → Satisfied (undoes_several N T asked answer new)
unfolding undo_several_test refused_several_test accepted_several_test Satisfied Passed
undo_several_test-sound N T asked answer new t out works enough =
    go (or_sound (refused_several_test N T asked answer new) (accepted_several_test N T asked answer new) t)
  where
    number : ℕ
    number = answer.common.refusal

    place : ℕ
    place = answer.common.place

    M : ℕ
    M = answer.common.vertices

    roles : List ℕ
    roles = found_roles answer

    checks : List Check
    checks = undo_checks most_levels N T asked

    decided : DecideAll checks (undo_rules most_levels N T asked (lent_to_undo_several N T out works))
    decided = undo-decides most_levels N T asked (lent_to_undo_several N T out works) enough

    go : So (refused_several_test N T asked answer new) ⊎ So (accepted_several_test N T asked answer new)
        → UndoesSeveral N T asked out works answer (written new out) (map zeros works)
    go (inl s) =
        let all = and₃-sound (refused_test checks number place) (equal_severals answer (several_refusal number place))
        (equal_lists new []) s in
        UndoesSeveral.refuses number place (refused_test-sound [] number place decided all.0)
        (equal_severals-sound answer (several_refusal number place) all.1)
        (ap (λ new. written new out) (equal_lists-sound new [] all.2)) refl
    go (inr s) =
        let all = and₃-sound (passed_test checks) (equal_severals answer (levels_of roles M new))
        (several_test asked N T roles M new) s in
        let proper = undo-proper most_levels N T asked all.0 in
        UndoesSeveral.accepts (length roles) M roles new (passed_test-sound [] decided all.0 tt)
        (several_test-sound asked N T roles M new proper all.2)
        (equal_severals-sound answer (levels_of roles M new) all.1) refl refl
