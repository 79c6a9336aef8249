-- What the promises of split and the two undos say of a proper mesh within the limits, with room enough: which rows it
-- passes, what is answered, and what a caller then finds in the buffers. `Demands` and `SeveralDemands` rest on these.
use Prim.Native.Nat.{ℕ, suc, ◌+◌, ◌*◌, ◌^◌, ◌≤◌, ◌<◌}
use native.Mathlib.Nat.{one-mul, mul_assoc, pow-zero, pow-succ'}
use native.Mathlib.Omega.{arith}
use native.Mathlib.Decide.{ℕ_discrete}
use mathlib.Core.Path.{◌≡◌, refl, sym, ap, ap₂, ◌∙◌, subst, subst₂}
use mathlib.Core.Logic.{inl, inr}
use mathlib.Core.List.{List, ◌∷◌, ◌++◌, map}
use lib.ListN.{length, take, drop, replicate}
use lib.Seq.{take_at, take-take}
use Rattle.theory.specs.Limits.{most_triangles, most_split_triangles, any_role, most_levels}
use Rattle.theory.specs.Mesh.{triangles, Same, Rotated, Proper}
use Rattle.theory.specs.Splitting.{edges, boundary_edges, split}
use Rattle.theory.specs.Reading.{Agreement, Matched, Reading, IsReading, ReadingIn, Returned}
use Rattle.theory.specs.Choice.{LeastRole, NoRole, Chosen, NoneChosen}
use Rattle.theory.specs.Choice.{Several, reached, stopped, undone, seven_places}
use Rattle.theory.specs.Refusals.{Rule, Room, Short, asked_too_much, too_short, size_rules, mesh_rules, InsideOut}
use Rattle.theory.specs.Refusals.{reading_rules, LeastPlace, Passed, Refused}
use Rattle.theory.specs.Calls.{Answer, OneAnswer, SeveralAnswer, Outputs, accepted_mesh, one_refusal}
use Rattle.theory.specs.Calls.{accepted_levels, written, zeros, lent_to_split, Splits}
use Rattle.theory.specs.Calls.{undo_one_rules, lent_to_undo_one, written_reading, accepted_reading, UndoesOne}
use Rattle.theory.specs.Calls.{undo_several_rules, lent_to_undo_several, UndoesSeveral}
use Rattle.theory.specs.Demands.{Enough, Within, found_mesh, found_reading, found_roles, SplitsBack, Exactly}
use Rattle.theory.proofs.Finite.{match-size}
use Rattle.theory.proofs.Refusals.{refused-above, passed-front, passed-back, passed-both}
use Rattle.theory.proofs.Refusals.{refused-by-back, back-refuses, not-given, asked-known, sized, sized-passed}
use Rattle.theory.proofs.Refusals.{passed-proper, proper-passed}
use Rattle.theory.proofs.Splitting.{split-length}
use Rattle.theory.proofs.Agreement.{reading-same, reading_in-same}
use Rattle.theory.proofs.Rotation.{rotated-implies, rotated-lawful}
use Rattle.theory.proofs.EdgeCounts.{reading-boundary}
use Rattle.theory.proofs.Canonical.{returned-exists}
use Rattle.theory.proofs.Determined.{quarter}
use Rattle.theory.proofs.OldRule.{chosen-reading, inside-out, none_old, chosen-passes, inside-out-refuses}
use Rattle.theory.proofs.OldRule.{none-refuses}

-- ---- proper within the limits, with room enough: 2 to 10 are not given

-- the rows 2 to 10, which split and the two undos have in common
abbrev common : ℕ → ℕ → List ℕ → List Room → List Rule
common most N T rooms = size_rules most N (length T) ++ (too_short rooms ∷ mesh_rules N T)

-- a proper mesh within the limits is refused by none of them
pub within-passed : (most N : ℕ) (T : List ℕ) (rooms : List Room) → Within most N T → Enough rooms
    → Passed (common most N T rooms)
unfolding Passed
within-passed most N T rooms W enough =
    passed-both (size_rules most N (length T)) (too_short rooms ∷ mesh_rules N T)
    (sized-passed most N (length T) (record {
      threes = omega (arith, W.proper.otherwise.whole);
      some = W.some;
      few = W.few_triangles;
      low = W.few_vertices;
    }))
    ((λ place g. enough g.0), proper-passed N T W.proper)

-- and where none of them is given, the mesh is proper and within the limits, and the room is enough
pub passed-within : (most N : ℕ) (T : List ℕ) (rooms : List Room) → Passed (common most N T rooms)
    → Within most N T × Enough rooms
unfolding Passed
passed-within most N T rooms passed =
    let front : List Rule = size_rules most N (length T) in
    let back : List Rule = too_short rooms ∷ mesh_rules N T in
    let sizes = sized most N (length T) (passed-front front back passed) in
    let others = passed-back front back passed in (
      record {
        proper = passed-proper N T (omega (arith, sizes.threes)) others.1;
        some = sizes.some;
        few_triangles = sizes.few;
        few_vertices = sizes.low;
      },
      not-given (Short rooms) others.0,
    )

-- the mesh of a reading is within split's limits, being a quarter of one within undo's
pub reading-within : {agree : Agreement} {N : ℕ} {T : List ℕ} {r : Reading} → Within most_triangles N T
    → IsReading agree N T r → Within most_split_triangles r.vertices r.mesh
reading-within W R = record {
  proper = R.proper;
  some = omega (arith, quarter R, W.some);
  few_triangles = omega (arith, quarter R, W.few_triangles);
  few_vertices = omega (arith, match-size R.matched.vertices, W.few_vertices);
}

-- what is within split's limits is within undo's
pub smaller-within : {N : ℕ} {T : List ℕ} → Within most_split_triangles N T → Within most_triangles N T
smaller-within W = record {
  proper = W.proper;
  some = W.some;
  few_triangles = omega (arith, W.few_triangles);
  few_vertices = W.few_vertices;
}

-- ---- what is found in a buffer

-- what was written stands in the first entries
pub take-written : (new old : List ℕ) {n : ℕ} → length new ≡ n → take n (written new old) ≡ new
take-written new old {n} e = take_at new (drop (length new) old) n e

-- ---- what split answers

-- a proper mesh within split's limits is accepted, with room enough
pub split-accepts : {N : ℕ} {T out : List ℕ} {works : List (List ℕ)} → Within most_split_triangles N T
    → Enough (lent_to_split N T out works)
    → Splits N T out works (accepted_mesh (N + edges T) (split N T)) (written (split N T) out) (map zeros works)
split-accepts {N} {T} W enough = Splits.accepts (within-passed most_split_triangles N T _ W enough) refl refl refl

-- its splitting is found in the output buffer
found-split : (N : ℕ) (T out : List ℕ) {out' : List ℕ} {answer : Answer}
    → answer ≡ accepted_mesh (N + edges T) (split N T) → out' ≡ written (split N T) out
    → found_mesh answer out' ≡ split N T
found-split N T out e f =
    let long : length (split N T) ≡ 3 * triangles (split N T) = omega (arith, split-length N T) in
    ap₂ found_mesh e f ∙ take-written (split N T) out long

-- for the mesh of a reading, that is the input under the maps
pub reading-splits : {N : ℕ} {T : List ℕ} {r : Reading} {out out' : List ℕ} {works works' : List (List ℕ)}
    {answer : Answer} → IsReading Rotated N T r
    → (answer ≡ accepted_mesh (r.vertices + edges r.mesh) (split r.vertices r.mesh))
    × (out' ≡ written (split r.vertices r.mesh) out) × (works' ≡ map zeros works)
    → SplitsBack N T r out works answer out' works'
reading-splits {N} {T} {r} {out} R (e, f, g) = record {
  answers = e;
  writes = f;
  clears = g;
  same_vertices = ap (λ (a : Answer). a.vertices) e ∙ sym (match-size R.matched.vertices);
  same_triangles = ap (λ (a : Answer). a.triangles) e ∙ sym (match-size R.matched.faces);
  input = subst₂ (λ (M : ℕ) (S : List ℕ). Matched Rotated r.vertex_map r.triangle_map N T M S)
      (ap (λ (a : Answer). a.vertices) (sym e)) (sym (found-split r.vertices r.mesh out e f)) R.matched;
}

-- What an acceptance by split says, of the splitting as a caller finds it: the mesh is proper and within its limits.
pub record SplitAccepted (N : ℕ) (T : List ℕ) (answer : Answer) (out' : List ℕ) : Type 0 where
  pub within : Within most_split_triangles N T
  pub vertices : answer.vertices ≡ N + edges T
  pub found : found_mesh answer out' ≡ split N T
  pub counted : answer ≡ accepted_mesh answer.vertices (found_mesh answer out')

-- where split refuses nothing, it is such an acceptance
pub split-accepted : {N : ℕ} {T out out' : List ℕ} {works works' : List (List ℕ)} {answer : Answer}
    → Splits N T out works answer out' works' → answer.refusal ≡ 0 → SplitAccepted N T answer out'
split-accepted (Splits.refuses n p R e _ _) none =
    absurd (omega (arith, refused-above _ n p R (omega arith), ap (λ (a : Answer). a.refusal) e, none))
split-accepted {N} {T} {out} {answer = answer} (Splits.accepts passed e f _) none = record {
  within = (passed-within most_split_triangles N T _ passed).0;
  vertices = grown;
  found = found-split N T out e f;
  counted = e ∙ ap₂ accepted_mesh (sym grown) (sym (found-split N T out e f));
}
  where
    grown : answer.vertices ≡ N + edges T
    grown = ap (λ (a : Answer). a.vertices) e

-- ---- which role is chosen

-- a role is chosen for the numbers 0 to 4
chosen-asked : {agree : Agreement} {N : ℕ} {T : List ℕ} {asked role : ℕ} → Chosen agree N T asked role → asked ≤ any_role
chosen-asked (Chosen.named l _) = omega arith
chosen-asked (Chosen.least _) = omega arith

-- and so is none
none-asked : {agree : Agreement} {N : ℕ} {T : List ℕ} {asked : ℕ} → NoneChosen agree N T asked → asked ≤ any_role
none-asked (NoneChosen.named l _) = omega arith
none-asked (NoneChosen.least _) = omega arith

-- asked 0 to 3, the role chosen is the one asked
pub chosen-named : {agree : Agreement} {N : ℕ} {T : List ℕ} {asked role : ℕ} → asked ≤ 3 → Chosen agree N T asked role
    → (role ≡ asked) × ReadingIn agree N T asked
chosen-named l (Chosen.named _ R) = (refl, R)
chosen-named l (Chosen.least _) = absurd (omega arith)

-- and none is chosen where it has no reading
pub none_named : {agree : Agreement} {N : ℕ} {T : List ℕ} {asked : ℕ} → asked ≤ 3 → NoneChosen agree N T asked
    → ReadingIn agree N T asked → ⊥
none_named l (NoneChosen.named _ none) = none
none_named l (NoneChosen.least _) = absurd (omega arith)

-- asked 4, the role chosen is the least one
pub chosen-least : {agree : Agreement} {N : ℕ} {T : List ℕ} {role : ℕ} → Chosen agree N T any_role role
    → LeastRole agree N T role
chosen-least (Chosen.named l _) = absurd (omega arith)
chosen-least (Chosen.least L) = L

-- and none is chosen where no role has a reading
pub none-least : {agree : Agreement} {N : ℕ} {T : List ℕ} → NoneChosen agree N T any_role → NoRole agree N T
none-least (NoneChosen.named l _) = absurd (omega arith)
none-least (NoneChosen.least none) = none

-- where no role has a reading, none is chosen, whatever may be asked
pub none-chosen : {agree : Agreement} {N : ℕ} {T : List ℕ} {asked : ℕ} → asked ≤ any_role → NoRole agree N T
    → NoneChosen agree N T asked
none-chosen {asked = asked} known none = elim (ℕ_discrete asked any_role) [
  | yes e ↦ rw e (NoneChosen.least none)
  | no other ↦ NoneChosen.named {role = asked} (omega (arith, other)) (none.none asked)
]

-- ---- what undo one answers

-- the rows of undo one but those of its readings, 15 and 11
abbrev mesh-rows : ℕ → List ℕ → ℕ → List Room → List Rule
mesh-rows N T asked rooms = asked_too_much any_role asked ∷ common most_triangles N T rooms

-- a proper mesh within its limits passes them
mesh-rows-passed : (N : ℕ) (T : List ℕ) (asked : ℕ) (rooms : List Room) → Within most_triangles N T → Enough rooms
    → asked ≤ any_role → Passed (mesh-rows N T asked rooms)
unfolding Passed
mesh-rows-passed N T asked rooms W enough l =
    (λ place g. omega (arith, g.0), within-passed most_triangles N T rooms W enough)

-- Refused for its readings, it is refused with 15 at a triangle, or with 11 where it has no reading by the old rule.
pub data ReadingRefused (N : ℕ) (T : List ℕ) (asked n p : ℕ) : Type 0 where
  fifteen : n ≡ 15 → InsideOut N T asked p → ReadingRefused N T asked n p
  eleven : n ≡ 11 → NoneChosen Same N T asked → ReadingRefused N T asked n p

-- so it is refused with one of the two or not at all
one-refused : (N : ℕ) (T : List ℕ) (asked : ℕ) (rooms : List Room) (n p : ℕ) → Within most_triangles N T → Enough rooms
    → asked ≤ any_role → Refused (undo_one_rules N T asked rooms) n p → ReadingRefused N T asked n p
unfolding Refused
one-refused N T asked rooms n p W enough l refused =
    go (back-refuses (mesh-rows N T asked rooms) (reading_rules N T asked) n p
    (mesh-rows-passed N T asked rooms W enough l) refused)
  where
    go : Refused (reading_rules N T asked) n p → ReadingRefused N T asked n p
    go (inl r) = fifteen r.0 r.1.here
    go (inr (never, inl r)) = eleven r.0 (none_old W.proper r.1.here.0 never)
    go (inr (never, inr r)) = absurd r.1

-- where undo one refuses nothing, the mesh is proper and within its limits
one-within : (N : ℕ) (T : List ℕ) (asked : ℕ) (rooms : List Room) → Passed (undo_one_rules N T asked rooms)
    → Within most_triangles N T
unfolding Passed
one-within N T asked rooms passed =
    (passed-within most_triangles N T rooms
    (passed-front (common most_triangles N T rooms) (reading_rules N T asked) passed.1)).0

-- a proper mesh within its limits is accepted with the chosen role and the returned reading, with room enough
pub one-accepts : {N : ℕ} {T : List ℕ} {asked role : ℕ} {r : Reading} {out : Outputs} {works : List (List ℕ)}
    → Within most_triangles N T → Enough (lent_to_undo_one N T out works) → Chosen Rotated N T asked role
    → Returned Rotated N T role r
    → UndoesOne N T asked out works (accepted_reading role r) (written_reading r out) (map zeros works)
unfolding Passed
one-accepts {N} {T} {asked} {role} {r} {out} {works} W enough c R =
    UndoesOne.accepts role r (passed-both (mesh-rows N T asked rooms) (reading_rules N T asked)
    (mesh-rows-passed N T asked rooms W enough (chosen-asked c)) (chosen-passes c)) c R refl refl refl
  where
    rooms : List Room
    rooms = lent_to_undo_one N T out works

-- so where a role is chosen, there is an acceptance
pub chosen-accepted : {N : ℕ} {T : List ℕ} {asked role : ℕ} {out : Outputs} {works : List (List ℕ)}
    → Within most_triangles N T → Enough (lent_to_undo_one N T out works) → Chosen Rotated N T asked role
    → (r : Reading) × UndoesOne N T asked out works (accepted_reading role r) (written_reading r out) (map zeros works)
chosen-accepted {N} {T} {asked} {role} {out} {works} W enough c =
    go (returned-exists N T W.proper rotated-lawful role (chosen-reading c))
  where
    go : (r : Reading) × Returned Rotated N T role r → (r : Reading)
        × UndoesOne N T asked out works (accepted_reading role r) (written_reading r out) (map zeros works)
    go (r, R) = (r, one-accepts W enough c R)

-- what the rows of its readings refuse, it refuses
pub readings-refused : {N : ℕ} {T : List ℕ} {asked : ℕ} {out : Outputs} {works : List (List ℕ)} (n p : ℕ)
    → Within most_triangles N T → Enough (lent_to_undo_one N T out works) → asked ≤ any_role
    → Refused (reading_rules N T asked) n p → UndoesOne N T asked out works (one_refusal n p) out (map zeros works)
readings-refused {N} {T} {asked} {out} {works} n p W enough l refused =
    UndoesOne.refuses n p (refused-by-back (mesh-rows N T asked rooms) (reading_rules N T asked) n p
    (mesh-rows-passed N T asked rooms W enough l) refused) refl refl refl
  where
    rooms : List Room
    rooms = lent_to_undo_one N T out works

-- where none is chosen by the old rule, it is refused with 11
pub none-refused : {N : ℕ} {T : List ℕ} {asked : ℕ} {out : Outputs} {works : List (List ℕ)} → Within most_triangles N T
    → Enough (lent_to_undo_one N T out works) → NoneChosen Same N T asked
    → UndoesOne N T asked out works (one_refusal 11 0) out (map zeros works)
none-refused W enough none = readings-refused 11 0 W enough (none-asked none) (none-refuses none)

-- where one is chosen by the old rule alone, it is refused with 15
pub inside-out-refused : {N : ℕ} {T : List ℕ} {asked role : ℕ} {out : Outputs} {works : List (List ℕ)}
    → Within most_triangles N T → Enough (lent_to_undo_one N T out works) → NoneChosen Rotated N T asked
    → Chosen Same N T asked role
    → (place : ℕ) × UndoesOne N T asked out works (one_refusal 15 place) out (map zeros works)
inside-out-refused {N} {T} {asked} {out = out} {works} W enough none c = go (inside-out W.proper none c)
  where
    go : (k : ℕ) × LeastPlace (InsideOut N T asked) k
        → (place : ℕ) × UndoesOne N T asked out works (one_refusal 15 place) out (map zeros works)
    go (k, least) = (k, readings-refused 15 k W enough (none-asked none) (inside-out-refuses least))

-- What an acceptance by undo one says, of the reading as a caller finds it.
pub record Accepted (N : ℕ) (T : List ℕ) (asked : ℕ) (out : Outputs) (answer : OneAnswer) (out' : Outputs)
    : Type 0 where
  pub within : Within most_triangles N T
  pub chosen : Chosen Rotated N T asked answer.role
  pub returned : Returned Rotated N T answer.role (found_reading N T answer out')
  pub counted : answer.common ≡ accepted_mesh answer.common.vertices (found_mesh answer.common out'.mesh)
  pub wrote : out' ≡ written_reading (found_reading N T answer out') out

-- the written reading is found
found-written : {agree : Agreement} (N : ℕ) (T : List ℕ) (role : ℕ) (r : Reading) (out : Outputs)
    → Returned agree N T role r → found_reading N T (accepted_reading role r) (written_reading r out) ≡ r
found-written N T role r out R = λ i. record {
  vertices = r.vertices;
  mesh = take-written r.mesh out.mesh R.is.proper.otherwise.whole i;
  vertex_map = take-written r.vertex_map out.vertex_map R.is.matched.vertices.long i;
  triangle_map = take-written r.triangle_map out.triangle_map R.is.matched.faces.long i;
}

-- where undo one refuses nothing, it is such an acceptance
pub one-accepted-found : {N : ℕ} {T : List ℕ} {asked : ℕ} {out out' : Outputs} {works works' : List (List ℕ)}
    {answer : OneAnswer} → UndoesOne N T asked out works answer out' works' → answer.common.refusal ≡ 0
    → Accepted N T asked out answer out'
one-accepted-found (UndoesOne.refuses n p R e _ _) none = absurd (omega (
  arith,
  refused-above _ n p R (omega arith),
  ap (λ (a : OneAnswer). a.common.refusal) e,
  none,
))
one-accepted-found {N} {T} {asked} {out} {works = works} (UndoesOne.accepts role r passed c R e f _) none =
    subst₂ (λ (a : OneAnswer) (o : Outputs). Accepted N T asked out a o) (sym e) (sym f) here
  where
    found : found_reading N T (accepted_reading role r) (written_reading r out) ≡ r
    found = found-written N T role r out R

    here : Accepted N T asked out (accepted_reading role r) (written_reading r out)
    here = record {
      within = one-within N T asked (lent_to_undo_one N T out works) passed;
      chosen = c;
      returned = subst (λ (s : Reading). Returned Rotated N T role s) (sym found) R;
      counted = ap (λ (s : Reading). accepted_mesh r.vertices s.mesh) (sym found);
      wrote = ap (λ (s : Reading). written_reading s out) (sym found);
    }

-- Undo one chooses a role and accepts, or it has one by the old rule alone and gives 15, or it has none and gives 11.
pub data Outcome (N : ℕ) (T : List ℕ) (asked : ℕ) (answer : OneAnswer) : Type 0 where
  accepts : answer.common.refusal ≡ 0 → Chosen Rotated N T asked answer.role → Outcome N T asked answer
  turned : answer.common.refusal ≡ 15 → InsideOut N T asked answer.common.place → Outcome N T asked answer
  refuses : answer.common.refusal ≡ 11 → NoneChosen Same N T asked → Outcome N T asked answer

-- nothing else happens to a proper mesh within the limits, with room enough
pub outcome : {N : ℕ} {T : List ℕ} {asked : ℕ} {out out' : Outputs} {works works' : List (List ℕ)} {answer : OneAnswer}
    → Within most_triangles N T → Enough (lent_to_undo_one N T out works) → asked ≤ any_role
    → UndoesOne N T asked out works answer out' works' → Outcome N T asked answer
outcome {N} {T} {asked} {answer = answer} W enough l (UndoesOne.refuses n p R e _ _) =
    go (one-refused N T asked _ n p W enough l R)
  where
    number : answer.common.refusal ≡ n
    number = ap (λ (a : OneAnswer). a.common.refusal) e

    place : answer.common.place ≡ p
    place = ap (λ (a : OneAnswer). a.common.place) e

    go : ReadingRefused N T asked n p → Outcome N T asked answer
    go (fifteen f o) = turned (number ∙ f) (subst (InsideOut N T asked) (sym place) o)
    go (eleven f none) = refuses (number ∙ f) none
outcome {N} {T} {asked} W enough l (UndoesOne.accepts role r _ c _ e _ _) =
    accepts (ap (λ (a : OneAnswer). a.common.refusal) e)
    (subst (λ (ρ : ℕ). Chosen Rotated N T asked ρ) (ap (λ (a : OneAnswer). a.role) (sym e)) c)

-- What is said of a choice, by either rule: a choice says that it is so, the lack of one that it is not.
pub record Says (N : ℕ) (T : List ℕ) (asked : ℕ) (said : Agreement → Type 0) : Type 1 where
  pub chosen : {agree : Agreement} {role : ℕ} → Chosen agree N T asked role → said agree
  pub none : {agree : Agreement} → NoneChosen agree N T asked → said agree → ⊥
  pub by_old : said Rotated → said Same

-- so it accepts exactly if it is so
pub outcome-exactly : {said : Agreement → Type 0} {N : ℕ} {T : List ℕ} {asked : ℕ} {answer : OneAnswer}
    → Outcome N T asked answer → Says N T asked said → Exactly (said Rotated) (said Same) answer.common.refusal
outcome-exactly (accepts e c) S = record {
  accepted = (λ _. S.chosen c, λ _. e);
  inside_out = (λ f. absurd (omega arith), λ h. absurd (h.0 (S.chosen c)));
  refused = (λ f. absurd (omega arith), λ h. absurd (h (S.by_old (S.chosen c))));
  one_of_them = inl e;
}
outcome-exactly (turned e o) S = record {
  accepted = (λ f. absurd (omega arith), λ h. absurd (S.none o.none_by_new h));
  inside_out = (λ _. (S.none o.none_by_new, S.chosen o.by_old), λ _. e);
  refused = (λ f. absurd (omega arith), λ h. absurd (h (S.chosen o.by_old)));
  one_of_them = inr (inl e);
}
outcome-exactly (refuses e n) S = record {
  accepted = (λ f. absurd (omega arith), λ h. absurd (S.none n (S.by_old h)));
  inside_out = (λ f. absurd (omega arith), λ h. absurd (S.none n h.1));
  refused = (λ _. S.none n, λ _. e);
  one_of_them = inr (inr e);
}

-- the role named has a reading
pub named-says : {N : ℕ} {T : List ℕ} {role : ℕ} → role ≤ 3 → Says N T role (λ agree. ReadingIn agree N T role)
named-says l = record {
  chosen = λ c. (chosen-named l c).1;
  none = none_named l;
  by_old = reading_in-same rotated-implies;
}

-- some role has one
pub any-says : {N : ℕ} {T : List ℕ} → Says N T any_role (λ agree. (role : ℕ) × ReadingIn agree N T role)
any-says = record {
  chosen = λ c. (_, (chosen-least c).has);
  none = λ n R. (none-least n).none R.0 R.1;
  by_old = λ R. (R.0, reading_in-same rotated-implies R.1);
}

-- ---- the levels of undo several

-- no more levels are undone than asked
pub several-at-most : {asked N levels M : ℕ} {T roles C : List ℕ} → Several asked N T levels roles M C → levels ≤ asked
several-at-most reached = omega arith
several-at-most (stopped _) = omega arith
several-at-most (undone r _ _ S) = omega (arith, several-at-most S)

-- there is a role for each level
several-roles : {asked N levels M : ℕ} {T roles C : List ℕ} → Several asked N T levels roles M C
    → length roles ≡ levels
several-roles reached = refl
several-roles (stopped _) = refl
several-roles (undone r _ _ S) = ap suc (several-roles S)

-- what every reading has k times less of, each level leaves k times less of
several-scaled : (k : ℕ) (size : List ℕ → ℕ)
    → ((N : ℕ) (T : List ℕ) (r : Reading) → Proper N T → IsReading Rotated N T r → size T ≡ k * size r.mesh)
    → {asked N levels M : ℕ} {T roles C : List ℕ} → Proper N T → Several asked N T levels roles M C
    → size T ≡ k ^ levels * size C
several-scaled k size scaled {T = T} P reached = sym (rw (pow-zero k) (one-mul (size T)))
several-scaled k size scaled {T = T} P (stopped _) = sym (rw (pow-zero k) (one-mul (size T)))
several-scaled k size scaled {N = N} {levels = suc levels} {T = T} {C = C} P (undone r _ R S) =
    scaled N T r P R.is ∙ ap (λ (n : ℕ). k * n) (several-scaled k size scaled R.is.proper S)
    ∙ sym (mul_assoc k (k ^ levels) (size C)) ∙ ap (λ (n : ℕ). n * size C) (sym (pow-succ' k levels))

-- each level leaves a quarter of the triangles
pub several-quarters : {asked N levels M : ℕ} {T roles C : List ℕ} → Proper N T → Several asked N T levels roles M C
    → triangles T ≡ 4 ^ levels * triangles C
several-quarters = several-scaled 4 triangles (λ _ _ _ _ R. quarter R)

-- and half of the boundary edges
pub several-halves : {asked N levels M : ℕ} {T roles C : List ℕ} → Proper N T → Several asked N T levels roles M C
    → boundary_edges T ≡ 2 ^ levels * boundary_edges C
several-halves = several-scaled 2 boundary_edges (λ _ _ _ P R. reading-boundary P (reading-same rotated-implies R))

-- where fewer are undone than asked, nothing is left to undo
pub several-stops : {asked N levels M : ℕ} {T roles C : List ℕ} → Several asked N T levels roles M C → levels < asked
    → NoRole Rotated M C
several-stops reached l = absurd (omega arith)
several-stops (stopped none) l = none
several-stops (undone r _ _ S) l = several-stops S (omega arith)

-- what is left of a mesh within the limits is within them
pub several-within : {asked N levels M : ℕ} {T roles C : List ℕ} → Within most_triangles N T
    → Several asked N T levels roles M C → Within most_triangles M C
several-within W reached = W
several-within W (stopped _) = W
several-within W (undone r _ R S) = several-within (smaller-within (reading-within W R.is)) S

-- ---- what undo several answers

-- a proper mesh within its limits is refused by none of its rows
pub several-passed : (N : ℕ) (T : List ℕ) (asked : ℕ) (rooms : List Room) → Within most_triangles N T → Enough rooms
    → asked ≤ most_levels → Passed (undo_several_rules N T asked rooms)
unfolding Passed
several-passed N T asked rooms W enough l =
    (λ place g. omega (arith, g.0), within-passed most_triangles N T rooms W enough)

-- and where it is refused by none, at most seven levels are asked and the mesh is within the limits
several-asked : (N : ℕ) (T : List ℕ) (asked : ℕ) (rooms : List Room) → Passed (undo_several_rules N T asked rooms)
    → (asked ≤ most_levels) × Within most_triangles N T
unfolding Passed
several-asked N T asked rooms passed =
    (asked-known most_levels asked passed.0, (passed-within most_triangles N T rooms passed.1).0)

-- a proper mesh within its limits is accepted with the levels undone, with room enough
pub several-accepts : {N : ℕ} {T : List ℕ} {asked levels M : ℕ} {roles C out : List ℕ} {works : List (List ℕ)}
    → Within most_triangles N T → Enough (lent_to_undo_several N T out works) → asked ≤ most_levels
    → Several asked N T levels roles M C
    → UndoesSeveral N T asked out works (accepted_levels levels roles M C) (written C out) (map zeros works)
several-accepts {N} {T} {asked} {levels} {M} {roles} {C} W enough l S =
    UndoesSeveral.accepts levels M roles C (several-passed N T asked _ W enough l) S refl refl refl

-- What an acceptance by undo several says, of the levels, roles and mesh as a caller finds them.
pub record SeveralAccepted (N : ℕ) (T : List ℕ) (asked : ℕ) (out : List ℕ) (answer : SeveralAnswer) (out' : List ℕ)
    : Type 0 where
  pub within : Within most_triangles N T
  pub undone : Several asked N T answer.levels (found_roles answer) answer.common.vertices
      (found_mesh answer.common out')
  pub counted : answer.common ≡ accepted_mesh answer.common.vertices (found_mesh answer.common out')
  pub placed : answer.roles ≡ seven_places (found_roles answer)
  pub wrote : out' ≡ written (found_mesh answer.common out') out

-- the roles of at most seven levels are found in the seven places
found-roles : (roles : List ℕ) {levels : ℕ} → length roles ≡ levels → levels ≤ most_levels
    → take levels (seven_places roles) ≡ roles
found-roles roles {levels} e l =
    take-take levels most_levels (roles ++ replicate most_levels 0) l ∙ take_at roles (replicate most_levels 0) levels e

-- where undo several refuses nothing, it is such an acceptance
pub several-accepted-found : {N : ℕ} {T : List ℕ} {asked : ℕ} {out out' : List ℕ} {works works' : List (List ℕ)}
    {answer : SeveralAnswer} → UndoesSeveral N T asked out works answer out' works' → answer.common.refusal ≡ 0
    → SeveralAccepted N T asked out answer out'
several-accepted-found (UndoesSeveral.refuses n p R e _ _) none = absurd (omega (
  arith,
  refused-above _ n p R (omega arith),
  ap (λ (a : SeveralAnswer). a.common.refusal) e,
  none,
))
several-accepted-found {N} {T} {asked} {out} {works = works} (UndoesSeveral.accepts levels M roles C passed S e f _)
    none = subst₂ (λ (a : SeveralAnswer) (o : List ℕ). SeveralAccepted N T asked out a o) (sym e) (sym f) here
  where
    limits : (asked ≤ most_levels) × Within most_triangles N T
    limits = several-asked N T asked (lent_to_undo_several N T out works) passed

    few : levels ≤ most_levels
    few = omega (arith, several-at-most S, limits.0)

    mesh : take (3 * triangles C) (written C out) ≡ C
    mesh = take-written C out (several-within limits.1 S).proper.otherwise.whole

    roles_found : take levels (seven_places roles) ≡ roles
    roles_found = found-roles roles (several-roles S) few

    here : SeveralAccepted N T asked out (accepted_levels levels roles M C) (written C out)
    here = record {
      within = limits.1;
      undone =
          subst₂ (λ (ρs S : List ℕ). Several asked N T levels ρs M S) (sym roles_found) (sym mesh) S;
      counted = ap (accepted_mesh M) (sym mesh);
      placed = ap seven_places (sym roles_found);
      wrote = ap (λ (D : List ℕ). written D out) (sym mesh);
    }
