-- Demands 2 and 3 level by level, as facts about the promises of split and undo several, limits and room included: a
-- mesh split n times comes back when n levels are undone; what undo several leaves is split back to its input; each
-- level that it answers has been undone, and it stops only where it must.
use Prim.Native.Nat.{ℕ, zero, suc, ◌+◌, ◌*◌, ◌^◌, ◌≤◌, ◌<◌}
use native.Mathlib.Nat.{add_comm, mul-le-mul, pow-le-pow_right}
use native.Mathlib.Omega.{arith}
use native.Mathlib.Decide.{dec_lt}
use mathlib.Core.Path.{◌≡◌, refl, sym, ap, ◌∙◌, subst, subst₂}
use mathlib.Core.Logic.{◌⊎◌, inl, inr}
use mathlib.Core.List.{List, [], map, ◌++◌}
use lib.ListN.{take, replicate, length-replicate, replicate-append-replicate}
use lib.Seq.{take_at}
use Rattle.theory.specs.Limits.{most_triangles, most_split_triangles, any_role, most_levels}
use Rattle.theory.specs.Mesh.{triangles, Same, Rotated, Proper}
use Rattle.theory.specs.Splitting.{edges, split}
use Rattle.theory.specs.Reading.{Agreement, Reading, ReadingIn, Returned}
use Rattle.theory.specs.Choice.{LeastRole, NoRole, Several, reached, stopped, undone, seven_places}
use Rattle.theory.specs.Calls.{Answer, OneAnswer, SeveralAnswer, Outputs, accepted_mesh, accepted_levels}
use Rattle.theory.specs.Calls.{written, zeros, lent_to_split, Splits, lent_to_undo_one, UndoesOne}
use Rattle.theory.specs.Calls.{lent_to_undo_several, UndoesSeveral}
use Rattle.theory.specs.Demands.{Enough, Within, SameApart, Exactly, found_mesh, found_roles}
use Rattle.theory.specs.Demands.{SplitTimes, never, once_more}
use Rattle.theory.proofs.Finite.{match-size}
use Rattle.theory.proofs.Refusals.{passed-not-refused, fits-none-short}
use Rattle.theory.proofs.Lawful.{matched-identity, matched-composed, carried}
use Rattle.theory.proofs.Rotation.{rotated-lawful}
use Rattle.theory.proofs.SplitProper.{itself, split-returned}
use Rattle.theory.proofs.Determined.{returned-in, quarter, undoes-several-determined}
use Rattle.theory.proofs.Results.{reading-within, smaller-within, split-accepts, SplitAccepted}
use Rattle.theory.proofs.Results.{several-at-most, several-quarters, several-stops, several-within}
use Rattle.theory.proofs.Results.{split-accepted, several-passed, several-accepts}
use Rattle.theory.proofs.Results.{SeveralAccepted, several-accepted-found}
use Rattle.theory.proofs.Demands.{split-within, least-accepted-exactly}

-- ---- a mesh split so many times, without the calls

-- So many splittings one after another, each of a mesh within split's limits, make (M, S) of (N, T).
data Splittings (N : ℕ) (T : List ℕ) : ℕ → ℕ → List ℕ → Type 0 where
  untouched : Splittings N T zero N T
  another : {times M : ℕ} {S : List ℕ} → Splittings N T times M S → Within most_split_triangles M S
      → Splittings N T (suc times) (M + edges S) (split M S)

-- the calls make these splittings
split-times-splittings : {N : ℕ} {T : List ℕ} {times M : ℕ} {S : List ℕ} → SplitTimes N T times M S → Splittings N T times M S
split-times-splittings never = untouched
split-times-splittings {N} {T = T} (once_more {times} {M} {S} {out' = out'} {answer = a} before splits none) =
    go (split-accepted splits none) (split-times-splittings before)
  where
    go : SplitAccepted M S a out' → Splittings N T times M S
        → Splittings N T (suc times) a.vertices (found_mesh a out')
    go A rest =
        subst₂ (Splittings N T (suc times)) (sym A.vertices) (sym A.found) (another rest A.within)

-- and for these splittings there are such calls
splittings-split-times : {N : ℕ} {T : List ℕ} {times M : ℕ} {S : List ℕ} → Splittings N T times M S → SplitTimes N T times M S
splittings-split-times untouched = never
splittings-split-times {N} {T = T} (another {times} {M} {S} before W) =
    subst (SplitTimes N T (suc times) (M + edges S)) (split-accepted splits refl).found
    (once_more (splittings-split-times before) splits refl)
  where
    room : List ℕ
    room = replicate (12 * triangles S) 0

    enough : Enough (lent_to_split M S room [])
    enough =
        fits-none-short (lent_to_split M S room [])
        (omega (arith, length-replicate {A = ℕ} (12 * triangles S) 0), tt)

    splits : Splits M S room [] (accepted_mesh (M + edges S) (split M S)) (written (split M S) room) []
    splits = split-accepts W enough

-- what they make is within undo's limits, if the mesh is
splittings-within : {N : ℕ} {T : List ℕ} {times M : ℕ} {S : List ℕ} → Within most_triangles N T → Splittings N T times M S
    → Within most_triangles M S
splittings-within W untouched = W
splittings-within W (another _ W') = split-within W'

-- role 0 is the least where it has a reading, since no role is below it
role-zero : {agree : Agreement} {N : ℕ} {T : List ℕ} {r : Reading} → Returned agree N T 0 r → LeastRole agree N T 0
role-zero R = record {
  has = returned-in R;
  before = λ earlier l. absurd (omega arith);
}

-- as many levels undone, each in role 0, leave the mesh
splittings-undone : {N : ℕ} {T : List ℕ} {times M : ℕ} {S : List ℕ} → Splittings N T times M S
    → Several times M S times (replicate times 0) N T
splittings-undone untouched = reached
splittings-undone (another {times} {M} {S} before W) = undone (itself M S) (role-zero R) R (splittings-undone before)
  where
    R : Returned Rotated (M + edges S) (split M S) 0 (itself M S)
    R = split-returned M S W.proper rotated-lawful W.some

-- ---- seven levels are all

-- a number of triangles within the limit is 4 ^ levels times another for at most seven levels
few-levels : (levels : ℕ) {F G : ℕ} → F ≡ 4 ^ levels * G → 0 < G → F ≤ most_triangles → levels ≤ most_levels
few-levels levels {F} {G} e some few = go (dec_lt most_levels levels)
  where
    many : most_levels < levels → 4 ^ suc most_levels * 1 ≤ 4 ^ levels * G
    many l = mul-le-mul (pow-le-pow_right (omega arith) l) some

    go : Dec (most_levels < levels) → levels ≤ most_levels
    go (yes l) = absurd (omega (arith, many l))
    go (no h) = omega (arith, h)

-- so a mesh within the limits has at most seven levels
several-few : {asked N levels M : ℕ} {T roles C : List ℕ} → Within most_triangles N T
    → Several asked N T levels roles M C → levels ≤ most_levels
several-few {levels = levels} W S =
    few-levels levels (several-quarters W.proper S) (several-within W S).some W.few_triangles

-- after seven one triangle is left, and one is not four
one_left : {F G : ℕ} (H : ℕ) → F ≡ 4 ^ most_levels * G → F ≤ most_triangles → 0 < G → G ≡ 4 * H → ⊥
one_left zero e few some four = omega arith
one_left (suc H) e few some four = omega arith

-- so where seven are asked, nothing is left to undo
several-seven : {N levels M : ℕ} {T roles C : List ℕ} → Within most_triangles N T
    → Several most_levels N T levels roles M C → NoRole Rotated M C
several-seven {levels = levels} {M} {T} {roles} {C} W S = go (dec_lt levels most_levels)
  where
    seven : (levels < most_levels → ⊥) → triangles T ≡ 4 ^ most_levels * triangles C
    seven h =
        let all : levels ≡ most_levels = omega (arith, several-at-most S, h) in
        several-quarters W.proper S ∙ ap (λ (n : ℕ). 4 ^ n * triangles C) all

    go : Dec (levels < most_levels) → NoRole Rotated M C
    go (yes l) = several-stops S l
    go (no h) = record {
      none = λ role R. one_left _ (seven h) W.few_triangles (several-within W S).some (quarter R.is);
    }

-- ---- demand 2: what is split so many times and undone as many levels is the mesh again

-- nothing is split more than seven times
pub split-times-at-most : {N : ℕ} {T : List ℕ} {times M : ℕ} {S : List ℕ} → SplitTimes N T times M S → times ≤ most_levels
split-times-at-most C = go (split-times-splittings C)
  where
    go : {N : ℕ} {T : List ℕ} {times M : ℕ} {S : List ℕ} → Splittings N T times M S → times ≤ most_levels
    go untouched = omega arith
    go (another before W) = several-few (split-within W) (splittings-undone (another before W))

-- what is split at all is within split's limits, and so within undo's
pub split-times-within : {N : ℕ} {T : List ℕ} {times M : ℕ} {S : List ℕ} → SplitTimes N T (suc times) M S
    → Within most_split_triangles N T
split-times-within C = go (split-times-splittings C)
  where
    go : {N : ℕ} {T : List ℕ} {times M : ℕ} {S : List ℕ} → Splittings N T (suc times) M S → Within most_split_triangles N T
    go (another untouched W) = W
    go (another (another before W) _) = go (another before W)

-- zeros kept in seven places are seven zeros
zeros-placed : (n : ℕ) → seven_places (replicate n 0) ≡ replicate most_levels 0
zeros-placed n = ap (take most_levels) swapped
    ∙ take_at (nought most_levels) (nought n) most_levels (length-replicate {A = ℕ} most_levels 0)
  where
    nought : ℕ → List ℕ
    nought k = replicate k 0

    swapped : nought n ++ nought most_levels ≡ nought most_levels ++ nought n
    swapped = replicate-append-replicate n most_levels 0 ∙ ap nought (add_comm n most_levels)
        ∙ sym (replicate-append-replicate most_levels n 0)

-- The mesh (N, T) comes back from so many levels list for list: undo several answers its counts, these levels and
-- role 0 for each of them, and writes the mesh; the rest stays.
pub record ComesBackFrom (levels N : ℕ) (T out : List ℕ) (works : List (List ℕ)) (answer : SeveralAnswer)
    (out' : List ℕ) (works' : List (List ℕ)) : Type 0 where
  pub answers : answer ≡ accepted_levels levels (replicate levels 0) N T
  pub all_zero : answer.roles ≡ replicate most_levels 0
  pub writes : out' ≡ written T out
  pub clears : works' ≡ map zeros works

-- a proper mesh within undo's limits, split so many times, and undone as many levels with room enough, is accepted ..
pub split-times-undone : {N times M : ℕ} {T S out : List ℕ} {works : List (List ℕ)} → Within most_triangles N T
    → SplitTimes N T times M S → Enough (lent_to_undo_several M S out works)
    → UndoesSeveral M S times out works (accepted_levels times (replicate times 0) N T) (written T out)
    (map zeros works)
split-times-undone W C enough =
    let D : Splittings _ _ _ _ _ = split-times-splittings C in
    several-accepts (splittings-within W D) enough (split-times-at-most C) (splittings-undone D)

-- .. and comes back
pub split-times-comes-back : {N times M : ℕ} {T S out out' : List ℕ} {works works' : List (List ℕ)}
    {answer : SeveralAnswer} → Within most_triangles N T → SplitTimes N T times M S
    → Enough (lent_to_undo_several M S out works) → UndoesSeveral M S times out works answer out' works'
    → ComesBackFrom times N T out works answer out' works'
split-times-comes-back {N} {times} {T = T} {out = out} {out'} {works} {works'} {answer} W C enough U =
    go (undoes-several-determined U (split-times-undone W C enough))
  where
    go : (answer ≡ accepted_levels times (replicate times 0) N T) × (out' ≡ written T out)
        × (works' ≡ map zeros works) → ComesBackFrom times N T out works answer out' works'
    go (e, f, g) = record {
      answers = e;
      all_zero = ap (λ (a : SeveralAnswer). a.roles) e ∙ zeros-placed times;
      writes = f;
      clears = g;
    }

-- "Asked 0, a proper mesh comes back unchanged."
pub asked-none-unchanged : {N : ℕ} {T out out' : List ℕ} {works works' : List (List ℕ)} {answer : SeveralAnswer}
    → Within most_triangles N T → Enough (lent_to_undo_several N T out works)
    → UndoesSeveral N T 0 out works answer out' works' → ComesBackFrom 0 N T out works answer out' works'
asked-none-unchanged W enough U = split-times-comes-back W never enough U

-- ---- demand 2, level by level: what undo several leaves is split back to its input

-- the mesh that is left, split as many times, is the input apart from numbering and order
several-splits : {asked N levels M M' : ℕ} {T roles C S : List ℕ} → Proper N T → Several asked N T levels roles M C
    → Splittings M C levels M' S → SameApart N T M' S
several-splits {N = N} {T = T} P reached untouched = (_, _, matched-identity rotated-lawful N T P.otherwise.below)
several-splits {N = N} {T = T} P (stopped _) untouched =
    (_, _, matched-identity rotated-lawful N T P.otherwise.below)
several-splits {N = N} {T = T} P (undone r _ R S) (another {M = L} {S = D} before W) =
    go (several-splits R.is.proper S before)
  where
    go : SameApart r.vertices r.mesh L D → SameApart N T (L + edges D) (split L D)
    go (f, g, G) = (
      _,
      _,
      matched-composed rotated-lawful P.otherwise.below R.is.matched
          (carried rotated-lawful R.is.proper.otherwise W.proper.otherwise G).matched,
    )

-- what is the same as a mesh within the limits, apart from numbering and order, is within them, if proper
same-within : {most N M : ℕ} {T S : List ℕ} → Within most N T → SameApart N T M S → Proper M S → Within most M S
same-within W (f, g, G) P = record {
  proper = P;
  some = omega (arith, match-size G.faces, W.some);
  few_triangles = omega (arith, match-size G.faces, W.few_triangles);
  few_vertices = omega (arith, match-size G.vertices, W.few_vertices);
}

-- and there are these splittings, since each mesh on the way is a quarter of one within undo's limits
splittings-exist : {asked N levels M : ℕ} {T roles C : List ℕ} → Within most_triangles N T
    → Several asked N T levels roles M C → (M' : ℕ) × (S : List ℕ) × Splittings M C levels M' S
splittings-exist W reached = (_, _, untouched)
splittings-exist W (stopped _) = (_, _, untouched)
splittings-exist {levels = suc levels} {M} {C = C} W (undone r _ R rest) =
    go (splittings-exist (smaller-within quartered) rest)
  where
    quartered : Within most_split_triangles r.vertices r.mesh
    quartered = reading-within W R.is

    go : (L : ℕ) × (D : List ℕ) × Splittings M C levels L D
        → (M' : ℕ) × (S : List ℕ) × Splittings M C (suc levels) M' S
    go (L, D, before) = (
      _,
      _,
      another before (same-within quartered (several-splits quartered.proper rest before)
          (splittings-within (several-within (smaller-within quartered) rest) before).proper),
    )

module _ {N : ℕ} {T : List ℕ} {asked : ℕ} {out out' : List ℕ} {works works' : List (List ℕ)} {answer : SeveralAnswer}
    (U : UndoesSeveral N T asked out works answer out' works') (none : answer.common.refusal ≡ 0) where
  -- the mesh that is left
  abbrev left : List ℕ
  left = found_mesh answer.common out'

  -- what the acceptance says
  acceptance : SeveralAccepted N T asked out answer out'
  acceptance = several-accepted-found U none

  -- split as many times as levels are answered, it is the input apart from numbering and order, whatever is lent ..
  pub left-splits-back : {M : ℕ} {S : List ℕ} → SplitTimes answer.common.vertices left answer.levels M S
      → SameApart N T M S
  left-splits-back C = several-splits acceptance.within.proper acceptance.undone (split-times-splittings C)

  -- .. and it can be split so many times
  pub left-can-be-split : (M : ℕ) × (S : List ℕ) × SplitTimes answer.common.vertices left answer.levels M S
  left-can-be-split = go (splittings-exist acceptance.within acceptance.undone)
    where
      go : (M : ℕ) × (S : List ℕ) × Splittings answer.common.vertices left answer.levels M S
          → (M : ℕ) × (S : List ℕ) × SplitTimes answer.common.vertices left answer.levels M S
      go (M, S, D) = (M, S, splittings-split-times D)

  -- each level leaves a quarter of the triangles: an invented number of levels breaks the promise
  pub left-quarters : triangles T ≡ 4 ^ answer.levels * answer.common.triangles
  left-quarters = several-quarters acceptance.within.proper acceptance.undone
      ∙ ap (λ (a : Answer). 4 ^ answer.levels * a.triangles) (sym acceptance.counted)

  -- ---- demand 3, level by level: undo several undoes what it answers, and stops only where it must

  -- what is left is what the levels answered leave, each undone in its least role as answered; the places after the
  -- roles are 0, and nothing but the mesh is written
  pub levels-are-undone : Several asked N T answer.levels (found_roles answer) answer.common.vertices left
      × (answer.roles ≡ seven_places (found_roles answer)) × (out' ≡ written left out)
  levels-are-undone = (acceptance.undone, acceptance.placed, acceptance.wrote)

  -- no more levels are undone than asked
  pub levels-at-most-asked : answer.levels ≤ asked
  levels-at-most-asked = several-at-most acceptance.undone

  -- where fewer are undone than asked, what is left has no reading in any role
  pub stops-at-no-reading : answer.levels < asked → NoRole Rotated answer.common.vertices left
  stops-at-no-reading = several-stops acceptance.undone

  -- so undo one, asked 4, gives 15 or 11 there, with room enough
  pub stops-at-either : {o o' : Outputs} {ws ws' : List (List ℕ)} {one : OneAnswer} → answer.levels < asked
      → Enough (lent_to_undo_one answer.common.vertices left o ws)
      → UndoesOne answer.common.vertices left any_role o ws one o' ws'
      → (one.common.refusal ≡ 15) ⊎ (one.common.refusal ≡ 11)
  stops-at-either {one = one} l enough U' = go E.one_of_them
    where
      E : Exactly ((role : ℕ) × ReadingIn Rotated answer.common.vertices left role)
          ((role : ℕ) × ReadingIn Same answer.common.vertices left role) one.common.refusal
      E = least-accepted-exactly (several-within acceptance.within acceptance.undone) enough U'

      refuted : (role : ℕ) × ReadingIn Rotated answer.common.vertices left role → ⊥
      refuted (role, R) = (stops-at-no-reading l).none role R

      go : (one.common.refusal ≡ 0) ⊎ ((one.common.refusal ≡ 15) ⊎ (one.common.refusal ≡ 11))
          → (one.common.refusal ≡ 15) ⊎ (one.common.refusal ≡ 11)
      go (inl e) = absurd (refuted (E.accepted.0 e))
      go (inr either) = either

-- asked seven, nothing is left to undo
pub seven-undo-all : {N : ℕ} {T out out' : List ℕ} {works works' : List (List ℕ)} {answer : SeveralAnswer}
    → UndoesSeveral N T most_levels out works answer out' works' → answer.common.refusal ≡ 0
    → NoRole Rotated answer.common.vertices (found_mesh answer.common out')
seven-undo-all U none = several-seven (several-accepted-found U none).within (several-accepted-found U none).undone

-- a proper mesh within the limits is never refused, with room enough and at most seven levels asked
pub several-never-refuses : {N : ℕ} {T : List ℕ} {asked : ℕ} {out out' : List ℕ} {works works' : List (List ℕ)}
    {answer : SeveralAnswer} → Within most_triangles N T → Enough (lent_to_undo_several N T out works) → asked ≤ most_levels
    → UndoesSeveral N T asked out works answer out' works' → answer.common.refusal ≡ 0
several-never-refuses {N} {T} {asked} W enough l (UndoesSeveral.refuses n p R _ _ _) =
    absurd (passed-not-refused _ n p (several-passed N T asked _ W enough l) R)
several-never-refuses W enough l (UndoesSeveral.accepts _ _ _ _ _ _ e _ _) =
    ap (λ (a : SeveralAnswer). a.common.refusal) e
