-- `determined`: for each call, two results that satisfy its relation are equal. Its rows refuse with one number at one
-- place or are passed (`Refusals`); the choice of a role, the returned reading in it, the levels of undo several, the
-- mesh that lines say and the list that a text says are one.
use Prim.Native.Nat.{ℕ, zero, suc, ◌*◌, ◌≤◌}
use native.Mathlib.Omega.{arith}
use mathlib.Core.Path.{◌≡◌, refl, sym, ap, ap₂, ◌∙◌, subst, subst₂}
use mathlib.Core.List.{List, ◌∷◌}
use lib.ListN.{length}
use Rattle.theory.specs.Mesh.{triangles, Rotated, Proper}
use Rattle.theory.specs.Reading.{Agreement, Reading, IsReading, RoleOf, ReadingIn, Returned}
use Rattle.theory.specs.Choice.{LeastRole, Chosen, named, least, NoneChosen}
use Rattle.theory.specs.Choice.{Several, reached, stopped, undone}
use Rattle.theory.specs.Refusals.{Room, not_threes, mesh_rules, reading_rules, Passed}
use Rattle.theory.specs.Calls.{Answer, OneAnswer, SeveralAnswer, Outputs, refusal, one_refusal, several_refusal}
use Rattle.theory.specs.Calls.{accepted_levels, written, written_reading, accepted_reading}
use Rattle.theory.specs.Calls.{Splits, undo_one_rules, UndoesOne, UndoesSeveral}
use Rattle.theory.specs.Frames.{FramesAnswer, frames_refusal, frames_accepted, corners, LinesSay}
use Rattle.theory.specs.Frames.{ReadsFrames, WritesFrames}
use Rattle.theory.specs.Index.{faces, TextAnswer, text_refusal, ReadsIndex, WritesIndex}
use Rattle.theory.specs.Program.{answer_line, reading_text, PrintsMesh, Prints}
use Rattle.theory.proofs.Finite.{match-size}
use Rattle.theory.proofs.Splitting.{split-triangles}
use Rattle.theory.proofs.Rotation.{rotated-implies}
use Rattle.theory.proofs.Unique.{returned-unique}
use Rattle.theory.proofs.Refusals.{least-place-unique, refused-unique, passed-not-refused, passed-front}
use Rattle.theory.proofs.Refusals.{threes-whole, passed-proper}

-- ---- the role chosen

-- a role is at most 3
pub role-within : {T : List ℕ} {r : Reading} {k role : ℕ} → RoleOf T r k role → role ≤ 3
role-within (RoleOf.centre _) = omega arith
role-within (RoleOf.corner i l _ _) = omega arith

-- a returned reading is a reading in its role
pub returned-in : {agree : Agreement} {N role : ℕ} {T : List ℕ} {r : Reading} → Returned agree N T role r
    → ReadingIn agree N T role
returned-in {r = r} R = record { reading = r; is = R.is; in_role = R.in_role }

least-role-unique : {agree : Agreement} {N : ℕ} {T : List ℕ} {ρ σ : ℕ} → LeastRole agree N T ρ → LeastRole agree N T σ
    → ρ ≡ σ
least-role-unique a b =
    least-place-unique (record { here = a.has; before = a.before }) (record { here = b.has; before = b.before })

-- one number asked chooses one role
pub chosen-unique : {agree : Agreement} {N : ℕ} {T : List ℕ} {asked ρ σ : ℕ} → Chosen agree N T asked ρ
    → Chosen agree N T asked σ → ρ ≡ σ
chosen-unique (named l a) (named m b) = refl
chosen-unique (named l a) (least b) = absurd (omega arith)
chosen-unique (least a) (named m b) = absurd (omega arith)
chosen-unique (least a) (least b) = least-role-unique a b

-- where a role is chosen, it is not so that none is
pub chosen-not-none : {agree : Agreement} {N : ℕ} {T : List ℕ} {asked ρ : ℕ} → Chosen agree N T asked ρ
    → NoneChosen agree N T asked → ⊥
chosen-not-none (named l a) (named m b) = b a
chosen-not-none (named l a) (least b) = absurd (omega arith)
chosen-not-none (least a) (named m b) = absurd (omega arith)
chosen-not-none (least a) (least b) = b.none _ a.has

-- ---- the levels of undo several

-- the coarse mesh has a quarter of the triangles
pub quarter : {agree : Agreement} {N : ℕ} {T : List ℕ} {r : Reading} → IsReading agree N T r
    → triangles T ≡ 4 * triangles r.mesh
quarter {r = r} R = match-size R.matched.faces ∙ split-triangles r.vertices r.mesh

-- What undo several yields.
pub record Yield : Type 0 where
  pub levels : ℕ
  pub roles : List ℕ
  pub vertices : ℕ
  pub mesh : List ℕ

-- one level more, undone in the role before the others
abbrev one_more : ℕ → Yield → Yield
one_more role y = record { levels = suc y.levels; roles = role ∷ y.roles; vertices = y.vertices; mesh = y.mesh }

-- undo several leaves one mesh, by one list of roles
pub several-unique : (allowance : ℕ) {N l m M M' : ℕ} {T ρs σs C C' : List ℕ} → Proper N T
    → Several allowance N T l ρs M C → Several allowance N T m σs M' C'
    → Path Yield (record { levels = l; roles = ρs; vertices = M; mesh = C })
    (record { levels = m; roles = σs; vertices = M'; mesh = C' })
several-unique zero P reached reached = refl
several-unique (suc n) P (stopped a) (stopped b) = refl
several-unique (suc n) P (stopped a) (undone r b R S) = absurd (a.none _ b.has)
several-unique (suc n) P (undone r b R S) (stopped a) = absurd (a.none _ b.has)
several-unique (suc n) {T = T} P (undone {role = ρ} r a R S)
    (undone {levels = m} {role = σ} {M = M'} {roles = σs} {C = C'} s b R' S') =
    let same-role : ρ ≡ σ = least-role-unique a b in
    let same-reading : s ≡ r = returned-unique _ T P rotated-implies s r ρ (rw same-role R') R in
    ap₂ one_more same-role
    (several-unique n R.is.proper S
    (subst (λ (q : Reading). Several n q.vertices q.mesh m σs M' C') same-reading S'))

-- ---- what passed rules say

-- where 2 and 6 to 10 are not given, the mesh is proper
pub judged : (N : ℕ) (T : List ℕ) → ((p : ℕ) → (not_threes (length T)).given p → ⊥) → Passed (mesh_rules N T)
    → Proper N T
judged N T threes = passed-proper N T (omega (arith, threes-whole (length T) threes))

-- ---- the calls

pub splits-determined : {N : ℕ} {T out o p : List ℕ} {works w v : List (List ℕ)} {a b : Answer}
    → Splits N T out works a o w → Splits N T out works b p v → (a ≡ b) × (o ≡ p) × (w ≡ v)
splits-determined (Splits.refuses m i R e f g) (Splits.refuses n j S e' f' g') =
    let same : (m ≡ n) × (i ≡ j) = refused-unique _ m i n j R S in
    (e ∙ ap₂ refusal same.0 same.1 ∙ sym e', f ∙ sym f', g ∙ sym g')
splits-determined (Splits.refuses m i R e f g) (Splits.accepts S e' f' g') = absurd (passed-not-refused _ m i S R)
splits-determined (Splits.accepts R e f g) (Splits.refuses n j S e' f' g') = absurd (passed-not-refused _ n j R S)
splits-determined (Splits.accepts R e f g) (Splits.accepts S e' f' g') = (e ∙ sym e', f ∙ sym f', g ∙ sym g')

-- where undo one refuses nothing, the role chosen and the reading returned in it are one
one-result : {N : ℕ} {T : List ℕ} {asked ρ σ : ℕ} {r s : Reading} (rooms : List Room)
    → Passed (undo_one_rules N T asked rooms)
    → Chosen Rotated N T asked ρ → Chosen Rotated N T asked σ → Returned Rotated N T ρ r → Returned Rotated N T σ s
    → (ρ ≡ σ) × (r ≡ s)
unfolding Passed
one-result {N} {T} {asked} {ρ} {σ} {r} {s} rooms passed c c' d d' =
    let proper : Proper N T =
    judged N T passed.1.0 (passed-front (mesh_rules N T) (reading_rules N T asked) passed.1.1.1.1.1) in
    let same-role : ρ ≡ σ = chosen-unique c c' in
    (same-role, returned-unique N T proper rotated-implies r s ρ d (rw same-role d'))

pub undoes-one-determined : {N : ℕ} {T : List ℕ} {asked : ℕ} {out o p : Outputs} {works w v : List (List ℕ)}
    {a b : OneAnswer}
    → UndoesOne N T asked out works a o w → UndoesOne N T asked out works b p v → (a ≡ b) × (o ≡ p) × (w ≡ v)
undoes-one-determined (UndoesOne.refuses m i R e f g) (UndoesOne.refuses n j S e' f' g') =
    let same : (m ≡ n) × (i ≡ j) = refused-unique _ m i n j R S in
    (e ∙ ap₂ one_refusal same.0 same.1 ∙ sym e', f ∙ sym f', g ∙ sym g')
undoes-one-determined (UndoesOne.refuses m i R e f g) (UndoesOne.accepts σ s S c d e' f' g') =
    absurd (passed-not-refused _ m i S R)
undoes-one-determined (UndoesOne.accepts ρ r R c d e f g) (UndoesOne.refuses n j S e' f' g') =
    absurd (passed-not-refused _ n j R S)
undoes-one-determined {N} {T} {out = out} (UndoesOne.accepts ρ r R c d e f g)
    (UndoesOne.accepts σ s S c' d' e' f' g') =
    let same : (ρ ≡ σ) × (r ≡ s) = one-result _ R c c' d d' in (
      e ∙ ap₂ accepted_reading same.0 same.1 ∙ sym e',
      f ∙ ap (λ q. written_reading q out) same.1 ∙ sym f',
      g ∙ sym g',
    )

pub undoes-several-determined : {N : ℕ} {T : List ℕ} {asked : ℕ} {out o p : List ℕ} {works w v : List (List ℕ)}
    {a b : SeveralAnswer} → UndoesSeveral N T asked out works a o w → UndoesSeveral N T asked out works b p v
    → (a ≡ b) × (o ≡ p) × (w ≡ v)
unfolding Passed
undoes-several-determined (UndoesSeveral.refuses m i R e f g) (UndoesSeveral.refuses n j S e' f' g') =
    let same : (m ≡ n) × (i ≡ j) = refused-unique _ m i n j R S in
    (e ∙ ap₂ several_refusal same.0 same.1 ∙ sym e', f ∙ sym f', g ∙ sym g')
undoes-several-determined (UndoesSeveral.refuses m i R e f g) (UndoesSeveral.accepts l M ρs C S c e' f' g') =
    absurd (passed-not-refused _ m i S R)
undoes-several-determined (UndoesSeveral.accepts l M ρs C R c e f g) (UndoesSeveral.refuses n j S e' f' g') =
    absurd (passed-not-refused _ n j R S)
undoes-several-determined {N} {T} {asked} {out} (UndoesSeveral.accepts l M ρs C R c e f g)
    (UndoesSeveral.accepts m M' σs C' S c' e' f' g') =
    let proper : Proper N T = judged N T R.1.0 R.1.1.1.1.1 in
    let same : Path Yield _ _ = several-unique asked proper c c' in
    (e ∙ ap answered same ∙ sym e', f ∙ ap (λ y. written y.mesh out) same ∙ sym f', g ∙ sym g')
  where
    answered : Yield → SeveralAnswer
    answered y = accepted_levels y.levels y.roles y.vertices y.mesh

-- lines say one mesh
pub lines-say-one : {bytes T S : List ℕ} {N M : ℕ} → LinesSay bytes N T → LinesSay bytes M S → (N ≡ M) × (T ≡ S)
lines-say-one {T = T} {S} a b =
    let same : corners T ≡ corners S = sym a.later ∙ b.later in
    (sym a.first ∙ b.first, cc)

pub reads-frames-determined : {bytes out o p : List ℕ} {a b : FramesAnswer}
    → ReadsFrames bytes out a o → ReadsFrames bytes out b p → (a ≡ b) × (o ≡ p)
reads-frames-determined (ReadsFrames.refuses m i R e f) (ReadsFrames.refuses n j S e' f') =
    let same : (m ≡ n) × (i ≡ j) = refused-unique _ m i n j R S in
    (e ∙ ap₂ frames_refusal same.0 same.1 ∙ sym e', f ∙ sym f')
reads-frames-determined (ReadsFrames.refuses m i R e f) (ReadsFrames.accepts M S P l e' f') =
    absurd (passed-not-refused _ m i P R)
reads-frames-determined (ReadsFrames.accepts N T P l e f) (ReadsFrames.refuses n j S e' f') =
    absurd (passed-not-refused _ n j P S)
reads-frames-determined {out = out} (ReadsFrames.accepts N T P l e f) (ReadsFrames.accepts M S Q l' e' f') =
    let same : (N ≡ M) × (T ≡ S) = lines-say-one l l' in (
      e ∙ ap₂ (λ n U. frames_accepted n (triangles U)) same.0 same.1 ∙ sym e',
      f ∙ ap (λ U. written U out) same.1 ∙ sym f',
    )

pub writes-frames-determined : {N : ℕ} {T out o p : List ℕ} {a b : FramesAnswer}
    → WritesFrames N T out a o → WritesFrames N T out b p → (a ≡ b) × (o ≡ p)
writes-frames-determined (WritesFrames.refuses m i R e f) (WritesFrames.refuses n j S e' f') =
    let same : (m ≡ n) × (i ≡ j) = refused-unique _ m i n j R S in
    (e ∙ ap₂ frames_refusal same.0 same.1 ∙ sym e', f ∙ sym f')
writes-frames-determined (WritesFrames.refuses m i R e f) (WritesFrames.accepts S e' f') =
    absurd (passed-not-refused _ m i S R)
writes-frames-determined (WritesFrames.accepts R e f) (WritesFrames.refuses n j S e' f') =
    absurd (passed-not-refused _ n j R S)
writes-frames-determined (WritesFrames.accepts R e f) (WritesFrames.accepts S e' f') = (e ∙ sym e', f ∙ sym f')

pub reads-index-determined : {N : ℕ} {text out o p : List ℕ} {a b : FramesAnswer}
    → ReadsIndex N text out a o → ReadsIndex N text out b p → (a ≡ b) × (o ≡ p)
reads-index-determined (ReadsIndex.refuses m i R e f) (ReadsIndex.refuses n j S e' f') =
    let same : (m ≡ n) × (i ≡ j) = refused-unique _ m i n j R S in
    (e ∙ ap₂ frames_refusal same.0 same.1 ∙ sym e', f ∙ sym f')
reads-index-determined (ReadsIndex.refuses m i R e f) (ReadsIndex.accepts S P l e' f') =
    absurd (passed-not-refused _ m i P R)
reads-index-determined (ReadsIndex.accepts T P l e f) (ReadsIndex.refuses n j S e' f') =
    absurd (passed-not-refused _ n j P S)
reads-index-determined {N} {out = out} (ReadsIndex.accepts T P l e f) (ReadsIndex.accepts S Q l' e' f') =
    let said : faces T ≡ faces S = sym l ∙ l' in
    let same : T ≡ S = cc in
    (e ∙ ap (λ U. frames_accepted N (triangles U)) same ∙ sym e', f ∙ ap (λ U. written U out) same ∙ sym f')

pub writes-index-determined : {N : ℕ} {T out o p : List ℕ} {a b : TextAnswer}
    → WritesIndex N T out a o → WritesIndex N T out b p → (a ≡ b) × (o ≡ p)
writes-index-determined (WritesIndex.refuses m i R e f) (WritesIndex.refuses n j S e' f') =
    let same : (m ≡ n) × (i ≡ j) = refused-unique _ m i n j R S in
    (e ∙ ap₂ text_refusal same.0 same.1 ∙ sym e', f ∙ sym f')
writes-index-determined (WritesIndex.refuses m i R e f) (WritesIndex.accepts S e' f') =
    absurd (passed-not-refused _ m i S R)
writes-index-determined (WritesIndex.accepts R e f) (WritesIndex.refuses n j S e' f') =
    absurd (passed-not-refused _ n j R S)
writes-index-determined (WritesIndex.accepts R e f) (WritesIndex.accepts S e' f') = (e ∙ sym e', f ∙ sym f')

-- ---- the program

prints-mesh-determined : {N : ℕ} {T text other : List ℕ} {asked : ℕ} → PrintsMesh N T asked text
    → PrintsMesh N T asked other
    → text ≡ other
prints-mesh-determined (PrintsMesh.refuses m i R e) (PrintsMesh.refuses n j S f) =
    let same : (m ≡ n) × (i ≡ j) = refused-unique _ m i n j R S in
    e ∙ ap₂ (λ n p. answer_line n 0 p) same.0 same.1 ∙ sym f
prints-mesh-determined (PrintsMesh.refuses m i R e) (PrintsMesh.accepts σ s S c d f) =
    absurd (passed-not-refused _ m i S R)
prints-mesh-determined (PrintsMesh.accepts ρ r R c d e) (PrintsMesh.refuses n j S f) =
    absurd (passed-not-refused _ n j R S)
prints-mesh-determined (PrintsMesh.accepts ρ r R c d e) (PrintsMesh.accepts σ s S c' d' f) =
    let same : (ρ ≡ σ) × (r ≡ s) = one-result _ R c c' d d' in
    e ∙ ap₂ reading_text same.0 same.1 ∙ sym f

pub prints-determined : {bytes text other : List ℕ} {asked : ℕ} → Prints bytes asked text → Prints bytes asked other
    → text ≡ other
prints-determined (Prints.refuses m i R e) (Prints.refuses n j S f) =
    let same : (m ≡ n) × (i ≡ j) = refused-unique _ m i n j R S in
    e ∙ ap₂ (λ n p. answer_line n 0 p) same.0 same.1 ∙ sym f
prints-determined (Prints.refuses m i R e) (Prints.reads M S P l f) = absurd (passed-not-refused _ m i P R)
prints-determined (Prints.reads N T P l e) (Prints.refuses n j S f) = absurd (passed-not-refused _ n j P S)
prints-determined {other = other} {asked} (Prints.reads N T P l e) (Prints.reads M S Q l' f) =
    let same : (M ≡ N) × (S ≡ T) = lines-say-one l' l in
    prints-mesh-determined e (subst₂ (λ M S. PrintsMesh M S asked other) same.0 same.1 f)
