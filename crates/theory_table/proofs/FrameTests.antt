-- Whether a row of reading frames holds, as a test that computes.
use Prim.Native.Nat.{ℕ, ◌*◌, ◌≤◌}
use native.Mathlib.Omega.{arith}
use mathlib.Core.Path.{◌≡◌, refl, sym, ap, ◌∙◌}
use mathlib.Core.Logic.{◌⊎◌, inl, inr}
use mathlib.Core.Bool.{Bool, true, false, not, ◌&&◌, ◌||◌}
use mathlib.Core.Option.{Option, none, some}
use mathlib.Core.List.{List, []}
use lib.Dec.{T as So, T_not, eqb, ltb, ltb→lt, lt→ltb}
use lib.ListN.{length}
use Rattle.theory.specs.Limits.{most_triangles, most_vertices}
use Rattle.theory.specs.Mesh.{at, triangles}
use Rattle.theory.specs.Calls.{written}
use Rattle.theory.specs.Frames.{FramesAnswer, frames_refusal, frames_accepted, digit_value, take_digits, take_numbers}
use Rattle.theory.specs.Frames.{take_lf, take_end, take_line, take_triangles, ReadsFrames}
use Rattle.theory.proofs.Tests.{and_sound, and₃-sound, eq→eqb}
use Rattle.theory.proofs.Reader.{Frames, mesh, refused, mesh_of, read_frames, read-refused, read-passed}
use Rattle.theory_table.specs.Table.{reads, Satisfied}
use Rattle.theory_table.proofs.Equal.{equal_lists, equal_lists-sound, equal_frames, equal_frames-sound}

-- ---- more room

-- what is true of both choices of a test for two choosers is true of the ones taken
by-test₂ : {B : Type 0} (P : B → B → Type 0) {x y x' y' : B} (t : Bool) → P x x' → P y y'
    → P (elim t [ true ↦ x | false ↦ y ]) (elim t [ true ↦ x' | false ↦ y' ])
by-test₂ P true p q = p
by-test₂ P false p q = q

-- the same of the choices by an option
by-option₂ : {A B : Type 0} (P : B → B → Type 0) {x x' : B} {f f' : A → B} (o : Option A) → P x x'
    → ((a : A) → P (f a) (f' a)) → P (elim o [ none ↦ x | some a ↦ f a ]) (elim o [ none ↦ x' | some a ↦ f' a ])
by-option₂ P none p q = p
by-option₂ P (some a) p q = q a

-- the same, or else refused for want of room
abbrev SameOrFive : Frames → Frames → Type 0
SameOrFive f g = (f ≡ refused 5 0) ⊎ (g ≡ f)

-- where the room is enough, more room reads the same
more_room : (room larger : ℕ) (bytes : List ℕ) → room ≤ larger
    → SameOrFive (read_frames room bytes) (read_frames larger bytes)
unfolding read_frames
more_room room larger bytes l =
    by-option₂ SameOrFive (take_line 0x4D 2 bytes) (inr refl) λ taken.
    let N : ℕ = at taken.value 0 in
    let F : ℕ = at taken.value 1 in
    by-test₂ SameOrFive (ltb most_triangles F || ltb most_vertices N) (inr refl)
    (roomy (mesh_of N (take_triangles F 1 [] taken.rest)) (ltb room (3 * F)) (ltb larger (3 * F))
    (λ t. lt→ltb room (3 * F) (omega (arith, ltb→lt larger (3 * F) t))))
  where
    roomy : (f : Frames) (a b : Bool) → (So b → So a)
        → SameOrFive (elim a [ true ↦ refused 5 0 | false ↦ f ]) (elim b [ true ↦ refused 5 0 | false ↦ f ])
    roomy f true b h = inl refl
    roomy f false true h = absurd (h tt)
    roomy f false false h = inr refl

-- ---- the row

-- whether the answer and what is written are those of what was read, and it was not refused for want of room
unfoldable pub read_test : Frames → FramesAnswer → List ℕ → Bool
unfolding equal_frames equal_lists
read_test (mesh N T) answer new = equal_frames answer (frames_accepted N (triangles T)) && equal_lists new T
read_test (refused number place) answer new =
    not (eqb number 5) && (equal_frames answer (frames_refusal number place) && equal_lists new [])

-- the same of a row
unfoldable pub read_row_test : ℕ → List ℕ → FramesAnswer → List ℕ → Bool
unfolding read_test read_frames take_line take_triangles mesh_of take_digits take_numbers take_end take_lf digit_value
read_row_test room bytes answer new = read_test (read_frames room bytes) answer new

-- then the row's result satisfies the promise
pub read_row_test-sound : (room : ℕ) (bytes : List ℕ) (answer : FramesAnswer) (new : List ℕ)
    → So (read_row_test room bytes answer new) → Satisfied (reads room bytes answer new)
unfolding read_row_test Satisfied read_test
read_row_test-sound room bytes answer new t out enough =
    go (read_frames room bytes) refl t (more_room room (length out) bytes enough)
  where
    passes : (N : ℕ) (T : List ℕ) → read_frames (length out) bytes ≡ mesh N T → answer ≡ frames_accepted N (triangles T)
        → new ≡ T → ReadsFrames bytes out answer (written new out)
    passes N T e a w =
        let passed = read-passed (length out) bytes e in
        ReadsFrames.accepts N T passed.0 passed.1 a (ap (λ new. written new out) w)

    go : (f : Frames) → read_frames room bytes ≡ f → So (read_test f answer new)
        → SameOrFive (read_frames room bytes) (read_frames (length out) bytes)
        → ReadsFrames bytes out answer (written new out)
    go (mesh N T) e s (inl five) =
        let clash : mesh N T ≡ refused 5 0 = sym e ∙ five in
        let z : ◌≡◌ {A = ℕ} 0 1 = cc in
        absurd (omega arith)
    go (mesh N T) e s (inr same) =
        let both = and_sound (equal_frames answer (frames_accepted N (triangles T))) (equal_lists new T) s in
        passes N T (same ∙ e) (equal_frames-sound answer (frames_accepted N (triangles T)) both.0)
        (equal_lists-sound new T both.1)
    go (refused number place) e s (inl five) =
        let same : refused number place ≡ refused 5 0 = sym e ∙ five in
        absurd (T_not (eqb number 5) (and_sound (not (eqb number 5)) _ s).0 (eq→eqb number 5 cc))
    go (refused number place) e s (inr same) =
        let all = and₃-sound (not (eqb number 5)) (equal_frames answer (frames_refusal number place)) (equal_lists new []) s in
        ReadsFrames.refuses number place (read-refused (length out) bytes (same ∙ e))
        (equal_frames-sound answer (frames_refusal number place) all.1)
        (ap (λ new. written new out) (equal_lists-sound new [] all.2))
