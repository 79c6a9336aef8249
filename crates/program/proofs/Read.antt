-- From the verdict on an input's length, and from what reading its frames came to, to what is printed.
use Prim.Native.Nat.{ℕ, ◌*◌, ◌≤◌}
use native.Mathlib.Omega.{arith}
use mathlib.Core.Path.{◌≡◌, refl, ap}
use mathlib.Core.List.{List, [], ◌∷◌}
use lib.ListN.{length, take, drop}
use lib.Seq.{take_at}
use Rattle.std.specs.Prelude.{Result, Ok, Err}
use Rattle.theory.specs.Limits.{program_triangles}
use Rattle.theory.specs.Mesh.{triangles}
use Rattle.theory.specs.Refusals.{input_too_long, Passed, Refused}
use Rattle.theory.specs.Frames.{FramesAnswer, LinesSay, read_rules, ReadsFrames}
use Rattle.theory.specs.Program.{PrintsMesh, Prints}
use Rattle.theory.proofs.Refusals.{refused-by-front, refused-by-back, passed-both, refused-above}
use Rattle.theory.proofs.Reader.{passed-read}
use Rattle.theory.proofs.Frames.{read_whole, read_fits}
use Rattle.limits.specs.declared.refusal.Refusal.{Refusal}
use Rattle.limits.specs.Numbers.{number_of, place_of}
use Rattle.limits.specs.Judged.{JudgedAs}
use Rattle.limits.proofs.Judgement.{number-above, judged-ok, judged-err}
use Rattle.answers.specs.declared.counts.Size.{Size}
use Rattle.answers.specs.Said.{frames_said}
use Rattle.program.proofs.Printed.{line_of}

-- ---- 13

-- the verdict on the length of the input
abbrev LongJudged : List ℕ → Result Unit Refusal → Type 0
LongJudged bytes verdict = JudgedAs (input_too_long (length bytes) ∷ []) verdict

-- the line of 13 is right
pub too-long-right : {bytes : List ℕ} {asked : ℕ} (refusal : Refusal) → LongJudged bytes (Err refusal)
    → Prints bytes asked (line_of refusal)
too-long-right {bytes} refusal judged =
    Prints.refuses _ _
    (refused-by-front (input_too_long (length bytes) ∷ []) _ _ _ (judged-err refusal judged)) refl

-- ---- frames

-- A mesh that was read within the program's room: its corners stand in front.
pub record MeshRead (bytes : List ℕ) (N F : ℕ) (out' : List ℕ) : Type 0 where
  pub list : List ℕ
  pub passed : Passed (read_rules (3 * program_triangles) bytes)
  pub says : LinesSay bytes N list
  pub fits : F ≤ program_triangles
  pub front : take (3 * F) out' ≡ list

module _ {bytes out out' : List ℕ} (room : length out ≡ 3 * program_triangles) where
  -- what reading refuses
  read-refused : (refusal : Refusal) → ReadsFrames bytes out (frames_said (Err refusal)) out'
      → Refused (read_rules (3 * program_triangles) bytes) (number_of refusal) (place_of refusal)
  read-refused refusal (ReadsFrames.refuses number place refused e _) =
      rw (ap (λ (a : FramesAnswer). a.refusal) e, ap (λ (a : FramesAnswer). a.place) e, ← room) refused
  read-refused refusal (ReadsFrames.accepts N T _ _ e _) =
      absurd (omega (arith, ap (λ (a : FramesAnswer). a.refusal) e, number-above refusal))

  -- the line of what reading refuses is right
  pub refused-right : {asked : ℕ} (refusal : Refusal) → LongJudged bytes (Ok tt)
      → ReadsFrames bytes out (frames_said (Err refusal)) out' → Prints bytes asked (line_of refusal)
  refused-right refusal judged reads =
      Prints.refuses _ _
      (refused-by-back (input_too_long (length bytes) ∷ []) _ _ _ (judged-ok judged (omega arith))
      (read-refused refusal reads))
      refl

  -- a mesh is read, and its corners stand in front
  pub mesh-read : {size : Size} → ReadsFrames bytes out (frames_said (Ok size)) out'
      → MeshRead bytes size.vertices size.triangles out'
  mesh-read (ReadsFrames.refuses number place refused e _) =
      absurd (omega (
        arith,
        ap (λ (a : FramesAnswer). a.refusal) e,
        refused-above (read_rules (length out) bytes) number place refused (omega arith),
      ))
  mesh-read {size} (ReadsFrames.accepts N T passed says e leaves) =
      let within : Passed (read_rules (3 * program_triangles) bytes) = rw room at passed in
      let read = passed-read _ bytes within says in
      let whole : length T ≡ 3 * triangles T = read_whole _ N bytes T read in
      let vertices : size.vertices ≡ N = ap (λ (a : FramesAnswer). a.vertices) e in
      let faces : size.triangles ≡ triangles T = ap (λ (a : FramesAnswer). a.triangles) e in
      rw (vertices, faces) (record {
        list = T;
        passed = within;
        says = says;
        fits = omega (arith, read_fits _ N bytes T read);
        front = rw leaves (take_at T (drop (length T) out) (3 * triangles T) whole);
      })

-- and what is right for the mesh is right for the bytes
pub mesh-right : {bytes : List ℕ} {N F : ℕ} {out' : List ℕ} {asked : ℕ} → LongJudged bytes (Ok tt)
    → MeshRead bytes N F out' → (text : List ℕ) → PrintsMesh N (take (3 * F) out') asked text → Prints bytes asked text
mesh-right {bytes} {N} judged M text prints =
    Prints.reads N M.list
    (passed-both (input_too_long (length bytes) ∷ []) _ (judged-ok judged (omega arith)) M.passed)
    M.says (rw M.front at prints)
