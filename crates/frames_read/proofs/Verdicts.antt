-- Laws of reading frames whole: the verdict on each part, and what the answer promises.
use Prim.Native.Nat.{ℕ, ◌*◌, ◌≤◌}
use native.Mathlib.Omega.{arith}
use mathlib.Core.Path.{◌≡◌, refl, sym, ap, subst}
use mathlib.Core.Option.{none, some}
use mathlib.Core.List.{List, [], ◌∷◌}
use lib.ListN.{length}
use Rattle.std.specs.Prelude.{Result, Ok, Err, IsErrAnd}
use Rattle.theory.specs.Limits.{most_triangles, most_vertices}
use Rattle.theory.specs.Mesh.{at, triangles}
use Rattle.theory.specs.Refusals.{Rule, too_large, too_short, Passed, Refused}
use Rattle.theory.specs.Frames.{Taken, take_line, take_triangles, FirstLine, first_line, frames_accepted}
use Rattle.theory.specs.Frames.{first_line_wrong, later_line_wrong, read_rooms, read_rules, ReadsFrames}
use Rattle.theory.proofs.Refusals.{large-within, none-short-fits, not-given}
use Rattle.theory.proofs.Reader.{first-line-refused, later-line-refused, lines-passed}
use Rattle.limits.specs.declared.refusal.Refusal.{Refusal}
use Rattle.limits.specs.declared.refusal.Refusal.TheVariants.{LineWrong}
use Rattle.limits.specs.Numbers.{number_of, place_of}
use Rattle.limits.specs.Judged.{Judged, JudgedAs}
use Rattle.limits.proofs.Judgement.{judged-later, judged-front, number-above, judged-ok, judged-err}
use Rattle.answers.specs.declared.counts.Size.{Size}
use Rattle.answers.specs.Said.{frames_said}
use Rattle.frames_read.specs.Judging.{LinesJudged, right, wrong, CornersLent, CornersWritten}

-- the rows of 4 and 5, by the first line
abbrev pub size_rows : ℕ → FirstLine → List Rule
size_rows room first =
    too_large most_triangles first.vertices first.triangles ∷ too_short (read_rooms first.triangles room) ∷ []

-- what a line of two numbers says
abbrev pub said : Taken (List ℕ) → FirstLine
said taken = record { vertices = at taken.value 0; triangles = at taken.value 1; rest = taken.rest }

-- where they are passed, the counts are within the limits, and there is room
record Within (room : ℕ) (first : FirstLine) : Type 0 where
  few : first.triangles ≤ most_triangles
  low : first.vertices ≤ most_vertices
  fits : 3 * first.triangles ≤ room

within : (room : ℕ) (first : FirstLine) → Judged (size_rows room first) 0 0 → Within room first
unfolding Passed
within room first J =
    let passed = judged-ok J (omega arith) in
    let limits = large-within most_triangles first.vertices first.triangles passed.0 in
    record {
      few = limits.0;
      low = limits.1;
      fits = (none-short-fits (read_rooms first.triangles room) (not-given _ passed.1.0)).0;
    }

module _ (bytes : List ℕ) {out : List ℕ} where
  -- a refusal, with nothing written
  refused-read : (refusal : Refusal) → Refused (read_rules (length out) bytes) (number_of refusal) (place_of refusal)
      → ReadsFrames bytes out (frames_said (Err refusal)) out
  refused-read refusal f = ReadsFrames.refuses _ _ f refl refl

  -- one that a `?` returns
  returned : (refusal : Refusal) (result : Result Size Refusal) → IsErrAnd result (λ e. e ≡ refusal)
      → Refused (read_rules (length out) bytes) (number_of refusal) (place_of refusal)
      → ReadsFrames bytes out (frames_said result) out
  returned refusal (Ok size) e f = absurd e
  returned refusal (Err same) e f = rw e (refused-read refusal f)

  -- without a first line as required, 12 is given
  pub no-first-line : take_line 0x4D 2 bytes ≡ none → ReadsFrames bytes out (frames_said (Err (LineWrong 0))) out
  no-first-line e = refused-read (LineWrong 0) (first-line-refused (length out) bytes e)

-- with a first line as required
module _ (bytes : List ℕ) (taken : Taken (List ℕ)) (line : take_line 0x4D 2 bytes ≡ some taken) where
  -- it says its numbers
  first-line-said : first_line bytes ≡ said taken
  unfolding first_line
  first-line-said = cc

  -- 12 is not given for it
  first-line-right : (place : ℕ) → (first_line_wrong bytes).given place → ⊥
  first-line-right place g = let z : ◌≡◌ {A = ℕ} 0 1 = cc (line, g.0) in absurd (omega arith)

  -- 4 or 5 is given
  pub size-refused : {out : List ℕ} (refusal : Refusal) (result : Result Size Refusal)
      → IsErrAnd result (λ e. e ≡ refusal) → JudgedAs (size_rows (length out) (said taken)) (Err refusal)
      → ReadsFrames bytes out (frames_said result) out
  size-refused {out} refusal result e J =
      let P : FirstLine → Type 0 = λ first. JudgedAs (size_rows (length out) first) (Err refusal) in
      let front = judged-front (later_line_wrong bytes ∷ []) (subst P (sym first-line-said) J)
      (λ z. omega (arith, number-above refusal)) in
      returned bytes refusal result e (judged-err refusal (judged-later first-line-right front))

  -- neither is, but a later line is not as required
  pub line-refused : {out : List ℕ} (refusal : Refusal) (result : Result Size Refusal)
      → IsErrAnd result (λ e. e ≡ refusal) → Judged (size_rows (length out) (said taken)) 0 0
      → LinesJudged (take_triangles (said taken).triangles 1 [] taken.rest) (Err refusal)
      → ReadsFrames bytes out (frames_said result) out
  line-refused {out} refusal result e J (wrong at-line f) =
      let w = within (length out) (said taken) J in
      returned bytes refusal result e
      (later-line-refused (length out) bytes taken line w.few w.low w.fits at-line f)

  -- neither is, and the later lines are right: there is room for their corners
  pub corners-lent : {out : List ℕ} → Judged (size_rows (length out) (said taken)) 0 0
      → LinesJudged (take_triangles (said taken).triangles 1 [] taken.rest) (Ok tt)
      → CornersLent (said taken).triangles taken.rest out
  corners-lent {out} J (right T e) =
      record { list = T; right = e; room = (within (length out) (said taken) J).fits }

  -- and once they are written, the mesh is read
  pub mesh-read : {out out' : List ℕ} → Judged (size_rows (length out) (said taken)) 0 0
      → LinesJudged (take_triangles (said taken).triangles 1 [] taken.rest) (Ok tt)
      → CornersWritten (said taken).triangles taken.rest out out'
      → ReadsFrames bytes out (frames_accepted (said taken).vertices (said taken).triangles) out'
  mesh-read {out} J (right T e) W =
      let w = within (length out) (said taken) J in
      let passed = lines-passed (length out) bytes taken line w.few w.low w.fits T e in
      let count : (said taken).triangles ≡ triangles T = omega (arith, W.long T e) in
      ReadsFrames.accepts _ T passed.0 passed.1 (ap (frames_accepted (said taken).vertices) count) (W.leaves T e)
