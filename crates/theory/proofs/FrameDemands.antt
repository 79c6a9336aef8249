-- What the promises of the two calls for frames say of one another, limits and room included: written frames read back
-- to the mesh, a file that is read and written again is its normal spelling, which stays as it is, and which refusals
-- are given at all. That some result keeps each promise is said too.
use Prim.Native.Nat.{ℕ, ◌+◌, ◌*◌, ◌≤◌, ◌<◌}
use native.Mathlib.Omega.{arith}
use mathlib.Core.Path.{◌≡◌, refl, sym, ap, ap₂, ◌∙◌, subst}
use mathlib.Core.Logic.{◌⊎◌, inl, inr, ◌↔◌}
use mathlib.Core.List.{List}
use lib.ListN.{length}
use Rattle.theory.specs.Limits.{most_bytes, program_triangles}
use Rattle.theory.specs.Mesh.{at, triangles}
use Rattle.theory.specs.Refusals.{Passed, Refused}
use Rattle.theory.specs.Calls.{written}
use Rattle.theory.specs.Frames.{FramesAnswer, frames_accepted, frames, LinesSay, read_rules, ReadsFrames}
use Rattle.theory.specs.Frames.{write_rules, WritesFrames}
use Rattle.theory.specs.Demands.{found_corners, found_bytes, normal, OfUpperAndLF}
use Rattle.theory.proofs.Refusals.{refused-above, refused-number, Fitting, fitting-passed, passed-fitting}
use Rattle.theory.proofs.Determined.{reads-frames-determined, writes-frames-determined}
use Rattle.theory.proofs.Results.{take-written}
use Rattle.theory.proofs.Reader.{mesh, read_frames, read-passed, passed-read}
use Rattle.theory.proofs.Frames.{read-written, read_whole, read-few, read_low, read_fits, read_small, read-long}
use Rattle.theory.proofs.Frames.{frames-length}
use Rattle.theory.proofs.Normal.{normal-normal, normal-is, normal-own}

-- ---- which refusals are given

-- the rows of reading have three numbers
read-row-numbers : (out : ℕ) (bytes : List ℕ) (n p : ℕ) → Refused (read_rules out bytes) n p
    → (n ≡ 4) ⊎ ((n ≡ 5) ⊎ (n ≡ 12))
unfolding Refused
read-row-numbers out bytes n p (inl r) = inr (inr r.0)
read-row-numbers out bytes n p (inr (_, inl r)) = inl r.0
read-row-numbers out bytes n p (inr (_, inr (_, inl r))) = inr (inl r.0)
read-row-numbers out bytes n p (inr (_, inr (_, inr (_, inl r)))) = inr (inr r.0)
read-row-numbers out bytes n p (inr (_, inr (_, inr (_, inr (_, r))))) = absurd r

-- "Reading gives 12 for the first line, then 4, 5, then 12 for later lines": no other number is answered
pub read-refusals : {bytes out out' : List ℕ} {answer : FramesAnswer} → ReadsFrames bytes out answer out'
    → (answer.refusal ≡ 0) ⊎ ((answer.refusal ≡ 4) ⊎ ((answer.refusal ≡ 5) ⊎ (answer.refusal ≡ 12)))
read-refusals {bytes} {out} (ReadsFrames.refuses n p R e _) =
    inr (subst (λ (m : ℕ). (m ≡ 4) ⊎ ((m ≡ 5) ⊎ (m ≡ 12))) (ap (λ (a : FramesAnswer). a.refusal) (sym e))
    (read-row-numbers (length out) bytes n p R))
read-refusals (ReadsFrames.accepts _ _ _ _ e _) = inl (ap (λ (a : FramesAnswer). a.refusal) e)

-- "Writing frames gives 2, 4, 5": no other number is answered
pub write-refusals : {N : ℕ} {T out out' : List ℕ} {answer : FramesAnswer} → WritesFrames N T out answer out'
    → (answer.refusal ≡ 0) ⊎ ((answer.refusal ≡ 2) ⊎ ((answer.refusal ≡ 4) ⊎ (answer.refusal ≡ 5)))
write-refusals {N} {T} {out} (WritesFrames.refuses n p R e _) =
    inr (subst (λ (m : ℕ). (m ≡ 2) ⊎ ((m ≡ 4) ⊎ (m ≡ 5))) (ap (λ (a : FramesAnswer). a.refusal) (sym e))
    (refused-number (write_rules N (length T) (length out)) n p R))
write-refusals (WritesFrames.accepts _ e _) = inl (ap (λ (a : FramesAnswer). a.refusal) e)

-- ---- what writing accepts

-- A mesh that can be written: whole, within the limits, and its frames fit into the room. No corner is judged.
abbrev pub Writable : ℕ → List ℕ → ℕ → Type 0
Writable N T room = Fitting N (length T) (record { lent = room; needed = 11 + 15 * triangles T })

-- it is refused by no row
pub writable-passed : (N : ℕ) (T out : List ℕ) → Writable N T (length out)
    → Passed (write_rules N (length T) (length out))
writable-passed N T out W = fitting-passed N (length T) _ W

-- and what is refused by no row is such a mesh
pub passed-writable : (N : ℕ) (T out : List ℕ) → Passed (write_rules N (length T) (length out))
    → Writable N T (length out)
passed-writable N T out passed = passed-fitting N (length T) _ passed

-- What an acceptance by writing says, of the bytes as a caller finds them.
pub record Wrote (N : ℕ) (T out : List ℕ) (answer : FramesAnswer) (out' : List ℕ) : Type 0 where
  pub writable : Writable N T (length out)
  pub found : found_bytes answer out' ≡ frames N T

-- where writing refuses nothing, it is such an acceptance
pub write-accepted : {N : ℕ} {T out out' : List ℕ} {answer : FramesAnswer} → WritesFrames N T out answer out'
    → answer.refusal ≡ 0 → Wrote N T out answer out'
write-accepted {N} {T} {out} (WritesFrames.refuses n p R e _) accepts =
    absurd (omega (arith, refused-above _ n p R (omega arith), ap (λ (a : FramesAnswer). a.refusal) e, accepts))
write-accepted {N} {T} {out} (WritesFrames.accepts passed e f) accepts = record {
  writable = passed-writable N T out passed;
  found = ap₂ found_bytes e f ∙ take-written (frames N T) out (frames-length N T);
}

-- ---- what reading accepts

-- What an acceptance by reading says, of the mesh as a caller finds it.
pub record Found (bytes out : List ℕ) (answer : FramesAnswer) (out' : List ℕ) : Type 0 where
  pub counted : triangles (found_corners answer out') ≡ answer.triangles
  pub is : read_frames (length out) bytes ≡ mesh answer.vertices (found_corners answer out')

-- a mesh that was read is found in the output buffer
found-read : {bytes out out' : List ℕ} {answer : FramesAnswer} {N : ℕ} {T : List ℕ}
    → read_frames (length out) bytes ≡ mesh N T → answer ≡ frames_accepted N (triangles T) → out' ≡ written T out
    → Found bytes out answer out'
found-read {bytes} {out} {out'} {answer} {N} {T} r e f =
    let found : found_corners answer out' ≡ T =
    ap₂ found_corners e f ∙ take-written T out (read_whole (length out) N bytes T r) in
    record {
      counted = ap triangles found ∙ ap (λ (a : FramesAnswer). a.triangles) (sym e);
      is = r ∙ ap₂ mesh (ap (λ (a : FramesAnswer). a.vertices) (sym e)) (sym found);
    }

-- where reading refuses nothing, it is such an acceptance
pub read-accepted : {bytes out out' : List ℕ} {answer : FramesAnswer} → ReadsFrames bytes out answer out'
    → answer.refusal ≡ 0 → Found bytes out answer out'
read-accepted (ReadsFrames.refuses n p R e _) accepts =
    absurd (omega (arith, refused-above _ n p R (omega arith), ap (λ (a : FramesAnswer). a.refusal) e, accepts))
read-accepted {bytes} {out} (ReadsFrames.accepts N T passed says e f) accepts =
    found-read (passed-read (length out) bytes passed says) e f

-- ---- written frames read back to the mesh

-- Corners as four digits hold them, which any list of 16-bit numbers has.
abbrev pub FourDigitCorners : List ℕ → Type 0
FourDigitCorners T = (c : ℕ) → c < length T → at T c < 65536

module _ {N : ℕ} {T o o' : List ℕ} {a : FramesAnswer} (W : WritesFrames N T o a o') (accepts : a.refusal ≡ 0)
    (small : FourDigitCorners T) where
  -- the bytes that writing left are read as the mesh
  written_is : {room : ℕ} → 3 * triangles T ≤ room → read_frames room (found_bytes a o') ≡ mesh N T
  written_is {room} enough =
      let w = write-accepted W accepts in
      ap (read_frames room) w.found
      ∙ read-written room N T w.writable.whole w.writable.few w.writable.low small enough

  -- frames that were written are accepted by reading, with room enough, and leave the mesh in the buffer
  pub written-accepted : {out : List ℕ} → 3 * triangles T ≤ length out
      → ReadsFrames (found_bytes a o') out (frames_accepted N (triangles T)) (written T out)
  written-accepted {out} enough =
      let passed : Passed (read_rules (length out) (found_bytes a o')) × LinesSay (found_bytes a o') N T =
      read-passed (length out) (found_bytes a o') (written_is enough) in
      ReadsFrames.accepts N T passed.0 passed.1 refl refl

  -- no other result keeps reading's promise: they read back to the mesh, and the rest of the buffer stays
  pub written-reads-back : {out out' : List ℕ} {answer : FramesAnswer} → 3 * triangles T ≤ length out
      → ReadsFrames (found_bytes a o') out answer out'
      → (answer ≡ frames_accepted N (triangles T)) × (out' ≡ written T out)
  written-reads-back enough R = reads-frames-determined R (written-accepted enough)

-- ---- a file that was read and is written again is its normal spelling

module _ {bytes out out' : List ℕ} {answer : FramesAnswer} (R : ReadsFrames bytes out answer out')
    (accepts : answer.refusal ≡ 0) where
  -- the mesh that was read can be written
  read-writable : {room : ℕ} → 11 + 15 * answer.triangles ≤ room
      → Writable answer.vertices (found_corners answer out') room
  read-writable enough =
      let r = read-accepted R accepts in
      record {
        whole = read_whole _ _ bytes _ r.is;
        few = read-few _ _ bytes _ r.is;
        low = read_low _ _ bytes _ r.is;
        fits = omega (arith, r.counted);
      }

  -- a mesh that was read is accepted by writing, with room enough, and leaves the file's normal spelling in the buffer
  pub read-can-be-written : {o : List ℕ} → 11 + 15 * answer.triangles ≤ length o
      → WritesFrames answer.vertices (found_corners answer out') o
      (frames_accepted answer.vertices answer.triangles) (written (normal bytes) o)
  read-can-be-written {o} enough =
      let r = read-accepted R accepts in
      WritesFrames.accepts (writable-passed answer.vertices (found_corners answer out') o (read-writable enough))
      (ap (frames_accepted answer.vertices) (sym r.counted))
      (ap (λ (b : List ℕ). written b o) (normal-is _ _ bytes _ r.is))

  -- no other result keeps writing's promise: it writes the normal spelling, and the rest of the buffer stays
  pub read-writes-normal : {o o' : List ℕ} {a : FramesAnswer} → 11 + 15 * answer.triangles ≤ length o
      → WritesFrames answer.vertices (found_corners answer out') o a o'
      → (a ≡ frames_accepted answer.vertices answer.triangles) × (o' ≡ written (normal bytes) o)
  read-writes-normal enough W = writes-frames-determined W (read-can-be-written enough)

  -- which is what a caller finds
  pub found-normal : {o o' : List ℕ} {a : FramesAnswer} → 11 + 15 * answer.triangles ≤ length o
      → WritesFrames answer.vertices (found_corners answer out') o a o' → found_bytes a o' ≡ normal bytes
  found-normal enough W =
      let accepted = ap (λ (b : FramesAnswer). b.refusal) (read-writes-normal enough W).0 in
      (write-accepted W accepted).found ∙ sym (normal-is _ _ bytes _ (read-accepted R accepts).is)

  -- it is the file itself exactly if that is of upper case and LF
  pub found-own : {o o' : List ℕ} {a : FramesAnswer} → 11 + 15 * answer.triangles ≤ length o
      → WritesFrames answer.vertices (found_corners answer out') o a o'
      → (found_bytes a o' ≡ bytes) ↔ OfUpperAndLF bytes
  found-own enough W =
      let own = normal-own _ _ bytes _ (read-accepted R accepts).is in
      (λ e. own.0 (sym (found-normal enough W) ∙ e), λ U. found-normal enough W ∙ own.1 U)

-- ---- to read and to write once more changes nothing

module _ {bytes out out' : List ℕ} {answer : FramesAnswer} (R : ReadsFrames bytes out answer out')
    (accepts : answer.refusal ≡ 0) {o o' : List ℕ} {a : FramesAnswer}
    (enough : 11 + 15 * answer.triangles ≤ length o)
    (W : WritesFrames answer.vertices (found_corners answer out') o a o') {next next' : List ℕ} {again : FramesAnswer}
    (room : 3 * answer.triangles ≤ length next) (S : ReadsFrames (found_bytes a o') next again next') where
  -- what was written reads back
  reread : (again ≡ frames_accepted answer.vertices (triangles (found_corners answer out')))
      × (next' ≡ written (found_corners answer out') next)
  reread =
      let r = read-accepted R accepts in
      written-reads-back W (ap (λ (b : FramesAnswer). b.refusal) (read-writes-normal R accepts enough W).0)
      (read_small _ _ bytes _ r.is) (omega (arith, room, r.counted)) S

  -- it is read as the file before it was
  pub normal-answered : again ≡ frames_accepted answer.vertices answer.triangles
  normal-answered = reread.0 ∙ ap (frames_accepted answer.vertices) (read-accepted R accepts).counted

  -- with the same corners
  pub normal-same-corners : found_corners again next' ≡ found_corners answer out'
  normal-same-corners =
      ap₂ found_corners reread.0 reread.1
      ∙ take-written (found_corners answer out') next (read_whole _ _ bytes _ (read-accepted R accepts).is)

  -- which are written as the same bytes
  pub normal-writes-back : {p p' : List ℕ} {b : FramesAnswer} → 11 + 15 * again.triangles ≤ length p
      → WritesFrames again.vertices (found_corners again next') p b p' → found_bytes b p' ≡ found_bytes a o'
  normal-writes-back fits X =
      let spelled : found_bytes a o' ≡ normal bytes = found-normal R accepts enough W in
      found-normal S (ap (λ (b : FramesAnswer). b.refusal) normal-answered) fits X
      ∙ ap normal spelled ∙ normal-normal bytes ∙ sym spelled

-- ---- 13 keeps no file out that the program has room for

-- "A full file of 1,024 triangles now takes 16,396 bytes": no file that is read there is longer
pub read-not-too-long : {bytes : List ℕ} {N : ℕ} {T : List ℕ} → Passed (read_rules (3 * program_triangles) bytes)
    → LinesSay bytes N T → length bytes ≤ most_bytes
read-not-too-long {bytes} passed says =
    let r = passed-read (3 * program_triangles) bytes passed says in
    omega (arith, read-long _ _ bytes _ r, read_fits _ _ bytes _ r)
