-- The faces of a text as the judge and the writer of corners meet them.
use Rattle.std.specs.Prelude.{ℕ, ◌+◌, ◌*◌, ◌≤◌, ◌≡◌, List, length, Option, MatchOption, Result, MatchResult}
use Rattle.std.proofs.Math.Option.{none, some}
use Rattle.theory.specs.Calls.{written}
use Rattle.theory.specs.Index.{face_after, corners_said, faces, wrong_at, text_says}
use Rattle.limits.specs.declared.refusal.Refusal.{Refusal}
use Rattle.limits.specs.declared.refusal.Refusal.TheVariants.{TextWrong}
use Rattle.index_read.specs.Runs.{said_by}
use Rattle.index_read.specs.declared.runs.Run.{Run}
use Rattle.index_read.specs.declared.faces.Tally.{Tally}

-- ---- one run

-- A right run, after those so far: how many corners there are now, and how many in the face.
pub record Right (run : Run) (so_far next : Tally) : Type 0 where
  pub after : face_after so_far.face (said_by run) ≡ some next.face
  pub count : next.corners ≡ so_far.corners + length (corners_said (said_by run))

-- What a run makes of those so far: it is right, or at fault.
abbrev pub Stepped : Run → Tally → Option Tally → Type 0
Stepped run so_far answer = MatchOption answer (face_after so_far.face (said_by run) ≡ none) (Right run so_far)

-- ---- the whole text

-- A text that is right, of so many faces of three corners each.
pub record TextRight (text : List ℕ) (F : ℕ) : Type 0 where
  pub list : List ℕ
  pub right : text_says text ≡ faces list
  pub long : length list ≡ 3 * F

-- A refusal that names the place of the fault.
pub record FaultNamed (text : List ℕ) (refusal : Refusal) : Type 0 where
  pub place : ℕ
  pub fault : text_says text ≡ wrong_at place
  pub names : refusal ≡ TextWrong place

-- The verdict on a text: so many faces, or the place of the fault.
abbrev pub TextJudged : List ℕ → Result ℕ Refusal → Type 0
TextJudged text verdict = MatchResult verdict (TextRight text) (FaultNamed text)

-- A text that is right, with room for its corners.
pub record CornersLent (text out : List ℕ) : Type 0 where
  pub list : List ℕ
  pub right : text_says text ≡ faces list
  pub room : length list ≤ length out

-- They are written in front.
pub record CornersWritten (text out out' : List ℕ) : Type 0 where
  pub leaves : (T : List ℕ) → text_says text ≡ faces T → out' ≡ written T out
