-- What judging and writing the triangle lines of a mesh are lent and do.
use Rattle.std.specs.Prelude.{ℕ, ◌*◌, ◌≤◌, ◌≡◌, List, [], length, Result, Ok, Err}
use Rattle.theory.specs.Calls.{written}
use Rattle.theory.specs.Frames.{Corners, corners, wrong_line, take_triangles}
use Rattle.limits.specs.declared.refusal.Refusal.{Refusal}
use Rattle.limits.specs.declared.refusal.Refusal.TheVariants.{LineWrong}

-- The verdict on the triangle lines of a mesh: all are taken, or "12" at the first that is not.
pub data LinesJudged (taken : Corners) : Result Unit Refusal → Type 0 where
  right : (T : List ℕ) → taken ≡ corners T → LinesJudged taken (Ok tt)
  wrong : (line : ℕ) → taken ≡ wrong_line line → LinesJudged taken (Err (LineWrong line))

-- The lines of F triangles are right, and there is room for their corners.
pub record CornersLent (F : ℕ) (bytes out : List ℕ) : Type 0 where
  pub list : List ℕ
  pub right : take_triangles F 1 [] bytes ≡ corners list
  pub room : 3 * F ≤ length out

-- The corners that the lines say stand in front, three of each triangle.
pub record CornersWritten (F : ℕ) (bytes out out' : List ℕ) : Type 0 where
  pub long : (T : List ℕ) → take_triangles F 1 [] bytes ≡ corners T → length T ≡ 3 * F
  pub leaves : (T : List ℕ) → take_triangles F 1 [] bytes ≡ corners T → out' ≡ written T out
