-- What the functions that count and put faces are lent. What they put is said by `Put` of frames_write.
use Rattle.std.specs.Prelude.{ℕ, ◌+◌, ◌*◌, ◌≤◌, List, length}
use Rattle.theory.specs.Index.{face_text}
use Rattle.frames_write.specs.declared.puts.Writer.{Writer}
use Rattle.frames_write.specs.Putting.{Room}

-- A face of the list.
pub record Listed (k : ℕ) (T : List ℕ) : Type 0 where
  pub listed : 3 * k + 3 ≤ length T

-- A face of the list, with room for its text.
pub record FaceLent (k : ℕ) (T : List ℕ) (w : Writer) : Type 0 where
  pub listed : 3 * k + 3 ≤ length T
  pub room : Room (face_text T k) w
