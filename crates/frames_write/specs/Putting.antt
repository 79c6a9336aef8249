-- Bytes put by a writer, and what the functions that put them are lent.
use Rattle.std.specs.Prelude.{ℕ, ◌+◌, ◌*◌, ◌≤◌, ◌≡◌, List, length}
use Rattle.std.proofs.lemmas.List.Edits.{sets}
use Rattle.theory.specs.Frames.{triangle_line}
use Rattle.frames_write.specs.declared.puts.Writer.{Writer}

-- There is room for the bytes from the writer's place on.
pub record Room (new : List ℕ) (w : Writer) : Type 0 where
  pub fits : w.place + length new ≤ length w.bytes.now

-- They stand there, the others stay, and the next place is after them. The buffer is the same, and as long.
pub record Put (new : List ℕ) (w w' : Writer) : Type 0 where
  pub ends : w'.place ≡ w.place + length new
  pub puts : w'.bytes.now ≡ sets w.bytes.now w.place new
  pub long : length w'.bytes.now ≡ length w.bytes.now
  pub same : w'.bytes.ghost_name ≡ w.bytes.ghost_name

-- A triangle of the list, with room for its frame.
pub record TriangleLent (k : ℕ) (T : List ℕ) (w : Writer) : Type 0 where
  pub listed : 3 * k + 3 ≤ length T
  pub room : Room (triangle_line T k) w
