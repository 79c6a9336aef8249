-- What document 01 gives for each case of a frame's answer: the frame's numbers, or the number of the refusal.
use Rattle.std.specs.Prelude.{ℕ, List, [], ◌∷◌, Option, Some, None}
use Rattle.std.specs.Borrow.{Bor}
use Rattle.std.proofs.Math.Option.{Option as Maybe, none, some}
use Rattle.theory.specs.Frames.{Taken}

-- "A frame is either read whole", with its numbers and the bytes after it, "or refused".
pub data Given : Type 0 where
  whole : Taken (List ℕ) → Given
  refused : ℕ → Given

-- "12: a frame not as required".
unfoldable pub given : Maybe (Taken (List ℕ)) → Given
given none = refused 12
given (some taken) = whole taken

-- The answer to reading the first frame.
abbrev pub mesh_given : Option (ℕ × ℕ × Bor (List ℕ)) → Given
mesh_given (Some (vertices, triangles, rest)) =
    whole (record { value = vertices ∷ triangles ∷ []; rest = rest.now })
mesh_given None = refused 12

-- The answer to reading a triangle's frame.
abbrev pub triangle_given : Option (ℕ × ℕ × ℕ × Bor (List ℕ)) → Given
triangle_given (Some (a, b, c, rest)) = whole (record { value = a ∷ b ∷ c ∷ []; rest = rest.now })
triangle_given None = refused 12
