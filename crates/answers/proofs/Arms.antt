-- What is taken is a reading, or it is an error.
use Prim.Native.Nat.{ℕ}
use mathlib.Core.Path.{◌≡◌, refl, sym}
use mathlib.Core.Bool.{true≢false}
use Rattle.std.specs.Prelude.{Ok, Err, IsErr}
use Rattle.answers.specs.Taken.{Taken, reads}

-- a reading, whatever its numbers, is no error
pub not-reading : {A : Type 0} (role vertices triangles : ℕ) → IsErr (reads role vertices triangles) → A
not-reading role vertices triangles e = absurd (true≢false (sym e))

-- what is no reading, whatever its numbers, is one
pub no-reading : (found : Taken)
    → ((role vertices triangles : ℕ) → ¬ (found ≡ reads role vertices triangles)) → IsErr found
no-reading (Ok r) n = absurd (n r.role r.vertices r.triangles refl)
no-reading (Err why) n = refl
