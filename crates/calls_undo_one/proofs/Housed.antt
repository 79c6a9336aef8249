-- The list that an undo is given and the room for it in the nine work buffers, which both undo calls have: from rows 1
-- to 5 that are passed, by way of `judge`, to a mesh that can be undone.
use Prim.Native.Nat.{ℕ, ◌*◌, ◌≤◌}
use native.Mathlib.Omega.{arith}
use mathlib.Core.List.{List, [], ◌∷◌, ◌++◌, map}
use lib.ListN.{length}
use Rattle.theory.specs.Limits.{most_triangles}
use Rattle.theory.specs.Mesh.{triangles}
use Rattle.theory.specs.Refusals.{Room, too_short, Short, mesh_rules, Passed}
use Rattle.theory.specs.Calls.{work_rooms, undo_number_rules}
use Rattle.theory.proofs.Refusals.{asked-known, Sized, sized, not-given, Fits, none-short-fits, passed-proper}
use Rattle.limits.specs.Judged.{Judged}
use Rattle.limits.proofs.Judgement.{judged-ok}
use Rattle.mesh_counts.specs.Counts.{CountLent}
use Rattle.mesh_judge.specs.Judging.{JudgeLent}
use Rattle.undo_role.specs.Buffers.{Buffers, Rooms}
use Rattle.undo_role.specs.Tried.{Undoable}
use Rattle.undo_role.proofs.Rooms.{SameLengths, rooms-kept}
use Rattle.calls_undo_one.specs.Undoing.{works}

-- ---- the rows 1 to 5

-- They are passed: no more is asked than may be, the list's sizes are right, and every lent buffer is as long as
-- needed.
pub record SizesPassed (most N : ℕ) (T : List ℕ) (asked : ℕ) (rooms : List Room) : Type 0 where
  pub passed : Passed (undo_number_rules most N (length T) asked ++ (too_short rooms ∷ []))
  pub known : asked ≤ most
  pub sizes : Sized most_triangles N (length T)
  pub fits : Fits rooms

-- so it is where they come to 0
pub sizes-passed : {most N : ℕ} {T : List ℕ} {asked : ℕ} {rooms : List Room}
    → Judged (undo_number_rules most N (length T) asked ++ (too_short rooms ∷ [])) 0 0 → SizesPassed most N T asked rooms
unfolding Passed
sizes-passed {most = most} {N} {T} {asked} {rooms} judged =
    let passed = judged-ok judged (omega arith) in
    record {
      passed = passed;
      known = asked-known most asked passed.0;
      sizes = sized most_triangles N (length T) (passed.1.0, (passed.1.1.0, (passed.1.1.1.0, tt)));
      fits = none-short-fits rooms (not-given (Short rooms) passed.1.1.1.1.0);
    }

-- ---- a list and its room

-- A list whose sizes are right, and room for it in every work buffer.
pub record Housed (N : ℕ) (T : List ℕ) (b : Buffers) : Type 0 where
  pub sizes : Sized most_triangles N (length T)
  pub rooms : Rooms N (triangles T) b

-- so it is where the buffers are as long as needed
pub housed : {N : ℕ} {T : List ℕ} {b : Buffers} → Sized most_triangles N (length T)
    → Fits (work_rooms N (triangles T) (map length (works b))) → Housed N T b
housed sizes fits = record {
  sizes = sizes;
  rooms = record {
    other = record { room = fits.0 };
    rows = record { room = fits.1.0 };
    ring = record { room = fits.1.1.0 };
    marks = record { room = fits.1.1.1.0 };
    coarse = record { room = fits.1.1.1.1.0 };
    numbers = record { room = fits.1.1.1.1.1.0 };
    map = record { room = fits.1.1.1.1.1.1.0 };
    faces = record { room = fits.1.1.1.1.1.1.1.0 };
    table = record { room = fits.1.1.1.1.1.1.1.1.0 };
  };
}

-- and so it stays while they keep their lengths
pub housed-kept : {N : ℕ} {T : List ℕ} {b₀ b : Buffers} → SameLengths b₀ b → Housed N T b₀ → Housed N T b
housed-kept K H = record { sizes = H.sizes; rooms = rooms-kept (omega arith) H.rooms K }

module _ {N : ℕ} {T : List ℕ} {b : Buffers} (H : Housed N T b) where
  -- what `judge` requires
  pub judgeable : JudgeLent N (triangles T) T b.ring b.marks b.coarse b.numbers b.map
  judgeable = record {
    whole = record { whole = omega (arith, H.sizes.threes) };
    small = omega (arith, H.sizes.few);
    bound = omega (arith, H.sizes.low);
    some = H.sizes.some;
    ring_room = H.rooms.ring;
    work1_room = H.rooms.marks;
    work2_room = H.rooms.coarse;
    work3_room = H.rooms.numbers;
    work4_room = H.rooms.map;
  }

  -- what the counting of edges over their rings requires
  pub countable : CountLent (3 * triangles T) b.ring
  countable = record { small = omega (arith, H.sizes.few); room = omega (arith, H.rooms.ring.room) }

  -- past 6 to 10 the mesh can be undone
  pub undoable : Passed (mesh_rules N T) → Undoable N (triangles T) T
  undoable passed = record {
    proper = passed-proper N T (omega (arith, H.sizes.threes)) passed;
    whole = omega (arith, H.sizes.threes);
    some = H.sizes.some;
    small = omega (arith, H.sizes.few, H.sizes.low);
    halves = omega (arith, H.sizes.few);
  }
