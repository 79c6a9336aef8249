-- The nine work buffers of an undo keep their lengths, and so their room.
use Prim.Native.Nat.{ℕ, ◌+◌, ◌*◌, ◌≤◌}
use native.Mathlib.Omega.{arith}
use mathlib.Core.Path.{◌≡◌, refl, ◌∙◌}
use mathlib.Core.List.{List}
use lib.ListN.{length}
use Rattle.theory.specs.Splitting.{first_on}
use Rattle.mesh_rings.specs.Ring.{RingBy}
use Rattle.mesh_rings.proofs.Tables.{work-kept}
use Rattle.undo_cover.specs.Cover.{CoverLent}
use Rattle.undo_role.specs.Buffers.{Buffers, buffers, Rooms}
use Rattle.undo_role.specs.Tried.{Undoable}

-- They are as long as they were.
pub record SameLengths (b₀ b : Buffers) : Type 0 where
  pub other : length b.other ≡ length b₀.other
  pub rows : length b.rows ≡ length b₀.rows
  pub ring : length b.ring ≡ length b₀.ring
  pub marks : length b.marks ≡ length b₀.marks
  pub coarse : length b.coarse ≡ length b₀.coarse
  pub numbers : length b.numbers ≡ length b₀.numbers
  pub map : length b.map ≡ length b₀.map
  pub faces : length b.faces ≡ length b₀.faces
  pub table : length b.table ≡ length b₀.table

-- lengths that are kept twice are kept
pub kept_on : {a b c : Buffers} → SameLengths a b → SameLengths b c → SameLengths a c
kept_on K K' = record {
  other = K'.other ∙ K.other;
  rows = K'.rows ∙ K.rows;
  ring = K'.ring ∙ K.ring;
  marks = K'.marks ∙ K.marks;
  coarse = K'.coarse ∙ K.coarse;
  numbers = K'.numbers ∙ K.numbers;
  map = K'.map ∙ K.map;
  faces = K'.faces ∙ K.faces;
  table = K'.table ∙ K.table;
}

module _ {b : Buffers} {marks coarse numbers map : List ℕ} (m : length marks ≡ length b.marks)
    (c : length coarse ≡ length b.coarse) (n : length numbers ≡ length b.numbers) (v : length map ≡ length b.map) where
  -- so they are where a mesh is judged, which writes five of them
  pub judged-kept : {ring : List ℕ} → length ring ≡ length b.ring
      → SameLengths b (buffers b.other b.rows ring marks coarse numbers map b.faces b.table)
  judged-kept r = record {
    other = refl;
    rows = refl;
    ring = r;
    marks = m;
    coarse = c;
    numbers = n;
    map = v;
    faces = refl;
    table = refl;
  }

  -- and where a role is tried, which leaves the covering mesh as it is
  pub tried-kept : {faces table : List ℕ} → length faces ≡ length b.faces → length table ≡ length b.table
      → SameLengths b (buffers b.other b.rows b.ring marks coarse numbers map faces table)
  tried-kept f t = record {
    other = refl;
    rows = refl;
    ring = refl;
    marks = m;
    coarse = c;
    numbers = n;
    map = v;
    faces = f;
    table = t;
  }

-- buffers that keep their lengths have room for a mesh that is not larger
pub rooms-kept : {N F M n : ℕ} {b₀ b : Buffers} → M + 3 * n ≤ N + 3 * F → Rooms N F b₀ → SameLengths b₀ b → Rooms M n b
rooms-kept l R K = record {
  other = work-kept l R.other K.other;
  rows = work-kept l R.rows K.rows;
  ring = work-kept l R.ring K.ring;
  marks = work-kept l R.marks K.marks;
  coarse = work-kept l R.coarse K.coarse;
  numbers = work-kept l R.numbers K.numbers;
  map = work-kept l R.map K.map;
  faces = work-kept l R.faces K.faces;
  table = work-kept l R.table K.table;
}

-- a mesh that can be undone, with the rings of its edges and room, is what `cover` requires
pub cover-lent : {N F : ℕ} {T : List ℕ} {b : Buffers} → Undoable N F T → RingBy (3 * F) (first_on T) b.ring → Rooms N F b
    → CoverLent N F T b.other b.rows b.ring b.marks b.coarse b.numbers b.map
cover-lent U ringed R = record {
  proper = U.proper.otherwise;
  whole = U.whole;
  small = U.halves;
  bound = omega (arith, U.small);
  ringed = ringed;
  other_room = R.other;
  tiles_room = R.rows;
  ring_room = R.ring;
  work1_room = R.marks;
  work2_room = R.coarse;
  work3_room = R.numbers;
  work4_room = R.map;
}
