-- What the calls of `undo_least` are lent, each from what it is lent itself and from the calls before, and what a
-- level comes to: the coarser mesh has a quarter of the triangles and no more vertices.
use Rattle.std.specs.Prelude.{None, Ok, Err}
use Prim.Native.Nat.{ℕ, ◌*◌, ◌%◌, ◌≤◌}
use native.Mathlib.Omega.{arith}
use mathlib.Core.Path.{◌≡◌}
use mathlib.Core.Logic.{◌≢◌}
use mathlib.Core.List.{List}
use lib.ListN.{length, take, length-take}
use Rattle.theory.proofs.Finite.{match-size}
use Rattle.theory.proofs.Determined.{quarter, role-within}
use Rattle.theory.proofs.OldRule.{no-role-by-old}
use Rattle.answers.specs.declared.taken.RoleRead.{RoleRead}
use Rattle.answers.specs.declared.taken.NoReading.{NoReading}
use Rattle.mesh_rings.specs.Making.{RingLent}
use Rattle.undo_cover.specs.Cover.{CoverLent, CoverMade}
use Rattle.undo_role.specs.Buffers.{Buffers, Rooms}
use Rattle.undo_role.specs.Tried.{Undoable, RolesLent}
use Rattle.undo_role.proofs.Rooms.{SameLengths, rooms-kept, cover-lent}
use Rattle.undo_roles.specs.Least.{LeastTried, found as least_found, inside_out as least_inside_out, none as least_none}
use Rattle.undo_roles.proofs.Uneven.{uneven-none}
use Rattle.undo_level.specs.Level.{LevelLent, Coarser, LevelTried, none}

-- ---- the coarser mesh

-- A mesh of n triangles on M vertices in the first entries of `coarse` is smaller: it has a quarter of F triangles and
-- at most N vertices.
pub record Smaller (N F : ℕ) (coarse : List ℕ) (M n : ℕ) : Type 0 where
  pub fit : 3 * n ≤ length coarse
  pub whole : length (take (3 * n) coarse) ≡ 3 * n
  pub fourth : F ≡ 4 * n
  pub fewer : M ≤ N

-- the role of a coarser mesh is at most 3
pub coarser-role : {N F : ℕ} {T coarse : List ℕ} {role M n : ℕ} → Coarser N F T coarse role M n → role ≤ 3
coarser-role C = role-within C.returned.in_role

-- ---- the calls of a level

-- where the triangles are no multiple of four, no role has a reading
pub level-uneven : {N F : ℕ} {T coarse ring : List ℕ} → Undoable N F T → F % 4 ≢ 0
    → LevelTried N F T coarse ring None
level-uneven {F = F} U uneven = none (no-role-by-old (uneven-none F U.whole uneven))

module _ {N F : ℕ} {T coarse map faces : List ℕ} where
  -- where a reading is taken, there is a coarser mesh
  pub least-found : {r : RoleRead} → LeastTried N F T coarse map faces (Ok r)
      → Coarser N F T coarse r.role r.vertices r.triangles
  least-found (least_found l R) = record { least = l; map = map; faces = faces; returned = R }

  -- where none is, no role has a reading, so that nothing is taken of the level
  pub least-none : {ring : List ℕ} {why : NoReading} → LeastTried N F T coarse map faces (Err why)
      → LevelTried N F T coarse ring None
  least-none (least_inside_out refuted _ _) = none refuted
  least-none (least_none refuted) = none (no-role-by-old refuted)

module _ {N F : ℕ} {T : List ℕ} {b : Buffers} (L : LevelLent N F T b) where
  -- what `cover` is lent
  pub level-cover : CoverLent N F T b.other b.rows b.ring b.marks b.coarse b.numbers b.map
  level-cover = cover-lent L.level.mesh L.level.ringed L.rooms

  module _ {b' : Buffers} (K : SameLengths b b') where
    -- what `least_role` is lent
    pub level-roles : CoverMade F T b'.other b'.rows b'.ring → RolesLent N F T b'
    level-roles made = record { mesh = L.level.mesh; made = made; rooms = rooms-kept (omega arith) L.rooms K }

    module _ {role M n : ℕ} (C : Coarser N F T b'.coarse role M n) where
      -- the coarser mesh is smaller
      pub level-smaller : Smaller N F b'.coarse M n
      level-smaller =
          let U = L.level.mesh in
          let R = C.returned.is in
          let room : 3 * F ≤ length b'.coarse = omega (arith, L.rooms.coarse.room, K.coarse) in
          let size = length-take (3 * n) b'.coarse in
          record {
            fit = omega (arith, U.whole, U.some, quarter R, size, room);
            whole = omega (arith, U.whole, U.some, quarter R, size, room);
            fourth = omega (arith, U.whole, U.some, quarter R, size, room);
            fewer = omega (arith, match-size R.matched.vertices);
          }

      -- it can be undone in its turn
      pub level-undoable : Undoable M n (take (3 * n) b'.coarse)
      level-undoable =
          let U = L.level.mesh in
          let S = level-smaller in
          record {
            proper = C.returned.is.proper;
            whole = S.whole;
            some = omega (arith, U.some, S.fourth);
            small = omega (arith, U.small, S.fourth, S.fewer);
            halves = omega (arith, U.halves, S.fourth);
          }

      -- and has room
      pub level-rooms : Rooms M n b'
      level-rooms = rooms-kept (omega (arith, level-smaller.fewer, level-smaller.fourth)) L.rooms K

      -- what `ring_table` is lent
      pub level-rings : RingLent M n (take (3 * n) b'.coarse) b'.marks b'.numbers b'.map b'.faces
          b'.ring
      level-rings =
          let U = level-undoable in
          record {
            listed = record { whole = U.whole; small = U.halves; below = U.proper.otherwise.below };
            bound = omega (arith, U.small);
            greater_room = level-rooms.marks;
            head_room = level-rooms.numbers;
            stamp_room = level-rooms.map;
            last_room = level-rooms.faces;
            ring_room = level-rooms.ring;
          }
