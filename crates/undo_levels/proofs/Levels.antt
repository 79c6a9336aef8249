-- What the calls of `undo_levels` are lent, and that a level undone and the levels of the coarser mesh make document
-- 01's levels.
use Rattle.std.specs.Prelude.{Some, None}
use Prim.Native.Nat.{ℕ, suc, ◌+◌, ◌-◌, ◌*◌, ◌≤◌, ◌<◌}
use native.Mathlib.Omega.{arith}
use native.Mathlib.Numerals.{add-one}
use mathlib.Core.Path.{◌≡◌, refl, sym, ap, subst, subst₂, ◌∙◌}
use mathlib.Core.Logic.{◌≢◌}
use mathlib.Core.List.{List, [], ◌∷◌, ◌++◌}
use lib.ListN.{length, take, drop}
use Rattle.theory.specs.Limits.{most_levels}
use Rattle.theory.specs.Mesh.{Rotated}
use Rattle.theory.specs.Splitting.{first_on}
use Rattle.theory.specs.Choice.{NoRole, Several, reached, stopped, undone}
use Rattle.theory.proofs.Results.{several-at-most}
use Rattle.answers.specs.declared.taken.RoleRead.{RoleRead}
use Rattle.answers.specs.declared.counts.Counts.{Counts}
use Rattle.answers.specs.declared.levels.Levels.{Levels}
use Rattle.answers.specs.Counts.{counts_of, coarse_counts}
use Rattle.answers.specs.Levels.{StopLent, MoreLent, no_level, one_more}
use Rattle.answers.proofs.Places.{places-long, places-more}
use Rattle.answers.proofs.Counted.{kept-at-most, coarse-counted}
use Rattle.mesh_rings.specs.Ring.{RingBy}
use Rattle.undo_role.specs.Buffers.{Buffers, buffers}
use Rattle.mesh_rings.proofs.Tables.{work-kept}
use Rattle.undo_role.proofs.Rooms.{SameLengths}
use Rattle.undo_level.specs.Level.{LevelLent, Coarser, LevelTried, found, none}
use Rattle.undo_level.proofs.Level.{coarser-role, level-smaller, level-undoable, level-rooms}
use Rattle.undo_levels.specs.Levels.{LevelsLent, LevelsUndone}

-- ---- levels

-- where a reading is taken there is a coarser mesh
pub tried-coarser : {N F : ℕ} {T coarse ring : List ℕ} {r : RoleRead} → LevelTried N F T coarse ring (Some r)
    → Coarser N F T coarse r.role r.vertices r.triangles
tried-coarser (found C R) = C

-- with the rings of its edges
tried-rings : {N F : ℕ} {T coarse ring : List ℕ} {r : RoleRead} → LevelTried N F T coarse ring (Some r)
    → RingBy (3 * r.triangles) (first_on (take (3 * r.triangles) coarse)) ring
tried-rings (found C R) = R

-- where none is, no role has a reading
tried-none : {N F : ℕ} {T coarse ring : List ℕ} → LevelTried N F T coarse ring None → NoRole Rotated N T
tried-none (none no-role) = no-role

-- ---- one level more

-- what `one_more` is lent
pub levels-more : {allowance N F M n M' role : ℕ} {T T' coarse out out' : List ℕ} {rest : Levels}
    → Coarser N F T coarse role M n → allowance < most_levels → LevelsUndone allowance M' T' out out' rest
    → MoreLent role rest
levels-more C few U = record {
  is_role = coarser-role C;
  few = omega (arith, several-at-most U.several);
  places = ap length U.places ∙ places-long U.roles;
}

-- a level and those of the coarser mesh, with one level less, are all levels
levels-joined : {allowance N F role M n : ℕ} {T coarse out out' : List ℕ} {rest answer : Levels} → allowance ≢ 0
    → Coarser N F T coarse role M n → LevelsUndone (allowance - 1) M (take (3 * n) coarse) out out' rest
    → answer ≡ one_more role rest → LevelsUndone allowance N T out out' answer
levels-joined {allowance} {role = role} {rest = rest} more C U e =
    let one_up : allowance ≡ suc (allowance - 1) = omega arith in
    subst (LevelsUndone allowance _ _ _ _) (sym e)
    (record {
      roles = role ∷ U.roles;
      mesh = U.mesh;
      several = rw (one_up, add-one rest.levels) (undone _ C.least C.returned U.several);
      counted = U.counted;
      places = places-more role U.roles U.places;
      left = U.left;
    })

-- also where the coarser mesh is named by what is counted of it
pub levels-undone : {allowance N F role M n M' n' : ℕ} {T coarse out out' : List ℕ} {rest answer : Levels}
    → allowance ≢ 0 → Coarser N F T coarse role M n → M' ≡ M → n' ≡ n
    → LevelsUndone (allowance - 1) M' (take (3 * n') coarse) out out' rest
    → answer ≡ one_more role rest → LevelsUndone allowance N T out out' answer
levels-undone {allowance} {coarse = coarse} {out} {out'} {rest} more C p q U =
    levels-joined more C
    (subst₂ (λ M n. LevelsUndone (allowance - 1) M (take (3 * n) coarse) out out' rest) p q U)

-- ---- the calls

module _ {allowance : ℕ} {counts : Counts} {list out : List ℕ} {b : Buffers}
    (L : LevelsLent allowance counts list out b) where
  -- the mesh's counts, and the mesh
  abbrev N : ℕ
  N = counts.vertices

  abbrev F : ℕ
  F = counts.triangles

  abbrev T : List ℕ
  T = take (3 * F) list

  -- what `stop` is lent
  pub levels-stop : StopLent F list out
  levels-stop = record {
    halves = L.level.mesh.halves;
    listed = omega (arith, L.list_room.room);
    room = L.out_room;
  }

  -- what `undo_least` is lent
  pub levels-level : LevelLent N F T b
  levels-level = record { level = L.level; rooms = L.rooms }

  -- ---- no level

  -- what is left where no level is undone
  levels-left : {out' : List ℕ} {answer : Levels} → Several allowance N T 0 [] N T → answer ≡ no_level counts
      → out' ≡ T ++ drop (3 * F) out → LevelsUndone allowance N T out out' answer
  levels-left S e wrote =
      subst (LevelsUndone allowance N T out _) (sym e)
      (record {
        roles = [];
        mesh = T;
        several = S;
        counted = L.counted;
        places = refl;
        left = wrote ∙ ap (λ k. T ++ drop k out) (sym L.level.mesh.whole);
      })

  -- none is allowed
  pub levels-reached : {out' : List ℕ} {answer : Levels} → allowance ≡ 0 → answer ≡ no_level counts
      → out' ≡ T ++ drop (3 * F) out → LevelsUndone allowance N T out out' answer
  levels-reached z = levels-left (rw z reached)

  -- no role has a reading
  pub levels-stopped : {coarse' ring' out' : List ℕ} {answer : Levels} → allowance ≢ 0
      → LevelTried N F T coarse' ring' None → answer ≡ no_level counts → out' ≡ T ++ drop (3 * F) out
      → LevelsUndone allowance N T out out' answer
  levels-stopped more level =
      let one_up : allowance ≡ suc (allowance - 1) = omega arith in
      levels-left (rw one_up (stopped (tried-none level)))

  -- ---- the next level

  -- no more vertices are kept than there are
  pub levels-kept : {r : RoleRead} {coarse ring : List ℕ} → LevelTried N F T coarse ring (Some r) → r.vertices ≤ N
  levels-kept tried = kept-at-most L.level.mesh.proper (tried-coarser tried).returned.is

  -- so much is counted of the coarser mesh
  coarser-counted : {r : RoleRead} {coarse ring : List ℕ} → LevelTried N F T coarse ring (Some r)
      → length (take (3 * r.triangles) coarse) ≡ 3 * r.triangles
      → coarse_counts N counts.boundary r.vertices r.triangles ≡ counts_of r.vertices (take (3 * r.triangles) coarse)
  coarser-counted {r} tried long =
      ap (λ (c : Counts). coarse_counts N c.boundary r.vertices r.triangles) L.counted
      ∙ coarse-counted L.level.mesh.proper (tried-coarser tried).returned.is (omega arith)

  -- what the levels of the coarser mesh are lent, the list and the coarser mesh having changed places
  pub levels-lent : {allowance' : ℕ} {r : RoleRead} {counts' : Counts} {b' : Buffers} → allowance' ≤ most_levels
      → SameLengths b b' → LevelTried N F T b'.coarse b'.ring (Some r)
      → counts' ≡ coarse_counts N counts.boundary r.vertices r.triangles
      → LevelsLent allowance' counts' b'.coarse out
      (buffers b'.other b'.rows b'.ring b'.marks list b'.numbers b'.map b'.faces b'.table)
  levels-lent {allowance'} {r} {b' = b'} few K tried counted =
      let C = tried-coarser tried in
      let S = level-smaller levels-level K C in
      let R = level-rooms levels-level K C in
      let U = level-undoable levels-level K C in
      let l : r.vertices + 3 * r.triangles ≤ N + 3 * F = omega (arith, S.fewer, S.fourth) in
      subst (λ (c : Counts). LevelsLent allowance' c b'.coarse out
      (buffers b'.other b'.rows b'.ring b'.marks list b'.numbers b'.map b'.faces b'.table))
      (sym counted)
      (record {
        few = few;
        level = record { mesh = U; ringed = tried-rings tried };
        counted = coarser-counted tried U.whole;
        list_room = R.coarse;
        out_room = omega (arith, L.out_room, S.fourth);
        rooms = record {
          other = R.other;
          rows = R.rows;
          ring = R.ring;
          marks = R.marks;
          coarse = work-kept l L.list_room refl;
          numbers = R.numbers;
          map = R.map;
          faces = R.faces;
          table = R.table;
        };
      })
