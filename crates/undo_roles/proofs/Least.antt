-- The roles that are tried one after the other: what a turn of the loop of `least_role` keeps, and what the roles come
-- to; then the role that is asked for.
use Rattle.std.specs.Prelude.{Ok, Err}
use Prim.Native.Nat.{ℕ, ◌+◌, ◌≤◌, ◌<◌}
use native.Mathlib.Omega.{arith}
use mathlib.Core.Path.{◌≡◌, refl, sym, subst}
use mathlib.Core.Logic.{◌≢◌}
use mathlib.Core.List.{List}
use Rattle.theory.specs.Limits.{any_role}
use Rattle.theory.specs.Mesh.{Same, Rotated, Proper}
use Rattle.theory.specs.Reading.{Agreement, ReadingIn}
use Rattle.theory.specs.Choice.{LeastRole, NoRole, Chosen, NoneChosen}
use Rattle.theory.proofs.Agreement.{reading_in-same}
use Rattle.theory.proofs.Rotation.{rotated-implies}
use Rattle.theory.proofs.Determined.{role-within, returned-in}
use Rattle.theory.proofs.OldRule.{old-returned, inside-out-at}
use Rattle.lists.proofs.Lists.{by-lt}
use Rattle.answers.specs.declared.taken.RoleRead.{RoleRead}
use Rattle.answers.specs.declared.taken.NoReading.{NoReading}
use Rattle.answers.specs.Taken.{Taken, stopped_at, nothing, earlier_of}
use Rattle.undo_role.specs.Buffers.{Buffers, buffers}
use Rattle.undo_role.specs.Tried.{RolesLent, RoleLent, OldOnly, TriedRole}
use Rattle.undo_role.specs.Tried.{found as role_found, inside_out as role_inside_out, none as role_none}
use Rattle.undo_role.proofs.Rooms.{SameLengths, kept_on, rooms-kept, tried-kept}
use Rattle.undo_roles.specs.Least.{LeastTried, found, inside_out, none}
use Rattle.undo_roles.specs.Choices.{ChoiceLent, ChosenTried}
use Rattle.undo_roles.specs.Choices.{found as chosen_found, inside_out as chosen_inside_out, none as chosen_none}

-- ---- a role that has a reading by the old rule alone

-- it has none
old-only-none : {N : ℕ} {T : List ℕ} {role k : ℕ} → Proper N T → OldOnly N T role k → ReadingIn Rotated N T role → ⊥
old-only-none P O R =
    O.least.here.differs ((old-returned O.returned P R).is.matched.agreed _ O.least.here.inside)

-- What is remembered of the roles below this one: nothing, as none has a reading by the old rule; or the triangle that
-- stands in the way in the least that has.
pub data Remembered (N : ℕ) (T : List ℕ) (role : ℕ) : Taken → Type 0 where
  no_old : ((earlier : ℕ) → earlier < role → ReadingIn Same N T earlier → ⊥) → Remembered N T role nothing
  old : {first k : ℕ} → LeastRole Same N T first → OldOnly N T first k → Remembered N T role (stopped_at k)

-- ---- the loop

-- if neither the roles below nor this one have a reading, the roles below the next have none
before-next : {agree : Agreement} {N : ℕ} {T : List ℕ} {role : ℕ}
    → ((earlier : ℕ) → earlier < role → ReadingIn agree N T earlier → ⊥) → (ReadingIn agree N T role → ⊥)
    → (earlier : ℕ) → earlier < role + 1 → ReadingIn agree N T earlier → ⊥
before-next {role = role} before refuted earlier l R =
    by-lt earlier role (λ b. before earlier b R)
    (λ b. let e : earlier ≡ role = omega arith in refuted (rw (← e) R))

-- a role in which no reading is taken has none
tried-none : {role N F : ℕ} {T coarse map faces : List ℕ} {why : NoReading} → Proper N T
    → TriedRole role N F T coarse map faces (Err why) → ReadingIn Rotated N T role → ⊥
tried-none P (role_inside_out O) = old-only-none P O
tried-none P (role_none refuted) = λ R. refuted (reading_in-same rotated-implies R)

-- and what is remembered with it is what is remembered of the roles below the next
remembered-next : {role N F : ℕ} {T coarse map faces : List ℕ} {remembered : Taken} {why : NoReading}
    → Remembered N T role remembered → TriedRole role N F T coarse map faces (Err why)
    → Remembered N T (role + 1) (earlier_of remembered (Err why))
remembered-next (old L O) _ = old L O
remembered-next (no_old before) (role_inside_out O) =
    old (record { has = returned-in O.returned; before = before }) O
remembered-next (no_old before) (role_none refuted) = no_old (before-next before refuted)

-- Before a turn: the next role is at most 4, no role below it has a reading, those that have one by the old rule are
-- remembered, the roles are lent what they need, and the buffers have kept their lengths.
pub record Turn (N F : ℕ) (T : List ℕ) (b₀ b : Buffers) (remembered : Taken) (role : ℕ) : Type 0 where
  pub is_next : role ≤ 4
  pub before : (earlier : ℕ) → earlier < role → ReadingIn Rotated N T earlier → ⊥
  pub memory : Remembered N T role remembered
  pub lent : RolesLent N F T b
  pub lengths : SameLengths b₀ b

-- the first turn
pub begun : {N F : ℕ} {T : List ℕ} {b : Buffers} → RolesLent N F T b → Turn N F T b b nothing 0
begun L = record {
  is_next = omega arith;
  before = λ _ l. absurd (omega arith);
  memory = no_old (λ _ l. absurd (omega arith));
  lent = L;
  lengths = tried-kept refl refl refl refl refl refl;
}

module _ {N F : ℕ} {T : List ℕ} {b₀ b : Buffers} {remembered : Taken} {role : ℕ}
    (I : Turn N F T b₀ b remembered role) where
  -- what `try_role` is lent
  pub triable : role < 4 → RoleLent role N F T b
  triable l = record { is_role = omega arith; lent = I.lent }

  -- one turn, in a role that has no reading
  pub turned : {marks coarse numbers map faces table : List ℕ} {with_it : Taken} {why : NoReading} → role < 4
      → SameLengths b (buffers b.other b.rows b.ring marks coarse numbers map faces table)
      → TriedRole role N F T coarse map faces (Err why) → with_it ≡ earlier_of remembered (Err why)
      → Turn N F T b₀ (buffers b.other b.rows b.ring marks coarse numbers map faces table) with_it (role + 1)
  turned l K t e = record {
    is_next = omega arith;
    before = before-next I.before (tried-none I.lent.mesh.proper t);
    memory = subst (Remembered N T (role + 1)) (sym e) (remembered-next I.memory t);
    lent = record { mesh = I.lent.mesh; made = I.lent.made; rooms = rooms-kept (omega arith) I.lent.rooms K };
    lengths = kept_on I.lengths K;
  }

  -- the first role that has a reading is the least
  pub first-least : {coarse map faces : List ℕ} {r : RoleRead} → TriedRole role N F T coarse map faces (Ok r)
      → LeastTried N F T coarse map faces (Ok r)
  first-least (role_found R) = found (record { has = returned-in R; before = I.before }) R

  -- no role has a reading that none below 4 has
  all-tried : {agree : Agreement} → 4 ≤ role → ((earlier : ℕ) → earlier < role → ReadingIn agree N T earlier → ⊥)
      → NoRole agree N T
  all-tried l before = record { none = λ tried R. before tried (omega (arith, role-within R.in_role)) R }

  -- so after the last turn what is remembered is what the roles come to
  pub no-role : 4 ≤ role → {coarse map faces : List ℕ} → LeastTried N F T coarse map faces remembered
  no-role l = go I.memory
    where
      go : {answer : Taken} {coarse map faces : List ℕ} → Remembered N T role answer
          → LeastTried N F T coarse map faces answer
      go (no_old before) = none (all-tried l before)
      go (old L O) = inside_out (all-tried l I.before) L O

-- ---- the role that is asked for

-- asked 4, it is the least role
pub asked-least : {asked N F : ℕ} {T coarse map faces : List ℕ} {answer : Taken} → Proper N T → asked ≡ any_role
    → LeastTried N F T coarse map faces answer → ChosenTried asked N F T coarse map faces answer
asked-least P e (found L R) = rw e (chosen_found (Chosen.least L) R)
asked-least P e (inside_out refuted L O) = rw e
    (chosen_inside_out (inside-out-at P (NoneChosen.least refuted) (Chosen.least L) O.returned O.least))
asked-least P e (none L) = rw e (chosen_none (NoneChosen.least L))

-- asked another number, it is one of the roles, so that it can be tried
pub asked-triable : {asked N F : ℕ} {T : List ℕ} {b : Buffers} → ChoiceLent asked N F T b → asked ≢ any_role
    → RoleLent asked N F T b
asked-triable L differs = record { is_role = omega (arith, L.known); lent = L.lent }

-- and it is chosen if it has a reading
pub asked-tried : {asked N F : ℕ} {T coarse map faces : List ℕ} {b : Buffers} {answer : Taken} → RoleLent asked N F T b
    → TriedRole asked N F T coarse map faces answer → ChosenTried asked N F T coarse map faces answer
asked-tried L (role_found R) = chosen_found (Chosen.named L.is_role (returned-in R)) R
asked-tried L (role_inside_out O) =
    let P = L.lent.mesh.proper in
    chosen_inside_out (inside-out-at P (NoneChosen.named L.is_role (old-only-none P O))
    (Chosen.named L.is_role (returned-in O.returned)) O.returned O.least)
asked-tried L (role_none refuted) = chosen_none (NoneChosen.named L.is_role refuted)
