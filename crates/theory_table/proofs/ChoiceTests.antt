-- The choice of a role, by an agreement that a test decides, and undo several as tests that compute, over the test
-- whether a role has a reading: they pass only where it is so (`..-sound`).
use Prim.Native.Nat.{ℕ, zero, suc}
use native.Mathlib.Omega.{arith}
use mathlib.Core.Path.{subst₂}
use mathlib.Core.Logic.{◌⊎◌, inl, inr}
use mathlib.Core.Bool.{Bool, false, not, ◌&&◌, ◌||◌}
use mathlib.Core.List.{List, [], ◌∷◌}
use lib.Dec.{T as So, T_not, eqb, leb, eqb→eq, leb→le}
use lib.ListN.{length}
use Rattle.theory.specs.Limits.{any_role}
use Rattle.theory.specs.Mesh.{Rotated, Proper}
use Rattle.theory.specs.Reading.{Agreement, Reading, ReadingIn, Returned}
use Rattle.theory.specs.Choice.{LeastRole, NoRole, Chosen, NoneChosen, Several, reached, stopped, undone}
use Rattle.theory.proofs.Tests.{and_sound, and₃-sound, or_sound, all_below, all_below-sound}
use Rattle.theory.proofs.Determined.{role-within, returned-in}
use Rattle.theory.proofs.Decide.{rotated_test}
use Rattle.theory.proofs.ReadingTests.{AgreementTest, Decides, rotated-decided}
use Rattle.theory.proofs.Lawful.{Lawful}
use Rattle.theory.proofs.Rotation.{rotated-lawful}
use Rattle.theory.proofs.Undoing.{undoing, reading_in_test, reading_in_test-sound, reading_in_test-complete}
use Rattle.theory_table.proofs.Equal.{equal_lists, equal_lists-sound}

-- ---- the least role, and none

-- whether the role has no reading
unfoldable pub no_reading_test : AgreementTest → ℕ → List ℕ → ℕ → Bool
unfolding reading_in_test
no_reading_test test N T role = not (reading_in_test test N T role)

-- whether no role before this one has a reading
unfoldable pub none_before_test : AgreementTest → ℕ → List ℕ → ℕ → Bool
unfolding all_below no_reading_test
none_before_test test N T role = all_below (no_reading_test test N T) role

-- what is tested is a proper mesh, and what is asked of matched triangles
module _ {agree : Agreement} {test : AgreementTest} (D : Decides agree test) (A : Lawful agree) {N : ℕ} {T : List ℕ}
    (P : Proper N T) where
  no_reading_test-sound : (role : ℕ) → So (no_reading_test test N T role) → ReadingIn agree N T role → ⊥
  unfolding no_reading_test
  no_reading_test-sound role t R =
      T_not (reading_in_test test N T role) t (reading_in_test-complete D A N T role P R)

  -- where none before has a reading, the role is the least, if it has one
  least-role : {role : ℕ} {r : Reading} → So (none_before_test test N T role) → Returned agree N T role r
      → LeastRole agree N T role
  unfolding none_before_test
  least-role {role} t R = record {
    has = returned-in R;
    before = λ earlier l. no_reading_test-sound earlier (all_below-sound (no_reading_test test N T) role t earlier l);
  }

  -- where none of the four roles has a reading, none has
  no-role : So (none_before_test test N T 4) → NoRole agree N T
  unfolding none_before_test
  no-role t = record {
    none = λ role R. no_reading_test-sound role
        (all_below-sound (no_reading_test test N T) 4 t role (omega (arith, role-within R.in_role))) R;
  }

-- ---- the role that undo one takes

-- whether the role is the one asked for, or 4 is asked and it is the least
unfoldable pub chosen_test : AgreementTest → ℕ → List ℕ → ℕ → ℕ → Bool
unfolding none_before_test
chosen_test test N T asked role = eqb asked role || (eqb asked any_role && none_before_test test N T role)

-- whether the role asked for has no reading, or 4 is asked and none has
unfoldable pub none_chosen_test : AgreementTest → ℕ → List ℕ → ℕ → Bool
unfolding none_before_test
none_chosen_test test N T asked =
    (leb asked 3 && no_reading_test test N T asked) || (eqb asked any_role && none_before_test test N T 4)

module _ {agree : Agreement} {test : AgreementTest} (D : Decides agree test) (A : Lawful agree) {N : ℕ} {T : List ℕ}
    (P : Proper N T) where
  -- then it is chosen, if it has a reading
  pub chosen_test-sound : (asked : ℕ) {role : ℕ} {r : Reading} → So (chosen_test test N T asked role)
      → Returned agree N T role r → Chosen agree N T asked role
  unfolding chosen_test
  chosen_test-sound asked {role} t R =
      go (or_sound (eqb asked role) (eqb asked any_role && none_before_test test N T role) t)
    where
      go : So (eqb asked role) ⊎ So (eqb asked any_role && none_before_test test N T role) → Chosen agree N T asked role
      go (inl s) = rw (eqb→eq asked role s) (Chosen.named (role-within R.in_role) (returned-in R))
      go (inr s) =
          let both = and_sound (eqb asked any_role) (none_before_test test N T role) s in
          rw (eqb→eq asked any_role both.0) (Chosen.least (least-role D A P both.1 R))

  -- then none is chosen
  pub none_chosen_test-sound : (asked : ℕ) → So (none_chosen_test test N T asked) → NoneChosen agree N T asked
  unfolding none_chosen_test
  none_chosen_test-sound asked t = go (or_sound (leb asked 3 && no_reading_test test N T asked) _ t)
    where
      go : So (leb asked 3 && no_reading_test test N T asked) ⊎ So (eqb asked any_role && none_before_test test N T 4)
          → NoneChosen agree N T asked
      go (inl s) =
          let both = and_sound (leb asked 3) (no_reading_test test N T asked) s in
          NoneChosen.named (leb→le asked 3 both.0) (no_reading_test-sound D A P asked both.1)
      go (inr s) =
          let both = and_sound (eqb asked any_role) (none_before_test test N T 4) s in
          rw (eqb→eq asked any_role both.0) (NoneChosen.least (no-role D A P both.1))

-- ---- the levels of undo several

-- whether (M, C) is left by the levels of these roles
unfoldable pub several_test : ℕ → ℕ → List ℕ → List ℕ → ℕ → List ℕ → Bool
unfolding none_before_test rotated_test equal_lists
several_test zero N T [] M C = eqb N M && equal_lists T C
several_test zero N T (role ∷ roles) M C = false
several_test (suc n) N T [] M C = none_before_test rotated_test N T 4 && (eqb N M && equal_lists T C)
several_test (suc n) N T (role ∷ roles) M C =
    let r : Reading = undoing N T role in
    reading_in_test rotated_test N T role
    && (none_before_test rotated_test N T role && several_test n r.vertices r.mesh roles M C)

-- then it is
pub several_test-sound : (n N : ℕ) (T roles : List ℕ) (M : ℕ) (C : List ℕ) → Proper N T
    → So (several_test n N T roles M C) → Several n N T (length roles) roles M C
unfolding several_test
several_test-sound zero N T [] M C P t =
    let both = and_sound (eqb N M) (equal_lists T C) t in
    subst₂ (λ M C. Several zero N T zero [] M C) (eqb→eq N M both.0) (equal_lists-sound T C both.1) reached
several_test-sound zero N T (role ∷ roles) M C P t = absurd t
several_test-sound (suc n) N T [] M C P t =
    let all = and₃-sound (none_before_test rotated_test N T 4) (eqb N M) (equal_lists T C) t in
    subst₂ (λ M C. Several (suc n) N T zero [] M C) (eqb→eq N M all.1) (equal_lists-sound T C all.2)
    (stopped (no-role rotated-decided rotated-lawful P all.0))
several_test-sound (suc n) N T (role ∷ roles) M C P t =
    go (several_test-sound n r.vertices r.mesh roles M C)
    (and₃-sound (reading_in_test rotated_test N T role) (none_before_test rotated_test N T role)
    (several_test n r.vertices r.mesh roles M C) t)
  where
    r : Reading
    r = undoing N T role

    go : (Proper r.vertices r.mesh → So (several_test n r.vertices r.mesh roles M C)
        → Several n r.vertices r.mesh (length roles) roles M C)
        → So (reading_in_test rotated_test N T role) × So (none_before_test rotated_test N T role)
        × So (several_test n r.vertices r.mesh roles M C)
        → Several (suc n) N T (suc (length roles)) (role ∷ roles) M C
    go below (found, before, rest) =
        let R : Returned Rotated N T role r = reading_in_test-sound rotated-decided N T role found in
        undone r (least-role rotated-decided rotated-lawful P before R) R (below R.is.proper rest)
