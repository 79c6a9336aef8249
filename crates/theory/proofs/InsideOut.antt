-- Refusal 15 beside 11 and acceptance (#103): its place is no centre, and one of the three holds, whatever is asked.
use Prim.Native.Nat.{ℕ, ◌≤◌, ◌<◌}
use native.Mathlib.Decide.{ℕ_discrete}
use native.Mathlib.Omega.{arith}
use mathlib.Core.Logic.{◌⊎◌, inl, inr}
use mathlib.Core.List.{List}
use Rattle.theory.specs.Limits.{any_role}
use Rattle.theory.specs.Mesh.{Same, Rotated, Proper}
use Rattle.theory.specs.Reading.{Agreement, Centre, ReadingIn}
use Rattle.theory.specs.Choice.{Chosen, NoneChosen}
use Rattle.theory.specs.Refusals.{InsideOut, LeastPlace}
use Rattle.theory.proofs.Finite.{first_below}
use Rattle.theory.proofs.Lawful.{Lawful, same-lawful}
use Rattle.theory.proofs.Rotation.{rotated-lawful}
use Rattle.theory.proofs.Determined.{role-within}
use Rattle.theory.proofs.OldRule.{inside-out}
use Rattle.theory.proofs.Complete.{returned-centre}
use Rattle.theory.proofs.ReadingTests.{AgreementTest, Decides, same-decided, rotated-decided}
use Rattle.theory.proofs.Undoing.{reading_in?}

-- the returned mesh agrees at its centres, so that no other turning of a coarse triangle could help: 15's place is none
pub place-no-centre : {N : ℕ} {T : List ℕ} {asked k : ℕ} → Proper N T → (o : InsideOut N T asked k)
    → Centre o.reading k → ⊥
place-no-centre {N} {T} {k = k} P o c =
    o.disagrees.differs (returned-centre N T P o.role o.reading o.returned k c)

-- whether a role is chosen is decided
chosen? : {agree : Agreement} {test : AgreementTest} → Decides agree test → Lawful agree → {N : ℕ} {T : List ℕ}
    → Proper N T → (asked : ℕ) → asked ≤ any_role
    → ((role : ℕ) × Chosen agree N T asked role) ⊎ NoneChosen agree N T asked
chosen? {agree} D A {N} {T} P asked l = elim (ℕ_discrete asked any_role) [
  | yes e ↦ rw e (any (first_below 4 (λ role _. reading_in? D A N T role P)))
  | no n ↦ one (omega (arith, n)) (reading_in? D A N T asked P)
]
  where
    any : ((role : ℕ) × (role < 4) × ReadingIn agree N T role
        × ((earlier : ℕ) → earlier < role → ReadingIn agree N T earlier → ⊥))
        ⊎ ((role : ℕ) → role < 4 → ReadingIn agree N T role → ⊥)
        → ((role : ℕ) × Chosen agree N T any_role role) ⊎ NoneChosen agree N T any_role
    any (inl (role, _, R, before)) = inl (role, Chosen.least (record { has = R; before = before }))
    any (inr none) =
        inr (NoneChosen.least (record { none = λ role R. none role (omega (arith, role-within R.in_role)) R }))

    one : asked ≤ 3 → Dec (ReadingIn agree N T asked)
        → ((role : ℕ) × Chosen agree N T asked role) ⊎ NoneChosen agree N T asked
    one b (yes R) = inl (asked, Chosen.named b R)
    one b (no none) = inr (NoneChosen.named b none)

-- Acceptance, 15 and 11; no two of them hold, by `chosen-not-inside-out`, `none-not-inside-out` and `none-by-old`.
pub data OneOfThree (N : ℕ) (T : List ℕ) (asked : ℕ) : Type 0 where
  accepts : {role : ℕ} → Chosen Rotated N T asked role → OneOfThree N T asked
  fifteen : {place : ℕ} → LeastPlace (InsideOut N T asked) place → OneOfThree N T asked
  eleven : NoneChosen Same N T asked → OneOfThree N T asked

-- one of them does
pub one_of_three : {N : ℕ} {T : List ℕ} {asked : ℕ} → Proper N T → asked ≤ any_role → OneOfThree N T asked
one_of_three {N} {T} {asked} P l =
    go (chosen? rotated-decided rotated-lawful P asked l) (chosen? same-decided same-lawful P asked l)
  where
    go : ((role : ℕ) × Chosen Rotated N T asked role) ⊎ NoneChosen Rotated N T asked
        → ((role : ℕ) × Chosen Same N T asked role) ⊎ NoneChosen Same N T asked → OneOfThree N T asked
    go (inl (_, c)) _ = accepts c
    go (inr none) (inl (_, c)) = fifteen (inside-out P none c).1
    go (inr _) (inr none) = eleven none
