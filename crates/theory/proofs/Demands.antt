-- Demands 2 and 3 as facts about the promises of split and undo one, limits and room included: what undo one returns
-- is split back to its input, what split makes is undone to its input, and undo one accepts exactly what has a
-- reading. That some result keeps each promise is said too, so that none of this holds of nothing.
use Prim.Native.Nat.{ℕ, ◌+◌, ◌*◌, ◌≤◌}
use native.Mathlib.Omega.{arith}
use mathlib.Core.Path.{◌≡◌, sym, ap, ◌∙◌, subst₂}
use mathlib.Core.List.{List, map}
use Rattle.theory.specs.Limits.{most_triangles, most_split_triangles, any_role}
use Rattle.theory.specs.Mesh.{triangles, Same, Rotated}
use Rattle.theory.specs.Splitting.{edges, split}
use Rattle.theory.specs.Reading.{Reading, ReadingIn, Returned}
use Rattle.theory.specs.Choice.{LeastRole, Chosen, NoneChosen}
use Rattle.theory.specs.Calls.{Answer, OneAnswer, Outputs, accepted_mesh, one_refusal, written, zeros}
use Rattle.theory.specs.Calls.{lent_to_split, Splits, lent_to_undo_one, written_reading, accepted_reading, UndoesOne}
use Rattle.theory.specs.Demands.{Enough, Within, SameApart, found_mesh, found_reading, SplitsBack, Exactly}
use Rattle.theory.proofs.Splitting.{edges_le, split-triangles}
use Rattle.theory.proofs.Rotation.{rotated-lawful}
use Rattle.theory.proofs.SplitProper.{split-proper, vertices-le, itself, split-returned}
use Rattle.theory.proofs.Unique.{coarse-matched}
use Rattle.theory.proofs.Determined.{returned-in}
use Rattle.theory.proofs.Determined.{quarter, splits-determined, undoes-one-determined}
use Rattle.theory.proofs.Results.{reading-within, split-accepts, SplitAccepted, split-accepted, reading-splits}
use Rattle.theory.proofs.Results.{one-accepts, one-accepted-found, outcome, outcome-exactly}
use Rattle.theory.proofs.Results.{chosen-named, chosen-least, named-says, any-says}
use Rattle.theory.proofs.Results.{chosen-accepted, inside-out-refused, none-refused}

-- ---- demand 2: what undo one returns is split back to its input

module _ {N : ℕ} {T : List ℕ} {asked : ℕ} {out out' : Outputs} {works works' : List (List ℕ)} {answer : OneAnswer}
    (U : UndoesOne N T asked out works answer out' works') (none : answer.common.refusal ≡ 0) where
  -- the reading that was returned
  abbrev returned : Reading
  returned = found_reading N T answer out'

  -- the returned mesh is within split's limits
  returned-within : Within most_split_triangles returned.vertices returned.mesh
  returned-within =
      reading-within (one-accepted-found U none).within (one-accepted-found U none).returned.is

  -- it has a quarter of the triangles: undo that does nothing breaks its promise
  pub returned-quarter : triangles T ≡ 4 * answer.common.triangles
  returned-quarter = quarter (one-accepted-found U none).returned.is
      ∙ ap (λ (a : Answer). 4 * a.triangles) (sym (one-accepted-found U none).counted)

  -- "any mesh that undo one returns is accepted by split with room enough lent"
  pub returned-accepted : {o : List ℕ} {ws : List (List ℕ)}
      → Enough (lent_to_split returned.vertices returned.mesh o ws)
      → Splits returned.vertices returned.mesh o ws
      (accepted_mesh (returned.vertices + edges returned.mesh) (split returned.vertices returned.mesh))
      (written (split returned.vertices returned.mesh) o) (map zeros ws)
  returned-accepted enough = split-accepts returned-within enough

  -- ".., and its splitting is the input under the returned maps"
  pub returned-splits : {o o' : List ℕ} {ws ws' : List (List ℕ)} {a : Answer}
      → Enough (lent_to_split returned.vertices returned.mesh o ws)
      → Splits returned.vertices returned.mesh o ws a o' ws' → SplitsBack N T returned o ws a o' ws'
  returned-splits enough S =
      reading-splits (one-accepted-found U none).returned.is (splits-determined S (returned-accepted enough))

-- ---- demand 2: what split makes is undone to its input

-- "comes back list for list with identity maps" (`itself`): undo one answers role 0 and the mesh's counts, and writes
-- the mesh and the maps; the rest stays.
pub record ComesBack (N : ℕ) (T : List ℕ) (out : Outputs) (works : List (List ℕ)) (answer : OneAnswer) (out' : Outputs)
    (works' : List (List ℕ)) : Type 0 where
  pub answers : answer ≡ accepted_reading 0 (itself N T)
  pub writes : out' ≡ written_reading (itself N T) out
  pub clears : works' ≡ map zeros works

-- the splitting of a mesh within split's limits is within undo's
pub split-within : {N : ℕ} {T : List ℕ} → Within most_split_triangles N T → Within most_triangles (N + edges T) (split N T)
split-within {N} {T} W = record {
  proper = split-proper N T W.proper;
  some = omega (arith, split-triangles N T, W.some);
  few_triangles = omega (arith, split-triangles N T, W.few_triangles);
  few_vertices = omega (arith, vertices-le N T W.proper, edges_le N T, W.proper.otherwise.whole, W.few_triangles);
}

-- "a proper mesh within split's limits, split, and undone asking 0 with room enough lent, is accepted"
pub split-undone : {N : ℕ} {T : List ℕ} {out : Outputs} {works : List (List ℕ)} → Within most_split_triangles N T
    → Enough (lent_to_undo_one (N + edges T) (split N T) out works)
    → UndoesOne (N + edges T) (split N T) 0 out works (accepted_reading 0 (itself N T))
    (written_reading (itself N T) out) (map zeros works)
split-undone {N} {T} W enough = one-accepts (split-within W) enough (Chosen.named (omega arith) (returned-in R)) R
  where
    R : Returned Rotated (N + edges T) (split N T) 0 (itself N T)
    R = split-returned N T W.proper rotated-lawful W.some

-- ".. and comes back"
pub split-comes-back : {N : ℕ} {T : List ℕ} {out out' : Outputs} {works works' : List (List ℕ)} {answer : OneAnswer}
    → Within most_split_triangles N T → Enough (lent_to_undo_one (N + edges T) (split N T) out works)
    → UndoesOne (N + edges T) (split N T) 0 out works answer out' works' → ComesBack N T out works answer out' works'
split-comes-back {N} {T} {out} {out'} {works} {works'} {answer} W enough U =
    go (undoes-one-determined U (split-undone W enough))
  where
    go : (answer ≡ accepted_reading 0 (itself N T)) × (out' ≡ written_reading (itself N T) out)
        × (works' ≡ map zeros works) → ComesBack N T out works answer out' works'
    go (e, f, g) = record { answers = e; writes = f; clears = g }

-- the same of the two calls one after the other, whatever buffers are lent to them
pub round_trip : {N : ℕ} {T o o' : List ℕ} {ws ws' : List (List ℕ)} {a : Answer}
    {out out' : Outputs} {works works' : List (List ℕ)} {answer : OneAnswer}
    → Splits N T o ws a o' ws' → a.refusal ≡ 0 → Enough (lent_to_undo_one a.vertices (found_mesh a o') out works)
    → UndoesOne a.vertices (found_mesh a o') 0 out works answer out' works'
    → ComesBack N T out works answer out' works'
round_trip {N} {T} {o' = o'} {a = a} {out} {out'} {works} {works'} {answer} S none enough U =
    go (split-accepted S none)
  where
    go : SplitAccepted N T a o' → ComesBack N T out works answer out' works'
    go A = split-comes-back A.within
        (subst₂ (λ (M : ℕ) (C : List ℕ). Enough (lent_to_undo_one M C out works)) A.vertices A.found enough)
        (subst₂ (λ (M : ℕ) (C : List ℕ). UndoesOne M C 0 out works answer out' works') A.vertices A.found U)

-- ---- demand 3: undo one accepts exactly what has a reading

-- any two readings in one role have the same coarse mesh, apart from numbering, order and rotation of corners
pub reading-unique : {most N : ℕ} {T : List ℕ} {role : ℕ} → Within most N T → (R S : ReadingIn Rotated N T role)
    → SameApart R.reading.vertices R.reading.mesh S.reading.vertices S.reading.mesh
reading-unique {N = N} {T} {role} W R S =
    coarse-matched N T W.proper rotated-lawful R.reading S.reading R.is S.is 0 role R.in_role
    S.in_role

module _ {N : ℕ} {T : List ℕ} {asked : ℕ} {out out' : Outputs} {works works' : List (List ℕ)} {answer : OneAnswer}
    (U : UndoesOne N T asked out works answer out' works') (none : answer.common.refusal ≡ 0) where
  -- what is returned is a reading in the role answered, numbered as document 01 says, and nothing else is written
  pub returned-is-a-reading : Returned Rotated N T answer.role (found_reading N T answer out')
      × (out' ≡ written_reading (found_reading N T answer out') out)
  returned-is-a-reading = ((one-accepted-found U none).returned, (one-accepted-found U none).wrote)

  -- .. and it is the one: any reading in that role has the returned mesh, apart from numbering, order and rotation
  pub returned-is-the-reading : (R : ReadingIn Rotated N T answer.role)
      → SameApart R.reading.vertices R.reading.mesh answer.common.vertices
      (found_mesh answer.common out'.mesh)
  returned-is-the-reading R = reading-unique (one-accepted-found U none).within R (record {
    reading = found_reading N T answer out';
    is = (one-accepted-found U none).returned.is;
    in_role = (one-accepted-found U none).returned.in_role;
  })

  -- asked 0 to 3, the role answered is the one asked
  pub role-is-asked : asked ≤ 3 → answer.role ≡ asked
  role-is-asked l = (chosen-named l (one-accepted-found U none).chosen).0

-- asked 0 to 3: accepted exactly if some coarse mesh is a reading in the role asked; if not, refused with 15 exactly if
-- some is one by the old rule, and with 11 exactly if none is
pub accepted-exactly : {N : ℕ} {T : List ℕ} {role : ℕ} {out out' : Outputs} {works works' : List (List ℕ)}
    {answer : OneAnswer} → Within most_triangles N T → Enough (lent_to_undo_one N T out works) → role ≤ 3
    → UndoesOne N T role out works answer out' works'
    → Exactly (ReadingIn Rotated N T role) (ReadingIn Same N T role) answer.common.refusal
accepted-exactly W enough l U = outcome-exactly (outcome W enough (omega arith) U) (named-says l)

-- .. and there are such results: an acceptance where there is a reading in the role asked ..
pub reading-accepted : {N : ℕ} {T : List ℕ} {role : ℕ} {out : Outputs} {works : List (List ℕ)}
    → Within most_triangles N T → Enough (lent_to_undo_one N T out works) → role ≤ 3 → ReadingIn Rotated N T role
    → (r : Reading) × UndoesOne N T role out works (accepted_reading role r) (written_reading r out) (map zeros works)
reading-accepted W enough l R = chosen-accepted W enough (Chosen.named l R)

-- .. refusal 15 where there is one by the old rule alone ..
pub old-reading-refused : {N : ℕ} {T : List ℕ} {role : ℕ} {out : Outputs} {works : List (List ℕ)}
    → Within most_triangles N T → Enough (lent_to_undo_one N T out works) → role ≤ 3 → (ReadingIn Rotated N T role → ⊥)
    → ReadingIn Same N T role
    → (place : ℕ) × UndoesOne N T role out works (one_refusal 15 place) out (map zeros works)
old-reading-refused W enough l none S = inside-out-refused W enough (NoneChosen.named l none) (Chosen.named l S)

-- .. and refusal 11 where there is none
pub no-reading-refused : {N : ℕ} {T : List ℕ} {role : ℕ} {out : Outputs} {works : List (List ℕ)}
    → Within most_triangles N T → Enough (lent_to_undo_one N T out works) → role ≤ 3 → (ReadingIn Same N T role → ⊥)
    → UndoesOne N T role out works (one_refusal 11 0) out (map zeros works)
no-reading-refused W enough l none = none-refused W enough (NoneChosen.named l none)

-- asked 4: accepted exactly if some role has a reading ..
pub least-accepted-exactly : {N : ℕ} {T : List ℕ} {out out' : Outputs} {works works' : List (List ℕ)}
    {answer : OneAnswer} → Within most_triangles N T → Enough (lent_to_undo_one N T out works)
    → UndoesOne N T any_role out works answer out' works'
    → Exactly ((role : ℕ) × ReadingIn Rotated N T role) ((role : ℕ) × ReadingIn Same N T role) answer.common.refusal
least-accepted-exactly W enough U = outcome-exactly (outcome W enough (omega arith) U) any-says

-- .. and the role answered is the least that has one: a lesser one that has one by the old rule alone hides nothing
pub role-is-least : {N : ℕ} {T : List ℕ} {out out' : Outputs} {works works' : List (List ℕ)} {answer : OneAnswer}
    → UndoesOne N T any_role out works answer out' works' → answer.common.refusal ≡ 0
    → LeastRole Rotated N T answer.role
role-is-least U none = chosen-least (one-accepted-found U none).chosen
