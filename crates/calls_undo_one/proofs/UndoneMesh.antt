-- The work of undo one: what `judge`, `cover`, `chosen_role`, `write_reading` and `answer_taken` are lent, each from
-- what the call is lent and from those before, and what the call comes to.
use Rattle.std.specs.Prelude.{Result, Ok, Err}
use Prim.Native.Nat.{ℕ, ◌*◌, ◌%◌, ◌≤◌}
use native.Mathlib.Omega.{arith}
use mathlib.Core.Path.{◌≡◌, refl, ap, subst, ◌∙◌}
use mathlib.Core.Logic.{◌≢◌}
use mathlib.Core.List.{List}
use lib.ListN.{length, take, length-take}
use lib.Seq.{length-take-le}
use Rattle.theory.specs.Limits.{any_role}
use Rattle.theory.specs.Mesh.{triangles, Rotated}
use Rattle.theory.specs.Splitting.{first_on, boundary_edges}
use Rattle.theory.specs.Reading.{Returned}
use Rattle.theory.specs.Refusals.{mesh_rules, reading_rules, Passed, Refused}
use Rattle.theory.specs.Calls.{OneAnswer, Outputs, one_refusal, refuses, accepts}
use Rattle.theory.specs.Calls.{lent_to_undo_one, undo_one_size_rules, undo_one_mesh_rules}
use Rattle.theory.proofs.Refusals.{passed-both, refused-by-front, refused-by-back}
use Rattle.theory.proofs.Determined.{quarter}
use Rattle.theory.proofs.OldRule.{chosen-passes, none-refuses, inside-out-refuses}
use Rattle.theory.proofs.Results.{none-chosen}
use Rattle.limits.specs.declared.refusal.Refusal.{Refusal}
use Rattle.limits.specs.Numbers.{number_of, place_of}
use Rattle.limits.proofs.Judgement.{judged-err}
use Rattle.answers.specs.Counts.{coarse_counts}
use Rattle.answers.specs.Taken.{Taken, reading_in, centres_of, kept_of, ReadingLent, left_by, answer_to_reading, undone_of}
use Rattle.answers.specs.Said.{one_said}
use Rattle.answers.proofs.Counted.{kept-at-most, coarse-counted}
use Rattle.mesh_rings.specs.Ring.{RingBy}
use Rattle.mesh_counts.specs.Counts.{CountOf}
use Rattle.mesh_judge.specs.Judging.{MeshJudged}
use Rattle.undo_cover.specs.Cover.{CoverLent, CoverMade}
use Rattle.undo_role.specs.Buffers.{Buffers, Rooms}
use Rattle.undo_role.specs.Tried.{Undoable}
use Rattle.undo_role.proofs.Rooms.{SameLengths, rooms-kept, cover-lent}
use Rattle.undo_roles.specs.Choices.{ChoiceLent, ChosenTried, found, inside_out, none}
use Rattle.undo_roles.proofs.Uneven.{uneven-none}
use Rattle.calls_undo_one.specs.Undoing.{works, UndoLent, UndoesMesh}
use Rattle.calls_undo_one.proofs.Housed.{SizesPassed, sizes-passed, Housed, housed, undoable}

-- what 1 to 5 come to may be told by cases
pub lent-as : {sized told : Result Unit Refusal} {N : ℕ} {T : List ℕ} {asked : ℕ} {out : Outputs} {b : Buffers}
    → UndoLent sized N T asked out b → sized ≡ told → UndoLent told N T asked out b
lent-as {N = N} {T} {asked} {out} {b} L e = subst (λ s. UndoLent s N T asked out b) e L

-- a list that 1 to 5 refuse is refused
pub refusing-sizes : {refusal : Refusal} {N : ℕ} {T : List ℕ} {asked : ℕ} {out : Outputs} {b : Buffers}
    → UndoLent (Err refusal) N T asked out b → UndoesMesh N T asked out b (one_said (Err refusal)) out
refusing-sizes {refusal} {N} {T} {asked} {out} {b} L =
    refuses (number_of refusal) (place_of refusal)
    (refused-by-front (undo_one_size_rules N (length T) asked (lent_to_undo_one N T out (works b)))
    (undo_one_mesh_rules N T asked) (number_of refusal) (place_of refusal) (judged-err refusal L.judged))
    refl refl refl

module _ {N : ℕ} {T : List ℕ} {asked : ℕ} {out : Outputs} {b₀ : Buffers} (L : UndoLent (Ok tt) N T asked out b₀) where
  -- ---- 1 to 5 are passed

  sizes : SizesPassed any_role N T asked (lent_to_undo_one N T out (works b₀))
  sizes = sizes-passed L.judged

  -- there is room for the list in the work buffers
  pub lent-housed : Housed N T b₀
  lent-housed = housed sizes.sizes sizes.fits.1.1.1

  -- what is counted over the mesh's rings are its boundary edges
  pub boundary-told : {ring : List ℕ} {boundary : ℕ} → CountOf boundary_edges (3 * triangles T) ring boundary
      → RingBy (3 * triangles T) (first_on T) ring → boundary ≡ boundary_edges T
  boundary-told B ringed = B.total T (omega (arith, sizes.sizes.threes)) ringed

  -- ---- what is refused

  module _ {answer : OneAnswer} {out' : Outputs} where
    -- what 6 to 11 and 15 refuse
    refusing-by : (verdict place : ℕ) → Refused (undo_one_mesh_rules N T asked) verdict place
        → answer ≡ one_refusal verdict place → out' ≡ out → UndoesMesh N T asked out b₀ answer out'
    refusing-by verdict place refused said left =
        refuses verdict place
        (refused-by-back (undo_one_size_rules N (length T) asked (lent_to_undo_one N T out (works b₀)))
        (undo_one_mesh_rules N T asked) verdict place sizes.passed refused)
        said left refl

    -- a mesh whose readings are refused
    without : (verdict place : ℕ) → Passed (mesh_rules N T) → Refused (reading_rules N T asked) verdict place
        → answer ≡ one_refusal verdict place → out' ≡ out → UndoesMesh N T asked out b₀ answer out'
    without verdict place passed refused =
        refusing-by verdict place
        (refused-by-back (mesh_rules N T) (reading_rules N T asked) verdict place passed refused)

  -- a mesh that is not proper
  pub refusing : {ring : List ℕ} {refusal : Refusal} → MeshJudged N (triangles T) T ring (Err refusal)
      → UndoesMesh N T asked out b₀ (one_said (Err refusal)) out
  refusing {refusal = refusal} judged =
      refusing-by (number_of refusal) (place_of refusal)
      (refused-by-front (mesh_rules N T) (reading_rules N T asked) (number_of refusal) (place_of refusal)
      (judged-err refusal judged.verdict))
      refl refl

  -- one whose triangles are no multiple of four
  pub uneven : Passed (mesh_rules N T) → triangles T % 4 ≢ 0 → UndoesMesh N T asked out b₀ (one_refusal 11 0) out
  uneven passed n =
      without 11 0 passed (none-refuses
      (none-chosen sizes.known (uneven-none (triangles T) (undoable lent-housed passed).whole n))) refl refl

  -- ---- what is lent

  module _ {b : Buffers} (K : SameLengths b₀ b) (passed : Passed (mesh_rules N T)) where
    mesh : Undoable N (triangles T) T
    mesh = undoable lent-housed passed

    rooms : Rooms N (triangles T) b
    rooms = rooms-kept (omega arith) lent-housed.rooms K

    -- what `cover` requires
    pub coverable : RingBy (3 * triangles T) (first_on T) b.ring
        → CoverLent N (triangles T) T b.other b.rows b.ring b.marks b.coarse b.numbers b.map
    coverable ringed = cover-lent mesh ringed rooms

    -- what `chosen_role` requires, once the covering mesh is made
    pub choosable : CoverMade (triangles T) T b.other b.rows b.ring → ChoiceLent asked N (triangles T) T b
    choosable made = record { known = sizes.known; lent = record { mesh = mesh; made = made; rooms = rooms } }

    -- the coarse mesh has a quarter of the triangles
    quartered : {role M : ℕ} (n : ℕ)
        → Returned Rotated N T role (reading_in N (triangles T) M n b.coarse b.map b.faces)
        → triangles T ≡ 4 * n
    quartered n R =
        omega (arith, quarter R.is, length-take (3 * n) b.coarse, rooms.coarse.room, mesh.some)

    -- what `write_reading` requires, by the size of the coarse mesh
    fitting : (reading : Taken) → 4 * centres_of reading ≤ triangles T
        → ReadingLent reading N (triangles T) b.coarse b.map b.faces out
    fitting reading size = record {
      coarse_room = omega (arith, size, rooms.coarse.room);
      map_room = omega (arith, rooms.map.room);
      faces_room = omega (arith, rooms.faces.room);
      mesh = omega (arith, size, sizes.fits.0);
      vertex_map = sizes.fits.1.0;
      triangle_map = sizes.fits.1.1.0;
    }

    -- it has what it requires after the choice
    pub writable : {reading : Taken} → ChosenTried asked N (triangles T) T b.coarse b.map b.faces reading
        → ReadingLent reading N (triangles T) b.coarse b.map b.faces out
    writable (found {n = n} _ R) = fitting _ (omega (arith, quartered n R))
    writable (inside_out _) = fitting _ (omega arith)
    writable (none _) = fitting _ (omega arith)

    -- what `answer_taken` requires after it: no more vertices are kept than there are
    pub answerable : {reading : Taken} → ChosenTried asked N (triangles T) T b.coarse b.map b.faces reading
        → kept_of reading ≤ N
    answerable (found _ R) = kept-at-most mesh.proper R.is
    answerable (inside_out _) = omega arith
    answerable (none _) = omega arith

    -- what is written and answered is what the call does
    pub concluding : {reading : Taken} {boundary : ℕ} {out' : Outputs}
        → ChosenTried asked N (triangles T) T b.coarse b.map b.faces reading
        → out' ≡ left_by reading N (triangles T) b.coarse b.map b.faces out
        → boundary ≡ boundary_edges T → UndoesMesh N T asked out b₀ (one_said (undone_of reading N boundary)) out'
    concluding (none refuted) wrote counted = without 11 0 passed (none-refuses refuted) refl wrote
    concluding (inside_out {k} least) wrote counted = without 15 k passed (inside-out-refuses least) refl wrote
    concluding (found {role} {M} {n} chosen R) wrote counted =
        let long : length (take (3 * n) b.coarse) ≡ 3 * n =
        length-take-le _ _ (omega (arith, quartered n R, rooms.coarse.room)) in
        accepts role (reading_in N (triangles T) M n b.coarse b.map b.faces)
        (passed-both (undo_one_size_rules N (length T) asked (lent_to_undo_one N T out (works b₀)))
        (undo_one_mesh_rules N T asked) sizes.passed
        (passed-both (mesh_rules N T) (reading_rules N T asked) passed (chosen-passes chosen)))
        chosen R
        (ap (answer_to_reading role)
        (ap (λ (B : ℕ). coarse_counts N B M n) counted ∙ coarse-counted mesh.proper R.is (omega arith)))
        wrote refl
