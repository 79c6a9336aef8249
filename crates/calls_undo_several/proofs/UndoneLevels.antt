-- The work of undo several: what the copy and `undo_levels` are lent, from what the call is lent and from those before,
-- and what the call comes to.
use Rattle.std.specs.Prelude.{Result, Ok, Err}
use Prim.Native.Nat.{ℕ, ◌*◌, ◌≤◌}
use native.Mathlib.Omega.{arith}
use mathlib.Core.Path.{◌≡◌, refl, sym, ap, subst, ◌∙◌}
use mathlib.Core.List.{List, ◌++◌}
use lib.ListN.{length, take, drop}
use lib.Seq.{take-length}
use Rattle.theory.specs.Limits.{most_levels}
use Rattle.theory.specs.Mesh.{triangles}
use Rattle.theory.specs.Splitting.{first_on, edges, boundary_edges}
use Rattle.theory.specs.Refusals.{mesh_rules, Passed}
use Rattle.theory.specs.Calls.{undo_several_size_rules, lent_to_undo_several, refuses, accepts}
use Rattle.theory.proofs.Refusals.{passed-both, refused-by-front, refused-by-back}
use Rattle.lists.proofs.Lists.{take-copied}
use Rattle.limits.specs.declared.refusal.Refusal.{Refusal}
use Rattle.limits.specs.Numbers.{number_of, place_of}
use Rattle.limits.proofs.Judgement.{judged-err}
use Rattle.answers.specs.declared.levels.Levels.{Levels}
use Rattle.answers.specs.Counts.{accepted_counts}
use Rattle.answers.specs.Said.{several_said}
use Rattle.answers.proofs.Counted.{counts_same}
use Rattle.mesh_rings.specs.Ring.{RingBy}
use Rattle.mesh_counts.specs.Counts.{CountOf}
use Rattle.mesh_judge.specs.Judging.{MeshJudged}
use Rattle.undo_role.specs.Buffers.{Buffers}
use Rattle.undo_role.proofs.Rooms.{SameLengths, rooms-kept}
use Rattle.undo_levels.specs.Levels.{LevelsLent, LevelsUndone}
use Rattle.calls_undo_one.proofs.Housed.{SizesPassed, sizes-passed, Housed, housed, undoable}
use Rattle.calls_undo_several.specs.UndoingSeveral.{works, SeveralLent, UndoesLevels}

-- what 1 to 5 come to may be told by cases
pub lent-as : {sized told : Result Unit Refusal} {N : ℕ} {T : List ℕ} {asked : ℕ} {out current : List ℕ} {b : Buffers}
    → SeveralLent sized N T asked out current b → sized ≡ told → SeveralLent told N T asked out current b
lent-as {N = N} {T} {asked} {out} {current} {b} L e = subst (λ s. SeveralLent s N T asked out current b) e L

-- a list that 1 to 5 refuse is refused
pub refusing-sizes : {refusal : Refusal} {N : ℕ} {T : List ℕ} {asked : ℕ} {out current : List ℕ} {b : Buffers}
    → SeveralLent (Err refusal) N T asked out current b
    → UndoesLevels N T asked out current b (several_said (Err refusal)) out
refusing-sizes {refusal} {N} {T} {asked} {out} {current} {b} L =
    refuses (number_of refusal) (place_of refusal)
    (refused-by-front (undo_several_size_rules N (length T) asked (lent_to_undo_several N T out (works current b)))
    (mesh_rules N T) (number_of refusal) (place_of refusal) (judged-err refusal L.judged))
    refl refl refl

module _ {N : ℕ} {T : List ℕ} {asked : ℕ} {out current : List ℕ} {b₀ : Buffers}
    (L : SeveralLent (Ok tt) N T asked out current b₀) where
  -- ---- 1 to 5 are passed

  sizes : SizesPassed most_levels N T asked (lent_to_undo_several N T out (works current b₀))
  sizes = sizes-passed L.judged

  -- there is room for the list in the work buffers
  pub lent-housed : Housed N T b₀
  lent-housed = housed sizes.sizes sizes.fits.1.1

  -- a mesh that is not proper is refused
  pub refusing : {ring : List ℕ} {refusal : Refusal} → MeshJudged N (triangles T) T ring (Err refusal)
      → UndoesLevels N T asked out current b₀ (several_said (Err refusal)) out
  refusing {refusal = refusal} judged =
      refuses (number_of refusal) (place_of refusal)
      (refused-by-back (undo_several_size_rules N (length T) asked (lent_to_undo_several N T out (works current b₀)))
      (mesh_rules N T) (number_of refusal) (place_of refusal) sizes.passed (judged-err refusal judged.verdict))
      refl refl refl

  -- ---- the copy

  -- the list is whole
  listed : length T ≡ 3 * triangles T
  listed = omega (arith, sizes.sizes.threes)

  -- what the copy of the list requires
  pub list_copied : (3 * triangles T ≤ length T) × (3 * triangles T ≤ length current)
  list_copied = (omega (arith, listed), omega (arith, sizes.fits.1.0))

  -- ---- the levels

  module _ {current' : List ℕ} (copied : current' ≡ take (3 * triangles T) T ++ drop (3 * triangles T) current)
      (passed : Passed (mesh_rules N T)) where
    -- the list stands in the first entries of its copy
    copied-list : take (3 * triangles T) current' ≡ T
    copied-list =
        ap (take (3 * triangles T)) copied ∙ take-copied (3 * triangles T) T current list_copied.0
        ∙ ap (λ (n : ℕ). take n T) (sym listed) ∙ take-length T

    -- what `undo_levels` requires
    pub levels-lent : {E B : ℕ} {b : Buffers} → SameLengths b₀ b → length current' ≡ length current
        → RingBy (3 * triangles T) (first_on T) b.ring → CountOf edges (3 * triangles T) b.ring E
        → CountOf boundary_edges (3 * triangles T) b.ring B
        → LevelsLent asked (record { vertices = N; triangles = triangles T; edges = E; boundary = B })
        current' out b
    levels-lent K kept ringed p q = record {
      few = sizes.known;
      level = rw copied-list (record { mesh = undoable lent-housed passed; ringed = ringed });
      counted = rw copied-list (counts_same refl refl (p.total T listed ringed) (q.total T listed ringed));
      list_room = record { room = omega (arith, sizes.fits.1.0, kept) };
      out_room = sizes.fits.0;
      rooms = rooms-kept (omega arith) lent-housed.rooms K;
    }

    -- and what it undoes is what the call undoes
    pub accepting : {undone : Levels} {out' : List ℕ}
        → LevelsUndone asked N (take (3 * triangles T) current') out out' undone
        → UndoesLevels N T asked out current b₀ (several_said (Ok undone)) out'
    accepting {undone} U =
        accepts undone.levels undone.left.vertices U.roles U.mesh
        (passed-both (undo_several_size_rules N (length T) asked (lent_to_undo_several N T out (works current b₀)))
        (mesh_rules N T) sizes.passed passed)
        (rw copied-list at U.several)
        (λ i. record { common = accepted_counts (U.counted i); levels = undone.levels; roles = U.places i })
        U.left refl
