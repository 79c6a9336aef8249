-- The program's rooms and those of undo one: where the work buffers are long enough, the rows of both judge the same.
use Prim.Native.Nat.{ℕ, ◌*◌, ◌/◌}
use native.Mathlib.Decide.{dec_lt}
use native.Mathlib.Omega.{arith}
use mathlib.Core.Path.{◌≡◌, refl, ap}
use mathlib.Core.Logic.{inl, inr}
use mathlib.Core.List.{List, [], ◌∷◌, map}
use lib.ListN.{length, drop, replicate}
use Rattle.std.specs.Prelude.{Result}
use Rattle.theory.specs.Limits.{any_role, program_triangles, program_vertices}
use Rattle.theory.specs.Mesh.{at, triangles}
use Rattle.theory.specs.Refusals.{Short, Passed, Refused}
use Rattle.theory.specs.Calls.{Outputs, work_entries, work_rooms, undo_one_rooms, lent_to_undo_one, undo_number_rules}
use Rattle.theory.specs.Calls.{undo_one_size_rules, undo_one_mesh_rules, undo_one_rules}
use Rattle.theory.specs.Program.{program_rooms}
use Rattle.theory.proofs.Refusals.{passed-either, refused-either}
use Rattle.limits.specs.declared.refusal.Refusal.{Refusal}
use Rattle.limits.specs.Judged.{JudgedAs}
use Rattle.limits.proofs.Judgement.{judged-either}
use Rattle.answers.specs.Answers.{outputs}
use Rattle.undo_role.specs.Buffers.{Buffers}
use Rattle.calls_undo_one.specs.Undoing.{works, UndoLent}

-- ---- rooms

-- how long each of the program's work buffers is
abbrev program_work : ℕ
program_work = work_entries program_vertices program_triangles

module _ (N F : ℕ) where
  -- a mesh that work buffers with the program's room are too short for has too many vertices or triangles
  work-short : (lengths : List ℕ) → lengths ≡ replicate (length lengths) program_work → Short (work_rooms N F lengths)
      → Short (program_rooms N F)
  unfolding Short
  work-short [] long short = absurd short
  work-short (work ∷ works) long (inr short) = work-short works (ap (drop 1) long) short
  work-short (work ∷ works) long (inl l) =
      elim (dec_lt program_vertices N) [
        | yes h ↦ inr (inl h)
        | no h ↦ inr (inr (inl (omega (arith, ap (λ lengths. at lengths 0) long))))
      ]

  module _ (mesh vertex_map triangle_map : ℕ) (lengths : List ℕ) (m : mesh ≡ 3 * (program_triangles / 4))
      (v : vertex_map ≡ program_vertices) (t : triangle_map ≡ program_triangles)
      (long : lengths ≡ replicate (length lengths) program_work) where
    -- what is short by undo one's rooms is short by the program's
    short-there : Short (undo_one_rooms N F mesh vertex_map triangle_map lengths) → Short (program_rooms N F)
    unfolding Short
    short-there (inl l) = inl (omega arith)
    short-there (inr (inl l)) = inr (inl (omega arith))
    short-there (inr (inr (inl l))) = inr (inr (inl (omega arith)))
    short-there (inr (inr (inr short))) = work-short lengths long short

    -- and the other way round
    short_back : Short (program_rooms N F) → Short (undo_one_rooms N F mesh vertex_map triangle_map lengths)
    unfolding Short
    short_back (inl l) = inl (omega arith)
    short_back (inr (inl l)) = inr (inl (omega arith))
    short_back (inr (inr (inl l))) = inr (inr (inl (omega arith)))
    short_back (inr (inr (inr short))) = absurd short

-- Output buffers with the program's room.
pub record OutputRoom (out : Outputs) : Type 0 where
  pub mesh : length out.mesh ≡ 3 * (program_triangles / 4)
  pub vertices : length out.vertex_map ≡ program_vertices
  pub triangles : length out.triangle_map ≡ program_triangles

-- arrays of these lengths have it
pub arrays-room : OutputRoom
    (outputs (replicate (3 * (program_triangles / 4)) 0) (replicate program_vertices 0) (replicate program_triangles 0))
arrays-room = record { mesh = omega arith; vertices = omega arith; triangles = omega arith }

-- Work buffers that are long enough for every mesh that the outputs have room for.
pub record WorkRoom (works : List (List ℕ)) : Type 0 where
  pub long : map length works ≡ replicate (length (map length works)) program_work

-- ---- rows

module _ (N : ℕ) (T : List ℕ) {out : Outputs} (room : OutputRoom out) (works : List (List ℕ)) (enough : WorkRoom works)
  where
    -- the lent room is short where the program's is
    lent-there : Short (lent_to_undo_one N T out works) → Short (program_rooms N (triangles T))
    lent-there =
        short-there N (triangles T) _ _ _ (map length works) room.mesh room.vertices room.triangles enough.long

    -- and only there
    lent_back : Short (program_rooms N (triangles T)) → Short (lent_to_undo_one N T out works)
    lent_back =
        short_back N (triangles T) _ _ _ (map length works) room.mesh room.vertices room.triangles enough.long

    -- what passes undo one's rows passes the program's
    pub program-passed : (asked : ℕ) → Passed (undo_one_rules N T asked (lent_to_undo_one N T out works))
        → Passed (undo_one_rules N T asked (program_rooms N (triangles T)))
    program-passed asked p =
        passed-either 5 lent-there lent_back (undo_one_mesh_rules N T asked) (undo_number_rules any_role N (length T) asked) p

    -- and what those refuse the program's refuse
    pub program-refused : (asked number place : ℕ)
        → Refused (undo_one_rules N T asked (lent_to_undo_one N T out works)) number place
        → Refused (undo_one_rules N T asked (program_rooms N (triangles T))) number place
    program-refused asked number place f =
        refused-either 5 lent-there lent_back (undo_one_mesh_rules N T asked) (undo_number_rules any_role N (length T) asked)
        number place f

-- what is judged by the lengths of the program's arrays is judged by what is lent
pub program-lent : {sized : Result Unit Refusal} {N : ℕ} {T : List ℕ} {asked : ℕ} {out : Outputs} {b : Buffers}
    → OutputRoom out → WorkRoom (works b)
    → JudgedAs (undo_one_size_rules N (length T) asked (undo_one_rooms N (length T / 3) (3 * (program_triangles / 4))
    program_vertices program_triangles (program_work ∷ []))) sized
    → UndoLent sized N T asked out b
program-lent {N = N} {T} {asked} {b = b} room enough judged = record {
  judged =
      judged-either (undo_number_rules any_role N (length T) asked) 5
      (λ short. lent_back N T room (works b) enough
      (short-there N (triangles T) _ _ _ (program_work ∷ []) refl refl refl refl short))
      (λ short. short_back N (triangles T) _ _ _ (program_work ∷ []) refl refl refl refl
      (lent-there N T room (works b) enough short))
      judged;
}
