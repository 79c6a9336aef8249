-- Laws of the verdict on a text: the rows of refusals that it gives, and what the rows after 14 give for it.
use Prim.Native.Nat.{ℕ}
use native.Mathlib.Omega.{arith}
use mathlib.Core.Path.{◌≡◌, refl, ap}
use mathlib.Core.List.{List, [], ◌∷◌}
use lib.ListN.{length}
use Rattle.std.specs.Prelude.{Result, Ok, Err, IsErrAnd}
use Rattle.theory.specs.Limits.{most_triangles}
use Rattle.theory.specs.Mesh.{triangles}
use Rattle.theory.specs.Refusals.{too_large, too_short, Passed, Refused}
use Rattle.theory.specs.Frames.{frames_accepted, read_rooms}
use Rattle.theory.specs.Index.{face_count, text_says, read_index_rules, ReadsIndex, refuses, accepts}
use Rattle.theory.proofs.IndexDemands.{said-readable, fault-refused}
use Rattle.limits.specs.Judged.{Judged}
use Rattle.limits.specs.Numbers.{number_of, place_of}
use Rattle.limits.specs.declared.refusal.Refusal.{Refusal}
use Rattle.limits.proofs.Judgement.{judged-later, judged-ok}
use Rattle.answers.specs.Said.{frames_said}
use Rattle.answers.specs.declared.counts.Size.{Size}
use Rattle.index_read.specs.Faces.{FaultNamed, CornersLent, CornersWritten, TextRight}

-- a refusal that the rows give is answered, and nothing is written
pub refused-said : {N : ℕ} {text out : List ℕ} (result : Result Size Refusal) (refusal : Refusal)
    → Refused (read_index_rules N text (length out)) (number_of refusal) (place_of refusal)
    → IsErrAnd result (λ e. e ≡ refusal) → ReadsIndex N text out (frames_said result) out
refused-said (Ok size) refusal given none = absurd none
refused-said (Err same) refusal given e = rw e (refuses _ _ given refl refl)

-- 14 is given where a fault is named
pub fault-given : (N room : ℕ) {text : List ℕ} {refusal : Refusal} → FaultNamed text refusal
    → Refused (read_index_rules N text room) (number_of refusal) (place_of refusal)
fault-given N room f = rw f.names (fault-refused N _ room f.place f.fault)

-- ---- a text that is right

module _ {text : List ℕ} {F : ℕ} (lent : TextRight text F) where
  -- its faces are counted
  face-count : F ≡ triangles lent.list
  face-count = omega (arith, lent.long)

  module _ (N : ℕ) where
    -- 14 is given nowhere, and the rows after it judge
    pub right-judged : (room : ℕ) {number place : ℕ}
        → Judged (too_large most_triangles N F ∷ too_short (read_rooms F room) ∷ []) number place
        → Judged (read_index_rules N text room) number place
    unfolding face_count
    right-judged room v =
        let count : face_count (text_says text) ≡ F = cc (lent.right, face-count) in
        judged-later (λ place g. let z : ◌≡◌ {A = ℕ} 0 1 = cc lent.right in omega arith) (rw count v)

    -- where no row is given
    module _ (out : List ℕ)
        (accepted : Judged (too_large most_triangles N F ∷ too_short (read_rooms F (length out)) ∷ []) 0 0) where
      passed : Passed (read_index_rules N text (length out))
      passed = judged-ok (right-judged (length out) accepted) (omega arith)

      -- there is room for its corners
      pub corners-lent : CornersLent text out
      corners-lent =
          let fits = (said-readable N text lent.list out passed lent.right).fits in
          record { list = lent.list; right = lent.right; room = omega (arith, lent.long, fits) }

      -- and once they are written, it is read
      pub right-read : {out' : List ℕ} → CornersWritten text out out' → ReadsIndex N text out (frames_accepted N F) out'
      right-read w =
          accepts lent.list passed lent.right (ap (frames_accepted N) face-count) (w.leaves _ lent.right)
