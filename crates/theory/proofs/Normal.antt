-- The normal spelling of frames: a file that is read has one, it is read as the same mesh, and it is the file itself
-- exactly if that is of upper case and LF.
use Prim.Native.Nat.{ℕ, zero, suc, ◌*◌, ◌≤◌, ◌<◌}
use native.Mathlib.Decide.{ℕ_discrete, dec_lt}
use native.Mathlib.Omega.{arith}
use mathlib.Core.Path.{◌≡◌, refl, sym, ap, ◌∙◌}
use mathlib.Core.Bool.{Bool, true, false}
use mathlib.Core.Logic.{◌↔◌}
use mathlib.Core.Option.{Option, none, some}
use mathlib.Core.List.{List, [], ◌∷◌}
use lib.Dec.{eqb}
use lib.ListN.{length}
use Rattle.theory.specs.Mesh.{at, triangles}
use Rattle.theory.specs.Refusals.{Passed}
use Rattle.theory.specs.Frames.{frames, Taken, take_digits, take_line}
use Rattle.theory.specs.Frames.{Corners, corners, wrong_line, first_line, later_lines, LinesSay}
use Rattle.theory.specs.Demands.{normal, OfUpperAndLF, to_upper, to_upper_and_lf}
use Rattle.theory.proofs.Reader.{mesh, read_frames, read-passed}
use Rattle.theory.proofs.Frames.{to_upper-lower, to_upper-other, to_upper_and_lf-kept, to_upper_and_lf-CR}
use Rattle.theory.proofs.Frames.{Small, line-take_line, CornersOf}
use Rattle.theory.proofs.Frames.{triangle_lines-take_triangles, take_line-frames, take_triangles-triangle_lines}
use Rattle.theory.proofs.Frames.{read-written, write_read, read_whole, read-few, read_low, read_fits, read_small}

-- ---- bytes of upper case and LF

-- no bytes are
of_none : OfUpperAndLF []
of_none = record { no_lower = λ i l. absurd (omega arith); no_cr = λ i l. absurd (omega arith) }

-- a byte before such bytes
of_one : (b : ℕ) (bytes : List ℕ) → (97 ≤ b → b ≤ 102 → ⊥) → (b ≡ 13 → ⊥) → OfUpperAndLF bytes
    → OfUpperAndLF (b ∷ bytes)
of_one b bytes upper other U = record { no_lower = lower; no_cr = cr }
  where
    lower : (i : ℕ) → i < length (b ∷ bytes) → 97 ≤ at (b ∷ bytes) i → at (b ∷ bytes) i ≤ 102 → ⊥
    lower zero l = upper
    lower (suc i) l = U.no_lower i (omega arith)

    cr : (i : ℕ) → i < length (b ∷ bytes) → at (b ∷ bytes) i ≡ 13 → ⊥
    cr zero l = other
    cr (suc i) l = U.no_cr i (omega arith)

-- those after the first are if all are
of-later : (b : ℕ) (bytes : List ℕ) → OfUpperAndLF (b ∷ bytes) → OfUpperAndLF bytes
of-later b bytes U =
    record { no_lower = λ i l. U.no_lower (suc i) (omega arith); no_cr = λ i l. U.no_cr (suc i) (omega arith) }

-- they stay as they are
upper-stays : (bytes : List ℕ) → OfUpperAndLF bytes → to_upper_and_lf bytes ≡ bytes
unfolding to_upper_and_lf
upper-stays [] U = refl
upper-stays (b ∷ bytes) U =
    cc (
      to_upper_and_lf-kept b bytes (U.no_cr 0 (omega arith)),
      to_upper-other b (λ l. above l (dec_lt 102 b)),
      upper-stays bytes (of-later b bytes U),
    )
  where
    above : 97 ≤ b → Dec (102 < b) → 102 < b
    above l (yes h) = h
    above l (no h) = absurd (U.no_lower 0 (omega arith) l (omega arith))

-- nothing becomes longer
to_upper_and_lf-length : (bytes : List ℕ) → length (to_upper_and_lf bytes) ≤ length bytes
unfolding to_upper_and_lf
to_upper_and_lf-length [] = omega arith
to_upper_and_lf-length (b ∷ bytes) = go (eqb b 13) refl (to_upper_and_lf-length bytes)
  where
    go : (t : Bool) → eqb b 13 ≡ t → length (to_upper_and_lf bytes) ≤ length bytes
        → length (to_upper_and_lf (b ∷ bytes)) ≤ length (b ∷ bytes)
    go true e l =
        let same : to_upper_and_lf (b ∷ bytes) ≡ to_upper_and_lf bytes = cc in
        omega (arith, ap length same)
    go false e l =
        let same : to_upper_and_lf (b ∷ bytes) ≡ to_upper b ∷ to_upper_and_lf bytes = cc in
        omega (arith, ap length same)

-- bytes that stay as they are are of upper case and LF
stays-upper : (bytes : List ℕ) → to_upper_and_lf bytes ≡ bytes → OfUpperAndLF bytes
stays-upper [] e = of_none
stays-upper (b ∷ bytes) e = go (ℕ_discrete b 13) (stays-upper bytes)
  where
    kept : (b ≡ 13 → ⊥) → to_upper b ∷ to_upper_and_lf bytes ≡ b ∷ bytes → (to_upper_and_lf bytes ≡ bytes → OfUpperAndLF bytes)
        → OfUpperAndLF (b ∷ bytes)
    kept other same later =
        let first : to_upper b ≡ b = cc in
        of_one b bytes (λ l m. omega (arith, to_upper-lower b l m, first)) other (later (cc))

    go : Dec (b ≡ 13) → (to_upper_and_lf bytes ≡ bytes → OfUpperAndLF bytes) → OfUpperAndLF (b ∷ bytes)
    go (yes is) later =
        let shorter : to_upper_and_lf bytes ≡ b ∷ bytes = sym (to_upper_and_lf-CR b bytes is) ∙ e in
        absurd (omega (arith, ap length shorter, to_upper_and_lf-length bytes))
    go (no other) later = kept other (sym (to_upper_and_lf-kept b bytes other) ∙ e) later

-- ---- the normal spelling of what the lines say

-- it is the frames of the mesh
normal-says : (bytes : List ℕ) (N : ℕ) (T : List ℕ) → (take_line 0x4D 2 bytes ≡ none → ⊥) → LinesSay bytes N T
    → normal bytes ≡ frames N T
unfolding normal
normal-says bytes N T first says = go (take_line 0x4D 2 bytes) refl
  where
    go : (o : Option (Taken (List ℕ))) → take_line 0x4D 2 bytes ≡ o → normal bytes ≡ frames N T
    go none e = absurd (first e)
    go (some t) e = cc (says.first, says.later)

-- the normal spelling of the frames of a mesh whose numbers have four digits is these frames
normal-frames : (N : ℕ) (T : List ℕ) → N < 65536 → triangles T < 65536 → Small (3 * triangles T) T
    → normal (frames N T) ≡ frames N T
unfolding first_line
normal-frames N T low few small =
    let line = take_line-frames N T low few in
    normal-says (frames N T) N T (λ e. let z : ◌≡◌ {A = ℕ} 0 1 = cc in omega arith)
    (record { first = cc; later = cc (take_triangles-triangle_lines (triangles T) 1 [] T small) })

-- the normal spelling of a normal spelling is itself
pub normal-normal : (bytes : List ℕ) → normal (normal bytes) ≡ normal bytes
unfolding normal first_line take_line take_digits
normal-normal bytes = go (take_line 0x4D 2 bytes) refl (later_lines bytes) refl
  where
    empty : normal bytes ≡ [] → normal (normal bytes) ≡ normal bytes
    empty e = ap normal e ∙ sym e

    whole : (t : Taken (List ℕ)) (T : List ℕ) → normal bytes ≡ frames (at t.value 0) T → Small 2 t.value
        → CornersOf (at t.value 1) [] t.rest T → normal (normal bytes) ≡ normal bytes
    whole t T n two lines =
        let long : length T ≡ 3 * at t.value 1 = omega (arith, ap length lines.all, lines.small.long) in
        let count : triangles T ≡ at t.value 1 = omega arith in
        let low : at t.value 0 < 65536 = two.below 0 (omega (arith, two.long)) in
        let few : triangles T < 65536 = omega (arith, two.below 1 (omega (arith, two.long))) in
        ap normal n ∙ normal-frames (at t.value 0) T low few (rw (count, lines.all) lines.small) ∙ sym n

    go : (o : Option (Taken (List ℕ))) → take_line 0x4D 2 bytes ≡ o → (C : Corners) → later_lines bytes ≡ C
        → normal (normal bytes) ≡ normal bytes
    go none e C f = empty (cc)
    go (some t) e (wrong_line place) f = empty (cc)
    go (some t) e (corners T) f =
        whole t T (cc) (line-take_line 0x4D 2 bytes t e).fits (triangle_lines-take_triangles _ 1 [] t.rest T (cc))

-- ---- the normal spelling of a file that is read

module _ (room N : ℕ) (bytes T : List ℕ) (r : read_frames room bytes ≡ mesh N T) where
  -- it is the frames of what was read
  pub normal-is : normal bytes ≡ frames N T
  unfolding Passed
  normal-is =
      let passed = read-passed room bytes r in
      normal-says bytes N T (λ e. passed.0.0 0 (e, refl)) passed.1

  -- it is read as the same mesh
  pub normal-read : read_frames room (normal bytes) ≡ mesh N T
  normal-read =
      ap (read_frames room) normal-is
      ∙ read-written room N T (read_whole room N bytes T r) (read-few room N bytes T r) (read_low room N bytes T r)
      (read_small room N bytes T r) (read_fits room N bytes T r)

  -- it is the file in upper case and without CR
  pub normal-upper : normal bytes ≡ to_upper_and_lf bytes
  normal-upper = normal-is ∙ write_read room N bytes T r

  -- and the file itself exactly if that is of upper case and LF
  pub normal-own : (normal bytes ≡ bytes) ↔ OfUpperAndLF bytes
  normal-own = (λ e. stays-upper bytes (sym normal-upper ∙ e), λ U. normal-upper ∙ upper-stays bytes U)
