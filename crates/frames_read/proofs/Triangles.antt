-- Laws of reading triangle lines one by one: what is left to read after the first k of them, and how it ends.
use Prim.Native.Nat.{ℕ, zero, suc, ◌+◌, ◌-◌, ◌*◌, ◌≤◌, ◌<◌}
use native.Mathlib.Numerals.{add-one}
use native.Mathlib.Omega.{arith}
use mathlib.Core.Path.{◌≡◌, ◌∙◌, refl, ap}
use mathlib.Core.Logic.{◌≢◌}
use mathlib.Core.Option.{Option as Maybe, none, some}
use mathlib.Core.List.{List, [], ◌∷◌, ◌++◌}
use lib.ListN.{length, length-append, drop}
use lib.Seq.{sets}
use Rattle.std.proofs.lemmas.List.{nil_from_length}
use Rattle.std.specs.Prelude.{Option, Some, None, IsSome}
use Rattle.std.specs.Borrow.{Bor}
use borrow.Author.Rules.{rules}
use Rattle.theory.specs.Frames.{Taken, take_line, corners, wrong_line, take_triangles}
use Rattle.lists.proofs.Lists.{drop-inside}
use Rattle.lists.proofs.Stores.{sets-front}
use Rattle.frames_read.specs.Given.{whole, refused, given, triangle_given}
use Rattle.frames_read.specs.Judging.{CornersWritten}

-- ---- what a frame's answer tells

-- a frame that is read whole is taken
pub whole-taken : (o : Maybe (Taken (List ℕ))) (t : Taken (List ℕ)) → whole t ≡ given o → o ≡ some t
unfolding given
whole-taken none t e = cc
whole-taken (some s) t e = cc

-- a frame that is refused is not
pub refused-not-taken : (o : Maybe (Taken (List ℕ))) (n : ℕ) → refused n ≡ given o → o ≡ none
unfolding given
refused-not-taken none n e = refl
refused-not-taken (some s) n e = cc

-- a triangle's frame that is taken was read
pub taken-read : (answer : Option (ℕ × ℕ × ℕ × Bor (List ℕ))) (o : Maybe (Taken (List ℕ)))
    → triangle_given answer ≡ given o → o ≢ none → IsSome answer
taken-read (Some line) o e is = search rules
taken-read None o e is = absurd (is (refused-not-taken o 12 e))

-- ---- lines

-- of F triangle lines, k are read, with these corners
pub record Reached (bytes : List ℕ) (F k : ℕ) (so_far rest : List ℕ) : Type 0 where
  pub same : take_triangles F 1 [] bytes ≡ take_triangles (F - k) (k + 1) so_far rest

module _ {bytes so_far rest : List ℕ} {F k : ℕ} (R : Reached bytes F k so_far rest) where
  -- one of those left
  one_left : k < F → F - k ≡ suc (F - (k + 1))
  one_left l = omega arith

  -- one line more
  pub reached-more : (xs after : List ℕ) → k < F → take_line 0x46 3 rest ≡ some (record { value = xs; rest = after })
      → Reached bytes F (k + 1) (so_far ++ xs) after
  unfolding take_triangles
  reached-more xs after l e = record { same = cc (one_left l, R.same, add-one (k + 1)) }

  -- the next line is wrong
  pub reached-wrong : k < F → take_line 0x46 3 rest ≡ none → take_triangles F 1 [] bytes ≡ wrong_line (k + 1)
  unfolding take_triangles
  reached-wrong l e = cc (one_left l, R.same)

  -- the next line is right, where all lines are
  pub reached-right : {T : List ℕ} → k < F → take_triangles F 1 [] bytes ≡ corners T → take_line 0x46 3 rest ≢ none
  reached-right l right e =
      let z : ◌≡◌ {A = ℕ} 0 1 = cc (reached-wrong l e) in
      absurd (omega arith)

-- all of the lines are read
module _ {bytes so_far rest : List ℕ} {F k : ℕ} (R : Reached bytes F k so_far rest) (all : k ≡ F) where
  -- none is left
  none_left : F - k ≡ zero
  none_left = omega arith

  -- something stands after the last
  pub all-behind : 0 < length rest → take_triangles F 1 [] bytes ≡ wrong_line (F + 1)
  unfolding take_triangles
  all-behind inside = cc (none_left, R.same, drop-inside rest 0 inside)

  -- nothing stands there
  pub all-end : length rest ≡ 0 → take_triangles F 1 [] bytes ≡ corners so_far
  unfolding take_triangles
  all-end outside = cc (none_left, R.same, nil_from_length rest outside)

  -- where all are right, their corners are those that were read
  pub all-right : (T : List ℕ) → take_triangles F 1 [] bytes ≡ corners T → T ≡ so_far
  unfolding take_triangles
  all-right T right = go rest (cc (none_left, R.same))
    where
      go : (rest : List ℕ) → take_triangles zero (k + 1) so_far rest ≡ corners T → T ≡ so_far
      go [] e = cc
      go (byte ∷ rest) e = cc

-- ---- corners that are written

-- the corners of the first k lines stand in front of what was there
pub record Written (bytes : List ℕ) (F k : ℕ) (rest out out' : List ℕ) : Type 0 where
  pub so_far : List ℕ
  pub long : length so_far ≡ 3 * k
  pub puts : out' ≡ so_far ++ drop (3 * k) out
  pub reached : Reached bytes F k so_far rest

module _ {bytes rest out mid : List ℕ} {F k : ℕ} (W : Written bytes F k rest out mid) where
  -- those of one line more
  pub more-written : {a b c : ℕ} {after out' : List ℕ} → k < F → 3 * F ≤ length out
      → take_line 0x46 3 rest ≡ some (record { value = a ∷ b ∷ c ∷ []; rest = after })
      → out' ≡ sets mid (3 * k) (a ∷ b ∷ c ∷ []) → Written bytes F (k + 1) after out out'
  more-written {a} {b} {c} {after} l room line put =
      let xs : List ℕ = a ∷ b ∷ c ∷ [] in
      let more : 3 * (k + 1) ≡ 3 * k + length xs = omega arith in
      record {
        so_far = W.so_far ++ xs;
        long = simp length-append (omega (arith, W.long));
        puts = put
            ∙ rw (W.puts, more) (sets-front W.so_far out (3 * k) W.long xs (omega arith));
        reached = reached-more W.reached xs after l line;
      }

  -- those of all lines
  pub all-written : k ≡ F → CornersWritten F bytes out mid
  all-written all = record {
    long = λ T right. ap length (all-right W.reached all T right) ∙ omega (arith, W.long);
    leaves = λ T right. let m : length W.so_far ≡ 3 * k = W.long in rw (all-right W.reached all T right, m) W.puts;
  }
