-- Laws of going over the runs of a text, one after the other: what each makes of the corners so far, and what the whole
-- text says in the end.
use Prim.Native.Nat.{ℕ, suc, ◌+◌, ◌-◌, ◌/◌, ◌≤◌, ◌<◌}
use native.Mathlib.Omega.{arith}
use mathlib.Core.Path.{◌≡◌, refl, sym, ◌∙◌}
use mathlib.Core.Bool.{Bool, true, false, ◌||◌}
use mathlib.Core.Option.{none, some}
use mathlib.Core.List.{List, [], ◌∷◌, ◌++◌}
use lib.ListN.{length, length-append, drop, drop_of_length-le}
use borrow.Author.Tests.{ltb-true}
use lib.Dec.{ltb, eqb}
use Rattle.theory.specs.Index.{runs, Said, corner, close, wrong, face_after, corners_said, faces, wrong_at, faces_from}
use Rattle.theory.specs.Index.{text_says}
use Rattle.theory.proofs.Index.{corners-longer, text-whole}
use Rattle.index_read.specs.Runs.{goes_on, stretch, NextRun, RunLent, said_by, said_of, RunTaken}
use Rattle.index_read.specs.Faces.{TextRight}
use Rattle.index_read.specs.declared.runs.Run.{Run}
use Rattle.std.specs.Prelude.{Option, Some}
use Rattle.index_read.proofs.Stretches.{runs-stretch, stretch-some}

-- ---- one run

-- a run is one corner at most
one-corner : (said : Said) → length (corners_said said) ≤ 1
unfolding corners_said
one-corner (corner n) = omega arith
one-corner close = omega arith
one-corner wrong = omega arith

-- after a right run the present face has three corners at most
face-within : (said : Said) (face next : ℕ) → face_after face said ≡ some next → next ≤ 3
unfolding face_after
face-within (corner n) face next e = go (ltb face 3) refl
  where
    go : (b : Bool) → ltb face 3 ≡ b → next ≤ 3
    go true f =
        let s : suc face ≡ next = cc in
        omega (arith, s, ltb-true face 3 f)
    go false f = let z : ◌≡◌ {A = ℕ} 0 1 = cc in absurd (omega arith)
face-within close face next e = go (eqb face 3) refl
  where
    go : (b : Bool) → eqb face 3 ≡ b → next ≤ 3
    go true f =
        let s : 0 ≡ next = cc in
        omega (arith, s)
    go false f = let z : ◌≡◌ {A = ℕ} 0 1 = cc in absurd (omega arith)
face-within wrong face next e = let z : ◌≡◌ {A = ℕ} 0 1 = cc in absurd (omega arith)

-- ---- the runs so far

-- up to a place, where a run starts or the text ends, all runs are right, with these corners, of which the last `face`
-- are those of the present face
pub record Walk (text so_far : List ℕ) (at corners face : ℕ) : Type 0 where
  pub same : text_says text ≡ faces_from (length text) so_far face (runs false at (drop at text))
  pub count : length so_far ≡ corners
  pub few : corners ≤ at
  pub within : face ≤ 3
  pub inside : at ≤ length text
  pub starts : at < length text → goes_on text at ≡ true

-- none is met before the first
pub walk-begun : {text : List ℕ} {at : ℕ} → NextRun text 0 at → Walk text [] at 0 0
unfolding text_says
walk-begun N = record {
  same = cc N.passed.same;
  count = refl;
  few = omega arith;
  within = omega arith;
  inside = N.passed.within;
  starts = N.starts;
}

module _ {text so_far : List ℕ} {at corners face : ℕ} (W : Walk text so_far at corners face)
    (l : at < length text) where
  -- a run starts at the place
  pub walk-lent : RunLent text at
  walk-lent = record { inside = l; starts = W.starts l }

  -- its corner can be counted
  pub walk-fits : length text < 18446744073709551616 → corners + 1 < 18446744073709551616
  walk-fits b = omega (arith, W.few)

-- after the runs so far, a run is taken at the place
module _ {text so_far : List ℕ} {at corners face : ℕ} (W : Walk text so_far at corners face) (l : at < length text)
    {answer : Option (Run × ℕ)} (taken : RunTaken text at answer) where
  -- what the text says by it and those after it
  by-run : text_says text
      ≡ faces_from (length text) so_far face
      (record { place = at; bytes = stretch (drop at text) }
      ∷ runs false (at + length (stretch (drop at text))) (drop (at + length (stretch (drop at text))) text))
  by-run = rw (sym (runs-stretch text at l (W.starts l))) W.same

  -- where it is at fault, the text is, at its place
  pub walk-fault : face_after face (said_of answer) ≡ none → text_says text ≡ wrong_at at
  unfolding faces_from
  walk-fault e = cc (by-run, taken.said, e)

-- it is met: it is right, and leaves so many corners in the present face
pub record Met (text so_far : List ℕ) (at corners face : ℕ) (run : Run) (end next : ℕ) : Type 0 where
  pub walk : Walk text so_far at corners face
  pub inside : at < length text
  pub taken : RunTaken text at (Some (run, end))
  pub after : face_after face (said_by run) ≡ some next

module _ {text so_far : List ℕ} {at corners face : ℕ} {run : Run} {end next : ℕ}
    (M : Met text so_far at corners face run end next) where
  -- it has some bytes, within the text
  run-some : (0 < length (stretch (drop at text))) × (at + length (stretch (drop at text)) ≤ length text)
  run-some = stretch-some text at M.inside (M.walk.starts M.inside)

  -- the next run is looked for behind them
  pub met-end : end ≤ length text
  met-end = omega (arith, M.taken.ends, run-some.1)

  -- its corner is one more
  one_more : text_says text
      ≡ faces_from (length text) (so_far ++ corners_said (said_by run)) next (runs false end (drop end text))
  unfolding faces_from
  one_more = cc (by-run M.walk M.inside M.taken, M.taken.said, M.after, M.taken.ends)

  -- so that a text which is right has as many at least
  pub met-few : (T : List ℕ) → text_says text ≡ faces T → corners + length (corners_said (said_by run)) ≤ length T
  met-few T e =
      let longer = corners-longer _ _ _ _ T (sym one_more ∙ e) in
      omega (arith, M.walk.count, simp length-append at longer)

  module _ {place : ℕ} (N : NextRun text end place) where
    -- the next place is further on
    onward : at < place
    onward = omega (arith, M.taken.ends, run-some.0, N.passed.onward)

    -- so that less of the text is left
    pub met_less : length text - place < length text - at
    met_less = omega (arith, onward, N.passed.within)

    -- all runs before it are right
    pub met_turned : {more : ℕ} → more ≡ corners + length (corners_said (said_by run))
        → Walk text (so_far ++ corners_said (said_by run)) place more next
    met_turned count =
        let W = M.walk in
        record {
          same = rw (sym N.passed.same) one_more;
          count = simp length-append (omega (arith, W.count, count));
          few = omega (arith, W.few, count, one-corner (said_by run), onward);
          within = face-within (said_by run) face next M.after;
          inside = N.passed.within;
          starts = N.starts;
        }

module _ {text so_far : List ℕ} {at corners face : ℕ} (W : Walk text so_far at corners face)
    (l : length text ≤ at) where
  -- no run is left
  none_left : text_says text ≡ faces_from (length text) so_far face []
  unfolding runs
  none_left = cc (W.same, drop_of_length-le text l)

  -- the place is the text's end
  end-place : at ≡ length text
  end-place = omega (arith, W.inside)

  -- where the last face is not whole, corners are missing
  pub walk-missing : eqb face 0 || eqb face 3 ≡ false → text_says text ≡ wrong_at at
  unfolding faces_from
  walk-missing e = cc (none_left, e, end-place)

  -- else all faces are whole
  pub walk-finished : eqb face 0 || eqb face 3 ≡ true → TextRight text (corners / 3)
  unfolding faces_from
  walk-finished e =
      let says : text_says text ≡ faces so_far = cc (none_left, e) in
      record { list = so_far; right = says; long = omega (arith, W.count, text-whole text so_far says) }

  -- a list that the text says is that of the corners so far
  pub walk-list : (T : List ℕ) → text_says text ≡ faces T → T ≡ so_far
  unfolding faces_from
  walk-list T e = go (eqb face 0 || eqb face 3) refl
    where
      go : (b : Bool) → eqb face 0 || eqb face 3 ≡ b → T ≡ so_far
      go true f = cc (none_left)
      go false f = let z : ◌≡◌ {A = ℕ} 0 1 = cc (none_left) in absurd (omega arith)
