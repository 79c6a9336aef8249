-- What the rows of reading frames give, line by line; and reading as one function that computes. It refuses with a
-- number at a place exactly if the rows do, and gives a mesh exactly if they are passed and the lines say it.
use Prim.Native.Nat.{ℕ, ◌*◌, ◌≤◌, ◌<◌}
use native.Mathlib.Omega.{arith}
use mathlib.Core.Path.{◌≡◌, refl, sym, ap, ap₂, ◌∙◌, subst₂}
use mathlib.Core.Bool.{Bool, true, false, ◌||◌}
use mathlib.Mathlib.Data.Bool.Basic.{or-eq-false-eq-eq-false-and-eq-false as or-eq-false-iff}
use mathlib.Core.Logic.{◌⊎◌, inl, inr}
use mathlib.Core.Option.{Option, none, some}
use mathlib.Core.List.{List, []}
use borrow.Author.Tests.{ltb-true, ltb-false}
use lib.Dec.{ltb}
use Rattle.theory.specs.Limits.{most_triangles, most_vertices}
use Rattle.theory.specs.Mesh.{at}
use Rattle.theory.specs.Refusals.{Short, LeastPlace, Passed, Refused}
use Rattle.theory.specs.Frames.{Taken, take_line, Corners, corners, wrong_line, take_triangles}
use Rattle.theory.specs.Frames.{FirstLine, first_line, first_line_wrong, later_lines, later_line_wrong}
use Rattle.theory.specs.Frames.{LinesSay, read_rules}
use Rattle.theory.proofs.Refusals.{at-place-0, refused-unique, passed-not-refused, within-large}
use Rattle.theory.proofs.Determined.{lines-say-one}

-- ---- tests

-- two numbers of which neither passes a test of being above its limit are within their limits
pub within-limits : (m n a b : ℕ) → ltb m a || ltb n b ≡ false → (a ≤ m) × (b ≤ n)
within-limits m n a b e =
    let neither : (ltb m a ≡ false) × (ltb n b ≡ false) = (or-eq-false-iff (ltb m a) (ltb n b)).0 e in
    (ltb-false m a neither.0, ltb-false n b neither.1)

-- and if one passes it, one is above its limit
pub above-limits : (m n a b : ℕ) → ltb m a || ltb n b ≡ true → (m < a) ⊎ (n < b)
above-limits m n a b e = go (ltb m a) refl e
  where
    go : (t : Bool) → ltb m a ≡ t → t || ltb n b ≡ true → (m < a) ⊎ (n < b)
    go true f _ = inl (ltb-true m a f)
    go false _ g = inr (ltb-true n b g)

-- ---- what the rows give

-- without a first line as required, 12 is given at line 0
pub first-line-refused : (room : ℕ) (bytes : List ℕ) → take_line 0x4D 2 bytes ≡ none
    → Refused (read_rules room bytes) 12 0
unfolding Refused
first-line-refused room bytes e = inl (refl, at-place-0 e)

-- with a first line as required, which says N and F
module _ (room : ℕ) (bytes : List ℕ) (taken : Taken (List ℕ)) (line : take_line 0x4D 2 bytes ≡ some taken) where
  -- what it says
  abbrev said : FirstLine
  said = record { vertices = at taken.value 0; triangles = at taken.value 1; rest = taken.rest }

  first-line-said : first_line bytes ≡ said
  unfolding first_line
  first-line-said = cc

  -- 12 is not given at line 0
  first-line-right : (place : ℕ) → (first_line_wrong bytes).given place → ⊥
  first-line-right place g =
      let clash : some taken ≡ none = sym line ∙ g.0 in
      let z : ◌≡◌ {A = ℕ} 0 1 = cc in
      absurd (omega arith)

  -- 4 is given where it says too much
  pub large-refused : (most_triangles < said.triangles) ⊎ (most_vertices < said.vertices)
      → Refused (read_rules room bytes) 4 0
  unfolding Refused
  large-refused l = inr (first-line-right, inl (refl, at-place-0 (rw first-line-said l)))

  -- within the limits
  module _ (few : said.triangles ≤ most_triangles) (low : said.vertices ≤ most_vertices) where
    -- 4 is not given
    not-large : (most_triangles < (first_line bytes).triangles) ⊎ (most_vertices < (first_line bytes).vertices) → ⊥
    not-large l = within-large few low (rw first-line-said at l)

    -- 5 is given where the room is too short
    pub short-refused : room < 3 * said.triangles → Refused (read_rules room bytes) 5 0
    unfolding Refused Short
    short-refused l =
        inr (first-line-right, inr ((λ place g. not-large g.0), inl (refl, at-place-0 (rw first-line-said (inl l)))))

    -- with room enough
    module _ (fits : 3 * said.triangles ≤ room) where
      -- 5 is not given
      not_short : (room < 3 * (first_line bytes).triangles) ⊎ ⊥ → ⊥
      not_short (inl l) = omega (arith, rw first-line-said at l)
      not_short (inr l) = l

      -- the later lines are those after the first
      later-lines : later_lines bytes ≡ take_triangles said.triangles 1 [] said.rest
      later-lines = ap (λ (f : FirstLine). take_triangles f.triangles 1 [] f.rest) first-line-said

      -- 12 is given at a later line that is not as required
      pub later-line-refused : (place : ℕ) → take_triangles said.triangles 1 [] said.rest ≡ wrong_line place
          → Refused (read_rules room bytes) 12 place
      unfolding Refused Short
      later-line-refused place e = inr (
        first-line-right,
        inr ((λ place g. not-large g.0), inr ((λ place g. not_short g.0), inl (refl, least))),
      )
        where
          least : LeastPlace (later_line_wrong bytes).given place
          least = record {
            here = later-lines ∙ e;
            before = λ earlier l g.
                let same : wrong_line earlier ≡ wrong_line place = sym g ∙ later-lines ∙ e in
                let equal : earlier ≡ place = cc in
                omega arith;
          }

      -- and where all are, the rows are passed, and the lines say the mesh
      pub lines-passed : (T : List ℕ) → take_triangles said.triangles 1 [] said.rest ≡ corners T
          → Passed (read_rules room bytes) × LinesSay bytes said.vertices T
      unfolding Passed Short
      lines-passed T e = (
        (first-line-right, ((λ place g. not-large g.0), ((λ place g. not_short g.0), (none-wrong, tt)))),
        record { first = ap (λ (f : FirstLine). f.vertices) first-line-said; later = later-lines ∙ e },
      )
        where
          none-wrong : (place : ℕ) → (later_line_wrong bytes).given place → ⊥
          none-wrong place g =
              let clash : corners T ≡ wrong_line place = sym (later-lines ∙ e) ∙ g in
              let z : ◌≡◌ {A = ℕ} 0 1 = cc in
              absurd (omega arith)

-- ---- reading as one function

-- What reading gives.
pub data Frames : Type 0 where
  mesh : ℕ → List ℕ → Frames
  refused : ℕ → ℕ → Frames

-- A mesh with its V where all lines are as required, and refusal 12 at the first line that is not.
unfoldable pub mesh_of : ℕ → Corners → Frames
mesh_of N (corners T) = mesh N T
mesh_of N (wrong_line place) = refused 12 place

-- The first line, the limits, the room, the later lines.
unfoldable pub read_frames : ℕ → List ℕ → Frames
read_frames room bytes =
    elim (take_line 0x4D 2 bytes) [
      | none ↦ refused 12 0
      | some first ↦
          let N : ℕ = at first.value 0 in
          let F : ℕ = at first.value 1 in
          elim (ltb most_triangles F || ltb most_vertices N) [
            | true ↦ refused 4 0
            | false ↦ elim (ltb room (3 * F)) [
              | true ↦ refused 5 0
              | false ↦ mesh_of N (take_triangles F 1 [] first.rest)
            ]
          ]
    ]

-- What the rows and the lines say of that.
data Given (room : ℕ) (bytes : List ℕ) : Frames → Type 0 where
  refuses : (number place : ℕ) → Refused (read_rules room bytes) number place → Given room bytes (refused number place)
  accepts : (N : ℕ) (T : List ℕ) → Passed (read_rules room bytes) × LinesSay bytes N T → Given room bytes (mesh N T)

-- what is true of both choices of a test is true of the one taken
pub by-test : {B : Type 0} (P : B → Type 0) {x y : B} (t : Bool) → (t ≡ true → P x) → (t ≡ false → P y)
    → P (elim t [ true ↦ x | false ↦ y ])
by-test P true p q = p refl
by-test P false p q = q refl

-- what is true of all choices by an option is true of the one taken
by-option : {A B : Type 0} (P : B → Type 0) {other : B} {step : A → B} (o : Option A) → (o ≡ none → P other)
    → ((a : A) → o ≡ some a → P (step a)) → P (elim o [ none ↦ other | some a ↦ step a ])
by-option P none p q = p refl
by-option P (some a) p q = q a refl

-- the later lines, if all before them is right
lines-given : (room : ℕ) (bytes : List ℕ) (taken : Taken (List ℕ)) (line : take_line 0x4D 2 bytes ≡ some taken)
    → at taken.value 1 ≤ most_triangles → at taken.value 0 ≤ most_vertices → 3 * at taken.value 1 ≤ room
    → (C : Corners) → take_triangles (at taken.value 1) 1 [] taken.rest ≡ C
    → Given room bytes (mesh_of (at taken.value 0) C)
unfolding mesh_of
lines-given room bytes taken line few low fits (corners T) e =
    accepts _ T (lines-passed room bytes taken line few low fits T e)
lines-given room bytes taken line few low fits (wrong_line place) e =
    refuses 12 place (later-line-refused room bytes taken line few low fits place e)

-- they say what the function gives
read-given : (room : ℕ) (bytes : List ℕ) → Given room bytes (read_frames room bytes)
unfolding read_frames
read-given room bytes =
    by-option (Given room bytes) (take_line 0x4D 2 bytes) (λ e. refuses 12 0 (first-line-refused room bytes e)) λ taken line.
    let N : ℕ = at taken.value 0 in
    let F : ℕ = at taken.value 1 in
    by-test (Given room bytes) (ltb most_triangles F || ltb most_vertices N)
    (λ t. refuses 4 0 (large-refused room bytes taken line (above-limits _ _ _ _ t))) λ f.
    let limits : (F ≤ most_triangles) × (N ≤ most_vertices) = within-limits _ _ _ _ f in
    by-test (Given room bytes) (ltb room (3 * F))
    (λ t. refuses 5 0 (short-refused room bytes taken line limits.0 limits.1 (ltb-true room (3 * F) t))) λ f.
    lines-given room bytes taken line limits.0 limits.1 (ltb-false room (3 * F) f) _ refl

-- ---- the function and the rows

module _ (room : ℕ) (bytes : List ℕ) where
  -- where it refuses, the rows do
  pub read-refused : {number place : ℕ} → read_frames room bytes ≡ refused number place
      → Refused (read_rules room bytes) number place
  read-refused {number} {place} e = go _ (read-given room bytes) e
    where
      go : (f : Frames) → Given room bytes f → f ≡ refused number place → Refused (read_rules room bytes) number place
      go f (refuses m p R) w =
          let same_number : m ≡ number = cc in
          let same_place : p ≡ place = cc in
          subst₂ (Refused (read_rules room bytes)) same_number same_place R
      go f (accepts M S A) w = let z : ◌≡◌ {A = ℕ} 0 1 = cc in absurd (omega arith)

  -- and where the rows do, it does
  pub refused-read : {number place : ℕ} → Refused (read_rules room bytes) number place
      → read_frames room bytes ≡ refused number place
  refused-read {number} {place} R = go _ (read-given room bytes)
    where
      go : (f : Frames) → Given room bytes f → f ≡ refused number place
      go f (refuses m p S) =
          let same : (m ≡ number) × (p ≡ place) = refused-unique _ m p number place S R in
          ap₂ refused same.0 same.1
      go f (accepts M S A) = absurd (passed-not-refused _ number place A.0 R)

  -- where it gives a mesh, the rows are passed and the lines say it
  pub read-passed : {N : ℕ} {T : List ℕ} → read_frames room bytes ≡ mesh N T
      → Passed (read_rules room bytes) × LinesSay bytes N T
  read-passed {N} {T} e = go _ (read-given room bytes) e
    where
      go : (f : Frames) → Given room bytes f → f ≡ mesh N T → Passed (read_rules room bytes) × LinesSay bytes N T
      go f (refuses m p R) w = let z : ◌≡◌ {A = ℕ} 0 1 = cc in absurd (omega arith)
      go f (accepts M S A) w =
          let same-vertices : M ≡ N = cc in
          let same-corners : S ≡ T = cc in
          (A.0, subst₂ (LinesSay bytes) same-vertices same-corners A.1)

  -- and where they are passed and the lines say a mesh, it gives that
  pub passed-read : {N : ℕ} {T : List ℕ} → Passed (read_rules room bytes) → LinesSay bytes N T
      → read_frames room bytes ≡ mesh N T
  passed-read {N} {T} passed says = go _ (read-given room bytes)
    where
      go : (f : Frames) → Given room bytes f → f ≡ mesh N T
      go f (refuses m p S) = absurd (passed-not-refused _ m p passed S)
      go f (accepts M S A) =
          let same : (M ≡ N) × (S ≡ T) = lines-say-one A.1 says in
          ap₂ mesh same.0 same.1
