-- The laws of rows and of lists of rows: a list is not both passed and refused, it refuses with one number at one
-- place, and of two lists one after the other the second judges where the first is passed. Then what each row says where
-- it is not given: 1 to 4; the room, where the shortest work buffer decides for all; 2, 4 and 5 of what is written; and
-- 6 to 10, of which none is given exactly if the mesh is proper.
use Prim.Native.Nat.{ℕ, ◌+◌, ◌*◌, ◌/◌, ◌%◌, ◌≤◌, ◌<◌, min}
use native.Mathlib.Omega.{arith}
use native.Mathlib.Decide.{ℕ_discrete, dec_lt}
use mathlib.Core.Path.{◌≡◌, refl, sym, ◌∙◌}
use mathlib.Core.Logic.{◌≢◌, ◌⊎◌, inl, inr}
use mathlib.Core.List.{List, [], ◌∷◌, ◌++◌}
use lib.ListN.{length}
use Rattle.theory.specs.Limits.{most_triangles, most_vertices}
use Rattle.theory.specs.Mesh.{at, triangles, On, Same, Reach, Proper}
use Rattle.theory.specs.Refusals.{CornerNotBelow, EqualCorners, SameAsEarlier, InNoTriangle, NotConnected}
use Rattle.theory.specs.Refusals.{Rule, Room, Short, NoPlace, asked_too_much, not_threes, no_triangle, too_large}
use Rattle.theory.specs.Refusals.{too_short, size_rules, mesh_rules, LeastPlace, Passed, Refused}
use Rattle.theory.specs.Calls.{work_entries, work_rooms}
use Rattle.theory.proofs.Finite.{neither-less, find-below}
use Rattle.theory.proofs.Mesh.{on-corner, same-sym}
use Rattle.theory.proofs.Decide.{reach?}

-- ---- one row

-- a row is given at one least place
pub least-place-unique : {given : ℕ → Type 0} {p q : ℕ} → LeastPlace given p → LeastPlace given q → p ≡ q
least-place-unique {given} {p} {q} a b =
    neither-less (λ l. b.before p l a.here) (λ l. a.before q l b.here)

-- a row without a place whose condition holds is given at place 0
pub at-place-0 : {condition : Type 0} → condition → LeastPlace (NoPlace condition) 0
at-place-0 holds = record { here = (holds, refl); before = λ earlier l. absurd (omega arith) }

-- ---- one list of rows

-- two refusals by one list of rows have one number and one place
pub refused-unique : (rules : List Rule) (m p n q : ℕ) → Refused rules m p → Refused rules n q → (m ≡ n) × (p ≡ q)
unfolding Refused
refused-unique [] m p n q a b = absurd a
refused-unique (rule ∷ rules) m p n q (inl a) (inl b) = (a.0 ∙ sym b.0, least-place-unique a.1 b.1)
refused-unique (rule ∷ rules) m p n q (inl a) (inr b) = absurd (b.0 p a.1.here)
refused-unique (rule ∷ rules) m p n q (inr a) (inl b) = absurd (a.0 q b.1.here)
refused-unique (rule ∷ rules) m p n q (inr a) (inr b) = refused-unique rules m p n q a.1 b.1

-- what is passed is not refused
pub passed-not-refused : (rules : List Rule) (n p : ℕ) → Passed rules → Refused rules n p → ⊥
unfolding Passed Refused
passed-not-refused [] n p a b = b
passed-not-refused (rule ∷ rules) n p a (inl b) = a.0 p b.1.here
passed-not-refused (rule ∷ rules) n p a (inr b) = passed-not-refused rules n p a.1 b.1

-- The least number of the rows, or 1 if there is none.
abbrev pub least_number : List Rule → ℕ
least_number [] = 1
least_number (rule ∷ rules) = min rule.number (least_number rules)

-- rows whose numbers are above 0 refuse with a number above 0
pub refused-above : (rules : List Rule) (n p : ℕ) → Refused rules n p → 0 < least_number rules → 0 < n
unfolding Refused
refused-above [] n p f l = absurd f
refused-above (rule ∷ rules) n p (inl (same, _)) l = omega arith
refused-above (rule ∷ rules) n p (inr (_, f)) l = refused-above rules n p f (omega arith)

-- The number is that of one of the rows.
abbrev pub NumberOf : List Rule → ℕ → Type 0
NumberOf [] n = ⊥
NumberOf (rule ∷ []) n = n ≡ rule.number
NumberOf (rule ∷ next ∷ rules) n = (n ≡ rule.number) ⊎ NumberOf (next ∷ rules) n

-- rows refuse with the number of one of them
pub refused-number : (rules : List Rule) (n p : ℕ) → Refused rules n p → NumberOf rules n
unfolding Refused
refused-number [] n p f = f
refused-number (rule ∷ []) n p (inl (same, _)) = same
refused-number (rule ∷ []) n p (inr (_, f)) = absurd f
refused-number (rule ∷ next ∷ rules) n p (inl (same, _)) = inl same
refused-number (rule ∷ next ∷ rules) n p (inr (_, f)) = inr (refused-number (next ∷ rules) n p f)

-- ---- two lists of rows, one after the other

-- of two lists that are passed, the first is
pub passed-front : (front back : List Rule) → Passed (front ++ back) → Passed front
unfolding Passed
passed-front [] back p = tt
passed-front (rule ∷ front) back p = (p.0, passed-front front back p.1)

-- and the second
pub passed-back : (front back : List Rule) → Passed (front ++ back) → Passed back
unfolding Passed
passed-back [] back p = p
passed-back (rule ∷ front) back p = passed-back front back p.1

-- two lists that are passed make a list that is passed
pub passed-both : (front back : List Rule) → Passed front → Passed back → Passed (front ++ back)
unfolding Passed
passed-both [] back p q = q
passed-both (rule ∷ front) back p q = (p.0, passed-both front back p.1 q)

-- what the first refuses, both refuse
pub refused-by-front : (front back : List Rule) (n p : ℕ) → Refused front n p → Refused (front ++ back) n p
unfolding Refused
refused-by-front [] back n p r = absurd r
refused-by-front (rule ∷ front) back n p (inl r) = inl r
refused-by-front (rule ∷ front) back n p (inr r) = inr (r.0, refused-by-front front back n p r.1)

-- where the first is passed, what the second refuses, both refuse
pub refused-by-back : (front back : List Rule) (n p : ℕ) → Passed front → Refused back n p → Refused (front ++ back) n p
unfolding Passed Refused
refused-by-back [] back n p passed r = r
refused-by-back (rule ∷ front) back n p passed r = inr (passed.0, refused-by-back front back n p passed.1 r)

-- and what both refuse is refused by the second
pub back-refuses : (front back : List Rule) (n p : ℕ) → Passed front → Refused (front ++ back) n p → Refused back n p
unfolding Passed Refused
back-refuses [] back n p passed r = r
back-refuses (rule ∷ front) back n p passed (inl r) = absurd (passed.0 p r.1.here)
back-refuses (rule ∷ front) back n p passed (inr r) = back-refuses front back n p passed.1 r.1

-- ---- a row without a place in other words

module _ (number : ℕ) {one other : Type 0} (there : one → other) (back : other → one) (after : List Rule) where
  -- rows with either are passed together
  pub passed-either : (front : List Rule)
      → Passed (front ++ (record { number = number; given = NoPlace one } ∷ after))
      → Passed (front ++ (record { number = number; given = NoPlace other } ∷ after))
  unfolding Passed
  passed-either [] p = ((λ place given. p.0 place (back given.0, given.1)), p.1)
  passed-either (rule ∷ rules) p = (p.0, passed-either rules p.1)

  -- and refuse the same
  pub refused-either : (front : List Rule) (n place : ℕ)
      → Refused (front ++ (record { number = number; given = NoPlace one } ∷ after)) n place
      → Refused (front ++ (record { number = number; given = NoPlace other } ∷ after)) n place
  unfolding Refused
  refused-either [] n place (inl (same, least)) =
      inl (
        same,
        record {
          here = (there least.here.0, least.here.1);
          before = λ earlier l given. least.before earlier l (back given.0, given.1);
        },
      )
  refused-either [] n place (inr (none, f)) = inr ((λ place given. none place (back given.0, given.1)), f)
  refused-either (rule ∷ rules) n place (inl f) = inl f
  refused-either (rule ∷ rules) n place (inr (none, f)) = inr (none, refused-either rules n place f)

-- ---- the rows 1 to 4

-- where a row without a place is not given, its condition does not hold
pub not-given : (condition : Type 0) → ((place : ℕ) → NoPlace condition place → ⊥) → condition → ⊥
not-given condition none holds = none 0 (holds, refl)

-- where 1 is not given, no more is asked than may be
pub asked-known : (most asked : ℕ) → ((place : ℕ) → (asked_too_much most asked).given place → ⊥) → asked ≤ most
asked-known most asked none = omega (arith, not-given (most < asked) none)

-- where 2 is not given, the entries are a whole number of triangles
pub threes-whole : (entries : ℕ) → ((place : ℕ) → (not_threes entries).given place → ⊥) → entries % 3 ≡ 0
threes-whole entries none =
    elim (ℕ_discrete (entries % 3) 0) [ yes e ↦ e | no h ↦ absurd (not-given (entries % 3 ≢ 0) none h) ]

-- where 3 is not given, there is a triangle
pub some-triangle : (F : ℕ) → ((place : ℕ) → (no_triangle F).given place → ⊥) → 0 < F
some-triangle F none = omega (arith, not-given (F ≡ 0) none)

-- where 4 is not given, triangles and vertices keep their limits
pub large-within : (most N F : ℕ) → ((place : ℕ) → (too_large most N F).given place → ⊥)
    → (F ≤ most) × (N ≤ most_vertices)
large-within most N F none =
    let large = not-given ((most < F) ⊎ (most_vertices < N)) none in
    (not-above (λ l. large (inl l)), not-above (λ l. large (inr l)))
  where
    not-above : {m n : ℕ} → (n < m → ⊥) → m ≤ n
    not-above h = omega (arith, h)

-- and where they keep them, it is not given
pub within-large : {most N F : ℕ} → F ≤ most → N ≤ most_vertices → (most < F) ⊎ (most_vertices < N) → ⊥
within-large few low (inl l) = omega arith
within-large few low (inr l) = omega arith

-- The sizes of a list of so many entries that passes 2, 3 and 4.
pub record Sized (most N entries : ℕ) : Type 0 where
  pub threes : entries % 3 ≡ 0
  pub some : 0 < entries / 3
  pub few : entries / 3 ≤ most
  pub low : N ≤ most_vertices

module _ (most N entries : ℕ) where
  -- where 2, 3 and 4 are passed, they are so
  pub sized : Passed (size_rules most N entries) → Sized most N entries
  unfolding Passed
  sized passed =
      let limits = large-within most N (entries / 3) passed.1.1.0 in
      record {
        threes = threes-whole entries passed.0;
        some = some-triangle (entries / 3) passed.1.0;
        few = limits.0;
        low = limits.1;
      }

  -- and where they are so, 2, 3 and 4 are passed
  pub sized-passed : Sized most N entries → Passed (size_rules most N entries)
  unfolding Passed
  sized-passed S = (
    λ place g. g.0 S.threes,
    (λ place g. omega (arith, S.some, g.0), (λ place g. within-large S.few S.low g.0, tt)),
  )

-- ---- the row of the room

-- Every buffer is as long as needed.
abbrev pub Fits : List Room → Type 0
Fits [] = Unit {0}
Fits (room ∷ rooms) = (room.needed ≤ room.lent) × Fits rooms

-- where none is short, every one is
pub none-short-fits : (rooms : List Room) → (Short rooms → ⊥) → Fits rooms
unfolding Short
none-short-fits [] none = tt
none-short-fits (room ∷ rooms) none = (
  elim (dec_lt room.lent room.needed) [ yes l ↦ absurd (none (inl l)) | no h ↦ omega arith ],
  none-short-fits rooms (λ short. none (inr short)),
)

-- and where every one is, none is short
pub fits-none-short : (rooms : List Room) → Fits rooms → Short rooms → ⊥
unfolding Short
fits-none-short [] fits short = short
fits-none-short (room ∷ rooms) fits (inl l) = omega (arith, fits.0)
fits-none-short (room ∷ rooms) fits (inr short) = fits-none-short rooms fits.1 short

-- buffers after others may be spoken of in other words
pub short-after : (rooms one other : List Room) → (Short one → Short other)
    → Short (rooms ++ one) → Short (rooms ++ other)
unfolding Short
short-after [] one other there short = there short
short-after (room ∷ rooms) one other there (inl l) = inl l
short-after (room ∷ rooms) one other there (inr short) = inr (short-after rooms one other there short)

-- The least of a number and others.
abbrev pub least : ℕ → List ℕ → ℕ
least a [] = a
least a (b ∷ others) = min a (least b others)

module _ (N F : ℕ) where
  -- if the shortest work buffer is too short, one of them is
  pub least-short : (work : ℕ) (works : List ℕ) → Short (work_rooms N F (least work works ∷ []))
      → Short (work_rooms N F (work ∷ works))
  unfolding Short
  least-short work [] short = short
  least-short work (next ∷ works) (inr short) = absurd short
  least-short work (next ∷ works) (inl l) =
      elim (dec_lt work (work_entries N F)) [ yes h ↦ inl h | no h ↦ inr (least-short next works (inl (omega arith))) ]

  -- and if one of them is, the shortest is
  pub short-least : (work : ℕ) (works : List ℕ) → Short (work_rooms N F (work ∷ works))
      → Short (work_rooms N F (least work works ∷ []))
  unfolding Short
  short-least work [] short = short
  short-least work (next ∷ works) (inl l) = inl (omega arith)
  short-least work (next ∷ works) (inr short) = go (short-least next works short)
    where
      go : (least next works < work_entries N F) ⊎ ⊥ → (least work (next ∷ works) < work_entries N F) ⊎ ⊥
      go (inl l) = inl (omega arith)
      go (inr none) = inr none

  -- so of outputs and work buffers one is too short exactly if one of the outputs and the shortest work buffer is
  module _ (outputs : List Room) (work : ℕ) (works : List ℕ) where
    pub shortest-short : Short (outputs ++ work_rooms N F (least work works ∷ []))
        → Short (outputs ++ work_rooms N F (work ∷ works))
    shortest-short = short-after outputs _ _ (least-short work works)

    pub short-shortest : Short (outputs ++ work_rooms N F (work ∷ works))
        → Short (outputs ++ work_rooms N F (least work works ∷ []))
    short-shortest = short-after outputs _ _ (short-least work works)

-- "each is at most 64 times (V + F) entries, so that enough can always be lent"
pub work-entries-at-most : (N F : ℕ) → work_entries N F ≤ 64 * (N + F)
work-entries-at-most N F = omega arith

-- ---- the rows of what is written

-- The rows of writing a list of so many entries into one buffer: 2, 4 and 5.
abbrev pub writing_rules : ℕ → ℕ → Room → List Rule
writing_rules N entries room =
    not_threes entries ∷ too_large most_triangles N (entries / 3) ∷ too_short (room ∷ []) ∷ []

-- A list of so many entries that can be written: whole, within the limits, and the room is enough.
pub record Fitting (N entries : ℕ) (room : Room) : Type 0 where
  pub whole : entries ≡ 3 * (entries / 3)
  pub few : entries / 3 ≤ most_triangles
  pub low : N ≤ most_vertices
  pub fits : room.needed ≤ room.lent

-- it is refused by no row
pub fitting-passed : (N entries : ℕ) (room : Room) → Fitting N entries room → Passed (writing_rules N entries room)
unfolding Passed
fitting-passed N entries room W = (
  λ place g. g.0 (omega (arith, W.whole)),
  (
    λ place g. within-large W.few W.low g.0,
    ((λ place g. fits-none-short (room ∷ []) (W.fits, tt) g.0), tt),
  ),
)

-- and what is refused by no row is such a list
pub passed-fitting : (N entries : ℕ) (room : Room) → Passed (writing_rules N entries room) → Fitting N entries room
unfolding Passed
passed-fitting N entries room passed =
    let limits = large-within most_triangles N (entries / 3) passed.1.0 in
    record {
      whole = omega (arith, threes-whole entries passed.0);
      few = limits.0;
      low = limits.1;
      fits = (none-short-fits (room ∷ []) (not-given (Short (room ∷ [])) passed.1.1.0)).0;
    }

-- ---- the rows 6 to 10

module _ (N : ℕ) (T : List ℕ) where
  -- ---- passed, so proper

  -- where 6 is not given, every corner is below N
  pub corners-below : ((k : ℕ) → CornerNotBelow N T k → ⊥) → (c : ℕ) → c < length T → at T c < N
  corners-below none c l = go (dec_lt (at T c) N)
    where
      go : Dec (at T c < N) → at T c < N
      go (yes h) = h
      go (no h) = absurd (none (c / 3) (record { v = at T c; corner = on-corner T c l; not_below = omega arith }))

  -- where 7 is not given, the corners of a triangle are different
  pub corners-different : ((k : ℕ) → EqualCorners T k → ⊥)
      → (c d : ℕ) → c < length T → d < length T → c / 3 ≡ d / 3 → at T c ≡ at T d → c ≡ d
  corners-different none c d l m t e = go (ℕ_discrete c d)
    where
      go : Dec (c ≡ d) → c ≡ d
      go (yes p) = p
      go (no p) =
          absurd (none (d / 3) (record {
            v = at T d;
            one = record { corner = c; inside = l; triangle = t; holds = e };
            other = on-corner T d m;
            two = p;
          }))

  -- where 8 is not given, no two triangles are the same
  triangles-unlike : ((k : ℕ) → SameAsEarlier T k → ⊥)
      → (j k : ℕ) → j < triangles T → k < triangles T → Same T j T k → j ≡ k
  triangles-unlike none j k l m s =
      neither-less
      (λ b. none k (record { earlier = j; before = b; inside = m; same = s }))
      (λ b. none j (record { earlier = k; before = b; inside = l; same = same-sym s }))

  -- where 9 is not given, every vertex is in a triangle
  vertices-used : ((v : ℕ) → InNoTriangle N T v → ⊥) → (v : ℕ) → v < N → (k : ℕ) × On T k v
  vertices-used none v l = go (find-below (length T) (λ c h. ℕ_discrete (at T c) v))
    where
      go : ((c : ℕ) × (c < length T) × (at T c ≡ v)) ⊎ ((c : ℕ) → c < length T → at T c ≡ v → ⊥) → (k : ℕ) × On T k v
      go (inl (c, h, e)) = (c / 3, record { corner = c; inside = h; triangle = refl; holds = e })
      go (inr unheld) =
          absurd (none v (record { inside = l; nowhere = λ k o. unheld o.corner o.inside o.holds }))

  -- where 10 is not given, the triangles are connected
  triangles-connected : ((k : ℕ) → NotConnected T k → ⊥) → (k : ℕ) → k < triangles T → Reach T 0 k
  triangles-connected none k l = go (reach? T 0 k)
    where
      go : Dec (Reach T 0 k) → Reach T 0 k
      go (yes h) = h
      go (no h) = absurd (none k (record { inside = l; apart = h }))

  -- where none is given, the mesh is proper
  pub passed-proper : length T ≡ 3 * triangles T → Passed (mesh_rules N T) → Proper N T
  unfolding Passed
  passed-proper whole passed =
      record {
        otherwise = record {
          whole = whole;
          below = corners-below passed.0;
          different = corners-different passed.1.0;
          unlike = triangles-unlike passed.1.1.0;
          used = vertices-used passed.1.1.1.0;
        };
        connected = triangles-connected passed.1.1.1.1.0;
      }

  -- ---- proper, so passed

  module _ (P : Proper N T) where
    none-not-below : (k : ℕ) → CornerNotBelow N T k → ⊥
    none-not-below k f =
        omega (arith, P.otherwise.below f.corner.corner f.corner.inside, f.corner.holds, f.not_below)

    none_equal : (k : ℕ) → EqualCorners T k → ⊥
    none_equal k f =
        f.two (P.otherwise.different _ _ f.one.inside f.other.inside
        (f.one.triangle ∙ sym f.other.triangle) (f.one.holds ∙ sym f.other.holds))

    none-same : (k : ℕ) → SameAsEarlier T k → ⊥
    none-same k f =
        let before : f.earlier < k = f.before in
        omega (arith, P.otherwise.unlike f.earlier k (omega (arith, f.inside)) f.inside f.same)

    none-unused : (v : ℕ) → InNoTriangle N T v → ⊥
    none-unused v f = f.nowhere (P.otherwise.used v f.inside).0 (P.otherwise.used v f.inside).1

    none_apart : (k : ℕ) → NotConnected T k → ⊥
    none_apart k f = f.apart (P.connected k f.inside)

    pub proper-passed : Passed (mesh_rules N T)
    unfolding Passed
    proper-passed = (none-not-below, (none_equal, (none-same, (none-unused, (none_apart, tt)))))
