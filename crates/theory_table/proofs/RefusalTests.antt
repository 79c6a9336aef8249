-- Document 01's table of refusals as tests that compute: the rows 1 to 10, where room enough is lent, the places of 15
-- in a reading, and whether a list of rows is passed or refuses with a number at a place. `rest` are rows after the
-- tested ones.
use Prim.Native.Nat.{ℕ, ◌+◌, ◌/◌, ◌%◌, ◌<◌}
use native.Mathlib.Omega.{arith}
use mathlib.Core.Path.{◌≡◌, refl, sym, ◌∙◌}
use mathlib.Core.Logic.{◌⊎◌, inl, inr}
use mathlib.Core.Bool.{Bool, true, false, not, ◌&&◌, ◌||◌}
use mathlib.Core.List.{List, [], ◌∷◌, ◌++◌, Memᴰ as Member}
use mathlib.Core.List.Memᴰ.{cast as member-cast}
use lib.Dec.{T as So, T_not, not_T, eqb, leb, ltb, eqb→eq, leb→le, ltb→lt, lt→ltb, le→leb}
use lib.ListN.{length}
use Rattle.theory.specs.Limits.{most_vertices}
use Rattle.theory.specs.Mesh.{at, triangles, On, Rotated}
use Rattle.theory.specs.Counting.{count, first_from}
use Rattle.theory.specs.Splitting.{same_edge, first_on, is_first, edge_no, four, fours, split}
use Rattle.theory.specs.Reading.{renamed, Reading, Disagrees}
use Rattle.theory.specs.Refusals.{Rule, Room, NoPlace, asked_too_much, not_threes, no_triangle, too_large, too_short}
use Rattle.theory.specs.Refusals.{CornerNotBelow, corner_not_below, EqualCorners, equal_corners, SameAsEarlier}
use Rattle.theory.specs.Refusals.{same_as_earlier, InNoTriangle, in_no_triangle, not_connected, size_rules, mesh_rules}
use Rattle.theory.specs.Refusals.{LeastPlace, Passed, Refused}
use Rattle.theory.specs.Demands.{Enough}
use Rattle.theory.proofs.Tests.{
  and_sound,
  and-complete,
  and₃-sound,
  or_sound,
  or_left,
  or_right,
  eq→eqb,
  some_of,
  some_of-sound,
  some_of-complete,
  is_in,
  is_in-sound,
  is_in-complete,
  all_below,
  all_below-sound,
  some_below,
  some_below-sound,
  some_below-complete,
  at-member,
  member-at,
}
use Rattle.theory.proofs.Decide.{corners, on-member, member-on, on-le}
use Rattle.theory.proofs.Decide.{same_test, same_test-sound, same_test-complete}
use Rattle.theory.proofs.Decide.{rotated_test, rotated_test-sound, rotated_test-complete}
use Rattle.theory.proofs.Decide.{reach_test, reach_test-sound, reach_test-complete}

-- ---- rows as tests

-- A row as a test: its number, the test at each place, and a bound of the places.
pub record Check : Type 0 where
  pub number : ℕ
  pub bound : ℕ
  pub test : ℕ → Bool

-- The test passes exactly at the places at which the row is given, and all of them are below the bound.
pub record Decides (check : Check) (rule : Rule) : Type 0 where
  pub same : check.number ≡ rule.number
  pub sound : (place : ℕ) → So (check.test place) → rule.given place
  pub complete : (place : ℕ) → rule.given place → So (check.test place)
  pub within : (place : ℕ) → rule.given place → place < check.bound

-- Check by check, the rows are decided.
pub data DecideAll : List Check → List Rule → Type 1 where
  none : DecideAll [] []
  more : {check : Check} {rule : Rule} {checks : List Check} {rules : List Rule} → Decides check rule
      → DecideAll checks rules → DecideAll (check ∷ checks) (rule ∷ rules)

-- whether the test passes at no place before n
unfoldable pub free_test : Check → ℕ → Bool
unfolding all_below
free_test check n = all_below (λ place. not (check.test place)) n

-- then the row is given at none of them
free-sound : {check : Check} {rule : Rule} → Decides check rule → (n : ℕ) → So (free_test check n)
    → (place : ℕ) → place < n → rule.given place → ⊥
unfolding free_test
free-sound {check} D n t place l g =
    T_not (check.test place) (all_below-sound (λ p. not (check.test p)) n t place l) (D.complete place g)

-- at no place before the bound is at no place
never-sound : {check : Check} {rule : Rule} → Decides check rule → So (free_test check check.bound)
    → (place : ℕ) → rule.given place → ⊥
never-sound {check} D t place g = free-sound D check.bound t place (D.within place g) g

-- ---- lists of rows

-- whether no test passes
unfoldable pub passed_test : List Check → Bool
unfolding free_test
passed_test [] = true
passed_test (check ∷ checks) =
    let r : Bool = passed_test checks in
    free_test check check.bound && r

-- then the rows are passed, if those after them are
pub passed_test-sound : {checks : List Check} {rules : List Rule} (rest : List Rule) → DecideAll checks rules
    → So (passed_test checks) → Passed rest → Passed (rules ++ rest)
unfolding passed_test Passed
passed_test-sound rest none t p = p
passed_test-sound rest (more {check} {checks = checks} D Ds) t p =
    let both = and_sound (free_test check check.bound) (passed_test checks) t in
    (never-sound D both.0, passed_test-sound rest Ds both.1 p)

-- then what the rows after them refuse is refused
pub passed_test-refused : {checks : List Check} {rules : List Rule} (rest : List Rule) (number place : ℕ)
    → DecideAll checks rules → So (passed_test checks) → Refused rest number place
    → Refused (rules ++ rest) number place
unfolding passed_test Refused
passed_test-refused rest number place none t f = f
passed_test-refused rest number place (more {check} {checks = checks} D Ds) t f =
    let both = and_sound (free_test check check.bound) (passed_test checks) t in
    inr (never-sound D both.0, passed_test-refused rest number place Ds both.1 f)

-- whether a test has the number and passes at the place and at none before
unfoldable pub first_test : Check → ℕ → ℕ → Bool
unfolding free_test
first_test check number place = eqb number check.number && (check.test place && free_test check place)

-- then the row is given with the number, at its least place
pub first_test-sound : {check : Check} {rule : Rule} {number place : ℕ} → Decides check rule
    → So (first_test check number place) → (number ≡ rule.number) × LeastPlace rule.given place
unfolding first_test
first_test-sound {check} {rule} {number} {place} D t =
    go (and₃-sound (eqb number check.number) (check.test place) (free_test check place) t)
  where
    go : So (eqb number check.number) × So (check.test place) × So (free_test check place)
        → (number ≡ rule.number) × LeastPlace rule.given place
    go (n, h, f) = (
      eqb→eq number check.number n ∙ D.same,
      record { here = D.sound place h; before = free-sound D place f },
    )

-- whether the first test that passes has the number, and the place is the first at which it does
unfoldable pub refused_test : List Check → ℕ → ℕ → Bool
unfolding first_test
refused_test [] number place = false
refused_test (check ∷ checks) number place =
    let r : Bool = refused_test checks number place in
    first_test check number place || (free_test check check.bound && r)

-- then the rows refuse, whatever is after them
pub refused_test-sound : {checks : List Check} {rules : List Rule} (rest : List Rule) (number place : ℕ)
    → DecideAll checks rules → So (refused_test checks number place) → Refused (rules ++ rest) number place
unfolding refused_test Refused
refused_test-sound rest number place none t = absurd t
refused_test-sound rest number place (more {check} {rule} {checks} {rules} D Ds) t =
    go (refused_test-sound rest number place Ds)
    (or_sound (first_test check number place) (free_test check check.bound && refused_test checks number place) t)
  where
    go : (So (refused_test checks number place) → Refused (rules ++ rest) number place)
        → So (first_test check number place) ⊎ So (free_test check check.bound && refused_test checks number place)
        → Refused (rule ∷ (rules ++ rest)) number place
    go below (inl s) = inl (first_test-sound D s)
    go below (inr s) =
        let both = and_sound (free_test check check.bound) (refused_test checks number place) s in
        inr (never-sound D both.0, below both.1)

-- ---- rows without a place

-- the test of a condition, at place 0
unfoldable pub no_place_check : ℕ → Bool → Check
no_place_check number b = record { number = number; bound = 1; test = λ place. b && eqb place 0 }

no_place-decides : {condition : Type 0} (number : ℕ) (b : Bool) → (So b → condition) → (condition → So b)
    → Decides (no_place_check number b) (record { number = number; given = NoPlace condition })
unfolding no_place_check
no_place-decides number b sound complete = record {
  same = refl;
  sound = λ place t.
      (sound (and_sound b (eqb place 0) t).0, eqb→eq place 0 (and_sound b (eqb place 0) t).1);
  complete = λ place g. and-complete b (eqb place 0) (complete g.0) (eq→eqb place 0 g.1);
  within = λ place g. omega (arith, g.1);
}

-- 1
unfoldable pub asked_check : ℕ → ℕ → Check
unfolding no_place_check
asked_check most asked = no_place_check 1 (ltb most asked)

pub asked-decides : (most asked : ℕ) → Decides (asked_check most asked) (asked_too_much most asked)
unfolding asked_check
asked-decides most asked = no_place-decides 1 (ltb most asked) (ltb→lt most asked) (lt→ltb most asked)

-- 2
threes-decides : (entries : ℕ) → Decides (no_place_check 2 (not (eqb (entries % 3) 0))) (not_threes entries)
threes-decides entries = no_place-decides 2 (not (eqb (entries % 3) 0))
    (λ t e. T_not (eqb (entries % 3) 0) t (eq→eqb (entries % 3) 0 e))
    (λ d. not_T (eqb (entries % 3) 0) (λ t. d (eqb→eq (entries % 3) 0 t)))

-- 3
some-decides : (F : ℕ) → Decides (no_place_check 3 (eqb F 0)) (no_triangle F)
some-decides F = no_place-decides 3 (eqb F 0) (eqb→eq F 0) (eq→eqb F 0)

-- 4
large-decides : (most N F : ℕ) → Decides (no_place_check 4 (ltb most F || ltb most_vertices N)) (too_large most N F)
large-decides most N F =
    no_place-decides 4 (ltb most F || ltb most_vertices N) (λ t. sound (or_sound (ltb most F) _ t)) complete
  where
    sound : So (ltb most F) ⊎ So (ltb most_vertices N) → (most < F) ⊎ (most_vertices < N)
    sound (inl t) = inl (ltb→lt most F t)
    sound (inr t) = inr (ltb→lt most_vertices N t)

    complete : (most < F) ⊎ (most_vertices < N) → So (ltb most F || ltb most_vertices N)
    complete (inl l) = or_left (ltb most F) _ (lt→ltb most F l)
    complete (inr l) = or_right (ltb most F) _ (lt→ltb most_vertices N l)

-- 5 is not given where room enough is lent
short-decides : (rooms : List Room) → Enough rooms → Decides (no_place_check 5 false) (too_short rooms)
short-decides rooms enough = no_place-decides 5 false (λ t. absurd t) enough

-- ---- rows with a place

-- 6: some entry at a corner of k is not below N
unfoldable pub below_check : ℕ → List ℕ → Check
unfolding some_of corners
below_check N T = record { number = 6; bound = triangles T + 1; test = λ k. some_of (leb N) (corners T k) }

below-decides : (N : ℕ) (T : List ℕ) → Decides (below_check N T) (corner_not_below N T)
unfolding below_check
below-decides N T = record {
  same = refl;
  sound = λ k t. found k (some_of-sound (leb N) (corners T k) t);
  complete = λ k g.
      some_of-complete (leb N) (corners T k) g.v (on-member T k g.v g.corner) (le→leb N g.v g.not_below);
  within = λ k g. omega (arith, on-le g.corner);
}
  where
    found : (k : ℕ) → (v : ℕ) × Member v (corners T k) × So (leb N v) → CornerNotBelow N T k
    found k (v, m, s) = record { v = v; corner = member-on T k v m; not_below = leb→le N v s }

-- c and d are different corners of k with the same entry
unfoldable pub equal_test : List ℕ → ℕ → ℕ → ℕ → Bool
equal_test T k c d = (eqb (c / 3) k && eqb (d / 3) k) && (not (eqb c d) && eqb (at T c) (at T d))

-- 7: there are two such corners in the list
unfoldable pub equal_check : List ℕ → Check
unfolding some_below equal_test
equal_check T = record {
  number = 7;
  bound = triangles T + 1;
  test = λ k. some_below (λ c. some_below (equal_test T k c) (length T)) (length T);
}

equal-decides : (T : List ℕ) → Decides (equal_check T) (equal_corners T)
unfolding equal_check equal_test
equal-decides T = record {
  same = refl;
  sound = λ k t. outer k (some_below-sound (λ c. some_below (equal_test T k c) (length T)) (length T) t);
  complete = λ k g.
      some_below-complete (λ c. some_below (equal_test T k c) (length T)) (length T) g.one.corner g.one.inside
      (some_below-complete (equal_test T k g.one.corner) (length T) g.other.corner g.other.inside
      (passes k g));
  within = λ k g. omega (arith, on-le g.one);
}
  where
    made : (k c d : ℕ) → c < length T → d < length T → So (eqb (c / 3) k && eqb (d / 3) k)
        → So (not (eqb c d)) × So (eqb (at T c) (at T d)) → EqualCorners T k
    made k c d l m t (n, e) = record {
      v = at T d;
      one = record {
        corner = c;
        inside = l;
        triangle = eqb→eq (c / 3) k (and_sound (eqb (c / 3) k) _ t).0;
        holds = eqb→eq (at T c) (at T d) e;
      };
      other = record {
        corner = d;
        inside = m;
        triangle = eqb→eq (d / 3) k (and_sound (eqb (c / 3) k) _ t).1;
        holds = refl;
      };
      two = λ same. T_not (eqb c d) n (eq→eqb c d same);
    }

    inner : (k c : ℕ) → c < length T → (d : ℕ) × (d < length T) × So (equal_test T k c d) → EqualCorners T k
    inner k c l (d, m, s) =
        let both = and_sound (eqb (c / 3) k && eqb (d / 3) k) (not (eqb c d) && eqb (at T c) (at T d)) s in
        made k c d l m both.0 (and_sound (not (eqb c d)) (eqb (at T c) (at T d)) both.1)

    outer : (k : ℕ) → (c : ℕ) × (c < length T) × So (some_below (equal_test T k c) (length T)) → EqualCorners T k
    outer k (c, l, s) = inner k c l (some_below-sound (equal_test T k c) (length T) s)

    passes : (k : ℕ) (g : EqualCorners T k) → So (equal_test T k g.one.corner g.other.corner)
    passes k g =
        and-complete (eqb (g.one.corner / 3) k && eqb (g.other.corner / 3) k) _
        (and-complete (eqb (g.one.corner / 3) k) _ (eq→eqb _ k g.one.triangle) (eq→eqb _ k g.other.triangle))
        (and-complete (not (eqb g.one.corner g.other.corner)) _
        (not_T (eqb g.one.corner g.other.corner) (λ t. g.two (eqb→eq _ _ t)))
        (eq→eqb (at T g.one.corner) _ (g.one.holds ∙ sym g.other.holds)))

-- 8: k is a triangle, and some earlier one is the same
unfoldable pub same_check : List ℕ → Check
unfolding some_below same_test
same_check T = record {
  number = 8;
  bound = triangles T;
  test = λ k. ltb k (triangles T) && some_below (λ j. same_test T j T k) k;
}

same-decides : (T : List ℕ) → Decides (same_check T) (same_as_earlier T)
unfolding same_check
same-decides T = record {
  same = refl;
  sound = λ k t.
      let both = and_sound (ltb k (triangles T)) (some_below (λ j. same_test T j T k) k) t in
      found k (ltb→lt k (triangles T) both.0) (some_below-sound (λ j. same_test T j T k) k both.1);
  complete = λ k g.
      and-complete (ltb k (triangles T)) (some_below (λ j. same_test T j T k) k) (lt→ltb k (triangles T) g.inside)
      (some_below-complete (λ j. same_test T j T k) k g.earlier g.before
      (same_test-complete T g.earlier T k g.same));
  within = λ k g. g.inside;
}
  where
    found : (k : ℕ) → k < triangles T → (j : ℕ) × (j < k) × So (same_test T j T k) → SameAsEarlier T k
    found k l (j, b, s) = record { earlier = j; before = b; inside = l; same = same_test-sound T j T k s }

-- 9: v is a vertex and no entry
unfoldable pub unused_check : ℕ → List ℕ → Check
unfolding is_in
unused_check N T = record { number = 9; bound = N; test = λ v. ltb v N && not (is_in v T) }

unused-decides : (N : ℕ) (T : List ℕ) → Decides (unused_check N T) (in_no_triangle N T)
unfolding unused_check
unused-decides N T = record {
  same = refl;
  sound = λ v t.
      let both = and_sound (ltb v N) (not (is_in v T)) t in
      record { inside = ltb→lt v N both.0; nowhere = λ k o. T_not (is_in v T) both.1 (entry v k o) };
  complete = λ v g.
      and-complete (ltb v N) (not (is_in v T)) (lt→ltb v N g.inside)
      (not_T (is_in v T) (λ t. somewhere v g (member-at (is_in-sound v T t))));
  within = λ v g. g.inside;
}
  where
    entry : (v k : ℕ) → On T k v → So (is_in v T)
    entry v k o = is_in-complete v T (member-cast (sym o.holds) (at-member T o.corner o.inside))

    somewhere : (v : ℕ) → InNoTriangle N T v → (c : ℕ) × (c < length T) × (at T c ≡ v) → ⊥
    somewhere v g (c, l, e) = g.nowhere (c / 3) (record { corner = c; inside = l; triangle = refl; holds = e })

-- a row of the triangles at which a test does not pass
unfoldable pub failing_check : ℕ → List ℕ → (ℕ → Bool) → Check
failing_check number T test = record {
  number = number;
  bound = triangles T;
  test = λ k. ltb k (triangles T) && not (test k);
}

failing-decides : {so given : ℕ → Type 0} (number : ℕ) (T : List ℕ) (test : ℕ → Bool)
    → ((k : ℕ) → So (test k) → so k) → ((k : ℕ) → so k → So (test k))
    → ((k : ℕ) → k < triangles T → (so k → ⊥) → given k) → ((k : ℕ) → given k → (k < triangles T) × (so k → ⊥))
    → Decides (failing_check number T test) (record { number = number; given = given })
unfolding failing_check
failing-decides number T test sound complete made parts = record {
  same = refl;
  sound = λ k t.
      let both = and_sound (ltb k (triangles T)) (not (test k)) t in
      made k (ltb→lt k (triangles T) both.0) (λ h. T_not (test k) both.1 (complete k h));
  complete = λ k g.
      and-complete (ltb k (triangles T)) (not (test k)) (lt→ltb k (triangles T) (parts k g).0)
      (not_T (test k) (λ t. (parts k g).1 (sound k t)));
  within = λ k g. (parts k g).0;
}

-- 10: k is a triangle, and not reached from triangle 0
unfoldable pub apart_check : List ℕ → Check
unfolding failing_check reach_test
apart_check T = failing_check 10 T (reach_test T 0)

apart-decides : (T : List ℕ) → Decides (apart_check T) (not_connected T)
unfolding apart_check
apart-decides T =
    failing-decides 10 T (reach_test T 0) (reach_test-sound T 0) (reach_test-complete T 0)
    (λ k l a. record { inside = l; apart = a }) (λ k g. (g.inside, g.apart))

-- whether triangle k of the input agrees with its own of the splitting
unfoldable pub agrees_test : List ℕ → Reading → ℕ → Bool
unfolding rotated_test renamed split fours four edge_no is_first first_on same_edge count first_from
agrees_test T r k =
    rotated_test (renamed r.vertex_map T) k (split r.vertices r.mesh) (at r.triangle_map k)

-- 15, of the reading of which it speaks: k is a triangle, and disagrees
unfoldable pub disagrees_check : List ℕ → Reading → Check
unfolding failing_check agrees_test
disagrees_check T r = failing_check 15 T (agrees_test T r)

pub disagrees-decides : (T : List ℕ) (r : Reading)
    → Decides (disagrees_check T r) (record { number = 15; given = Disagrees Rotated T r })
unfolding disagrees_check agrees_test
disagrees-decides T r =
    failing-decides 15 T (agrees_test T r) (λ k. rotated_test-sound _ k _ _) (λ k. rotated_test-complete _ k _ _)
    (λ k l d. record { inside = l; differs = d }) (λ k g. (g.inside, g.differs))

-- ---- the rows 2 to 10 of a call

-- where room enough is lent; `most` is the call's limit of triangles
unfoldable pub mesh_checks : ℕ → ℕ → List ℕ → List Check
unfolding no_place_check below_check equal_check same_check unused_check apart_check
mesh_checks most N T =
    no_place_check 2 (not (eqb (length T % 3) 0))
    ∷ no_place_check 3 (eqb (triangles T) 0)
    ∷ no_place_check 4 (ltb most (triangles T) || ltb most_vertices N)
    ∷ no_place_check 5 false
    ∷ below_check N T ∷ equal_check T ∷ same_check T ∷ unused_check N T ∷ apart_check T ∷ []

pub mesh-decides : (most N : ℕ) (T : List ℕ) (rooms : List Room) → Enough rooms
    → DecideAll (mesh_checks most N T) (size_rules most N (length T) ++ (too_short rooms ∷ mesh_rules N T))
unfolding mesh_checks
mesh-decides most N T rooms enough =
    more (threes-decides (length T)) (more (some-decides (triangles T)) (more (large-decides most N (triangles T))
    (more (short-decides rooms enough) (more (below-decides N T) (more (equal-decides T) (more (same-decides T)
    (more (unused-decides N T) (more (apart-decides T) none))))))))
