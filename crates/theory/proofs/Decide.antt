-- `On`, an edge, its being regular, sameness, rotation, a shared edge, `Reach` and being proper are decided. Each has a
-- Bool test that computes (`..Test`), a proof that the test passes only where it is so (`..-sound`) and one that it
-- passes wherever it is so (`..-complete`), and the decision made from these (`..?`).
-- Whoever computes with a test or a decision says `unfolding` and its name: it opens all that it is made of.
use Prim.Native.Nat.{ℕ, zero, suc, ◌+◌, ◌-◌, ◌*◌, ◌/◌, ◌%◌, ◌≤◌, ◌<◌, min}
use native.Mathlib.Omega.{arith}
use mathlib.Core.Path.{◌≡◌, refl, sym, ap, ◌∙◌, subst}
use mathlib.Core.Logic.{◌≢◌, ◌⊎◌, inl, inr}
use mathlib.Core.Bool.{Bool, true, false, not, ◌&&◌, ◌||◌}
use mathlib.Core.List.Memᴰ.{head as first}
use mathlib.Core.List.Memᴰ.{tail as later}
use mathlib.Core.List.{List, [], ◌∷◌, ◌++◌, Memᴰ as Member}
use mathlib.Core.List.Memᴰ.{append_left as member-left}
use mathlib.Core.List.Memᴰ.{append_right as member_right}
use mathlib.Core.List.Memᴰ.{cast as member-cast}
use mathlib.Core.List.Memᴰ.{append_cases as member-append}
use lib.Dec.{T as So, T_not, not_T, eqb, ltb, eqb→eq, ltb→lt, lt→ltb}
use lib.ListN.{length, take, drop, length-append, length-take, length-drop}
use lib.Seq.{get_or-take, get_or-drop}
use Rattle.theory.specs.Mesh.{at, triangles, On, HasEdge, Regular, Same, Rotated, Share}
use Rattle.theory.specs.Mesh.{Reach, here, step}
use Rattle.theory.specs.Mesh.{OtherwiseProper, Proper}
use Rattle.theory.proofs.Tests.{
  decided,
  and_sound,
  and-complete,
  and₃-sound,
  and₃-complete,
  and₅-sound,
  and₅-complete,
  or_sound,
  or_left,
  or_right,
  eq→eqb,
  some_of,
  some_of-sound,
  some_of-complete,
  all_of,
  all_of-sound,
  all_of-complete,
  is_in,
  is_in-sound,
  is_in-complete,
  some_differ,
  some_differ-sound,
  some_differ-complete,
  passing,
  passing-sound,
  passing-complete,
  passing-length,
  numbers,
  numbers-length,
  below-numbers,
  all_below,
  all_below-sound,
  all_below-complete,
  some_below,
  some_below-sound,
  some_below-complete,
  at-member,
  member-at,
  all_apart,
  all_apart-sound,
  all_apart-complete,
}
use Rattle.theory.proofs.Finite.{neither-less}
use Rattle.theory.proofs.Mesh.{same-sym}

-- ---- On and HasEdge

-- the entries at the corners of triangle k
unfoldable pub corners : List ℕ → ℕ → List ℕ
corners T k = take 3 (drop (3 * k) T)

-- three, unless the list ends before
corners-length : (T : List ℕ) (k : ℕ) → length (corners T k) ≡ min 3 (length T - 3 * k)
unfolding corners
corners-length T k = simp (length-take, length-drop)

-- in the order of the list
corners-at : (T : List ℕ) (k i : ℕ) → i < 3 → at (corners T k) i ≡ at T (3 * k + i)
unfolding corners
corners-at T k i l = rw (get_or-take, get_or-drop)

-- corner c is the corner c % 3 of its triangle
corners-corner : (T : List ℕ) (c k : ℕ) → c / 3 ≡ k → at (corners T k) (c % 3) ≡ at T c
corners-corner T c k e = corners-at T k (c % 3) (omega arith) ∙ ap (at T) (omega arith)

-- what is on a triangle stands at one of its corners
pub on-member : (T : List ℕ) (k v : ℕ) → On T k v → Member v (corners T k)
on-member T k v o =
    member-cast (sym o.holds ∙ sym (corners-corner T o.corner k o.triangle))
    (at-member (corners T k) (o.corner % 3) (omega (arith, corners-length T k)))

-- what stands at a corner of a triangle is on it
pub member-on : (T : List ℕ) (k v : ℕ) → Member v (corners T k) → On T k v
member-on T k v m = go (member-at m)
  where
    go : (i : ℕ) × (i < length (corners T k)) × (at (corners T k) i ≡ v) → On T k v
    go (i, l, e) =
        let b : i < 3 = omega (arith, corners-length T k) in
        record {
          corner = 3 * k + i;
          inside = omega (arith, corners-length T k);
          triangle = omega arith;
          holds = sym (corners-at T k i b) ∙ e;
        }

-- v is one of the entries at the corners of k
unfoldable pub on_test : List ℕ → ℕ → ℕ → Bool
unfolding is_in corners
on_test T k v = is_in v (corners T k)

pub on_test-sound : (T : List ℕ) (k v : ℕ) → So (on_test T k v) → On T k v
unfolding on_test
on_test-sound T k v t = member-on T k v (is_in-sound v (corners T k) t)

pub on_test-complete : (T : List ℕ) (k v : ℕ) → On T k v → So (on_test T k v)
unfolding on_test
on_test-complete T k v o = is_in-complete v (corners T k) (on-member T k v o)

unfoldable pub on? : (T : List ℕ) (k v : ℕ) → Dec (On T k v)
unfolding on_test
on? T k v = decided (on_test T k v) (on_test-sound T k v) (on_test-complete T k v)

-- u and v differ and are both on k
unfoldable pub has_edge_test : List ℕ → ℕ → ℕ → ℕ → Bool
unfolding on_test
has_edge_test T k u v = not (eqb u v) && (on_test T k u && on_test T k v)

pub has_edge_test-sound : (T : List ℕ) (k u v : ℕ) → So (has_edge_test T k u v) → HasEdge T k u v
unfolding has_edge_test
has_edge_test-sound T k u v t = go (and_sound (not (eqb u v)) (on_test T k u && on_test T k v) t)
  where
    go : So (not (eqb u v)) × So (on_test T k u && on_test T k v) → HasEdge T k u v
    go (d, b) = record {
      differ = λ e. T_not (eqb u v) d (eq→eqb u v e);
      one_end = on_test-sound T k u (and_sound (on_test T k u) (on_test T k v) b).0;
      other_end = on_test-sound T k v (and_sound (on_test T k u) (on_test T k v) b).1;
    }

pub has_edge_test-complete : (T : List ℕ) (k u v : ℕ) → HasEdge T k u v → So (has_edge_test T k u v)
unfolding has_edge_test
has_edge_test-complete T k u v h =
    and-complete (not (eqb u v)) (on_test T k u && on_test T k v) (not_T (eqb u v) (λ t. h.differ (eqb→eq u v t)))
    (and-complete (on_test T k u) (on_test T k v)
    (on_test-complete T k u h.one_end) (on_test-complete T k v h.other_end))

unfoldable pub has_edge? : (T : List ℕ) (k u v : ℕ) → Dec (HasEdge T k u v)
unfolding has_edge_test
has_edge? T k u v = decided (has_edge_test T k u v) (has_edge_test-sound T k u v) (has_edge_test-complete T k u v)

-- ---- Regular

-- what is on a triangle, even a last one of fewer than three corners, is on one up to F
pub on-le : {T : List ℕ} {k v : ℕ} → On T k v → k ≤ triangles T
on-le o = omega arith

-- the triangles that have the edge u-v
unfoldable pub having_edge : List ℕ → ℕ → ℕ → List ℕ
unfolding passing has_edge_test numbers
having_edge T u v = passing (λ k. has_edge_test T k u v) (numbers (triangles T + 1))

-- those in the list have it
having_edge-sound : (T : List ℕ) (u v k : ℕ) → Member k (having_edge T u v) → HasEdge T k u v
unfolding having_edge
having_edge-sound T u v k m = has_edge_test-sound T k u v
    (passing-sound (λ l. has_edge_test T l u v) (numbers (triangles T + 1)) k m).1

-- and those that have it are in the list
having_edge-complete : (T : List ℕ) (u v k : ℕ) → HasEdge T k u v → Member k (having_edge T u v)
unfolding having_edge
having_edge-complete T u v k h =
    passing-complete (λ l. has_edge_test T l u v) (numbers (triangles T + 1)) k
    (below-numbers (triangles T + 1) k (omega (arith, on-le h.one_end))) (has_edge_test-complete T k u v h)

-- j and k differ, and the list has no other entry
unfoldable pub two_test : List ℕ → ℕ → ℕ → Bool
unfolding all_of
two_test ks j k = not (eqb j k) && all_of (λ l. eqb l j || eqb l k) ks

-- some two of the triangles that have the edge are all
unfoldable pub regular_test : List ℕ → ℕ → ℕ → Bool
unfolding some_of having_edge two_test
regular_test T u v =
    let ks : List ℕ = having_edge T u v in
    some_of (λ j. some_of (two_test ks j) ks) ks

pub regular_test-sound : (T : List ℕ) (u v : ℕ) → So (regular_test T u v) → Regular T u v
unfolding regular_test two_test
regular_test-sound T u v t = outer (some_of-sound (λ j. some_of (two_test ks j) ks) ks t)
  where
    ks : List ℕ
    ks = having_edge T u v

    other : (j k l : ℕ) → So (eqb l j) ⊎ So (eqb l k) → (l ≡ j) ⊎ (l ≡ k)
    other j k l (inl e) = inl (eqb→eq l j e)
    other j k l (inr e) = inr (eqb→eq l k e)

    inner : (j : ℕ) → Member j ks → (k : ℕ) × Member k ks × So (two_test ks j k) → Regular T u v
    inner j m (k, n, s) =
        let both = and_sound (not (eqb j k)) (all_of (λ l. eqb l j || eqb l k) ks) s in
        record {
          one = j;
          two = k;
          differ = λ e. T_not (eqb j k) both.0 (eq→eqb j k e);
          has_one = having_edge-sound T u v j m;
          has_two = having_edge-sound T u v k n;
          others = λ l h. other j k l (or_sound (eqb l j) (eqb l k)
              (all_of-sound (λ l. eqb l j || eqb l k) ks both.1 l (having_edge-complete T u v l h)));
        }

    outer : (j : ℕ) × Member j ks × So (some_of (two_test ks j) ks) → Regular T u v
    outer (j, m, s) = inner j m (some_of-sound (two_test ks j) ks s)

pub regular_test-complete : (T : List ℕ) (u v : ℕ) → Regular T u v → So (regular_test T u v)
unfolding regular_test two_test
regular_test-complete T u v r =
    some_of-complete (λ j. some_of (two_test ks j) ks) ks r.one (having_edge-complete T u v r.one r.has_one)
    (some_of-complete (two_test ks r.one) ks r.two (having_edge-complete T u v r.two r.has_two)
    (and-complete (not (eqb r.one r.two)) (all_of (λ l. eqb l r.one || eqb l r.two) ks)
    (not_T (eqb r.one r.two) (λ t. r.differ (eqb→eq r.one r.two t)))
    (all_of-complete (λ l. eqb l r.one || eqb l r.two) ks
    (λ l m. other l (r.others l (having_edge-sound T u v l m))))))
  where
    ks : List ℕ
    ks = having_edge T u v

    other : (l : ℕ) → (l ≡ r.one) ⊎ (l ≡ r.two) → So (eqb l r.one || eqb l r.two)
    other l (inl e) = or_left (eqb l r.one) (eqb l r.two) (eq→eqb l r.one e)
    other l (inr e) = or_right (eqb l r.one) (eqb l r.two) (eq→eqb l r.two e)

unfoldable pub regular? : (T : List ℕ) (u v : ℕ) → Dec (Regular T u v)
unfolding regular_test
regular? T u v = decided (regular_test T u v) (regular_test-sound T u v) (regular_test-complete T u v)

-- ---- Same

-- what stands at the corners of triangle k of T is on triangle l of S
unfoldable pub covers_test : List ℕ → ℕ → List ℕ → ℕ → Bool
unfolding all_of on_test
covers_test T k S l = all_of (on_test S l) (corners T k)

-- then so is all that is on k, since it stands at a corner
covers_test-sound : (T : List ℕ) (k : ℕ) (S : List ℕ) (l : ℕ) → So (covers_test T k S l) → (v : ℕ) → On T k v → On S l v
unfolding covers_test
covers_test-sound T k S l t v o = on_test-sound S l v (all_of-sound (on_test S l) (corners T k) t v (on-member T k v o))

-- and the corners are on k
covers_test-complete : (T : List ℕ) (k : ℕ) (S : List ℕ) (l : ℕ) → ((v : ℕ) → On T k v → On S l v)
    → So (covers_test T k S l)
unfolding covers_test
covers_test-complete T k S l h =
    all_of-complete (on_test S l) (corners T k) (λ v m. on_test-complete S l v (h v (member-on T k v m)))

-- each covers the other
unfoldable pub same_test : List ℕ → ℕ → List ℕ → ℕ → Bool
unfolding covers_test
same_test T k S l = covers_test T k S l && covers_test S l T k

pub same_test-sound : (T : List ℕ) (k : ℕ) (S : List ℕ) (l : ℕ) → So (same_test T k S l) → Same T k S l
unfolding same_test
same_test-sound T k S l t = record {
  there = covers_test-sound T k S l (and_sound (covers_test T k S l) (covers_test S l T k) t).0;
  back = covers_test-sound S l T k (and_sound (covers_test T k S l) (covers_test S l T k) t).1;
}

pub same_test-complete : (T : List ℕ) (k : ℕ) (S : List ℕ) (l : ℕ) → Same T k S l → So (same_test T k S l)
unfolding same_test
same_test-complete T k S l s =
    and-complete (covers_test T k S l) (covers_test S l T k)
    (covers_test-complete T k S l s.there) (covers_test-complete S l T k s.back)

unfoldable pub same? : (T : List ℕ) (k : ℕ) (S : List ℕ) (l : ℕ) → Dec (Same T k S l)
unfolding same_test
same? T k S l = decided (same_test T k S l) (same_test-sound T k S l) (same_test-complete T k S l)

-- ---- Rotated

-- corner i of triangle k is the corner of triangle l that is so many further on
unfoldable pub turned_corner_test : List ℕ → ℕ → List ℕ → ℕ → ℕ → ℕ → Bool
turned_corner_test T k S l by i = eqb (at T (3 * k + i)) (at S (3 * l + (i + by) % 3))

-- the same of its three corners
unfoldable pub turned_test : List ℕ → ℕ → List ℕ → ℕ → ℕ → Bool
unfolding all_below turned_corner_test
turned_test T k S l by = all_below (turned_corner_test T k S l by) 3

-- both are inside their lists, and one of the three turns takes the one to the other
unfoldable pub rotated_test : List ℕ → ℕ → List ℕ → ℕ → Bool
unfolding some_below turned_test
rotated_test T k S l =
    ltb (3 * k + 2) (length T) && (ltb (3 * l + 2) (length S) && some_below (turned_test T k S l) 3)

pub rotated_test-sound : (T : List ℕ) (k : ℕ) (S : List ℕ) (l : ℕ) → So (rotated_test T k S l) → Rotated T k S l
unfolding rotated_test turned_test turned_corner_test
rotated_test-sound T k S l t =
    go (and₃-sound (ltb (3 * k + 2) (length T)) (ltb (3 * l + 2) (length S)) (some_below (turned_test T k S l) 3) t)
  where
    go : So (ltb (3 * k + 2) (length T)) × So (ltb (3 * l + 2) (length S)) × So (some_below (turned_test T k S l) 3)
        → Rotated T k S l
    go (inside, other, some) =
        let found : (by : ℕ) × (by < 3) × So (turned_test T k S l by) = some_below-sound (turned_test T k S l) 3 some in
        record {
          inside = ltb→lt (3 * k + 2) (length T) inside;
          other_inside = ltb→lt (3 * l + 2) (length S) other;
          by = found.0;
          few = found.1;
          corners = λ i b. eqb→eq (at T (3 * k + i)) (at S (3 * l + (i + found.0) % 3))
              (all_below-sound (turned_corner_test T k S l found.0) 3 found.2 i b);
        }

pub rotated_test-complete : (T : List ℕ) (k : ℕ) (S : List ℕ) (l : ℕ) → Rotated T k S l → So (rotated_test T k S l)
unfolding rotated_test turned_test turned_corner_test
rotated_test-complete T k S l r =
    and₃-complete (ltb (3 * k + 2) (length T)) (ltb (3 * l + 2) (length S)) (some_below (turned_test T k S l) 3)
    (lt→ltb (3 * k + 2) (length T) r.inside) (lt→ltb (3 * l + 2) (length S) r.other_inside)
    (some_below-complete (turned_test T k S l) 3 r.by r.few
    (all_below-complete (turned_corner_test T k S l r.by) 3
    (λ i b. eq→eqb (at T (3 * k + i)) (at S (3 * l + (i + r.by) % 3)) (r.corners i b))))

unfoldable pub rotated? : (T : List ℕ) (k : ℕ) (S : List ℕ) (l : ℕ) → Dec (Rotated T k S l)
unfolding rotated_test
rotated? T k S l = decided (rotated_test T k S l) (rotated_test-sound T k S l) (rotated_test-complete T k S l)

-- ---- Share

-- the vertices of k that are on l
unfoldable pub common : List ℕ → ℕ → ℕ → List ℕ
unfolding passing on_test
common T k l = passing (on_test T l) (corners T k)

-- they are on both
common-sound : (T : List ℕ) (k l v : ℕ) → Member v (common T k l) → On T k v × On T l v
unfolding common
common-sound T k l v m = go (passing-sound (on_test T l) (corners T k) v m)
  where
    go : Member v (corners T k) × So (on_test T l v) → On T k v × On T l v
    go (n, t) = (member-on T k v n, on_test-sound T l v t)

-- and all that are on both
common-complete : (T : List ℕ) (k l v : ℕ) → On T k v → On T l v → Member v (common T k l)
unfolding common
common-complete T k l v o p =
    passing-complete (on_test T l) (corners T k) v (on-member T k v o) (on_test-complete T l v p)

-- two different vertices are on both
unfoldable pub share_test : List ℕ → ℕ → ℕ → Bool
unfolding some_differ common
share_test T k l = some_differ (common T k l)

pub share_test-sound : (T : List ℕ) (k l : ℕ) → So (share_test T k l) → Share T k l
unfolding share_test
share_test-sound T k l t = go (some_differ-sound (common T k l) t)
  where
    go : (u : ℕ) × (v : ℕ) × Member u (common T k l) × Member v (common T k l) × (u ≢ v) → Share T k l
    go (u, v, m, n, d) = record {
      u = u;
      v = v;
      one = record { differ = d; one_end = (common-sound T k l u m).0; other_end = (common-sound T k l v n).0 };
      other = record { differ = d; one_end = (common-sound T k l u m).1; other_end = (common-sound T k l v n).1 };
    }

pub share_test-complete : (T : List ℕ) (k l : ℕ) → Share T k l → So (share_test T k l)
unfolding share_test
share_test-complete T k l s =
    some_differ-complete (common T k l) s.u s.v (common-complete T k l s.u s.one.one_end s.other.one_end)
    (common-complete T k l s.v s.one.other_end s.other.other_end) s.one.differ

unfoldable pub share? : (T : List ℕ) (k l : ℕ) → Dec (Share T k l)
unfolding share_test
share? T k l = decided (share_test T k l) (share_test-sound T k l) (share_test-complete T k l)

-- ---- Reach

-- those of a list that share an edge with triangle k
unfoldable pub beside : List ℕ → ℕ → List ℕ → List ℕ
unfolding share_test
beside T k rest = passing (share_test T k) rest

-- those of a list that are not in another
unfoldable pub without : List ℕ → List ℕ → List ℕ
unfolding passing is_in
without gone rest = passing (λ x. not (is_in x gone)) rest

-- one by one, the triangles reached from the frontier over triangles of the rest: the first of the frontier is
-- reached, and those of the rest beside it join the frontier; n is at least the number of all
unfoldable pub flood : List ℕ → ℕ → List ℕ → List ℕ → List ℕ
unfolding beside without
flood T zero frontier rest = []
flood T (suc n) [] rest = []
flood T (suc n) (k ∷ frontier) rest =
    let new : List ℕ = beside T k rest in
    k ∷ flood T n (new ++ frontier) (without new rest)

-- then the edge is shared
beside-sound : (T : List ℕ) (k : ℕ) (rest : List ℕ) (l : ℕ) → Member l (beside T k rest) → Share T k l
unfolding beside
beside-sound T k rest l m = share_test-sound T k l (passing-sound (share_test T k) rest l m).1

-- each that shares an edge is found
beside-complete : (T : List ℕ) (k : ℕ) (rest : List ℕ) (l : ℕ) → Member l rest → Share T k l
    → Member l (beside T k rest)
unfolding beside
beside-complete T k rest l m s = passing-complete (share_test T k) rest l m (share_test-complete T k l s)

-- an entry is among the gone or among the others
gone-or-not : (gone rest : List ℕ) (x : ℕ) → Member x rest → Member x gone ⊎ Member x (without gone rest)
unfolding without
gone-or-not gone rest x m = go (is_in x gone) (is_in-sound x gone) (passing-complete (λ y. not (is_in y gone)) rest x m)
  where
    go : (b : Bool) → (So b → Member x gone) → (So (not b) → Member x (without gone rest))
        → Member x gone ⊎ Member x (without gone rest)
    go true s c = inl (s tt)
    go false s c = inr (c tt)

-- the turn of the frontier's first leaves one fewer to come
flood-room : (T : List ℕ) (n k : ℕ) (frontier rest : List ℕ) → length (k ∷ frontier) + length rest ≤ suc n
    → length (beside T k rest ++ frontier) + length (without (beside T k rest) rest) ≤ n
unfolding beside without
flood-room T n k frontier rest l =
    rw length-append (omega (arith, passing-length (share_test T k) (λ x. not (is_in x (beside T k rest))) rest clash))
  where
    clash : (x : ℕ) → Member x rest → So (share_test T k x) → So (not (is_in x (beside T k rest))) → ⊥
    clash x m t d = T_not (is_in x (beside T k rest)) d
        (is_in-complete x (beside T k rest) (passing-complete (share_test T k) rest x m t))

-- what all of the frontier is reached from, all of the flood is reached from
flood-sound : (T : List ℕ) (j n : ℕ) (frontier rest : List ℕ) → ((l : ℕ) → Member l frontier → Reach T j l)
    → (l : ℕ) → Member l (flood T n frontier rest) → Reach T j l
unfolding flood
flood-sound T j zero frontier rest reach l m = elim m [ ]
flood-sound T j (suc n) [] rest reach l m = elim m [ ]
flood-sound T j (suc n) (k ∷ frontier) rest reach l (first e) = reach l (first e)
flood-sound T j (suc n) (k ∷ frontier) rest reach l (later m) =
    flood-sound T j n (beside T k rest ++ frontier) (without (beside T k rest) rest)
    (λ i o. go i (member-append (beside T k rest) o)) l m
  where
    go : (i : ℕ) → Member i (beside T k rest) ⊎ Member i frontier → Reach T j i
    go i (inl o) = step (reach k (first refl)) (beside-sound T k rest i o)
    go i (inr o) = reach i (later o)

-- all of the frontier is in the flood
flood-frontier : (T : List ℕ) (n : ℕ) (frontier rest : List ℕ) → length frontier + length rest ≤ n
    → (l : ℕ) → Member l frontier → Member l (flood T n frontier rest)
unfolding flood
flood-frontier T zero [] rest room l m = elim m [ ]
flood-frontier T zero (k ∷ frontier) rest room l m = absurd (omega arith)
flood-frontier T (suc n) [] rest room l m = elim m [ ]
flood-frontier T (suc n) (k ∷ frontier) rest room l (first e) = first e
flood-frontier T (suc n) (k ∷ frontier) rest room l (later m) =
    later (flood-frontier T n (beside T k rest ++ frontier) (without (beside T k rest) rest)
    (flood-room T n k frontier rest room) l (member_right (beside T k rest) m))

-- one of the rest that shares an edge with one of the flood is in the flood
flood-closed : (T : List ℕ) (n : ℕ) (frontier rest : List ℕ) → length frontier + length rest ≤ n
    → (i l : ℕ) → Share T i l → Member l rest → Member i (flood T n frontier rest) → Member l (flood T n frontier rest)
unfolding flood
flood-closed T zero frontier rest room i l s o m = elim m [ ]
flood-closed T (suc n) [] rest room i l s o m = elim m [ ]
flood-closed T (suc n) (k ∷ frontier) rest room i l s o m =
    later (go (flood-closed T n front back room' i l s) (gone-or-not (beside T k rest) rest l o) m)
  where
    front : List ℕ
    front = beside T k rest ++ frontier

    back : List ℕ
    back = without (beside T k rest) rest

    room' : length front + length back ≤ n
    room' = flood-room T n k frontier rest room

    new : Member l (beside T k rest) → Member l (flood T n front back)
    new p = flood-frontier T n front back room' l (member-left frontier p)

    go : (Member l back → Member i (flood T n front back) → Member l (flood T n front back))
        → Member l (beside T k rest) ⊎ Member l back → Member i (k ∷ flood T n front back)
        → Member l (flood T n front back)
    go below (inl p) q = new p
    go below (inr p) (first e) = new (beside-complete T k rest l o (subst (λ h. Share T h l) e s))
    go below (inr p) (later q) = below p q

-- the triangles reached from triangle k; a last one of fewer than three corners counts too
unfoldable pub reached : List ℕ → ℕ → List ℕ
unfolding flood numbers
reached T k = flood T (triangles T + 2) (k ∷ []) (numbers (triangles T + 1))

-- the bound holds at the start
reached-room : (T : List ℕ) (k : ℕ) → length (k ∷ []) + length (numbers (triangles T + 1)) ≤ triangles T + 2
reached-room T k = rw numbers-length (omega arith)

-- l is one of them
unfoldable pub reach_test : List ℕ → ℕ → ℕ → Bool
unfolding reached is_in
reach_test T k l = is_in l (reached T k)

pub reach_test-sound : (T : List ℕ) (k l : ℕ) → So (reach_test T k l) → Reach T k l
unfolding reach_test reached
reach_test-sound T k l t =
    flood-sound T k (triangles T + 2) (k ∷ []) (numbers (triangles T + 1)) start l (is_in-sound l (reached T k) t)
  where
    start : (i : ℕ) → Member i (k ∷ []) → Reach T k i
    start i (first e) = rw e here
    start i (later m) = elim m [ ]

-- step by step, none leaves the triangles reached
reach-reached : {T : List ℕ} {k l : ℕ} → Reach T k l → Member l (reached T k)
unfolding reached
reach-reached {T} {k} here =
    flood-frontier T (triangles T + 2) (k ∷ []) (numbers (triangles T + 1)) (reached-room T k) k (first refl)
reach-reached {T} {k} (step {l} {m} q s) =
    flood-closed T (triangles T + 2) (k ∷ []) (numbers (triangles T + 1)) (reached-room T k) l m s
    (below-numbers (triangles T + 1) m (omega (arith, on-le s.other.one_end))) (reach-reached q)

pub reach_test-complete : (T : List ℕ) (k l : ℕ) → Reach T k l → So (reach_test T k l)
unfolding reach_test
reach_test-complete T k l r = is_in-complete l (reached T k) (reach-reached r)

unfoldable pub reach? : (T : List ℕ) (k l : ℕ) → Dec (Reach T k l)
unfolding reach_test
reach? T k l = decided (reach_test T k l) (reach_test-sound T k l) (reach_test-complete T k l)

-- ---- being proper, condition by condition

-- the list ends with a triangle
unfoldable pub whole_test : List ℕ → Bool
whole_test T = eqb (length T) (3 * triangles T)

whole_test-sound : (T : List ℕ) → So (whole_test T) → length T ≡ 3 * triangles T
unfolding whole_test
whole_test-sound T t = eqb→eq (length T) (3 * triangles T) t

whole_test-complete : (T : List ℕ) → length T ≡ 3 * triangles T → So (whole_test T)
unfolding whole_test
whole_test-complete T e = eq→eqb (length T) (3 * triangles T) e

-- every entry is below N
unfoldable pub below_test : ℕ → List ℕ → Bool
unfolding all_of
below_test N T = all_of (λ v. ltb v N) T

pub below_test-sound : (N : ℕ) (T : List ℕ) → So (below_test N T) → (c : ℕ) → c < length T → at T c < N
unfolding below_test
below_test-sound N T t c l = ltb→lt (at T c) N (all_of-sound (λ v. ltb v N) T t (at T c) (at-member T c l))

pub below_test-complete : (N : ℕ) (T : List ℕ) → ((c : ℕ) → c < length T → at T c < N) → So (below_test N T)
unfolding below_test
below_test-complete N T below = all_of-complete (λ v. ltb v N) T (λ v m. lt→ltb v N (go v (member-at m)))
  where
    go : (v : ℕ) → (c : ℕ) × (c < length T) × (at T c ≡ v) → v < N
    go v (c, l, e) = omega (arith, below c l)

-- no triangle has a vertex twice
unfoldable pub different_test : List ℕ → Bool
unfolding all_below all_apart corners
different_test T = all_below (λ k. all_apart (corners T k)) (triangles T)

different_test-sound : (T : List ℕ) → length T ≡ 3 * triangles T → So (different_test T)
    → (c d : ℕ) → c < length T → d < length T → c / 3 ≡ d / 3 → at T c ≡ at T d → c ≡ d
unfolding different_test
different_test-sound T whole t c d l m f e = omega (arith, in_triangle)
  where
    apart : So (all_apart (corners T (c / 3)))
    apart = all_below-sound (λ k. all_apart (corners T k)) (triangles T) t (c / 3) (omega arith)

    in_triangle : c % 3 ≡ d % 3
    in_triangle =
        all_apart-sound (corners T (c / 3)) apart (c % 3) (d % 3) (omega (arith, corners-length T (c / 3)))
        (omega (arith, corners-length T (c / 3)))
        (corners-corner T c (c / 3) refl ∙ e ∙ sym (corners-corner T d (c / 3) (sym f)))

different_test-complete : (T : List ℕ)
    → ((c d : ℕ) → c < length T → d < length T → c / 3 ≡ d / 3 → at T c ≡ at T d → c ≡ d) → So (different_test T)
unfolding different_test
different_test-complete T different =
    all_below-complete (λ k. all_apart (corners T k)) (triangles T) (λ k m. all_apart-complete (corners T k) (go k))
  where
    go : (k i j : ℕ) → i < length (corners T k) → j < length (corners T k)
        → at (corners T k) i ≡ at (corners T k) j → i ≡ j
    go k i j l m e =
        let a : i < 3 = omega (arith, corners-length T k) in
        let b : j < 3 = omega (arith, corners-length T k) in
        omega (
          arith,
          different (3 * k + i) (3 * k + j) (omega (arith, corners-length T k)) (omega (arith, corners-length T k))
              (omega arith) (sym (corners-at T k i a) ∙ e ∙ corners-at T k j b),
        )

-- no triangle is the same as an earlier one
unfoldable pub unlike_test : List ℕ → Bool
unfolding all_below same_test
unlike_test T = all_below (λ j. all_below (λ k. not (same_test T j T k)) j) (triangles T)

unlike_test-sound : (T : List ℕ) → So (unlike_test T)
    → (j k : ℕ) → j < triangles T → k < triangles T → Same T j T k → j ≡ k
unfolding unlike_test
unlike_test-sound T t j k l m s = neither-less (λ a. unlike k j m a (same-sym s)) (λ b. unlike j k l b s)
  where
    unlike : (i h : ℕ) → i < triangles T → h < i → Same T i T h → ⊥
    unlike i h a b r =
        T_not (same_test T i T h) (all_below-sound _ i (all_below-sound _ (triangles T) t i a) h b)
        (same_test-complete T i T h r)

unlike_test-complete : (T : List ℕ)
    → ((j k : ℕ) → j < triangles T → k < triangles T → Same T j T k → j ≡ k) → So (unlike_test T)
unfolding unlike_test
unlike_test-complete T unlike =
    all_below-complete _ (triangles T) (λ j l. all_below-complete _ j (λ k m. not_T (same_test T j T k) (go j k l m)))
  where
    go : (j k : ℕ) → j < triangles T → k < j → So (same_test T j T k) → ⊥
    go j k l m t = omega (arith, unlike j k l (omega arith) (same_test-sound T j T k t))

-- every vertex is an entry
unfoldable pub used_test : ℕ → List ℕ → Bool
unfolding all_below is_in
used_test N T = all_below (λ v. is_in v T) N

pub used_test-sound : (N : ℕ) (T : List ℕ) → So (used_test N T) → (v : ℕ) → v < N → (k : ℕ) × On T k v
unfolding used_test
used_test-sound N T t v l = go (member-at (is_in-sound v T (all_below-sound (λ w. is_in w T) N t v l)))
  where
    go : (c : ℕ) × (c < length T) × (at T c ≡ v) → (k : ℕ) × On T k v
    go (c, m, e) = (c / 3, record { corner = c; inside = m; triangle = refl; holds = e })

pub used_test-complete : (N : ℕ) (T : List ℕ) → ((v : ℕ) → v < N → (k : ℕ) × On T k v) → So (used_test N T)
unfolding used_test
used_test-complete N T used = all_below-complete (λ v. is_in v T) N (λ v l. is_in-complete v T (go v (used v l)))
  where
    go : (v : ℕ) → (k : ℕ) × On T k v → Member v T
    go v (k, o) = member-cast (sym o.holds) (at-member T o.corner o.inside)

-- every triangle is among those reached from triangle 0, which are found once
unfoldable pub connected_test : List ℕ → Bool
unfolding all_below reach_test
connected_test T =
    let all : List ℕ = reached T 0 in
    all_below (λ k. is_in k all) (triangles T)

connected_test-sound : (T : List ℕ) → So (connected_test T) → (k : ℕ) → k < triangles T → Reach T 0 k
unfolding connected_test
connected_test-sound T t k l = reach_test-sound T 0 k (all_below-sound (reach_test T 0) (triangles T) t k l)

connected_test-complete : (T : List ℕ) → ((k : ℕ) → k < triangles T → Reach T 0 k) → So (connected_test T)
unfolding connected_test
connected_test-complete T connected =
    all_below-complete (reach_test T 0) (triangles T) (λ k l. reach_test-complete T 0 k (connected k l))

-- ---- being proper

unfoldable pub otherwise_test : ℕ → List ℕ → Bool
unfolding whole_test below_test different_test unlike_test used_test
otherwise_test N T = whole_test T && (below_test N T && (different_test T && (unlike_test T && used_test N T)))

pub otherwise_test-sound : (N : ℕ) (T : List ℕ) → So (otherwise_test N T) → OtherwiseProper N T
unfolding otherwise_test
otherwise_test-sound N T t =
    go (and₅-sound (whole_test T) (below_test N T) (different_test T) (unlike_test T) (used_test N T) t)
  where
    go : So (whole_test T) × So (below_test N T) × So (different_test T) × So (unlike_test T) × So (used_test N T)
        → OtherwiseProper N T
    go (w, b, d, u, s) = record {
      whole = whole_test-sound T w;
      below = below_test-sound N T b;
      different = different_test-sound T (whole_test-sound T w) d;
      unlike = unlike_test-sound T u;
      used = used_test-sound N T s;
    }

pub otherwise_test-complete : (N : ℕ) (T : List ℕ) → OtherwiseProper N T → So (otherwise_test N T)
unfolding otherwise_test
otherwise_test-complete N T P =
    and₅-complete (whole_test T) (below_test N T) (different_test T) (unlike_test T) (used_test N T)
    (whole_test-complete T P.whole) (below_test-complete N T P.below) (different_test-complete T P.different)
    (unlike_test-complete T P.unlike) (used_test-complete N T P.used)

unfoldable pub proper_test : ℕ → List ℕ → Bool
unfolding otherwise_test connected_test
proper_test N T = otherwise_test N T && connected_test T

pub proper_test-sound : (N : ℕ) (T : List ℕ) → So (proper_test N T) → Proper N T
unfolding proper_test
proper_test-sound N T t = record {
  otherwise = otherwise_test-sound N T (and_sound (otherwise_test N T) (connected_test T) t).0;
  connected = connected_test-sound T (and_sound (otherwise_test N T) (connected_test T) t).1;
}

pub proper_test-complete : (N : ℕ) (T : List ℕ) → Proper N T → So (proper_test N T)
unfolding proper_test
proper_test-complete N T P =
    and-complete (otherwise_test N T) (connected_test T) (otherwise_test-complete N T P.otherwise)
    (connected_test-complete T P.connected)

unfoldable pub proper? : (N : ℕ) (T : List ℕ) → Dec (Proper N T)
unfolding proper_test
proper? N T = decided (proper_test N T) (proper_test-sound N T) (proper_test-complete N T)
