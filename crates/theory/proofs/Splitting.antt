-- Laws of the splitting: which half-edges are on the same edge and which vertices they join, the numbering of the edge
-- vertices, the entries of the splitting, and which vertices stand on which of its triangles.
use Prim.Native.Nat.{ℕ, zero, suc, ◌+◌, ◌*◌, ◌/◌, ◌%◌, ◌-◌, ◌≤◌, ◌<◌, min, max}
use native.Mathlib.Decide.{ℕ_discrete, dec_lt}
use native.Mathlib.Nat.{add-zero}
use native.Mathlib.Omega.{arith}
use mathlib.Core.Path.{◌≡◌, refl, sym, ap, ◌∙◌, subst₂}
use mathlib.Core.Logic.{◌≢◌, ◌⊎◌, inl, inr}
use mathlib.Core.List.{List, ◌++◌}
use lib.Dec.{T as Passes, eqb, eqb→eq}
use lib.ListN.{length, length-append, get_or-append}
use lib.Seq.{get_or-append-add}
use Rattle.theory.specs.Counting.{count}
use Rattle.theory.specs.Mesh.{at, triangles, On, HasEdge, Same}
use Rattle.theory.specs.Splitting.{next, lesser, greater, same_edge, first_on, is_first, edges, edge_no}
use Rattle.theory.specs.Splitting.{four, fours, split}
use Rattle.theory.proofs.Tests.{and_sound, and-complete, eq→eqb}
use Rattle.theory.proofs.Corners.{corner-triangle, corner-place, triangle-place, corner-inside, corners-follow}
use Rattle.theory.proofs.Corners.{next-triangle, before-place, before-next, Ends, forth, back}
use Rattle.theory.proofs.Mesh.{corners-apart}
use Rattle.theory.proofs.Counting.{count-le, count-grows, count-injective, count-hit}
use Rattle.theory.proofs.Counting.{first_from-le, first_from-passes, first_from-before}

-- ---- general facts: pairs of numbers, three cases

-- two unordered pairs with the same lesser and the same greater number agree one way round or the other
pair_ends : (a b c d : ℕ) → min a b ≡ min c d → max a b ≡ max c d → ((a ≡ c) × (b ≡ d)) ⊎ ((a ≡ d) × (b ≡ c))
pair_ends a b c d p q = elim (ℕ_discrete a c) [ yes h ↦ inl (h, omega arith) | no h ↦ inr (omega arith, omega arith) ]

-- what holds at 0, 1 and 2 holds below 3
pub by_three : (P : ℕ → Type 0) → P 0 → P 1 → P 2 → (i : ℕ) → i < 3 → P i
by_three P p q r zero b = p
by_three P p q r (suc zero) b = q
by_three P p q r (suc (suc zero)) b = r
by_three P p q r (suc (suc (suc i))) b = absurd (omega arith)

-- ---- corners of the four triangles that each becomes

-- the edge across from corner i has the place suc i % 3: the edge that leaves the corner is another
leaving-not-across : (i : ℕ) → i < 3 → i ≢ suc i % 3
leaving-not-across i b = omega arith

-- so is the edge that enters it
entering-not-across : (i : ℕ) → i < 3 → (i + 2) % 3 ≢ suc i % 3
entering-not-across i b = omega arith

-- and an edge that is not across from corner i leaves it or enters it
not-across : (i k : ℕ) → i < 3 → k < 3 → k ≢ suc i % 3 → (k ≡ i) ⊎ (k ≡ (i + 2) % 3)
not-across i k b l d = elim (ℕ_discrete k i) [ yes e ↦ inl e | no e ↦ inr (omega arith) ]

-- what stands at corner c of triangle t of a splitting: an edge vertex of a centre, or, in the triangle of the coarse
-- corner i, that corner, the vertex on the edge that leaves it or the vertex on the edge that enters it
data Place (t c : ℕ) : Type 0 where
  centre : (i : ℕ) → i < 3 → t % 4 ≡ 0 → c ≡ 12 * (t / 4) + i → Place t c
  corner : (i : ℕ) → i < 3 → suc i ≡ t % 4 → c ≡ 12 * (t / 4) + (3 * i + 3) → Place t c
  leaving : (i : ℕ) → i < 3 → suc i ≡ t % 4 → c ≡ 12 * (t / 4) + (3 * i + 4) → Place t c
  entering : (i : ℕ) → i < 3 → suc i ≡ t % 4 → c ≡ 12 * (t / 4) + (3 * i + 5) → Place t c

-- each corner has one of these places
place_of : (t c : ℕ) → c / 3 ≡ t → Place t c
place_of t c e = go (t % 4) refl (c % 3) refl
  where
    go : (m : ℕ) → t % 4 ≡ m → (k : ℕ) → c % 3 ≡ k → Place t c
    go zero p k q = centre k (omega arith) p (omega arith)
    go (suc i) p zero q = corner i (omega arith) (sym p) (omega arith)
    go (suc i) p (suc zero) q = leaving i (omega arith) (sym p) (omega arith)
    go (suc i) p (suc (suc zero)) q = entering i (omega arith) (sym p) (omega arith)
    go (suc i) p (suc (suc (suc k))) q = absurd (omega arith)

-- ---- half-edges on the same edge

-- half-edges g and h have the same two ends
pub record SameEdge (T : List ℕ) (g h : ℕ) : Type 0 where
  pub low : lesser T g ≡ lesser T h
  pub high : greater T g ≡ greater T h

-- being on the same edge is an equivalence
pub same_edge-refl : (T : List ℕ) (h : ℕ) → SameEdge T h h
same_edge-refl T h = record { low = refl; high = refl }

pub same_edge-sym : {T : List ℕ} {g h : ℕ} → SameEdge T g h → SameEdge T h g
same_edge-sym e = record { low = sym e.low; high = sym e.high }

pub same_edge-trans : {T : List ℕ} {f g h : ℕ} → SameEdge T f g → SameEdge T g h → SameEdge T f h
same_edge-trans d e = record { low = d.low ∙ e.low; high = d.high ∙ e.high }

-- the two ends agree one way round or the other
pub same_edge-ends : {T : List ℕ} {g h : ℕ} → SameEdge T g h
    → ((at T g ≡ at T h) × (at T (next g) ≡ at T (next h))) ⊎ ((at T g ≡ at T (next h)) × (at T (next g) ≡ at T h))
same_edge-ends {T} {g} {h} e = pair_ends (at T g) (at T (next g)) (at T h) (at T (next h)) e.low e.high

-- half-edges with the same ends are on the same edge
pub ends-same_edge : (T : List ℕ) (g h : ℕ) → at T g ≡ at T h → at T (next g) ≡ at T (next h) → SameEdge T g h
ends-same_edge T g h p q = record { low = omega arith; high = omega arith }

-- also where they run opposite ways
pub ends-same_edge-crossed : (T : List ℕ) (g h : ℕ) → at T g ≡ at T (next h) → at T (next g) ≡ at T h → SameEdge T g h
ends-same_edge-crossed T g h p q = record { low = omega arith; high = omega arith }

-- ---- the vertices that a half-edge joins

-- half-edge h joins the vertices a and b, one way round or the other
pub data Joins (T : List ℕ) (h a b : ℕ) : Type 0 where
  along : at T h ≡ a → at T (next h) ≡ b → Joins T h a b
  against : at T h ≡ b → at T (next h) ≡ a → Joins T h a b

-- it joins the vertices at the corners that it runs between
pub ends-joins : {T : List ℕ} {h x y a b : ℕ} → Ends h x y → at T x ≡ a → at T y ≡ b → Joins T h a b
ends-joins {T} (forth p q) d e = along (ap (at T) p ∙ d) (ap (at T) q ∙ e)
ends-joins {T} (back p q) d e = against (ap (at T) p ∙ e) (ap (at T) q ∙ d)

-- the two ends may be named in either order
pub joins-swap : {T : List ℕ} {h a b : ℕ} → Joins T h a b → Joins T h b a
joins-swap (along p q) = against p q
joins-swap (against p q) = along p q

-- half-edges that join the same vertices are on the same edge
pub joins-same_edge : {T : List ℕ} {h k a b : ℕ} → Joins T h a b → Joins T k a b → SameEdge T h k
joins-same_edge {T} {h} {k} (along p q) (along r s) = ends-same_edge T h k (p ∙ sym r) (q ∙ sym s)
joins-same_edge {T} {h} {k} (along p q) (against r s) = ends-same_edge-crossed T h k (p ∙ sym s) (q ∙ sym r)
joins-same_edge {T} {h} {k} (against p q) (along r s) = ends-same_edge-crossed T h k (p ∙ sym s) (q ∙ sym r)
joins-same_edge {T} {h} {k} (against p q) (against r s) = ends-same_edge T h k (p ∙ sym r) (q ∙ sym s)

-- half-edges on the same edge join the same vertices
pub same_edge-joins : {T : List ℕ} {h k a b : ℕ} → SameEdge T h k → Joins T k a b → Joins T h a b
same_edge-joins {T} {h} {k} {a} {b} e j = go (same_edge-ends e) j
  where
    go : ((at T h ≡ at T k) × (at T (next h) ≡ at T (next k))) ⊎ ((at T h ≡ at T (next k)) × (at T (next h) ≡ at T k))
        → Joins T k a b → Joins T h a b
    go (inl (p, q)) (along r s) = along (p ∙ r) (q ∙ s)
    go (inl (p, q)) (against r s) = against (p ∙ r) (q ∙ s)
    go (inr (p, q)) (along r s) = against (p ∙ s) (q ∙ r)
    go (inr (p, q)) (against r s) = along (p ∙ s) (q ∙ r)

-- a half-edge joins only its two ends
pub joins-ends : {T : List ℕ} {h a b c d : ℕ} → Joins T h a b → Joins T h c d
    → ((a ≡ c) × (b ≡ d)) ⊎ ((a ≡ d) × (b ≡ c))
joins-ends (along p q) (along r s) = inl (sym p ∙ r, sym q ∙ s)
joins-ends (along p q) (against r s) = inr (sym p ∙ r, sym q ∙ s)
joins-ends (against p q) (along r s) = inr (sym q ∙ s, sym p ∙ r)
joins-ends (against p q) (against r s) = inl (sym q ∙ s, sym p ∙ r)

-- ---- the sides of a triangle

-- a half-edge of triangle k joins the vertices u and v
pub record Side (T : List ℕ) (k u v : ℕ) : Type 0 where
  pub half : ℕ
  pub inside : half < length T
  pub triangle : half / 3 ≡ k
  pub joins : Joins T half u v

-- such half-edges are on the same edge
pub sides-same_edge : {T : List ℕ} {k l u v : ℕ} (a : Side T k u v) (b : Side T l u v) → SameEdge T a.half b.half
sides-same_edge a b = joins-same_edge a.joins b.joins

-- and one that joins the ends of h is on the edge of h
pub side-same_edge : {T : List ℕ} {k : ℕ} (h : ℕ) (s : Side T k (at T h) (at T (next h))) → SameEdge T s.half h
side-same_edge h s = joins-same_edge s.joins (along refl refl)

-- two different vertices of a triangle are the ends of one of its half-edges
pub edge-side : {T : List ℕ} {k u v : ℕ} → HasEdge T k u v → Side T k u v
edge-side {T} {k} {u} {v} e =
    go (corners-follow c.corner d.corner (c.triangle ∙ sym d.triangle) (corners-apart c d e.differ))
  where
    c : On T k u
    c = e.one_end

    d : On T k v
    d = e.other_end

    go : (next c.corner ≡ d.corner) ⊎ (next d.corner ≡ c.corner) → Side T k u v
    go (inl p) = record {
      half = c.corner;
      inside = c.inside;
      triangle = c.triangle;
      joins = along c.holds (ap (at T) p ∙ d.holds);
    }
    go (inr p) = record {
      half = d.corner;
      inside = d.inside;
      triangle = d.triangle;
      joins = against d.holds (ap (at T) p ∙ c.holds);
    }

-- so an edge that triangle l has in common with triangle k is the side of k that ends at some corner
pub shared-side : {T : List ℕ} {k l u v : ℕ} → HasEdge T k u v → HasEdge T l u v
    → (i : ℕ) × (i < 3) × HasEdge T l (at T (3 * k + (i + 2) % 3)) (at T (3 * k + i))
shared-side {T} {k} {l} {u} {v} e f = (next h % 3, omega arith, ends (edge-side e).joins)
  where
    h : ℕ
    h = (edge-side e).half

    here : next h / 3 ≡ k
    here = next-triangle h ∙ (edge-side e).triangle

    from : at T (3 * k + (next h % 3 + 2) % 3) ≡ at T h
    from = ap (at T) (before-place (next h) k here ∙ before-next h)

    to : at T (3 * k + next h % 3) ≡ at T (next h)
    to = ap (at T) (triangle-place (next h) k here)

    ends : Joins T h u v → HasEdge T l (at T (3 * k + (next h % 3 + 2) % 3)) (at T (3 * k + next h % 3))
    ends (along p q) = subst₂ (HasEdge T l) (sym (from ∙ p)) (sym (to ∙ q)) f
    ends (against p q) = subst₂ (HasEdge T l) (sym (from ∙ p)) (sym (to ∙ q))
        (record { differ = λ z. f.differ (sym z); one_end = f.other_end; other_end = f.one_end })

-- and triangles with the same vertices have the same sides
pub same-side : (T : List ℕ) → length T ≡ 3 * triangles T
    → ((c d : ℕ) → c < length T → d < length T → c / 3 ≡ d / 3 → at T c ≡ at T d → c ≡ d)
    → (k l h : ℕ) → Same T k T l → h < length T → h / 3 ≡ k → Side T l (at T h) (at T (next h))
same-side T whole different k l h same b t =
    edge-side (record { differ = apart; one_end = same.there (at T h) from; other_end = same.there (at T (next h)) to })
  where
    from : On T k (at T h)
    from = record { corner = h; inside = b; triangle = t; holds = refl }

    to : On T k (at T (next h))
    to = record { corner = next h; inside = omega arith; triangle = omega arith; holds = refl }

    apart : at T h ≢ at T (next h)
    apart e = absurd (omega (arith, different h (next h) b to.inside (omega arith) e))

-- ---- the first appearance of an edge

module _ (T : List ℕ) where
  -- half-edges that pass the test are on the same edge
  pub passes-same_edge : (g h : ℕ) → Passes (same_edge T h g) → SameEdge T g h
  unfolding same_edge
  passes-same_edge g h t =
      let p = and_sound (eqb (lesser T g) (lesser T h)) (eqb (greater T g) (greater T h)) t in
      record { low = eqb→eq (lesser T g) (lesser T h) p.0; high = eqb→eq (greater T g) (greater T h) p.1 }

  -- and those on the same edge pass it
  pub same_edge-passes : (g h : ℕ) → SameEdge T g h → Passes (same_edge T h g)
  unfolding same_edge
  same_edge-passes g h e = and-complete (eqb (lesser T g) (lesser T h)) (eqb (greater T g) (greater T h))
      (eq→eqb (lesser T g) (lesser T h) e.low) (eq→eqb (greater T g) (greater T h) e.high)

  -- the first appearance is not later
  pub first_on-le : (h : ℕ) → first_on T h ≤ h
  unfolding first_on
  first_on-le h = omega (arith, first_from-le (same_edge T h) 0 h)

  -- the first appearance is on the edge
  pub first_on-same : (h : ℕ) → SameEdge T (first_on T h) h
  unfolding first_on
  first_on-same h = elim (dec_lt (first_on T h) h) [ yes l ↦ before l | no l ↦ itself l ]
    where
      before : first_on T h < h → SameEdge T (first_on T h) h
      before l = passes-same_edge (first_on T h) h (first_from-passes (same_edge T h) 0 h (omega arith))

      itself : ¬ (first_on T h < h) → SameEdge T (first_on T h) h
      itself l =
          let e : first_on T h ≡ h = omega (arith, first_on-le h) in
          rw e (same_edge-refl T h)

  -- no half-edge before the first appearance is on the edge
  pub first_on-least : (g h : ℕ) → SameEdge T g h → first_on T h ≤ g
  unfolding first_on
  first_on-least g h e = elim (dec_lt g (first_on T h)) [
    | yes l ↦ absurd (first_from-before (same_edge T h) 0 h g (omega arith) l (same_edge-passes g h e))
    | no l ↦ omega arith
  ]

  -- the half-edges of one edge have one first appearance
  pub first_on-cong : (g h : ℕ) → SameEdge T g h → first_on T g ≡ first_on T h
  first_on-cong g h e = omega (
    arith,
    first_on-least (first_on T g) h (same_edge-trans (first_on-same g) e),
    first_on-least (first_on T h) g (same_edge-trans (first_on-same h) (same_edge-sym e)),
  )

  -- a first appearance is the first appearance of its own edge
  pub first_on-is_first : (h : ℕ) → Passes (is_first T (first_on T h))
  unfolding is_first
  first_on-is_first h = eq→eqb (first_on T (first_on T h)) (first_on T h) (first_on-cong (first_on T h) h (first_on-same h))

  -- what passes the test is its own first appearance
  is_first-first_on : (h : ℕ) → Passes (is_first T h) → first_on T h ≡ h
  unfolding is_first
  is_first-first_on h t = eqb→eq (first_on T h) h t

-- ---- the numbers of the edge vertices

module _ (N : ℕ) (T : List ℕ) where
  -- one edge, one number
  pub edge_no-same : (g h : ℕ) → SameEdge T g h → edge_no N T g ≡ edge_no N T h
  unfolding edge_no
  edge_no-same g h e = ap (λ f. N + count (is_first T) f) (first_on-cong T g h e)

  -- one number, one edge
  pub edge_no-injective : (g h : ℕ) → edge_no N T g ≡ edge_no N T h → SameEdge T g h
  unfolding edge_no
  edge_no-injective g h e = same_edge-trans (same_edge-sym (first_on-same T g)) (rw (← first) at (first_on-same T h))
    where
      first : first_on T g ≡ first_on T h
      first = count-injective (is_first T) (first_on T g) (first_on T h) (first_on-is_first T g) (first_on-is_first T h)
          (omega arith)

  -- the numbers of the edges are N and above
  pub edge_no-above : (h : ℕ) → N ≤ edge_no N T h
  unfolding edge_no
  edge_no-above h = omega arith

  -- and below N + edges T
  pub edge_no-below : (h : ℕ) → h < length T → edge_no N T h < N + edges T
  unfolding edge_no edges
  edge_no-below h l =
      let f : first_on T h < length T = omega (arith, first_on-le T h) in
      omega (arith, count-grows (is_first T) (first_on T h) (length T) f (first_on-is_first T h))

  -- each of these numbers is that of an edge
  pub edge_no-hit : (e : ℕ) → N ≤ e → e < N + edges T → (h : ℕ) × (h < length T) × (edge_no N T h ≡ e)
  unfolding edge_no edges
  edge_no-hit e a l = go (count-hit (is_first T) (length T) (e - N) (omega arith))
    where
      go : (i : ℕ) × (i < length T) × Passes (is_first T i) × (count (is_first T) i ≡ e - N)
          → (h : ℕ) × (h < length T) × (edge_no N T h ≡ e)
      go (i, b, t, c) = (i, b, rw (is_first-first_on T i t) (omega arith))

  -- there are no more edges than half-edges
  pub edges_le : edges T ≤ length T
  unfolding edges
  edges_le = count-le (is_first T) (length T)

  -- ---- the entries of the splitting

  -- each triangle gives twelve entries
  fours-length : (k : ℕ) → length (fours N T k) ≡ 12 * k
  unfolding fours four
  fours-length zero = refl
  fours-length (suc k) = simp length-append (omega (arith, fours-length k))

  -- the twelve of triangle j stand from 12j on
  fours-at : (k j m : ℕ) → j < k → m < 12 → at (fours N T k) (12 * j + m) ≡ at (four N T j) m
  unfolding fours
  fours-at zero j m l b = absurd (omega arith)
  fours-at (suc k) j m l b = elim (dec_lt j k) [ yes h ↦ earlier h (fours-at k j m h b) | no h ↦ last h ]
    where
      earlier : j < k → at (fours N T k) (12 * j + m) ≡ at (four N T j) m
          → at (fours N T k ++ four N T k) (12 * j + m) ≡ at (four N T j) m
      earlier h e =
          let f : 12 * j + m < length (fours N T k) = omega (arith, fours-length k) in
          get_or-append (fours N T k) (four N T k) 0 (12 * j + m) f ∙ e

      last : ¬ (j < k) → at (fours N T k ++ four N T k) (12 * j + m) ≡ at (four N T j) m
      last h =
          let e : 12 * j + m ≡ length (fours N T k) + m = omega (arith, fours-length k) in
          let f : k ≡ j = omega arith in
          rw (e, get_or-append-add, f)

  -- so the splitting has twelve entries for each triangle
  pub split-length : length (split N T) ≡ 12 * triangles T
  unfolding split
  split-length = fours-length (triangles T)

  -- which make four triangles
  pub split-triangles : triangles (split N T) ≡ 4 * triangles T
  split-triangles = omega (arith, split-length)

  -- triangle 4j is (e12, e23, e31)
  pub split-centre : (j i : ℕ) → j < triangles T → i < 3 → at (split N T) (12 * j + i) ≡ edge_no N T (3 * j + i)
  unfolding split four
  split-centre j i l b = fours-at (triangles T) j i l (omega arith)
      ∙ by_three (λ m. at (four N T j) m ≡ edge_no N T (3 * j + m)) (rw add-zero) refl refl i b

  -- triangle 4j + 1 + i is (the coarse corner i, the vertex on the edge that leaves it, the vertex on the edge that
  -- enters it): its first corner
  pub split-corner : (j i : ℕ) → j < triangles T → i < 3 → at (split N T) (12 * j + (3 * i + 3)) ≡ at T (3 * j + i)
  unfolding split four
  split-corner j i l b = fours-at (triangles T) j (3 * i + 3) l (omega arith)
      ∙ by_three (λ m. at (four N T j) (3 * m + 3) ≡ at T (3 * j + m)) (rw add-zero) refl refl i b

  -- its second corner
  pub split-leaving : (j i : ℕ) → j < triangles T → i < 3
      → at (split N T) (12 * j + (3 * i + 4)) ≡ edge_no N T (3 * j + i)
  unfolding split four
  split-leaving j i l b = fours-at (triangles T) j (3 * i + 4) l (omega arith)
      ∙ by_three (λ m. at (four N T j) (3 * m + 4) ≡ edge_no N T (3 * j + m)) (rw add-zero) refl refl i b

  -- its third corner
  pub split-entering : (j i : ℕ) → j < triangles T → i < 3
      → at (split N T) (12 * j + (3 * i + 5)) ≡ edge_no N T (3 * j + (i + 2) % 3)
  unfolding split four
  split-entering j i l b = fours-at (triangles T) j (3 * i + 5) l (omega arith)
      ∙ by_three (λ m. at (four N T j) (3 * m + 5) ≡ edge_no N T (3 * j + (m + 2) % 3)) refl (rw add-zero) refl i b

  -- an entry of the splitting stands on its triangle
  entry-on : (c t v : ℕ) → c / 3 ≡ t → t / 4 < triangles T → at (split N T) c ≡ v → On (split N T) t v
  entry-on c t v e l h = record { corner = c; inside = omega (arith, split-length); triangle = e; holds = h }

  -- the centre has the vertices on j's edges
  pub on-centre : (j i : ℕ) → j < triangles T → i < 3 → On (split N T) (4 * j) (edge_no N T (3 * j + i))
  on-centre j i l b = entry-on (12 * j + i) _ _ (omega arith) (omega arith) (split-centre j i l b)

  -- the triangle at corner i has the coarse vertex there
  pub on-tip : (j i : ℕ) → j < triangles T → i < 3 → On (split N T) (4 * j + suc i) (at T (3 * j + i))
  on-tip j i l b = entry-on (12 * j + (3 * i + 3)) _ _ (omega arith) (omega arith) (split-corner j i l b)

  -- the vertex on the edge that leaves the corner
  pub on-leaving : (j i : ℕ) → j < triangles T → i < 3 → On (split N T) (4 * j + suc i) (edge_no N T (3 * j + i))
  on-leaving j i l b = entry-on (12 * j + (3 * i + 4)) _ _ (omega arith) (omega arith) (split-leaving j i l b)

  -- and the vertex on the edge that enters it
  pub on-entering : (j i : ℕ) → j < triangles T → i < 3
      → On (split N T) (4 * j + suc i) (edge_no N T (3 * j + (i + 2) % 3))
  on-entering j i l b = entry-on (12 * j + (3 * i + 5)) _ _ (omega arith) (omega arith) (split-entering j i l b)

  -- ---- the vertices of the splitting's triangles

  -- vertex v stands on triangle t of the splitting, by t / 4 (the coarse triangle) and t % 4 (0: the centre): it is
  -- the edge vertex of a half-edge h of the coarse triangle (in triangle 4j + m with m not 0 the edge of index m % 3
  -- is missing), or the coarse vertex at corner m - 1
  pub data OnSplit (t v : ℕ) : Type 0 where
    edge : (h : ℕ) → h < length T → h / 3 ≡ t / 4 → (t % 4 ≡ 0) ⊎ (h % 3 ≢ t % 4 % 3) → edge_no N T h ≡ v → OnSplit t v
    coarse : (c : ℕ) → c < length T → c / 3 ≡ t / 4 → suc (c % 3) ≡ t % 4 → at T c ≡ v → OnSplit t v

  -- the edge of place k of the coarse triangle
  edge-on_split : length T ≡ 3 * triangles T → (t k v : ℕ) → t / 4 < triangles T → k < 3 → (t % 4 ≡ 0) ⊎ (k ≢ t % 4 % 3)
      → edge_no N T (3 * (t / 4) + k) ≡ v → OnSplit t v
  edge-on_split whole t k v l b d e = edge (3 * (t / 4) + k) (corner-inside (length T) (t / 4) k whole l b)
      (corner-triangle (t / 4) k b) (rw (corner-place (t / 4) k b) d) e

  -- the coarse corner of place i
  coarse-on_split : length T ≡ 3 * triangles T → (t i v : ℕ) → t / 4 < triangles T → i < 3 → suc i ≡ t % 4
      → at T (3 * (t / 4) + i) ≡ v → OnSplit t v
  coarse-on_split whole t i v l b m e = coarse (3 * (t / 4) + i) (corner-inside (length T) (t / 4) i whole l b)
      (corner-triangle (t / 4) i b) (rw (corner-place (t / 4) i b) m) e

  -- whatever stands on triangle t of the splitting is one of these
  pub on-split : length T ≡ 3 * triangles T → (t v : ℕ) → On (split N T) t v → OnSplit t v
  on-split whole t v o = go (place_of t o.corner o.triangle)
    where
      inside : t / 4 < triangles T
      inside = omega (arith, o.inside, o.triangle, split-length)

      entry : (c : ℕ) → o.corner ≡ c → at (split N T) c ≡ v
      entry c e = rw e at o.holds

      go : Place t o.corner → OnSplit t v
      go (centre i b m e) =
          edge-on_split whole t i v inside b (inl m) (sym (split-centre (t / 4) i inside b) ∙ entry _ e)
      go (corner i b m e) = coarse-on_split whole t i v inside b m (sym (split-corner (t / 4) i inside b) ∙ entry _ e)
      go (leaving i b m e) = edge-on_split whole t i v inside b (inr (rw (← m) (leaving-not-across i b)))
          (sym (split-leaving (t / 4) i inside b) ∙ entry _ e)
      go (entering i b m e) =
          edge-on_split whole t ((i + 2) % 3) v inside (omega arith) (inr (rw (← m) (entering-not-across i b)))
          (sym (split-entering (t / 4) i inside b) ∙ entry _ e)

  -- the vertex on the edge of place k stands on the centre and on the triangles of the edge's two ends
  edge-on-split : (t k v : ℕ) → t / 4 < triangles T → k < 3 → (t % 4 ≡ 0) ⊎ (k ≢ t % 4 % 3)
      → edge_no N T (3 * (t / 4) + k) ≡ v → On (split N T) t v
  edge-on-split t k v l b d e = go (t % 4) refl d
    where
      outer : (i : ℕ) → suc i ≡ t % 4 → (k ≡ i) ⊎ (k ≡ (i + 2) % 3) → On (split N T) t v
      outer i m (inl p) = entry-on (12 * (t / 4) + (3 * i + 4)) t v (omega arith) l
          (split-leaving (t / 4) i l (omega arith) ∙ rw (← p) e)
      outer i m (inr p) = entry-on (12 * (t / 4) + (3 * i + 5)) t v (omega arith) l
          (split-entering (t / 4) i l (omega arith) ∙ rw (← p) e)

      go : (m : ℕ) → t % 4 ≡ m → (m ≡ 0) ⊎ (k ≢ m % 3) → On (split N T) t v
      go zero m c = entry-on (12 * (t / 4) + k) t v (omega arith) l (split-centre (t / 4) k l b ∙ e)
      go (suc i) m (inl z) = absurd (omega arith)
      go (suc i) m (inr c) = outer i (sym m) (not-across i k (omega arith) b c)

  -- and each of these stands there
  pub split-on : length T ≡ 3 * triangles T → (t v : ℕ) → OnSplit t v → On (split N T) t v
  split-on whole t v (edge h l k d e) =
      edge-on-split t (h % 3) v (omega arith) (omega arith) d (ap (edge_no N T) (triangle-place h (t / 4) k) ∙ e)
  split-on whole t v (coarse c l k m e) = entry-on (12 * (t / 4) + (3 * (c % 3) + 3)) t v (omega arith) (omega arith)
      (split-corner (t / 4) (c % 3) (omega arith) (omega arith) ∙ ap (at T) (triangle-place c (t / 4) k) ∙ e)
