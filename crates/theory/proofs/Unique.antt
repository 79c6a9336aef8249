-- At most one: two readings that agree on the role of one triangle agree on every kept vertex and on every centre. So
-- two returned readings in one role are equal, and the coarse meshes of any two are the same apart from numbering and
-- order.
use Prim.Native.Nat.{ℕ, suc, ◌+◌, ◌*◌, ◌/◌, ◌%◌, ◌≤◌, ◌<◌}
use native.Mathlib.Nat.{zero-add}
use native.Mathlib.Decide.{ℕ_discrete}
use native.Mathlib.Omega.{arith}
use mathlib.Core.Path.{◌≡◌, refl, sym, ap, ◌∙◌, subst, subst₂, subst₃}
use mathlib.Core.Logic.{◌≢◌, ◌⊎◌, inl, inr}
use mathlib.Core.List.{List}
use lib.ListN.{length}
use lib.Seq.{ext_get_or}
use Rattle.theory.specs.Mesh.{at, triangles, On, HasEdge, Same, Share, Reach, Proper}
use Rattle.theory.specs.Splitting.{split, edge_no}
use Rattle.theory.specs.Reading.{Agreement, Reading, IsReading, Matched, renamed, Returned}
use Rattle.theory.specs.Reading.{Kept, Between, Centre, RoleOf, Across}
use Rattle.theory.proofs.Finite.{match-size, match-same, identity, identity-at}
use Rattle.theory.proofs.Numbering.{listed, Numbers, numbers_of, Renumbers, numbers-matched, upward-agree}
use Rattle.theory.proofs.Mesh.{on-place, edge-across, reach-trans, reach-sym, on-triangle, corner-on, side}
use Rattle.theory.proofs.Agreement.{Implies, reading-same, returned-same}
use Rattle.theory.proofs.Renaming.{renamed-identity, renumbers-matched}
use Rattle.theory.proofs.Splitting.{edge_no-hit}
use Rattle.theory.proofs.Heart.{CoarseOn, coarse-on, half-on, two-between}
use Rattle.theory.proofs.Centres.{splitting, coarse_of, on-there, on-from, kept-or-between, not-both}
use Rattle.theory.proofs.Centres.{centre-or-not, kept-below, centre-below, triangle-hit}
use Rattle.theory.proofs.Centres.{kept-numbers, centre-numbers, kept-no-centre}
use Rattle.theory.proofs.Centres.{corner-kept, one_kept, beside-centre, across-centre, across-corner}
use Rattle.theory.proofs.Centres.{CentreOver, corner-over}
use Rattle.theory.proofs.Rows.{Opposite, opposite-exists, opposite-unique}
use Rattle.theory.proofs.Lawful.{Lawful}

-- ---- a reading, and two

-- the same vertices of triangle k are kept in both readings
record AgreeOn (T : List ℕ) (r s : Reading) (k : ℕ) : Type 0 where
  there : (v : ℕ) → On T k v → Kept r v → Kept s v
  back : (v : ℕ) → On T k v → Kept s v → Kept r v

-- the same vertices are kept and the same triangles are centres
record Alike (r s : Reading) : Type 0 where
  kept_there : (v : ℕ) → Kept r v → Kept s v
  kept_back : (v : ℕ) → Kept s v → Kept r v
  centre_there : (k : ℕ) → Centre r k → Centre s k
  centre_back : (k : ℕ) → Centre s k → Centre r k

-- two corner triangles at vertex v
record CornersAt (T : List ℕ) (r : Reading) (v : ℕ) : Type 0 where
  one : ℕ
  two : ℕ
  differ : at r.triangle_map one ≢ at r.triangle_map two
  has_one : On T one v
  has_two : On T two v
  corner_one : at r.triangle_map one % 4 ≢ 0
  corner_two : at r.triangle_map two % 4 ≢ 0

module _ (N : ℕ) (T : List ℕ) (P : Proper N T) where
  -- ---- roles

  -- the role of a triangle is one number
  pub role-unique : (r : Reading) → IsReading Same N T r → (k ρ σ : ℕ) → k < triangles T → RoleOf T r k ρ
      → RoleOf T r k σ → ρ ≡ σ
  role-unique r R k ρ σ l (RoleOf.centre c) (RoleOf.centre d) = refl
  role-unique r R k ρ σ l (RoleOf.centre c) (RoleOf.corner j b _ q) =
      absurd (kept-no-centre N T P.otherwise r R k _ (corner-on P.otherwise k j l b) q c)
  role-unique r R k ρ σ l (RoleOf.corner i a _ p) (RoleOf.centre d) =
      absurd (kept-no-centre N T P.otherwise r R k _ (corner-on P.otherwise k i l a) p d)
  role-unique r R k ρ σ l (RoleOf.corner i a _ p) (RoleOf.corner j b _ q) =
      let w : length T ≡ 3 * triangles T = P.otherwise.whole in
      omega (arith, P.otherwise.different (3 * k + i) (3 * k + j) (omega arith) (omega arith) (omega arith) kept)
    where
      kept : at T (3 * k + i) ≡ at T (3 * k + j)
      kept = one_kept N T P.otherwise r R k _ _ (corner-on P.otherwise k i l a)
          (corner-on P.otherwise k j l b) p q

  -- every triangle has a role
  pub role-exists : (r : Reading) → IsReading Same N T r → (k : ℕ) → k < triangles T
      → (ρ : ℕ) × (ρ ≤ 3) × RoleOf T r k ρ
  role-exists r R k l = go (centre-or-not N T P.otherwise r R k l)
    where
      kept : (v : ℕ) × On T k v × Kept r v → (ρ : ℕ) × (ρ ≤ 3) × RoleOf T r k ρ
      kept (v, o, p) = (
        suc (o.corner % 3),
        omega arith,
        RoleOf.corner (o.corner % 3) (omega arith) l (subst (Kept r) (sym (on-place o)) p),
      )

      go : Centre r k ⊎ (Centre r k → ⊥) → (ρ : ℕ) × (ρ ≤ 3) × RoleOf T r k ρ
      go (inl c) = (0, omega arith, RoleOf.centre c)
      go (inr d) = kept (corner-kept N T P.otherwise r R k l d)

  -- a triangle with a role is one of the triangles
  role-below : (r : Reading) → IsReading Same N T r → (k ρ : ℕ) → RoleOf T r k ρ → k < triangles T
  role-below r R k ρ (RoleOf.centre c) = centre-below N T P.otherwise r R k c
  role-below r R k ρ (RoleOf.corner _ _ l _) = l

  -- ---- from triangle to triangle

  module _ (r s : Reading) (R : IsReading Same N T r) (S : IsReading Same N T s) where
    -- where the same vertices are kept, a centre of the one is a centre of the other
    agree-centre : (k : ℕ) → AgreeOn T r s k → k < triangles T → Centre r k → Centre s k
    agree-centre k A l c = go (centre-or-not N T P.otherwise s S k l)
      where
        none : (v : ℕ) × On T k v × Kept s v → ⊥
        none (v, o, p) = kept-no-centre N T P.otherwise r R k v o (A.back v o p) c

        go : Centre s k ⊎ (Centre s k → ⊥) → Centre s k
        go (inl d) = d
        go (inr d) = absurd (none (corner-kept N T P.otherwise s S k l d))

    -- in one role the same vertex is kept
    role-there : (k ρ : ℕ) → RoleOf T r k ρ → RoleOf T s k ρ → (v : ℕ) → On T k v → Kept r v → Kept s v
    role-there k ρ (RoleOf.centre c) (RoleOf.centre d) v o p = absurd (kept-no-centre N T P.otherwise r R k v o p c)
    role-there k ρ (RoleOf.corner i b l q) (RoleOf.corner j _ _ q') v o p =
        subst (Kept s) (one_kept N T P.otherwise r R k _ v (corner-on P.otherwise k j l b) o q p) q'

    -- over an edge the vertex across is kept if the triangle is a centre, and only then
    across-there : (k u v w : ℕ) → AgreeOn T r s k → HasEdge T k u v → Across T k u v w → Kept r w → Kept s w
    across-there k u v w A h x p = go (centre-or-not N T P.otherwise r R k l)
      where
        l : k < triangles T
        l = on-triangle P.otherwise h.one_end

        go : Centre r k ⊎ (Centre r k → ⊥) → Kept s w
        go (inl c) = across-centre N T P.otherwise s S k u v w (agree-centre k A l c) h x
        go (inr d) = absurd (not-both N T P.otherwise r R w p between)
          where
            between : Between r w
            between = across-corner N T P.otherwise r R k u v w l d h x

    -- so what holds of a triangle holds of each that shares an edge with it
    step-there : (k l : ℕ) → AgreeOn T r s k → Share T k l → (w : ℕ) → On T l w → Kept r w → Kept s w
    step-there k l A h w o p = go (ℕ_discrete l k) (ℕ_discrete w h.u) (ℕ_discrete w h.v)
      where
        end : {x : ℕ} → On T k x → w ≡ x → Kept s w
        end {x} q e = subst (Kept s) (sym e) (A.there x q (subst (Kept r) e p))

        go : Dec (l ≡ k) → Dec (w ≡ h.u) → Dec (w ≡ h.v) → Kept s w
        go (yes e) d f = A.there w (subst (λ (m : ℕ). On T m w) e o) p
        go (no n) (yes e) f = end h.one.one_end e
        go (no n) (no d) (yes e) = end h.one.other_end e
        go (no n) (no d) (no f) = across-there k h.u h.v w A h.one (edge-across h.other n o d f) p

  -- the readings agree on each triangle that is reached from one on which they do
  reach-agree : (r s : Reading) → IsReading Same N T r → IsReading Same N T s → (k l : ℕ) → AgreeOn T r s k
      → Reach T k l → AgreeOn T r s l
  reach-agree r s R S k l A Reach.here = A
  reach-agree r s R S k l A (Reach.step {l = j} p h) = go (reach-agree r s R S k j A p)
    where
      go : AgreeOn T r s j → AgreeOn T r s l
      go B = record {
        there = step-there r s R S j l B h;
        back = step-there s r S R j l (record { there = B.back; back = B.there }) h;
      }

  -- ---- the corner triangles of a vertex between

  module _ (r : Reading) (R : IsReading Same N T r) where
    -- the vertex on the edge of h is on the corner triangles of its four but the one across
    edge-corner : (v h m : ℕ) → v < N → h < length r.mesh → edge_no r.vertices r.mesh h ≡ at r.vertex_map v
        → m < 3 → h % 3 ≢ suc m % 3 → (k : ℕ) × On T k v × (at r.triangle_map k ≡ 4 * (h / 3) + suc m)
    edge-corner v h m l a e c n = go (triangle-hit N T P.otherwise r R (4 * (h / 3) + suc m)
        (omega (arith, R.proper.otherwise.whole)))
      where
        on : (t : ℕ) → t ≡ 4 * (h / 3) + suc m → On (splitting r) t (at r.vertex_map v)
        on t q =
            let place : suc m ≡ t % 4 = omega arith in
            subst (On (splitting r) t) e (half-on r.vertices r.mesh R.proper.otherwise t h a (omega arith)
            (subst (λ (p : ℕ). h % 3 ≢ p % 3) place n))

        go : (k : ℕ) × (k < triangles T) × (at r.triangle_map k ≡ 4 * (h / 3) + suc m)
            → (k : ℕ) × On T k v × (at r.triangle_map k ≡ 4 * (h / 3) + suc m)
        go (k, d, q) = (k, on-from N T P.otherwise r R k v d l (on (at r.triangle_map k) q), q)

    -- so a vertex between is on two corner triangles
    between-two : (v : ℕ) → Between r v → CornersAt T r v
    between-two v b = hit (edge_no-hit r.vertices r.mesh (at r.vertex_map v) b.new
        (R.matched.vertices.below v l))
      where
        l : v < N
        l = omega (arith, R.matched.vertices.long)

        go : (h : ℕ) → (k : ℕ) × On T k v × (at r.triangle_map k ≡ 4 * (h / 3) + suc (h % 3))
            → (k : ℕ) × On T k v × (at r.triangle_map k ≡ 4 * (h / 3) + suc ((h % 3 + 1) % 3)) → CornersAt T r v
        go h (j, o, e) (k, p, d) = record {
          one = j;
          two = k;
          differ = omega arith;
          has_one = o;
          has_two = p;
          corner_one = omega arith;
          corner_two = omega arith;
        }

        hit : (h : ℕ) × (h < length r.mesh) × (edge_no r.vertices r.mesh h ≡ at r.vertex_map v)
            → CornersAt T r v
        hit (h, a, e) = go h (edge-corner v h (h % 3) l a e (omega arith) (omega arith))
            (edge-corner v h ((h % 3 + 1) % 3) l a e (omega arith) (omega arith))

  -- ---- two readings in one role of a triangle

  module _ (r s : Reading) (R : IsReading Same N T r) (S : IsReading Same N T s) (k ρ : ℕ)
      (rr : RoleOf T r k ρ) (ss : RoleOf T s k ρ) where
    -- the readings agree on every triangle
    all-agree : (l : ℕ) → l < triangles T → AgreeOn T r s l
    all-agree l b = reach-agree r s R S k l
        (record { there = role-there r s R S k ρ rr ss; back = role-there s r S R k ρ ss rr })
        (reach-trans (reach-sym (P.connected k (role-below r R k ρ rr))) (P.connected l b))

    -- so a vertex kept in the one is kept in the other
    pub kept-agree : (v : ℕ) → Kept r v → Kept s v
    kept-agree v p = go (P.otherwise.used v (kept-below N T P.otherwise r R v p))
      where
        go : (l : ℕ) × On T l v → Kept s v
        go (l, o) = (all-agree l (on-triangle P.otherwise o)).there v o p

    -- and a centre of the one is a centre of the other
    pub centre-agree : (l : ℕ) → Centre r l → Centre s l
    centre-agree l c = agree-centre r s R S l (all-agree l b) b c
      where
        b : l < triangles T
        b = centre-below N T P.otherwise r R l c

  -- so in one role of a triangle the readings keep the same vertices and have the same centres
  alike : (r s : Reading) → IsReading Same N T r → IsReading Same N T s → (k ρ : ℕ) → RoleOf T r k ρ → RoleOf T s k ρ
      → Alike r s
  alike r s R S k ρ p q = record {
    kept_there = kept-agree r s R S k ρ p q;
    kept_back = kept-agree s r S R k ρ q p;
    centre_there = centre-agree r s R S k ρ p q;
    centre_back = centre-agree s r S R k ρ q p;
  }

  -- ---- the coarse meshes of two readings

  module _ (r s : Reading) (R : IsReading Same N T r) (S : IsReading Same N T s) (A : Alike r s) where
    -- s numbers the vertices that r keeps
    kept-others : Numbers (Kept r) (at s.vertex_map) s.vertices
    kept-others = numbers_of A.kept_there A.kept_back (kept-numbers N T P.otherwise s S)

    -- and the centres of r
    centre-others : Numbers (Centre r) (coarse_of s) (triangles s.mesh)
    centre-others = numbers_of A.centre_there A.centre_back (centre-numbers N T P.otherwise s S)

    -- the numbers of the kept vertices in r to those in s
    vertex-renumbers : Renumbers (Kept r) (at r.vertex_map) r.vertices (at s.vertex_map) s.vertices
    vertex-renumbers = numbers-matched (kept-numbers N T P.otherwise r R) kept-others

    -- and those of the centres
    triangle-renumbers : Renumbers (Centre r) (coarse_of r) (triangles r.mesh) (coarse_of s) (triangles s.mesh)
    triangle-renumbers = numbers-matched (centre-numbers N T P.otherwise r R) centre-others

  module _ {agree : Agreement} (A : Lawful agree) (r s : Reading) (R : IsReading agree N T r)
      (S : IsReading agree N T s) (L : Alike r s) where
    -- both are readings by `Same`
    one_same : IsReading Same N T r
    one_same = reading-same A.implies R

    other-same : IsReading Same N T s
    other-same = reading-same A.implies S

    -- so there is a match of the numbers of their kept vertices
    renumbered : Renumbers (Kept r) (at r.vertex_map) r.vertices (at s.vertex_map) s.vertices
    renumbered = vertex-renumbers r s one_same other-same L

    -- x is the number in s of the kept vertex opposite corner i of triangle k
    abbrev OppositeNumber : ℕ → ℕ → ℕ → Type 0
    OppositeNumber k i x = (w : ℕ) × Kept r w × Opposite T k i w × (x ≡ at s.vertex_map w)

    -- the three numbers of a centre
    opposite-numbers : (k : ℕ) → Centre r k
        → (W : List ℕ) × (length W ≡ 3) × ((i : ℕ) → i < 3 → OppositeNumber k i (at W i))
    opposite-numbers k c = listed 3 (λ i b. number i (opposite-exists N T P.otherwise r one_same k i c b))
      where
        number : (i : ℕ) → (w : ℕ) × Kept r w × Opposite T k i w → (x : ℕ) × OppositeNumber k i x
        number i (w, p, o) = (at s.vertex_map w, (w, p, o, refl))

    -- both coarse triangles of the centre agree with them, and so with one another
    centre-agrees : (k : ℕ) → Centre r k
        → agree (renamed renumbered.list r.mesh) (coarse_of r k) s.mesh (coarse_of s k)
    centre-agrees k c = go (opposite-numbers k c)
      where
        go : (W : List ℕ) × (length W ≡ 3) × ((i : ℕ) → i < 3 → OppositeNumber k i (at W i))
            → agree (renamed renumbered.list r.mesh) (coarse_of r k) s.mesh (coarse_of s k)
        go (W, long, numbers) = A.transitive
            (A.rows N T P.otherwise r R renumbered.list W k 0 c (omega arith)
            (λ i w b p o. number i w b o ∙ sym (renumbered.sends w p)))
            (A.symmetric (rw (renamed-identity s.vertices s.mesh S.proper.otherwise.below) at
            (A.rows N T P.otherwise s S (identity s.vertices) W k 0 (L.centre_there k c) (omega arith)
            (λ i w b p o. number i w b o ∙ sym (identity-at s.vertices _ p.coarse)))))
          where
            number : (i w : ℕ) → i < 3 → Opposite T k i w → at W (3 * 0 + i) ≡ at s.vertex_map w
            number i w b o = ap (at W) (zero-add i) ∙ one (numbers i b)
              where
                one : OppositeNumber k i (at W i) → at W i ≡ at s.vertex_map w
                one (x, _, q, e) =
                    e ∙ ap (at s.vertex_map) (opposite-unique N T P.otherwise r one_same k i x w c b q o)

    -- so the coarse meshes are matched
    meshes-matched : Matched agree renumbered.list (triangle-renumbers r s one_same other-same L).list r.vertices
        r.mesh s.vertices s.mesh
    meshes-matched = renumbers-matched renumbered.match (centre-numbers N T P.otherwise r one_same)
        (triangle-renumbers r s one_same other-same L) refl centre-agrees

  -- in one role of a triangle the coarse meshes are matched, vertices to vertices and triangles to triangles
  pub coarse-matched : {agree : Agreement} → Lawful agree → (r s : Reading) → IsReading agree N T r
      → IsReading agree N T s → (k ρ : ℕ) → RoleOf T r k ρ → RoleOf T s k ρ
      → (f : List ℕ) × (g : List ℕ) × Matched agree f g r.vertices r.mesh s.vertices s.mesh
  coarse-matched A r s R S k ρ p q = (
    _,
    _,
    meshes-matched A r s R S
        (alike r s (reading-same A.implies R) (reading-same A.implies S) k ρ p q),
  )

  -- ---- returned readings

  module _ (r s : Reading) (ρ : ℕ) (R : Returned Same N T ρ r) (S : Returned Same N T ρ s) (A : Alike r s) where
    -- the numbers of a kept vertex are the same
    kept-number : (v : ℕ) → Kept r v → at r.vertex_map v ≡ at s.vertex_map v
    kept-number = upward-agree (kept-numbers N T P.otherwise r R.is) (kept-others r s R.is S.is A)
        (record { grows = R.kept_upward })
        (record { grows = λ u v p q. S.kept_upward u v (A.kept_there u p) (A.kept_there v q) })

    -- and those of a centre
    centre-number : (k : ℕ) → Centre r k → coarse_of r k ≡ coarse_of s k
    centre-number = upward-agree (centre-numbers N T P.otherwise r R.is) (centre-others r s R.is S.is A)
        (record { grows = λ j k c d b. omega (arith, R.centres_upward j k c d b) })
        (record {
          grows = λ j k c d b. omega (
            arith,
            A.centre_there j c,
            A.centre_there k d,
            S.centres_upward j k (A.centre_there j c) (A.centre_there k d) b,
          );
        })

    -- there are as many coarse vertices
    vertices-same : r.vertices ≡ s.vertices
    vertices-same = match-size (vertex-renumbers r s R.is S.is A).match

    -- corner i of a centre's coarse triangle is the number of the one kept vertex across
    row_same : (k i : ℕ) → Centre r k → i < 3
        → at r.mesh (3 * coarse_of r k + i) ≡ at s.mesh (3 * coarse_of s k + i)
    row_same k i c b = go (R.rows k i c b) (S.rows k i (A.centre_there k c) b)
      where
        go : (w : ℕ) × Kept r w × Opposite T k i w × (at r.mesh (3 * coarse_of r k + i) ≡ at r.vertex_map w)
            → (w : ℕ) × Kept s w × Opposite T k i w × (at s.mesh (3 * coarse_of s k + i) ≡ at s.vertex_map w)
            → at r.mesh (3 * coarse_of r k + i) ≡ at s.mesh (3 * coarse_of s k + i)
        go (w, p, x, e) (v, q, y, d) =
            let z : w ≡ v = opposite-unique N T P.otherwise r R.is k i w v c b x y in
            e ∙ kept-number w p ∙ ap (at s.vertex_map) z ∙ sym d

    -- the coarse meshes are the same
    mesh-same : r.mesh ≡ s.mesh
    mesh-same = ext_get_or 0 r.mesh s.mesh long
        (λ c b. entry c ((centre-numbers N T P.otherwise r R.is).onto (c / 3)
        (omega (arith, R.is.proper.otherwise.whole))))
      where
        long : length r.mesh ≡ length s.mesh
        long = omega (
          arith,
          R.is.proper.otherwise.whole,
          S.is.proper.otherwise.whole,
          match-size (triangle-renumbers r s R.is S.is A).match,
        )

        entry : (c : ℕ) → (k : ℕ) × Centre r k × (coarse_of r k ≡ c / 3) → at r.mesh c ≡ at s.mesh c
        entry c (k, p, e) = subst₂ (λ (i j : ℕ). at r.mesh i ≡ at s.mesh j) (omega arith)
            (omega (arith, centre-number k p)) (row_same k (c % 3) p (omega arith))

    -- a triangle belongs to the same four
    four_same : (k : ℕ) → k < triangles T → coarse_of r k ≡ coarse_of s k
    four_same k b = go (role-exists r R.is k b)
      where
        over : (i : ℕ) → i < 3 → CentreOver T r k (at T (3 * k + (i + 1) % 3)) (at T (3 * k + (i + 2) % 3))
            → coarse_of r k ≡ coarse_of s k
        over i a c = omega (
          arith,
          c.same,
          centre-number c.triangle c.is,
          (beside-centre N T P.otherwise s S.is c.triangle k _ _ (A.centre_there c.triangle c.is)
              c.has
              (side P.otherwise k ((i + 1) % 3) ((i + 2) % 3) b (omega arith) (omega arith) (omega arith))
              (λ e. c.other (sym e))).1,
        )

        go : (σ : ℕ) × (σ ≤ 3) × RoleOf T r k σ → coarse_of r k ≡ coarse_of s k
        go (σ, _, RoleOf.centre c) = centre-number k c
        go (σ, _, RoleOf.corner i a _ p) = over i a (corner-over N T P.otherwise r R.is k i b a p)

    -- a triangle with a kept vertex stands at the same coarse corner
    corner-same : (k w : ℕ) → On T k w → Kept r w → at r.triangle_map k ≡ at s.triangle_map k
    corner-same k w o p = go
        (coarse-on r.vertices r.mesh R.is.proper.otherwise (at r.triangle_map k) (at r.vertex_map w)
        p.coarse (on-there N T P.otherwise r R.is k w o))
        (coarse-on s.vertices s.mesh S.is.proper.otherwise (at s.triangle_map k) (at s.vertex_map w)
        (A.kept_there w p).coarse (on-there N T P.otherwise s S.is k w o))
      where
        go : CoarseOn r.mesh (at r.triangle_map k) (at r.vertex_map w)
            → CoarseOn s.mesh (at s.triangle_map k) (at s.vertex_map w)
            → at r.triangle_map k ≡ at s.triangle_map k
        go a b = omega (arith, four, corners)
          where
            four : coarse_of r k ≡ coarse_of s k
            four = four_same k (on-triangle P.otherwise o)

            corners : a.corner ≡ b.corner
            corners = R.is.proper.otherwise.different a.corner b.corner a.inside
                (subst (λ (m : List ℕ). b.corner < length m) (sym mesh-same) b.inside) (omega (arith, four))
                (a.holds ∙ kept-number w p ∙ sym b.holds ∙ ap (λ (m : List ℕ). at m b.corner) (sym mesh-same))

    -- so every triangle is matched to the same one
    triangle-same : (k : ℕ) → k < triangles T → at r.triangle_map k ≡ at s.triangle_map k
    triangle-same k b = go (role-exists r R.is k b)
      where
        go : (σ : ℕ) × (σ ≤ 3) × RoleOf T r k σ → at r.triangle_map k ≡ at s.triangle_map k
        go (σ, _, RoleOf.centre c) = omega (arith, centre-number k c, A.centre_there k c)
        go (σ, _, RoleOf.corner i a _ p) = corner-same k (at T (3 * k + i)) (corner-on P.otherwise k i b a) p

    -- a vertex between is matched to the one vertex between that two corner triangles have in common
    between-same : (v : ℕ) → Between r v → Between s v → CornersAt T r v → at r.vertex_map v ≡ at s.vertex_map v
    between-same v p q c = go (ℕ_discrete (at r.vertex_map v) (at s.vertex_map v))
      where
        there : {k : ℕ} → On T k v → On (splitting r) (at r.triangle_map k) (at s.vertex_map v)
        there {k} o = subst₃ (λ (m : ℕ) (t : List ℕ) (j : ℕ). On (split m t) j (at s.vertex_map v))
            (sym vertices-same) (sym mesh-same) (sym (triangle-same k (on-triangle P.otherwise o)))
            (on-there N T P.otherwise s S.is k v o)

        here : {k : ℕ} → On T k v → On (splitting r) (at r.triangle_map k) (at r.vertex_map v)
        here {k} o = on-there N T P.otherwise r R.is k v o

        none : {B C : Type 0}
            → ((at r.triangle_map c.one % 4 ≡ 0) × B) ⊎ ((at r.triangle_map c.two % 4 ≡ 0) × C) → ⊥
        none (inl z) = c.corner_one z.0
        none (inr z) = c.corner_two z.0

        go : Dec (at r.vertex_map v ≡ at s.vertex_map v) → at r.vertex_map v ≡ at s.vertex_map v
        go (yes e) = e
        go (no n) = absurd (none (two-between r.vertices r.mesh R.is.proper.otherwise _ _ _ _ n p.new
            (subst (λ (m : ℕ). m ≤ at s.vertex_map v) (sym vertices-same) q.new) c.differ
            (here c.has_one) (there c.has_one) (here c.has_two) (there c.has_two)).1)

    -- so every vertex is matched to the same one
    vertex-same : (v : ℕ) → v < N → at r.vertex_map v ≡ at s.vertex_map v
    vertex-same v b =
        go (kept-or-between N T P.otherwise r R.is v b) (kept-or-between N T P.otherwise s S.is v b)
      where
        go : Kept r v ⊎ Between r v → Kept s v ⊎ Between s v → at r.vertex_map v ≡ at s.vertex_map v
        go (inl p) q = kept-number v p
        go (inr p) (inl q) = kept-number v (A.kept_back v q)
        go (inr p) (inr q) = between-same v p q (between-two r R.is v p)

  -- the returned reading in a role is one
  pub returned-unique : {agree : Agreement} → Implies agree → (r s : Reading) (ρ : ℕ) → Returned agree N T ρ r
      → Returned agree N T ρ s → r ≡ s
  returned-unique I r s ρ R S = λ i. record {
    vertices = vertices-same r s ρ (returned-same I R) (returned-same I S) A i;
    mesh = mesh-same r s ρ (returned-same I R) (returned-same I S) A i;
    vertex_map = vertex_maps i;
    triangle_map = triangle_maps i;
  }
    where
      A : Alike r s
      A = alike r s (reading-same I R.is) (reading-same I S.is) 0 ρ R.in_role S.in_role

      vertex_maps : r.vertex_map ≡ s.vertex_map
      vertex_maps = match-same R.is.matched.vertices S.is.matched.vertices
          (vertex-same r s ρ (returned-same I R) (returned-same I S) A)

      triangle_maps : r.triangle_map ≡ s.triangle_map
      triangle_maps = match-same R.is.matched.faces S.is.matched.faces
          (triangle-same r s ρ (returned-same I R) (returned-same I S) A)
