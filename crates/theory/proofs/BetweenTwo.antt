-- "the others stand between two kept ones": in a reading each vertex between has exactly two kept vertices beside it,
-- the ends of the coarse edge whose new vertex it is.
use Prim.Native.Nat.{ℕ, suc, ◌+◌, ◌*◌, ◌/◌, ◌%◌, ◌<◌, min, max}
use native.Mathlib.Decide.{ℕ_discrete, dec_lt}
use native.Mathlib.Omega.{arith}
use mathlib.Core.Path.{◌≡◌, refl, sym, ap, ◌∙◌}
use mathlib.Core.Logic.{◌≢◌, ◌⊎◌, inl, inr, ⊎_map}
use mathlib.Core.List.{List}
use lib.ListN.{length}
use Rattle.theory.specs.Mesh.{at, triangles, On, HasEdge, Same, OtherwiseProper}
use Rattle.theory.specs.Splitting.{next, lesser, greater, edge_no, split}
use Rattle.theory.specs.Reading.{Agreement, Reading, IsReading, Kept, Between, NewOn, BetweenTwo}
use Rattle.theory.proofs.Agreement.{Implies, reading-same}
use Rattle.theory.proofs.Splitting.{SameEdge, edge_no-injective, edge_no-above, edge_no-hit, coarse, split-on}
use Rattle.theory.proofs.Heart.{EdgeOn, CoarseOn, edge_on, coarse-on, half-on}
use Rattle.theory.proofs.Centres.{splitting, on-there, on-from, not-both, kept-below, triangle-hit, kept-numbers}

-- ---- the two ends of a half-edge

-- the lesser of two numbers is one of them
min-one : (a b : ℕ) → (min a b ≡ a) ⊎ (min a b ≡ b)
min-one a b = elim (dec_lt a b) [ yes l ↦ inl (omega arith) | no n ↦ inr (omega arith) ]

-- so is the greater
max-one : (a b : ℕ) → (max a b ≡ a) ⊎ (max a b ≡ b)
max-one a b = elim (dec_lt a b) [ yes l ↦ inr (omega arith) | no n ↦ inl (omega arith) ]

-- and each of the two is the lesser or the greater
one-min-max : (a b x : ℕ) → (x ≡ a) ⊎ (x ≡ b) → (x ≡ min a b) ⊎ (x ≡ max a b)
one-min-max a b x (inl p) = elim (dec_lt a b) [ yes l ↦ inl (omega arith) | no n ↦ inr (omega arith) ]
one-min-max a b x (inr p) = elim (dec_lt a b) [ yes l ↦ inr (omega arith) | no n ↦ inl (omega arith) ]

-- a half-edge that is not across from corner c of its triangle leaves it or enters it
corner-end : (c h : ℕ) → c / 3 ≡ h / 3 → h % 3 ≢ suc (c % 3) % 3 → (c ≡ h) ⊎ (c ≡ next h)
corner-end c h e n = elim (ℕ_discrete c h) [ yes p ↦ inl p | no m ↦ inr (omega arith) ]

module _ (M : ℕ) (C : List ℕ) (P : OtherwiseProper M C) where
  -- the ends of a half-edge are coarse vertices
  end_below : (h x : ℕ) → h < length C → (x ≡ at C h) ⊎ (x ≡ at C (next h)) → x < M
  end_below h x l (inl e) = rw e (P.below h l)
  end_below h x l (inr e) = rw e (P.below (next h) (omega (arith, P.whole)))

  -- and differ
  ends-differ : (h : ℕ) → h < length C → lesser C h < greater C h
  ends-differ h l = omega (arith, apart)
    where
      apart : at C h ≢ at C (next h)
      apart e = absurd (omega (arith, P.different h (next h) l (omega (arith, P.whole)) (omega arith) e))

  -- the triangle of the splitting at a corner has the new vertices of the half-edges that leave and enter the corner
  corner-along : (h c : ℕ) → h < length C → c < length C → c / 3 ≡ h / 3 → h % 3 ≢ suc (c % 3) % 3
      → (t : ℕ) × (t < 4 * triangles C) × On (split M C) t (at C c) × On (split M C) t (edge_no M C h)
  corner-along h c l b e n = (
    4 * (c / 3) + suc (c % 3),
    omega (arith, P.whole),
    split-on M C P.whole (4 * (c / 3) + suc (c % 3)) (at C c) (coarse c b (omega arith) (omega arith) refl),
    half-on M C P (4 * (c / 3) + suc (c % 3)) h l (omega arith) (rw place n),
  )
    where
      place : (4 * (c / 3) + suc (c % 3)) % 4 ≡ suc (c % 3)
      place = omega arith

  -- so each end of a half-edge is on a triangle of the splitting with the new vertex
  end-along : (h x : ℕ) → h < length C → (x ≡ at C h) ⊎ (x ≡ at C (next h))
      → (t : ℕ) × (t < 4 * triangles C) × On (split M C) t x × On (split M C) t (edge_no M C h)
  end-along h x l (inl e) = rw e (corner-along h h l l refl (omega arith))
  end-along h x l (inr e) = rw e (corner-along h (next h) l (omega (arith, P.whole)) (omega arith) (omega arith))

  -- and the coarse vertex of a triangle with the new vertex is one of the ends
  along-end : (h t x : ℕ) → x < M → On (split M C) t x → On (split M C) t (edge_no M C h)
      → (x ≡ lesser C h) ⊎ (x ≡ greater C h)
  along-end h t x b o p = go (coarse-on M C P t x b o) (edge_on M C P t (edge_no M C h) (edge_no-above M C h) p)
    where
      go : CoarseOn C t x → EdgeOn M C t (edge_no M C h) → (x ≡ lesser C h) ⊎ (x ≡ greater C h)
      go c e = ⊎_map (λ q. q ∙ same.low) (λ q. q ∙ same.high) (one-min-max (at C g) (at C (next g)) x stands)
        where
          g : ℕ
          g = e.half

          same : SameEdge C g h
          same = edge_no-injective M C g h e.number

          standing : {d : ℕ} → c.corner ≡ d → x ≡ at C d
          standing q = sym c.holds ∙ ap (at C) q

          stands : (x ≡ at C g) ⊎ (x ≡ at C (next g))
          stands = ⊎_map standing standing (corner-end c.corner g (c.within ∙ sym e.within)
              (rw c.place (e.present (omega (arith, c.place)))))

-- ---- the two kept vertices

-- a kept vertex with the coarse number x that an edge joins to v
record KeptEnd (T : List ℕ) (r : Reading) (v x : ℕ) : Type 0 where
  vertex : ℕ
  kept : Kept r vertex
  number : at r.vertex_map vertex ≡ x
  joined : (k : ℕ) × HasEdge T k vertex v

module _ {agree : Agreement} (I : Implies agree)
    (N : ℕ) (T : List ℕ) (P : OtherwiseProper N T) (r : Reading) (R : IsReading agree N T r) where
  -- the reading, as one that asks for the same three vertices
  same : IsReading Same N T r
  same = reading-same I R

  -- kept vertices are known by their coarse numbers
  kept-apart : (u w : ℕ) → Kept r u → Kept r w → at r.vertex_map u ≡ at r.vertex_map w → u ≡ w
  kept-apart = (kept-numbers N T P r same).apart

  -- a vertex between is one of the vertices
  between-below : (v : ℕ) → Between r v → v < N
  between-below v b = omega (arith, b.inside, R.matched.vertices.long)

  -- an edge joins vertices whose matches are on one triangle of the splitting
  edge-between : (u v t : ℕ) → Kept r u → Between r v → t < 4 * triangles r.mesh
      → On (splitting r) t (at r.vertex_map u) → On (splitting r) t (at r.vertex_map v) → (k : ℕ) × HasEdge T k u v
  edge-between u v t q b l o p = from (triangle-hit N T P r same t l)
    where
      from : (k : ℕ) × (k < triangles T) × (at r.triangle_map k ≡ t) → (k : ℕ) × HasEdge T k u v
      from (k, i, e) = (
        k,
        record {
          differ = λ d. not-both N T P r same v (rw d at q) b;
          one_end = on-from N T P r same k u i (kept-below N T P r same u q) (rw e o);
          other_end = on-from N T P r same k v i (between-below v b) (rw e p);
        },
      )

  -- so each end of the coarse edge whose new vertex is v is the number of a kept vertex that an edge joins to v
  kept-end : (v h x : ℕ) → Between r v → NewOn r v h → (x ≡ at r.mesh h) ⊎ (x ≡ at r.mesh (next h))
      → KeptEnd T r v x
  kept-end v h x b n e =
      found ((kept-numbers N T P r same).onto x (end_below r.vertices r.mesh Q h x n.inside e))
      (end-along r.vertices r.mesh Q h x n.inside e)
    where
      Q : OtherwiseProper r.vertices r.mesh
      Q = R.proper.otherwise

      found : (u : ℕ) × Kept r u × (at r.vertex_map u ≡ x)
          → (t : ℕ) × (t < 4 * triangles r.mesh) × On (splitting r) t x
          × On (splitting r) t (edge_no r.vertices r.mesh h)
          → KeptEnd T r v x
      found (u, q, d) (t, l, o, p) = record {
        vertex = u;
        kept = q;
        number = d;
        joined = edge-between u v t q b l (rw d o) (rw (← n.number) p);
      }

  -- the two at the ends of one half-edge are the ends of all with that new vertex, and no third is beside v
  ends-two : (v h : ℕ) → NewOn r v h
      → (A : KeptEnd T r v (lesser r.mesh h)) (B : KeptEnd T r v (greater r.mesh h))
      → BetweenTwo T r v A.vertex B.vertex
  ends-two v h n A B = record {
    one_kept = A.kept;
    other_kept = B.kept;
    differ = λ e. omega (
      arith,
      ends-differ r.vertices r.mesh R.proper.otherwise h n.inside,
      A.number,
      B.number,
      ap (at r.vertex_map) e,
    );
    half = h;
    new = n;
    lesser_end = λ g m. (one-edge g m).low ∙ sym A.number;
    greater_end = λ g m. (one-edge g m).high ∙ sym B.number;
    one_edge = A.joined;
    other_edge = B.joined;
    others = λ k x o p q. ⊎_map (λ e. kept-apart x A.vertex q A.kept (e ∙ sym A.number))
        (λ e. kept-apart x B.vertex q B.kept (e ∙ sym B.number))
        (along-end r.vertices r.mesh R.proper.otherwise h (at r.triangle_map k) (at r.vertex_map x)
        q.coarse (on-there N T P r same k x p) (rw n.number (on-there N T P r same k v o)));
  }
    where
      one-edge : (g : ℕ) → NewOn r v g → SameEdge r.mesh g h
      one-edge g m = edge_no-injective r.vertices r.mesh g h (m.number ∙ sym n.number)

  -- "the others stand between two kept ones"
  pub between-two : (v : ℕ) → Between r v → (u : ℕ) × (w : ℕ) × BetweenTwo T r v u w
  between-two v b = found (edge_no-hit r.vertices r.mesh (at r.vertex_map v) b.new
      (R.matched.vertices.below v (between-below v b)))
    where
      ends : (h : ℕ) → NewOn r v h → (u : ℕ) × (w : ℕ) × BetweenTwo T r v u w
      ends h n = (A.vertex, B.vertex, ends-two v h n A B)
        where
          A : KeptEnd T r v (lesser r.mesh h)
          A = kept-end v h (lesser r.mesh h) b n (min-one (at r.mesh h) (at r.mesh (next h)))

          B : KeptEnd T r v (greater r.mesh h)
          B = kept-end v h (greater r.mesh h) b n (max-one (at r.mesh h) (at r.mesh (next h)))

      found : (h : ℕ) × (h < length r.mesh) × (edge_no r.vertices r.mesh h ≡ at r.vertex_map v)
          → (u : ℕ) × (w : ℕ) × BetweenTwo T r v u w
      found (h, l, e) = ends h (record { inside = l; number = e })

  -- and between no other two
  pub between-two-only : (v u w x y : ℕ) → BetweenTwo T r v u w → BetweenTwo T r v x y → (u ≡ x) × (w ≡ y)
  between-two-only v u w x y A B = (
    kept-apart u x A.one_kept B.one_kept (sym (A.lesser_end A.half A.new) ∙ B.lesser_end A.half A.new),
    kept-apart w y A.other_kept B.other_kept
        (sym (A.greater_end A.half A.new) ∙ B.greater_end A.half A.new),
  )
