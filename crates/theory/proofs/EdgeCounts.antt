-- Meshes that are renamed and reordered have equally many edges and equally many boundary edges. So a reading's coarse
-- mesh has as many edges as the input has vertices between, and half of the input's boundary edges.
use Prim.Native.Nat.{ℕ, ◌+◌, ◌*◌, ◌/◌, ◌≤◌, ◌<◌}
use native.Mathlib.Omega.{arith}
use mathlib.Core.Path.{◌≡◌, refl, sym, ap, ◌∙◌}
use mathlib.Core.Logic.{◌⊎◌, inl, inr}
use mathlib.Core.List.{List}
use lib.ListN.{length}
use Rattle.theory.specs.Counting.{count}
use Rattle.theory.specs.Mesh.{at, triangles, HasEdge, Boundary, Same, OtherwiseProper, Proper}
use Rattle.theory.specs.Splitting.{next, edges, is_boundary, boundary_edges, edge_no, split}
use Rattle.theory.specs.Reading.{Matched, Reading, IsReading}
use Rattle.theory.proofs.Finite.{match-size}
use Rattle.theory.proofs.Numbering.{related-le}
use Rattle.theory.proofs.Mesh.{on-triangle, on-vertex}
use Rattle.theory.proofs.Renaming.{match-on-only, matched-inverse}
use Rattle.theory.proofs.Splitting.{SameEdge, ends-same_edge, ends-same_edge-crossed, same_edge-refl, Joins}
use Rattle.theory.proofs.Splitting.{same_edge-joins, joins-ends, Side, edge-side}
use Rattle.theory.proofs.Splitting.{edge_no-same, edge_no-injective, edge_no-below, edge_no-hit}
use Rattle.theory.proofs.BoundaryEdges.{Alone, boundary-numbers, half-has_edge, alone-edge, edge-alone}
use Rattle.theory.proofs.SplitEdges.{split-edges, split-boundary}
use Rattle.theory.proofs.Carried.{has_edge-match}
use Rattle.theory.proofs.SplitProper.{split-proper}

-- ---- matched meshes

module _ {f g T S : List ℕ} {N M : ℕ} (P : OtherwiseProper N T) (Q : OtherwiseProper M S)
    (G : Matched Same f g N T M S) where
  -- half-edge k of S is on the edge to which that of half-edge h goes
  abbrev Goes : ℕ → ℕ → Type 0
  Goes h k = Joins S k (at f (at T h)) (at f (at T (next h)))

  -- only half-edges of one edge go to one edge
  goes_same : {h i k l : ℕ} → h < length T → i < length T → Goes h k → Goes i l → SameEdge S k l → SameEdge T h i
  goes_same {h} {i} {k} {l} a b u v e = go (joins-ends u (same_edge-joins e v))
    where
      apart : (c d : ℕ) → c < length T → d < length T → at f (at T c) ≡ at f (at T d) → at T c ≡ at T d
      apart c d p q = G.vertices.apart (at T c) (at T d) (P.below c p) (P.below d q)

      after : (c : ℕ) → c < length T → next c < length T
      after c p = omega (arith, P.whole)

      go : ((at f (at T h) ≡ at f (at T i)) × (at f (at T (next h)) ≡ at f (at T (next i))))
          ⊎ ((at f (at T h) ≡ at f (at T (next i))) × (at f (at T (next h)) ≡ at f (at T i))) → SameEdge T h i
      go (inl (p, q)) =
          ends-same_edge T h i (apart h i a b p) (apart (next h) (next i) (after h a) (after i b) q)
      go (inr (p, q)) =
          ends-same_edge-crossed T h i (apart h (next i) a (after i b) p) (apart (next h) i (after h a) b q)

  -- a boundary edge goes to a boundary edge
  boundary-match : {u v : ℕ} → Boundary T u v → Boundary S (at f u) (at f v)
  boundary-match {u} {v} b = record {
    only = at g b.only;
    has = has_edge-match f g N T M S P G b.has;
    others = λ l e. of l e (G.faces.onto l (on-triangle Q e.one_end));
  }
    where
      of : (l : ℕ) → HasEdge S l (at f u) (at f v) → (k : ℕ) × (k < triangles T) × (at g k ≡ l) → l ≡ at g b.only
      of l e (k, m, q) = sym q ∙ ap (at g) (b.others k (record {
        differ = b.has.differ;
        one_end = match-on-only G P m (on-vertex P b.has.one_end) (rw q e.one_end);
        other_end = match-on-only G P m (on-vertex P b.has.other_end) (rw q e.other_end);
      }))

  -- S has no fewer edges
  edges-le-matched : edges T ≤ edges S
  edges-le-matched = related-le {R = Related} (edges T) (edges S)
      (λ y l. some (edge_no-hit 0 T y (omega arith) (omega arith))) (λ y z x _ _. apart)
    where
      Related : ℕ → ℕ → Type 0
      Related y x = (h k : ℕ) × (h < length T) × Goes h k × (edge_no 0 T h ≡ y) × (edge_no 0 S k ≡ x)

      some : {y : ℕ} → (h : ℕ) × (h < length T) × (edge_no 0 T h ≡ y) → (x : ℕ) × (x < edges S) × Related y x
      some (h, l, e) =
          let s : Side S (at g (h / 3)) (at f (at T h)) (at f (at T (next h))) =
          edge-side (has_edge-match f g N T M S P G (half-has_edge N T P h l)) in
          let b : edge_no 0 S s.half < edges S = omega (arith, edge_no-below 0 S s.half s.inside) in
          (edge_no 0 S s.half, b, (h, s.half, l, s.joins, e, refl))

      apart : {y z x : ℕ} → Related y x → Related z x → y ≡ z
      apart (h, k, l, a, e, d) (i, j, m, b, q, r) =
          sym e ∙ edge_no-same 0 T h i (goes_same l m a b (edge_no-injective 0 S k j (d ∙ sym r))) ∙ q

  -- and no fewer boundary edges
  boundary-le-matched : boundary_edges T ≤ boundary_edges S
  boundary-le-matched = related-le {R = Related} (boundary_edges T) (boundary_edges S)
      (λ y l. some ((boundary-numbers T).onto y l)) (λ y z x _ _. apart)
    where
      Related : ℕ → ℕ → Type 0
      Related y x = (h k : ℕ) × Alone T h × Alone S k × Goes h k
          × (count (is_boundary T) h ≡ y) × (count (is_boundary S) k ≡ x)

      some : {y : ℕ} → (h : ℕ) × Alone T h × (count (is_boundary T) h ≡ y)
          → (x : ℕ) × (x < boundary_edges S) × Related y x
      some {y} (h, a, e) = go (edge-alone M S Q _ _ (boundary-match (alone-edge N T P h a)))
        where
          go : (k : ℕ) × Alone S k × Goes h k → (x : ℕ) × (x < boundary_edges S) × Related y x
          go (k, b, j) =
              (count (is_boundary S) k, (boundary-numbers S).below k b, (h, k, a, b, j, e, refl))

      apart : {y z x : ℕ} → Related y x → Related z x → y ≡ z
      apart (h, k, a, c, u, e, d) (i, j, b, o, v, q, r) =
          let one : k ≡ j = (boundary-numbers S).apart k j c o (d ∙ sym r) in
          let same : SameEdge T h i = goes_same a.inside b.inside u v (rw one (same_edge-refl S j)) in
          sym e ∙ ap (count (is_boundary T)) (b.only h a.inside same) ∙ q

-- renamed and reordered meshes have equal counts: of edges
pub matched-edges : {f g T S : List ℕ} {N M : ℕ} → OtherwiseProper N T → OtherwiseProper M S
    → Matched Same f g N T M S → edges T ≡ edges S
matched-edges P Q G = omega (arith, edges-le-matched P Q G, edges-le-matched Q P (matched-inverse P G))

-- and of boundary edges
pub matched-boundary : {f g T S : List ℕ} {N M : ℕ} → OtherwiseProper N T → OtherwiseProper M S
    → Matched Same f g N T M S → boundary_edges T ≡ boundary_edges S
matched-boundary P Q G = omega (arith, boundary-le-matched P Q G, boundary-le-matched Q P (matched-inverse P G))

-- ---- readings

module _ {N : ℕ} {T : List ℕ} (P : Proper N T) {r : Reading} (R : IsReading Same N T r) where
  -- the splitting of the coarse mesh is proper
  splitting-proper : OtherwiseProper (r.vertices + edges r.mesh) (split r.vertices r.mesh)
  splitting-proper = (split-proper r.vertices r.mesh R.proper).otherwise

  -- the coarse mesh has an edge for each vertex that is not kept, since the vertex match is one to one
  pub reading-vertices : N ≡ r.vertices + edges r.mesh
  reading-vertices = match-size R.matched.vertices

  -- the input has two edges for each of its edges, and three for each of its triangles
  pub reading-edges : edges T ≡ 2 * edges r.mesh + 3 * triangles r.mesh
  reading-edges =
      matched-edges P.otherwise splitting-proper R.matched ∙ split-edges r.vertices r.mesh R.proper

  -- and two boundary edges for each of its boundary edges
  pub reading-boundary : boundary_edges T ≡ 2 * boundary_edges r.mesh
  reading-boundary = matched-boundary P.otherwise splitting-proper R.matched
      ∙ split-boundary r.vertices r.mesh R.proper.otherwise
