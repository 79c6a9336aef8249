-- The edges of the coarse mesh are those of the reached rows: a half-edge of a reached row becomes the half-edge of
-- the same place in the coarse triangle of the row's number, in the same order and on the same edges. So the rings of
-- the reached rows, selected, are those of the coarse mesh.
use Prim.Native.Nat.{ℕ, ◌+◌, ◌*◌, ◌/◌, ◌%◌, ◌≤◌, ◌<◌}
use native.Mathlib.Omega.{arith}
use mathlib.Core.Path.{◌≡◌, refl, sym, ap, ◌∙◌, subst}
use mathlib.Core.List.{List}
use Rattle.theory.specs.Mesh.{at, Reach}
use Rattle.theory.specs.Splitting.{next, first_on}
use Rattle.theory.proofs.Corners.{corner-triangle, triangle-place, next-triangle}
use Rattle.theory.proofs.Numbering.{ranks-apart}
use Rattle.theory.proofs.Splitting.{SameEdge, same_edge-sym, Joins, along, against, joins-same_edge, same_edge-joins}
use Rattle.theory.proofs.Splitting.{first_on-cong}
use Rattle.theory.proofs.Tiles.{InRow}
use Rattle.theory.proofs.Coarse.{entry-in_row}
use Rattle.lists.proofs.Lists.{by-eq, by-lt}
use Rattle.mesh_rings.specs.Ring.{FollowsBy, RingBy}
use Rattle.mesh_rings.proofs.EdgeRings.{first-same_edge}
use Rattle.mesh_reach.specs.Reached.{step}
use Rattle.mesh_reach.proofs.Joins.{reach-joins}
use Rattle.undo_match.specs.Selected.{selected_half, RingSelected}
use Rattle.undo_role.proofs.Coarse.{Searched, Tables, rows_whole, reach-inside, reach-marked, joins-reached}
use Rattle.undo_role.proofs.Coarse.{rank_below, by-tile, tables-ranked, coarse-at}

-- the next half-edge becomes the next one
coarse-next : (rank : List ℕ) (h : ℕ) → selected_half rank (next h) ≡ next (selected_half rank h)
coarse-next rank h =
    let same : at rank (next h / 3) ≡ at rank (h / 3) = ap (at rank) (next-triangle h) in
    omega arith

-- the half-edge at place i of triangle k becomes the one at place i of the coarse triangle
coarse-place : (rank : List ℕ) (k i : ℕ) → i < 3 → selected_half rank (3 * k + i) ≡ 3 * at rank k + i
coarse-place rank k i b =
    let same : at rank ((3 * k + i) / 3) ≡ at rank k = ap (at rank) (corner-triangle k i b) in
    omega arith

module _ {N F : ℕ} {T W : List ℕ} {s : ℕ} {marks : List ℕ} (S : Searched N F T W s marks) where
  -- the half-edges of a reached row's edges are half-edges of reached rows
  pub same_edge-reach : (g h : ℕ) → g < 3 * F → h < 3 * F → SameEdge W g h → Reach W s (h / 3) → Reach W s (g / 3)
  same_edge-reach g h k l e q = joins-reached S (step (reach-joins W F (rows_whole S) q) (record {
    mine = h;
    yours = g;
    inside_mine = l;
    inside_yours = k;
    of_mine = refl;
    of_yours = refl;
    same = first_on-cong W h g (same_edge-sym e);
  }))

  -- a half-edge of a reached row begins at a vertex of the row
  half-in_row : (h : ℕ) → Reach W s (h / 3) → InRow W s (at W h)
  half-in_row h q =
      subst (λ (c : ℕ). InRow W s (at W c)) (triangle-place h (h / 3) refl)
      (entry-in_row S.search (h / 3) (h % 3) q (omega arith))

  -- and ends at one
  next-in_row : (h : ℕ) → Reach W s (h / 3) → InRow W s (at W (next h))
  next-in_row h q = half-in_row (next h) (rw (next-triangle h) q)

  module _ {M F' : ℕ} {K vertex_rank rank C : List ℕ} (B : Tables N F W marks M F' K vertex_rank rank C) where
    -- ---- the ends of coarse half-edges

    -- a coarse half-edge begins at the rank of the vertex that the row's begins at
    half-from : (h : ℕ) → Reach W s (h / 3) → at C (selected_half rank h) ≡ at vertex_rank (at W h)
    half-from h q =
        coarse-at S B (h / 3) (h % 3) q (omega arith)
        ∙ ap (λ (c : ℕ). at vertex_rank (at W c)) (triangle-place h (h / 3) refl)

    -- and ends at the rank of the vertex that the row's ends at
    half-to : (h : ℕ) → Reach W s (h / 3) → at C (next (selected_half rank h)) ≡ at vertex_rank (at W (next h))
    half-to h q = ap (at C) (sym (coarse-next rank h)) ∙ half-from (next h) (rw (next-triangle h) q)

    -- ---- half-edges on the same edge

    -- vertices in reached rows with the same rank are the same
    rank-apart : {u v : ℕ} → InRow W s u → InRow W s v → at vertex_rank u ≡ at vertex_rank v → u ≡ v
    rank-apart {u} {v} = ranks-apart (tables-ranked S B).vertices u v

    -- a half-edge that joins two vertices joins their ranks
    joins-coarse : {h a b : ℕ} → Reach W s (h / 3) → Joins W h a b
        → Joins C (selected_half rank h) (at vertex_rank a) (at vertex_rank b)
    joins-coarse {h} q (along d e) = along (half-from h q ∙ ap (at vertex_rank) d) (half-to h q ∙ ap (at vertex_rank) e)
    joins-coarse {h} q (against d e) =
        against (half-from h q ∙ ap (at vertex_rank) d) (half-to h q ∙ ap (at vertex_rank) e)

    -- and one that joins their ranks joins the vertices
    coarse-joins : {h a b : ℕ} → Reach W s (h / 3) → InRow W s a → InRow W s b
        → Joins C (selected_half rank h) (at vertex_rank a) (at vertex_rank b) → Joins W h a b
    coarse-joins {h} q m n (along d e) =
        along (rank-apart (half-in_row h q) m (sym (half-from h q) ∙ d))
        (rank-apart (next-in_row h q) n (sym (half-to h q) ∙ e))
    coarse-joins {h} q m n (against d e) =
        against (rank-apart (half-in_row h q) n (sym (half-from h q) ∙ d))
        (rank-apart (next-in_row h q) m (sym (half-to h q) ∙ e))

    -- half-edges of reached rows on the same edge are on the same coarse edge
    pub same_edge-coarse : (g h : ℕ) → Reach W s (g / 3) → Reach W s (h / 3) → SameEdge W g h
        → SameEdge C (selected_half rank g) (selected_half rank h)
    same_edge-coarse g h p q e =
        joins-same_edge (joins-coarse p (same_edge-joins e (along refl refl))) (joins-coarse q (along refl refl))

    -- and the other way round
    pub coarse-same_edge : (g h : ℕ) → Reach W s (g / 3) → Reach W s (h / 3)
        → SameEdge C (selected_half rank g) (selected_half rank h) → SameEdge W g h
    coarse-same_edge g h p q e =
        joins-same_edge (coarse-joins p (half-in_row h q) (next-in_row h q)
        (same_edge-joins e (along (half-from h q) (half-to h q)))) (along refl refl)

    -- ---- the rings

    -- half-edges of reached rows become coarse half-edges
    half-below : (h : ℕ) → Reach W s (h / 3) → selected_half rank h < 3 * F'
    half-below h q = omega (arith, rank_below S B.ranks (h / 3) q)

    -- in the same order
    half-upward : (g h : ℕ) → Reach W s (g / 3) → Reach W s (h / 3) → g < h → selected_half rank g < selected_half rank h
    half-upward g h p q l =
        by-eq (g / 3) (h / 3)
        (λ e. let same : at rank (g / 3) ≡ at rank (h / 3) = ap (at rank) e in omega arith)
        (λ n.
        let b : g / 3 < h / 3 = omega arith in
        omega (arith, (tables-ranked S B).rows.upward.grows (g / 3) (h / 3) p q b))

    -- so the order of the coarse ones is theirs
    half-within : (g h : ℕ) → Reach W s (g / 3) → Reach W s (h / 3) → selected_half rank g ≤ selected_half rank h → g ≤ h
    half-within g h p q l = by-lt h g (λ b. absurd (omega (arith, half-upward h g q p b))) (λ b. b)

    -- and so is the strict order
    half-before : (g h : ℕ) → Reach W s (g / 3) → Reach W s (h / 3) → selected_half rank g < selected_half rank h → g < h
    half-before g h p q l =
        by-eq g h
        (λ e. let same : selected_half rank g ≡ selected_half rank h = ap (selected_half rank) e in absurd (omega arith))
        (λ n. omega (arith, n, half-within g h p q (omega arith)))

    -- what holds at each half-edge that one of a reached row becomes holds at all coarse half-edges
    by-half : (P : ℕ → Type 0) → ((h : ℕ) → h < 3 * F → Reach W s (h / 3) → P (selected_half rank h))
        → (p : ℕ) → p < 3 * F' → P p
    by-half P holds = by-tile S B.ranks P (λ k i q b.
        subst P (coarse-place rank k i b)
        (holds (3 * k + i) (omega (arith, reach-inside S k q)) (rw (corner-triangle k i b) q)))

    module _ {h v : ℕ} (l : h < 3 * F) (q : Reach W s (h / 3)) (X : FollowsBy (3 * F) (first_on W) h v) where
      -- what follows a half-edge of a reached row is on the same edge
      follows_same : SameEdge W v h
      follows_same = first-same_edge W v h X.same

      -- so it is of a reached row
      follows-reach : Reach W s (v / 3)
      follows-reach = same_edge-reach v h X.within l follows_same q

      -- where a row's half-edge may not be on the edge of h, what it becomes may not be on the coarse edge
      none-coarse : (P : ℕ → Type 0) → ((g : ℕ) → g < 3 * F → Reach W s (g / 3) → P (selected_half rank g)
          → first_on W g ≡ first_on W h → ⊥)
          → (p : ℕ) → p < 3 * F' → P p → first_on C p ≡ first_on C (selected_half rank h) → ⊥
      none-coarse P none = by-half (λ (p : ℕ). P p → first_on C p ≡ first_on C (selected_half rank h) → ⊥)
          (λ g b r i e. none g b r i
          (first_on-cong W g h (coarse-same_edge g h r q (first-same_edge C _ _ e))))

      -- and what it becomes follows what h becomes
      follows-coarse : FollowsBy (3 * F') (first_on C) (selected_half rank h) (selected_half rank v)
      follows-coarse = record {
        within = half-below v p;
        same = first_on-cong C _ _ (same_edge-coarse v h p q follows_same);
        next = λ m g a b.
            none-coarse (λ (f : ℕ). (selected_half rank h < f) × (f < selected_half rank v))
            (λ f _ r i. X.next (half-before h v q p m) f (half-before h f q r i.0) (half-before f v r p i.1))
            g (omega (arith, half-below v p)) (a, b);
        last = λ m g a b.
            none-coarse (λ (f : ℕ). selected_half rank h < f)
            (λ f c r i. X.last (half-within v h p q m) f (half-before h f q r i) c) g b a;
        first = λ m g a.
            none-coarse (λ (f : ℕ). f < selected_half rank v)
            (λ f _ r i. X.first (half-within v h p q m) f (half-before f v r p i))
            g (omega (arith, half-below v p)) a;
      }
        where
          p : Reach W s (v / 3)
          p = follows-reach

    -- so the rings, selected, are those of the coarse mesh
    pub rings-coarse : {ring ring_c : List ℕ} → RingBy (3 * F) (first_on W) ring → RingSelected F ring marks rank ring_c
        → RingBy (3 * F') (first_on C) ring_c
    rings-coarse {ring} {ring_c} R O =
        record {
          follows = by-half (λ (p : ℕ). FollowsBy (3 * F') (first_on C) p (at ring_c p))
              (λ h l q. rw (entry h q) (follows-coarse l q (R.follows h l)));
        }
      where
        entry : (h : ℕ) → Reach W s (h / 3) → at ring_c (selected_half rank h) ≡ selected_half rank (at ring h)
        entry h q =
            O.entry (h / 3) (h % 3) (reach-inside S (h / 3) q) (reach-marked S (h / 3) q) (omega arith)
            ∙ ap (λ (g : ℕ). selected_half rank (at ring g)) (triangle-place h (h / 3) refl)
