-- For every reading there is the returned one in its role: number the kept vertices and the centres upward, take the
-- vertices across for the rows, and carry the splitting along.
use Prim.Native.Nat.{ℕ, ◌+◌, ◌*◌, ◌/◌, ◌%◌, ◌<◌}
use native.Mathlib.Decide.{dec_lt}
use native.Mathlib.Omega.{arith}
use mathlib.Core.Path.{◌≡◌, refl, sym, ap, ◌∙◌, subst₂}
use mathlib.Core.Bool.{Bool}
use mathlib.Core.List.{List}
use lib.Dec.{T as Passes, ltb, eqb, ltb→lt, lt→ltb, eqb→eq}
use lib.ListN.{length}
use Rattle.theory.specs.Counting.{count}
use Rattle.theory.specs.Mesh.{at, triangles, Same, OtherwiseProper, Proper}
use Rattle.theory.specs.Reading.{Agreement, Matched, Reading, IsReading, Kept, Centre, RoleOf, ReadingIn}
use Rattle.theory.specs.Reading.{Returned}
use Rattle.theory.proofs.Tests.{eq→eqb}
use Rattle.theory.proofs.Finite.{composed, composed-at}
use Rattle.theory.proofs.Counting.{count-grows}
use Rattle.theory.proofs.Splitting.{split-triangles}
use Rattle.theory.proofs.Carried.{Carries, matched-proper}
use Rattle.theory.proofs.Numbering.{listed, Numbers, Renumbers, numbers-matched, count-numbers}
use Rattle.theory.proofs.Agreement.{matched-same, reading-same}
use Rattle.theory.proofs.Renaming.{renumbers-matched}
use Rattle.theory.proofs.Centres.{coarse_of, kept-numbers, centre-numbers}
use Rattle.theory.proofs.Rows.{Opposite, opposite-exists, opposite-unique}
use Rattle.theory.proofs.Lawful.{Lawful, matched-composed, carried}

-- ---- upward numbers

-- whether an input vertex is kept, and how many kept ones stand before it
abbrev kept? : Reading → ℕ → Bool
kept? r v = ltb (at r.vertex_map v) r.vertices

abbrev vertex_rank : Reading → ℕ → ℕ
vertex_rank r v = count (kept? r) v

-- whether a triangle is a centre, and how many centres stand before it
abbrev centre? : Reading → ℕ → Bool
centre? r k = eqb (at r.triangle_map k % 4) 0

abbrev centre_rank : Reading → ℕ → ℕ
centre_rank r k = count (centre? r) k

-- the tests say so
kept-passes : (r : Reading) (v : ℕ) → Kept r v → Passes (kept? r v)
kept-passes r v q = lt→ltb (at r.vertex_map v) r.vertices q.coarse

centre-passes : (r : Reading) (k : ℕ) → Centre r k → Passes (centre? r k)
centre-passes r k q = eq→eqb (at r.triangle_map k % 4) 0 q.fourth

-- x is the rank of the kept vertex opposite corner i of triangle k
abbrev RowEntry : List ℕ → Reading → ℕ → ℕ → ℕ → Type 0
RowEntry T r k i x = (w : ℕ) × Kept r w × Opposite T k i w × (x ≡ vertex_rank r w)

-- x fits as entry c of the coarse mesh that has these ranks for its numbers
record Fits (T : List ℕ) (r : Reading) (c x : ℕ) : Type 0 where
  triangle : ℕ
  centre : Centre r triangle
  rank : centre_rank r triangle ≡ c / 3
  entry : RowEntry T r triangle (c % 3) x

-- C' is that mesh: each centre gives its row
record Rows (T : List ℕ) (r : Reading) (C' : List ℕ) : Type 0 where
  long : length C' ≡ 3 * centre_rank r (triangles T)
  row : (k i : ℕ) → Centre r k → i < 3 → RowEntry T r k i (at C' (3 * centre_rank r k + i))

module _ (N : ℕ) (T : List ℕ) (P : OtherwiseProper N T) {agree : Agreement} (A : Lawful agree) (r : Reading)
    (R : IsReading agree N T r) where
  -- the reading is one by `Same`, of which the laws of readings speak
  is_same : IsReading Same N T r
  is_same = reading-same A.implies R

  -- the ranks number the kept vertices
  kept-ranked : Numbers (Kept r) (vertex_rank r) (vertex_rank r N)
  kept-ranked = count-numbers (Kept r) (kept? r) N
      (λ v q. (omega arith, kept-passes r v q))
      (λ v l t. record { inside = omega arith; coarse = ltb→lt (at r.vertex_map v) r.vertices t })

  -- and the centres
  centre-ranked : Numbers (Centre r) (centre_rank r) (centre_rank r (triangles T))
  centre-ranked = count-numbers (Centre r) (centre? r) (triangles T)
      (λ k q. (omega arith, centre-passes r k q))
      (λ k l t. record { inside = omega arith; fourth = eqb→eq (at r.triangle_map k % 4) 0 t })

  -- from the reading's numbers to the ranks: of kept vertices
  kept_match : Renumbers (Kept r) (at r.vertex_map) r.vertices (vertex_rank r) (vertex_rank r N)
  kept_match = numbers-matched (kept-numbers N T P r is_same) kept-ranked

  abbrev new_vertex : List ℕ
  new_vertex = kept_match.list

  -- and of centres
  centre_match : Renumbers (Centre r) (coarse_of r) (triangles r.mesh) (centre_rank r)
      (centre_rank r (triangles T))
  centre_match = numbers-matched (centre-numbers N T P r is_same) centre-ranked

  abbrev new_triangle : List ℕ
  new_triangle = centre_match.list

  -- ---- the rows

  -- every entry has a number that fits
  fits-exists : (c : ℕ) → c < 3 * centre_rank r (triangles T) → (x : ℕ) × Fits T r c x
  fits-exists c l = found (centre-ranked.onto (c / 3) (omega arith))
    where
      entry : (k : ℕ) → (w : ℕ) × Kept r w × Opposite T k (c % 3) w → (x : ℕ) × RowEntry T r k (c % 3) x
      entry k (w, p, o) = (vertex_rank r w, (w, p, o, refl))

      found : (k : ℕ) × Centre r k × (centre_rank r k ≡ c / 3) → (x : ℕ) × Fits T r c x
      found (k, q, e) =
          let x = entry k (opposite-exists N T P r is_same k (c % 3) q (omega arith)) in
          (x.0, record { triangle = k; centre = q; rank = e; entry = x.1 })

  -- what fits in the place of corner i of centre k is an entry of its row
  fits-row : (k i x : ℕ) → Centre r k → i < 3 → Fits T r (3 * centre_rank r k + i) x → RowEntry T r k i x
  fits-row k i x q b f = subst₂ (λ j h. RowEntry T r j h x) same corner f.entry
    where
      same : f.triangle ≡ k
      same = centre-ranked.apart f.triangle k f.centre q (omega arith)

      corner : (3 * centre_rank r k + i) % 3 ≡ i
      corner = omega arith

  -- so there is the mesh of all rows
  rows-exist : (C' : List ℕ) × Rows T r C'
  rows-exist = made (listed (3 * centre_rank r (triangles T)) fits-exists)
    where
      made : (C' : List ℕ) × (length C' ≡ 3 * centre_rank r (triangles T))
          × ((c : ℕ) → c < 3 * centre_rank r (triangles T) → Fits T r c (at C' c))
          → (C' : List ℕ) × Rows T r C'
      made (C', long, fits) = (
        C',
        record {
          long = long;
          row = λ k i q b.
              fits-row k i (at C' (3 * centre_rank r k + i)) q b
              (fits (3 * centre_rank r k + i) (omega (arith, centre-ranked.below k q)));
        },
      )

  module _ (C' : List ℕ) (W : Rows T r C') where
    -- ---- the coarse mesh matched onto the rows

    -- the row has in its places the new numbers of the vertices opposite
    row-entry : (k i w : ℕ) → Centre r k → i < 3 → Kept r w → Opposite T k i w
        → at C' (3 * centre_rank r k + i) ≡ at new_vertex (at r.vertex_map w)
    row-entry k i w q b p o = entry (W.row k i q b)
      where
        entry : RowEntry T r k i (at C' (3 * centre_rank r k + i))
            → at C' (3 * centre_rank r k + i) ≡ at new_vertex (at r.vertex_map w)
        entry (x, _, o', e) =
            e ∙ ap (vertex_rank r) (opposite-unique N T P r is_same k i x w q b o' o) ∙ sym (kept_match.sends w p)

    -- there is a row for each centre
    rows-triangles : triangles C' ≡ centre_rank r (triangles T)
    rows-triangles = omega arith

    -- so the coarse mesh is matched onto the rows
    rows-matched : Matched agree new_vertex new_triangle r.vertices r.mesh (vertex_rank r N) C'
    rows-matched = renumbers-matched kept_match.match (centre-numbers N T P r is_same) centre_match rows-triangles
        (λ k q. A.rows N T P r R new_vertex C' k (centre_rank r k) q
        (omega (arith, W.long, centre-ranked.below k q)) (λ i w. row-entry k i w q))

    -- which are proper with it
    rows-proper : Proper (vertex_rank r N) C'
    rows-proper = matched-proper new_vertex new_triangle r.vertices r.mesh (vertex_rank r N) C'
        R.proper (matched-same A.implies rows-matched) (omega arith)

    -- ---- the reading that is carried along

    -- and the splitting goes with it
    carry : Carries agree new_vertex new_triangle r.vertices r.mesh (vertex_rank r N) C'
    carry = carried A R.proper.otherwise rows-proper.otherwise rows-matched

    -- the rows are the mesh of a reading
    abbrev renewed : Reading
    renewed = record {
      vertices = vertex_rank r N;
      mesh = C';
      vertex_map = composed r.vertex_map carry.vertex_map;
      triangle_map = composed r.triangle_map carry.triangle_map;
    }

    renewed-is : IsReading agree N T renewed
    renewed-is = record {
      proper = rows-proper;
      matched = matched-composed A P.below R.matched carry.matched;
    }

    -- it gives a kept vertex its rank
    kept-rank : (v : ℕ) → Kept r v → at renewed.vertex_map v ≡ vertex_rank r v
    kept-rank v q =
        composed-at r.vertex_map carry.vertex_map v q.inside ∙ carry.coarse (at r.vertex_map v) q.coarse
        ∙ kept_match.sends v q

    -- and a centre four times its rank
    centre-rank : (k : ℕ) → Centre r k → at renewed.triangle_map k ≡ 4 * centre_rank r k
    centre-rank k q =
        composed-at r.triangle_map carry.triangle_map k q.inside ∙ ap (at carry.triangle_map) whole
        ∙ carry.centre (coarse_of r k) ((centre-numbers N T P r is_same).below k q)
        ∙ ap (λ x. 4 * x) (centre_match.sends k q)
      where
        whole : at r.triangle_map k ≡ 4 * (coarse_of r k)
        whole = omega arith

    -- ---- it keeps the same vertices and has the same centres

    -- a vertex that is kept stays kept
    kept_there : (v : ℕ) → Kept r v → Kept renewed v
    kept_there v q = record {
      inside = omega (arith, q.inside, R.matched.vertices.long, renewed-is.matched.vertices.long);
      coarse = omega (arith, kept-rank v q, kept-ranked.below v q);
    }

    -- and no other is
    kept_back : (v : ℕ) → Kept renewed v → Kept r v
    kept_back v q = elim (dec_lt (at r.vertex_map v) r.vertices) [
      | yes l ↦ record { inside = within; coarse = l }
      | no n ↦ absurd (omega (
        arith,
        q.coarse,
        composed-at r.vertex_map carry.vertex_map v within,
        carry.between (at r.vertex_map v) (omega arith) (R.matched.vertices.below v inside),
      ))
    ]
      where
        inside : v < N
        inside = omega (arith, q.inside, renewed-is.matched.vertices.long)

        within : v < length r.vertex_map
        within = omega (arith, inside)

    -- a centre stays a centre
    centre-there : (k : ℕ) → Centre r k → Centre renewed k
    centre-there k q = record {
      inside = omega (arith, q.inside, R.matched.faces.long, renewed-is.matched.faces.long);
      fourth = omega (arith, centre-rank k q);
    }

    -- the splitting's triangle t goes to a centre only if it is one
    carried-centre : (t : ℕ) → t < 4 * triangles r.mesh → at carry.triangle_map t % 4 ≡ 0 → t % 4 ≡ 0
    carried-centre t l e = omega (arith, same)
      where
        j : t / 4 < triangles r.mesh
        j = omega arith

        centre : at carry.triangle_map t ≡ at carry.triangle_map (4 * (t / 4))
        centre = omega (arith, carry.four t l, carry.centre (t / 4) j)

        same : t ≡ 4 * (t / 4)
        same = carry.matched.faces.apart t (4 * (t / 4)) (omega (arith, split-triangles r.vertices r.mesh))
            (omega (arith, split-triangles r.vertices r.mesh)) centre

    -- so no other triangle becomes a centre
    centre-back : (k : ℕ) → Centre renewed k → Centre r k
    centre-back k q = record {
      inside = within;
      fourth = carried-centre (at r.triangle_map k)
          (omega (arith, R.matched.faces.below k inside, split-triangles r.vertices r.mesh))
          (sym (ap (λ x. x % 4) (composed-at r.triangle_map carry.triangle_map k within)) ∙ q.fourth);
    }
      where
        inside : k < triangles T
        inside = omega (arith, q.inside, renewed-is.matched.faces.long)

        within : k < length r.triangle_map
        within = omega (arith, inside)

    -- roles stay what they are
    role-there : (k ρ : ℕ) → RoleOf T r k ρ → RoleOf T renewed k ρ
    role-there k _ (RoleOf.centre q) = RoleOf.centre (centre-there k q)
    role-there k _ (RoleOf.corner i b l q) = RoleOf.corner i b l (kept_there (at T (3 * k + i)) q)

    -- ---- it is numbered as document 01 says

    -- the kept vertices upward
    renewed-kept_upward : (u v : ℕ) → Kept renewed u → Kept renewed v → u < v
        → at renewed.vertex_map u < at renewed.vertex_map v
    renewed-kept_upward u v p q l =
        let p' : Kept r u = kept_back u p in
        let q' : Kept r v = kept_back v q in
        omega (arith, kept-rank u p', kept-rank v q', count-grows (kept? r) u v l (kept-passes r u p'))

    -- the centres upward
    renewed-centres_upward : (j k : ℕ) → Centre renewed j → Centre renewed k → j < k
        → at renewed.triangle_map j < at renewed.triangle_map k
    renewed-centres_upward j k p q l =
        let p' : Centre r j = centre-back j p in
        let q' : Centre r k = centre-back k q in
        omega (arith, centre-rank j p', centre-rank k q', count-grows (centre? r) j k l (centre-passes r j p'))

    -- a row for each centre
    renewed-rows : (k i : ℕ) → Centre renewed k → i < 3 → (w : ℕ) × Kept renewed w × Opposite T k i w
        × (at C' (3 * (coarse_of renewed k) + i) ≡ at renewed.vertex_map w)
    renewed-rows k i q b = entry (W.row k i q' b)
      where
        q' : Centre r k
        q' = centre-back k q

        place : coarse_of renewed k ≡ centre_rank r k
        place = omega (arith, centre-rank k q')

        entry : RowEntry T r k i (at C' (3 * centre_rank r k + i))
            → (w : ℕ) × Kept renewed w × Opposite T k i w
            × (at C' (3 * (coarse_of renewed k) + i) ≡ at renewed.vertex_map w)
        entry (w, p, o, e) =
            (w, kept_there w p, o, ap (λ j. at C' (3 * j + i)) place ∙ e ∙ sym (kept-rank w p))

    -- so it is the returned one
    renewed-returned : (ρ : ℕ) → RoleOf T r 0 ρ → Returned agree N T ρ renewed
    renewed-returned ρ s = record {
      is = renewed-is;
      in_role = role-there 0 ρ s;
      kept_upward = renewed-kept_upward;
      centres_upward = renewed-centres_upward;
      rows = renewed-rows;
    }

-- every reading has a returned one in its role
pub returned-exists : (N : ℕ) (T : List ℕ) → Proper N T → {agree : Agreement} → Lawful agree → (ρ : ℕ)
    → ReadingIn agree N T ρ → (r : Reading) × Returned agree N T ρ r
returned-exists N T P {agree} A ρ R = numbered (rows-exist N T P.otherwise A R.reading R.is)
  where
    numbered : (C' : List ℕ) × Rows T R.reading C' → (r : Reading) × Returned agree N T ρ r
    numbered (C', W) = (
      renewed N T P.otherwise A R.reading R.is C' W,
      renewed-returned N T P.otherwise A R.reading R.is C' W ρ R.in_role,
    )
