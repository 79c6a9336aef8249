-- What the calls that make the maps and compare by them are lent, and what they do together, over plain lists.
use Prim.Native.Nat.{ℕ, zero, suc, ◌+◌, ◌*◌, ◌/◌, ◌%◌, ◌<◌}
use native.Mathlib.Omega.{arith}
use mathlib.Core.Path.{◌≡◌, refl, sym, subst, ◌∙◌}
use mathlib.Core.Bool.{Bool, true, false}
use mathlib.Core.List.{List}
use lib.Dec.{T as Passes}
use lib.ListN.{length, take, drop}
use lib.Seq.{length-take-le, take_at}
use Rattle.theory.specs.Mesh.{at}
use Rattle.theory.specs.Counting.{count}
use Rattle.theory.specs.Splitting.{edge_no, split}
use Rattle.theory.specs.Calls.{written}
use Rattle.theory.proofs.Counting.{count-le, count-hit}
use Rattle.theory.proofs.Splitting.{split-length}
use Rattle.lists.specs.Keys.{KeysLent, InvertLent, Scattered, Holds}
use Rattle.lists.specs.Marks.{marked}
use Rattle.lists.specs.Tables.{Tabulated}
use Rattle.split.specs.Fours.{FoursLent}
use Rattle.undo_match.specs.Selected.{Selected}
use Rattle.undo_match.specs.Claims.{Claimed}
use Rattle.undo_compare.specs.Compared.{CompareLent, Compared}
use Rattle.std.specs.Prelude.{Result}
use Rattle.undo_compare.specs.declared.Mismatch.{Mismatch}
use Rattle.lists.proofs.Decides.{false-true}
use Rattle.undo_stages.specs.Maps.{VerticesLent, VerticesMapped, TrianglesLent, AllLent, AllCompared}

-- ---- vertices

-- each selected corner is a corner of the list
selected-inside : {F n m : ℕ} {list marks corners : List ℕ} → Selected F list marks n corners
    → ((c : ℕ) → c < 3 * F → at list c < m) → (p : ℕ) → p < 3 * n → at corners p < m
selected-inside {F} {n} {m} {list} {marks} {corners} S inside p l =
    go (count-hit (marked marks) F (p / 3) (omega (arith, S.all)))
  where
    go : (k : ℕ) × (k < F) × Passes (marked marks k) × (count (marked marks) k ≡ p / 3) → at corners p < m
    go (k, b, t, e) =
        let place : 3 * count (marked marks) k + p % 3 ≡ p = omega arith in
        subst (λ (q : ℕ). at corners q < m) place
        (rw (S.entry k (p % 3) b t (omega arith)) (inside (3 * k + p % 3) (omega arith)))

module _ {F n : ℕ} {list marks kept coarse numbers map corners : List ℕ}
    (L : VerticesLent F n list marks kept coarse numbers map corners) where
  -- the coarse numbers are lent for the vertices of the rows
  pub kept-lent : {map' : List ℕ} → length map' ≡ length map → KeysLent (3 * n) kept map' coarse
  kept-lent same =
      record { keyed = L.keeps.keyed; inside = rw same L.keeps.inside; valued = L.keeps.valued }

  module _ {total : ℕ} {corners' : List ℕ} (S : Selected F list marks total corners') where
    -- the corners of n triangles are selected
    all-selected : Selected F list marks n corners'
    all-selected = record { all = L.all; entry = S.entry }

    -- and the numbers are lent for these
    pub corners-lent : {map' : List ℕ} → length map' ≡ length map → length corners' ≡ length corners
        → KeysLent (3 * n) corners' map' numbers
    corners-lent same long = record {
      keyed = omega (arith, L.all, L.selects.out_room, count-le (marked marks) F);
      inside = rw same (selected-inside all-selected L.inside);
      valued = L.numbered;
    }

    module _ {first map' : List ℕ} {held : Bool} (P : Scattered (at coarse) (3 * n) kept map first)
        (Q : Scattered (at numbers) (3 * n) corners' first map') (H : Holds (at coarse) (3 * n) kept map' held) where
      -- the map does not hold the coarse numbers
      pub vertices-refused : held ≡ false
          → VerticesMapped F n list marks kept coarse numbers map map' corners' false
      vertices-refused e = record {
        selected = all-selected;
        first = first;
        coarse_put = P;
        numbers_put = Q;
        coarse_held = λ b. absurd (false-true b);
        numbers_held = λ b. absurd (false-true b);
        complete = λ all _. sym e ∙ H.complete all;
      }

      -- it does
      pub vertices-held : {answer : Bool} → held ≡ true → Holds (at numbers) (3 * n) corners' map' answer
          → VerticesMapped F n list marks kept coarse numbers map map' corners' answer
      vertices-held e G = record {
        selected = all-selected;
        first = first;
        coarse_put = P;
        numbers_put = Q;
        coarse_held = λ _. H.sound e;
        numbers_held = G.sound;
        complete = λ _. G.complete;
      }

-- ---- triangles

module _ {F : ℕ} {other marks map claimed claimed' : List ℕ} (L : TrianglesLent F other marks map claimed)
    (C : Claimed F marks other claimed') where
  -- what is claimed is one of the triangles
  claimed-inside : (t : ℕ) → t < F → at claimed' t < F
  claimed-inside t l = go (t % 4) refl (count-hit (marked marks) F (t / 4) (omega (arith, L.claims.quarter)))
    where
      go : (m : ℕ) → t % 4 ≡ m
          → (k : ℕ) × (k < F) × Passes (marked marks k) × (count (marked marks) k ≡ t / 4) → at claimed' t < F
      go zero z (k, b, p, e) =
          let place : 4 * count (marked marks) k ≡ t = omega arith in
          subst (λ (u : ℕ). at claimed' u < F) place (rw (C.centre k b p) b)
      go (suc i) z (k, b, p, e) =
          let place : 4 * count (marked marks) k + suc i ≡ t = omega arith in
          subst (λ (u : ℕ). at claimed' u < F) place
          (rw (C.corner k i b p (omega arith))
          (omega (arith, (L.mated k ((i + 2) % 3) b p (omega arith)).inside)))

  -- so it is lent as keys of the map
  pub claimed-lent : {map' : List ℕ} → length claimed' ≡ length claimed → length map' ≡ length map
      → InvertLent F claimed' map'
  claimed-lent long same = record {
    keyed = omega (arith, L.claims.out_room);
    inside = λ t l. omega (arith, L.map_room, claimed-inside t l);
    valued = omega (arith, L.claims.small);
  }

-- ---- the comparison

module _ {F n : ℕ} {list coarse numbers vertex_map triangle_map splitting : List ℕ}
    (L : AllLent F n list coarse numbers vertex_map triangle_map splitting) where
  -- the coarse list has n triangles
  pub coarse-whole : length (take (3 * n) coarse) ≡ 3 * n
  coarse-whole = length-take-le (3 * n) coarse L.coarse_room

  -- its splitting is written from it
  pub fours-lent : FoursLent n (take (3 * n) coarse) numbers splitting
  fours-lent = record { whole = coarse-whole; numbered = L.numbers_room; room = L.splitting_room }

  -- the splitting has twelve entries for each triangle
  splitting-length : (M : ℕ) → length (split M (take (3 * n) coarse)) ≡ 12 * n
  splitting-length M = omega (arith, coarse-whole, split-length M (take (3 * n) coarse))

  module _ {splitting' : List ℕ}
      (W : (M : ℕ) → Tabulated (edge_no M (take (3 * n) coarse)) (3 * n) numbers
      → splitting' ≡ written (split M (take (3 * n) coarse)) splitting) where
    -- the front of the buffer is the splitting
    splitting-front : (M : ℕ) → Tabulated (edge_no M (take (3 * n) coarse)) (3 * n) numbers
        → take (12 * n) splitting' ≡ split M (take (3 * n) coarse)
    splitting-front M numbered =
        rw (W M numbered)
        (take_at (split M (take (3 * n) coarse)) (drop (length (split M (take (3 * n) coarse))) splitting) (12 * n)
        (splitting-length M))

    -- it has twelve entries for each coarse triangle
    pub front-whole : length (take (12 * n) splitting') ≡ 12 * n
    front-whole = rw (splitting-front L.coarse_vertices L.numbered) (splitting-length L.coarse_vertices)

    -- the triangles are compared with it
    pub compare-lent : CompareLent F list vertex_map triangle_map (take (12 * n) splitting')
    compare-lent =
        rw (splitting-front L.coarse_vertices L.numbered)
        (record {
          whole = L.whole;
          mapped = L.mapped;
          matched = L.matched;
          inside = λ k l. omega (arith, L.quarter, L.inside k l, splitting-length L.coarse_vertices);
          different = L.different;
        })

    -- which says whether they agree
    pub all-compared : {answer : Result Unit Mismatch} → Compared F list vertex_map triangle_map (take (12 * n) splitting') answer
        → AllCompared F n list coarse numbers vertex_map triangle_map answer
    all-compared {answer} C = record {
      compared = λ M numbered. subst (λ (S : List ℕ). Compared F list vertex_map triangle_map S answer)
          (splitting-front M numbered) C;
    }
