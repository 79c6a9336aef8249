-- A role that is tried: what each call of `try_role` is lent, by what those before it did, and what the role comes to.
-- If the tests pass, the maps are those of the returned reading; and if there is a reading in the role, the returned
-- one passes every test.
use Prim.Native.Nat.{ℕ, ◌+◌, ◌*◌, ◌≤◌, ◌<◌}
use Rattle.std.specs.Prelude.{Option, Some, None, Result, Ok, Err}
use native.Mathlib.Omega.{arith}
use mathlib.Core.Path.{◌≡◌, refl, sym, ◌∙◌, subst}
use mathlib.Core.Logic.{◌≢◌}
use mathlib.Core.Bool.{Bool, true, false, true≢false}
use mathlib.Core.List.{List}
use lib.ListN.{length, take}
use Rattle.theory.specs.Counting.{count}
use Rattle.theory.specs.Mesh.{at, triangles, Same, Rotated}
use Rattle.theory.specs.Splitting.{first_on, edges, edge_no, split}
use Rattle.theory.specs.Reading.{Agreement, renamed, Reading, ReadingIn, Disagrees, Returned}
use Rattle.theory.proofs.Agreement.{same-implies}
use Rattle.theory.proofs.Rotation.{rotated-implies}
use Rattle.theory.proofs.OldRule.{agrees-returned}
use Rattle.theory.proofs.Lawful.{same-lawful}
use Rattle.theory.proofs.Canonical.{returned-exists}
use Rattle.theory.proofs.Finite.{tabulate, tabulate-at}
use Rattle.theory.proofs.Coarse.{reach-tile}
use Rattle.theory.proofs.Sound.{found-returned}
use Rattle.theory.proofs.Tiles.{Start, Covering, start-exists, start-centre, centre-tile}
use Rattle.lists.specs.Marks.{marked, RanksOf}
use Rattle.lists.specs.Tables.{Tabulated}
use Rattle.lists.proofs.Lists.{at_take}
use Rattle.lists.proofs.Keys.{Held, scattered-hits, scattered-twice}
use Rattle.mesh_rings.specs.Ring.{RingBy}
use Rattle.mesh_rings.specs.Tables.{Work}
use Rattle.mesh_rings.proofs.Facts.{ring-below}
use Rattle.answers.specs.Taken.{reading_in}
use Rattle.undo_cover.specs.Cover.{CoverMade}
use Rattle.undo_cover.specs.Starts.{start_of}
use Rattle.undo_match.specs.Selected.{Selected}
use Rattle.undo_compare.specs.Compared.{AllAgree, Compared, agree as agreed, inside_out, differ}
use Rattle.undo_compare.specs.declared.Mismatch.{Mismatch}
use Rattle.undo_compare.specs.declared.Mismatch.TheVariants as mismatch
use Rattle.undo_stages.specs.Role.{FindLent, Gathered, TilesFound, nowhere, uneven, quarter}
use Rattle.undo_stages.specs.Role.{NumberTilesLent, AddedUp, even, odd, CoarseNumbered}
use Rattle.undo_stages.specs.Maps.{VerticesLent, VerticesMapped, TrianglesLent, TrianglesMapped, AllLent, AllCompared}
use Rattle.undo_role.specs.Buffers.{buffers, Rooms}
use Rattle.undo_role.specs.Tried.{Undoable, RoleLent, OldOnly, TriedRole, no_reading_of}
use Rattle.undo_role.specs.Tried.{inside_out as tried_inside_out, none as tried_none}
use Rattle.undo_role.proofs.Begins.{Begun, starts, nowhere as begun_nowhere, start-begun}
use Rattle.undo_role.proofs.Coarse.{Searched, Tables, AcrossOnly, Sources, Tested}
use Rattle.undo_role.proofs.Coarse.{marked-reach, tables-built}
use Rattle.undo_role.proofs.Complete.{returned-quarter, returned-count, returned-kept, returned-between}
use Rattle.undo_role.proofs.Complete.{returned-once, returned-tested}
use Rattle.undo_cover.proofs.Covers.{Tabled, covering, tile-row, tile-beside}
use Rattle.undo_role.proofs.Lent.{rows-below, claimed-below, passed-below, splitting-different}
use Rattle.undo_role.proofs.Sound.{renamed-front, tables-found}
use Rattle.undo_role.proofs.Stages.{stage-tables, stage-rings}

-- a test that is false is not true
test-failed : {answer : Bool} → answer ≡ false → answer ≢ true
test-failed e t = true≢false (sym t ∙ e)

-- ---- the tiles of a role

-- The n tiles of a role are found: they are reached from its start s, their rows are selected, and they are a quarter
-- of the triangles.
pub record Picked (role N F n : ℕ) (T rows marks kept : List ℕ) : Type 0 where
  pub start : ℕ
  pub searched : Searched N F T (take (3 * F) rows) start marks
  pub begins : Start T 0 role start
  pub selected : Selected F (take (3 * F) rows) marks n kept
  pub quarter : F ≡ 4 * n

-- what is selected from a list is selected from its front
selected-front : {F n : ℕ} {rows marks kept : List ℕ} → Selected F rows marks n kept
    → Selected F (take (3 * F) rows) marks n kept
selected-front {F} {rows = rows} S = record {
  all = S.all;
  entry = λ k i l m b. S.entry k i l m b ∙ sym (at_take (3 * F) rows (3 * k + i) (omega arith));
}

-- where nothing is counted, vertices and edges do not add up to N
added_none : {N M E : ℕ} → AddedUp N M E None → M + E ≢ N
added_none (odd n) = n

-- and else they do, and what is counted is the vertices
added-held : {N M E held : ℕ} → AddedUp N M E (Some held) → (held ≡ M) × (M + E ≡ N)
added-held (even e) = (refl, e)

module _ {role N F : ℕ} {T other rows ring marks₀ coarse₀ numbers₀ map₀ faces₀ table₀ : List ℕ}
    (lent : RoleLent role N F T (buffers other rows ring marks₀ coarse₀ numbers₀ map₀ faces₀ table₀)) where
  -- the mesh
  mesh : Undoable N F T
  mesh = lent.lent.mesh

  -- its covering mesh
  made : CoverMade F T other rows ring
  made = lent.lent.made

  -- the room
  rooms : Rooms N F (buffers other rows ring marks₀ coarse₀ numbers₀ map₀ faces₀ table₀)
  rooms = lent.lent.rooms

  -- the tables of the mesh
  tabled : Tabled N F T other made.thirds
  tabled = record {
    proper = mesh.proper.otherwise;
    whole = mesh.whole;
    others = made.others;
    tabled = made.tabled;
  }

  -- there is room for the rows
  rows-room : 3 * F ≤ length rows
  rows-room = omega (arith, rooms.rows.room)

  -- the rows are the covering mesh
  cover : Covering T (take (3 * F) rows)
  cover = covering tabled rows rows-room made.rows

  -- the triangles over the sides of the tiles are those of the other half-edges
  across : AcrossOnly F T other
  across = record { only = λ k i l b t c n h. (tile-beside tabled k b t i c).only l n h }

  -- there is a triangle
  some : 0 < triangles T
  some = omega (arith, mesh.whole, mesh.some)

  -- where the search begins
  begun : Begun T 0 F role (start_of 0 role F other rows)
  begun = start-begun tabled rows-room made.rows 0 mesh.some role lent.is_role

  -- the returned reading, if there is one in the role
  returned : ReadingIn Same N T role → (r : Reading) × Returned Same N T role r
  returned = returned-exists N T mesh.proper same-lawful role

  -- where the search begins nowhere, there is no reading
  unbegun : {s : ℕ} → Begun T 0 F role s → s ≡ F → (r : Reading) × Returned Same N T role r → ⊥
  unbegun (starts l _ _) e _ = omega arith
  unbegun (begun_nowhere refuted) e (r, R) =
      go (start-exists N T mesh.proper (take (3 * F) rows) cover r R.is 0 role R.in_role)
    where
      go : (s : ℕ) × Start T 0 role s → ⊥
      go (s, q) =
          refuted s q (centre-tile N T mesh.proper (take (3 * F) rows) cover r R.is s
          (start-centre N T mesh.proper (take (3 * F) rows) cover r R.is 0 role s R.in_role q))

  -- a map with room has all corners of the mesh
  corner-mapped : {map : List ℕ} → Work N F map → (c : ℕ) → c < 3 * F → at T c < length map
  corner-mapped work c l = omega (arith, work.room, mesh.proper.otherwise.below c (omega (arith, mesh.whole)))

  -- what `find_tiles` requires
  pub findable : FindLent 0 F other rows ring marks₀ faces₀ map₀ table₀
  findable = record {
    inside = mesh.some;
    small = mesh.halves;
    other_room = omega (arith, rooms.other.room);
    rows_room = rows-room;
    ring_room = omega (arith, rooms.ring.room);
    marks_room = omega (arith, rooms.marks.room);
    kept_room = omega (arith, rooms.faces.room);
    queue_room = omega (arith, mesh.some, rooms.map.room);
    opened_room = omega (arith, rooms.table.room);
    key = first_on (take (3 * F) rows);
    ringed = made.ringed;
  }

  -- What `find_tiles` finds.
  abbrev Found : (marks kept : List ℕ) → Option ℕ → Type 0
  Found = TilesFound (start_of 0 role F other rows) F rows ring

  module _ {marks kept : List ℕ} where
    -- what is gathered from where the search begins is what the search finds
    gathered-searched : {s n : ℕ} → Begun T 0 F role s → Gathered s F rows ring marks kept n
        → Searched N F T (take (3 * F) rows) s marks × Start T 0 role s
    gathered-searched (starts l q t) G = (
      record {
        search = record {
          proper = mesh.proper;
          cover = cover;
          inside = omega (arith, mesh.whole);
          starts = t;
        };
        whole = mesh.whole;
        reached = G.reached.marked (first_on (take (3 * F) rows)) made.ringed;
      },
      q,
    )
    gathered-searched (begun_nowhere _) G = absurd (omega (arith, G.inside))

    -- where the tiles are no quarter, there is no reading
    unquartered : {s n : ℕ} → Begun T 0 F role s → Gathered s F rows ring marks kept n → 4 * n ≢ F
        → (r : Reading) × Returned Same N T role r → ⊥
    unquartered {s} B G n (r, R) = go (gathered-searched B G)
      where
        go : Searched N F T (take (3 * F) rows) s marks × Start T 0 role s → ⊥
        go (S, q) = omega (arith, n, G.selected.all, returned-quarter S R q)

    -- so where `find_tiles` finds nothing, there is no reading
    pub unfound : {answer : Option ℕ} → Found marks kept answer → answer ≡ None → ReadingIn Same N T role → ⊥
    unfound found nothing R = go (subst (Found marks kept) nothing found)
      where
        go : Found marks kept None → ⊥
        go (nowhere e) = unbegun begun e (returned R)
        go (uneven G n) = unquartered begun G n (returned R)

    -- and else the tiles are found
    pub picked : {answer : Option ℕ} {n : ℕ} → Found marks kept answer → answer ≡ Some n
        → Picked role N F n T rows marks kept
    picked found holds = go (subst (Found marks kept) holds found)
      where
        go : {n : ℕ} → Found marks kept (Some n) → Picked role N F n T rows marks kept
        go (quarter G q _) = record {
          start = _;
          searched = (gathered-searched begun G).0;
          begins = (gathered-searched begun G).1;
          selected = selected-front G.selected;
          quarter = sym q;
        }

  -- ---- the coarse mesh

  module _ {n : ℕ} {marks kept : List ℕ} (P : Picked role N F n T rows marks kept) where
    -- the marked triangles have ranks
    ranked : RanksOf F marks n (tabulate (count (marked marks)) F)
    ranked = record { entry = tabulate-at (count (marked marks)) F; all = P.selected.all }

    -- the selected rows hold vertices of the mesh
    kept-below : (p : ℕ) → p < 3 * n → at kept p < N
    kept-below = rows-below P.searched ranked P.selected

    module _ {coarse numbers map table : List ℕ}
        (room : Rooms N F (buffers other rows ring marks coarse numbers map kept table)) where
      -- what `number_tiles` requires
      pub numberable : NumberTilesLent N F n ring marks kept coarse numbers map table
      numberable = record {
        quarter = P.quarter;
        small = mesh.small;
        halves = mesh.halves;
        ring_room = omega (arith, room.ring.room);
        marks_room = omega (arith, room.marks.room);
        kept_room = omega (arith, P.quarter, room.faces.room);
        coarse_room = omega (arith, P.quarter, room.coarse.room);
        numbers_room = omega (arith, P.quarter, room.numbers.room);
        rank_room = omega (arith, room.map.room);
        table_room = room.table.room;
        within = ring-below made.ringed;
        total = P.selected.all;
        below = kept-below;
        ringed = λ M out ring_c B. stage-rings B P.selected P.searched made.ringed;
      }

      -- what `map_vertices` requires
      pub mappable : VerticesLent F n T marks kept coarse numbers map table
      mappable = record {
        selects = record {
          list_room = omega (arith, mesh.whole);
          marks_room = omega (arith, room.marks.room);
          out_room = omega (arith, room.table.room);
        };
        all = P.selected.all;
        keeps = record {
          keyed = omega (arith, P.quarter, room.faces.room);
          inside = λ p l. omega (arith, kept-below p l, room.map.room);
          valued = omega (arith, P.quarter, room.coarse.room);
        };
        numbered = omega (arith, P.quarter, room.numbers.room);
        inside = corner-mapped room.map;
      }

      -- what `map_triangles` requires
      pub claimable : TrianglesLent F other marks kept table
      claimable = record {
        claims = record {
          small = mesh.halves;
          marks_room = omega (arith, room.marks.room);
          other_room = omega (arith, room.other.room);
          out_room = omega (arith, room.table.room);
          quarter = omega (arith, P.quarter, P.selected.all);
        };
        mated = λ k i b m. (tile-row tabled k b
            (reach-tile P.searched.search k (marked-reach P.searched k b m))).mated i;
        map_room = omega (arith, room.faces.room);
      }

    module _ {coarse numbers : List ℕ} {answer : Option ℕ}
        (Z : CoarseNumbered N F n ring marks kept coarse numbers answer) where
      -- the tables of the coarse mesh
      coarsened : Tables N F (take (3 * F) rows) marks Z.vertices n kept Z.tables.vertex_rank Z.tables.rank
          (take (3 * n) coarse)
      coarsened = stage-tables Z.tables P.selected

      -- its rings are those of its edges
      coarse-rings : RingBy (3 * n) (first_on (take (3 * n) coarse)) Z.ring_c
      coarse-rings = stage-rings Z.tables P.selected P.searched made.ringed

      -- so the numbers are those of its edges
      numbered : Tabulated (edge_no Z.vertices (take (3 * n) coarse)) (3 * n) numbers
      numbered = Z.numbered.number (take (3 * n) coarse) coarsened.whole coarse-rings

      -- and they are as many
      edges-counted : Z.edges ≡ edges (take (3 * n) coarse)
      edges-counted = Z.numbered.total (take (3 * n) coarse) coarsened.whole coarse-rings

      -- where vertices and edges do not add up, there is no reading
      pub uncounted : answer ≡ None → ReadingIn Same N T role → ⊥
      uncounted e R = go (returned R)
        where
          go : (r : Reading) × Returned Same N T role r → ⊥
          go (r, R) = omega (
            arith,
            added_none (subst (AddedUp N Z.vertices Z.edges) e Z.answers),
            edges-counted,
            returned-count P.searched R P.begins coarsened,
          )

      -- and else they add up, and what is counted is the vertices
      all-counted : {M : ℕ} → answer ≡ Some M → (M ≡ Z.vertices) × (Z.vertices + Z.edges ≡ N)
      all-counted e = added-held (subst (AddedUp N Z.vertices Z.edges) e Z.answers)

      -- ---- the maps

      module _ {map₁ map corners : List ℕ} {answer_v : Bool}
          (X : VerticesMapped F n T marks kept coarse numbers map₁ map corners answer_v) where
        module _ {r : Reading} (R : Returned Same N T role r) where
          -- the returned reading's vertex map holds the coarse numbers
          coarse-held : Held (at coarse) (3 * n) kept r.vertex_map
          coarse-held p l =
              returned-kept P.searched R P.begins coarsened p l ∙ at_take (3 * n) coarse p l

          -- and the others
          numbers-held : Held (at numbers) (3 * n) corners r.vertex_map
          numbers-held = returned-between P.searched R P.begins coarsened X.selected numbered

          -- so the map holds them too
          map-coarse : Held (at coarse) (3 * n) kept map
          map-coarse = scattered-twice r.vertex_map X.coarse_put coarse-held X.numbers_put numbers-held

          map-numbers : Held (at numbers) (3 * n) corners map
          map-numbers = scattered-hits r.vertex_map X.numbers_put numbers-held

        -- where the map does not hold them, there is no reading
        pub unmapped : answer_v ≡ false → ReadingIn Same N T role → ⊥
        unmapped e R = go (returned R)
          where
            go : (r : Reading) × Returned Same N T role r → ⊥
            go (r, R) = test-failed e (X.complete (map-coarse R) (map-numbers R))

        module _ {faces₁ faces claimed : List ℕ} {answer_t : Bool}
            (Y : TrianglesMapped F other marks faces₁ faces claimed answer_t) where
          -- the triangle map of the returned reading holds each triangle of the splitting, so the map does
          faces-once : {r : Reading} → Returned Same N T role r → Held (λ t. t) F claimed faces
          faces-once {r} R = scattered-hits r.triangle_map Y.scattered
              (returned-once P.searched R P.begins coarsened Y.claims across)

          -- where it does not, there is no reading
          pub unmatched : answer_t ≡ false → ReadingIn Same N T role → ⊥
          unmatched e R = go (returned R)
            where
              go : (r : Reading) × Returned Same N T role r → ⊥
              go (r, R) = test-failed e (Y.holds.complete (faces-once R))

          -- what the maps are made from
          sources : Sources F T marks Z.vertices n (take (3 * n) coarse) corners numbers claimed
          sources = record {
            selected = X.selected;
            numbered = numbered;
            other = other;
            claims = Y.claims;
            across = across;
          }

          -- ---- the comparison

          -- what `compare_all` requires
          pub comparable : {table : List ℕ} → Rooms N F (buffers other rows ring marks coarse numbers map faces table)
              → answer_t ≡ true → AllLent F n T coarse numbers map faces table
          comparable room e = record {
            quarter = P.quarter;
            whole = mesh.whole;
            coarse_room = Z.tables.room;
            numbers_room = omega (arith, P.quarter, room.numbers.room);
            splitting_room = omega (arith, P.quarter, room.table.room);
            mapped = corner-mapped room.map;
            matched = omega (arith, room.faces.room);
            inside = passed-below claimed faces F
                (λ t l. claimed-below P.searched Z.tables.ranks Y.claims across t (omega (arith, P.quarter)))
                (Y.holds.sound e);
            coarse_vertices = Z.vertices;
            numbered = numbered;
            different = splitting-different P.searched coarsened;
          }

          module _ {answer_c : Result Unit Mismatch} (A : AllCompared F n T coarse numbers map faces answer_c) where
            -- The triangles agree, as they stand in the buffers.
            abbrev Agree : Agreement → ℕ → Type 0
            Agree agree G = AllAgree agree G T map faces (split Z.vertices (take (3 * n) coarse))

            -- what the comparison came to
            compared : {seen : Result Unit Mismatch} → answer_c ≡ seen
                → Compared F T map faces (split Z.vertices (take (3 * n) coarse)) seen
            compared e = subst (Compared F T map faces (split Z.vertices (take (3 * n) coarse))) e
                (A.compared Z.vertices numbered)

            -- where the triangles differ, there is no reading by the old rule
            pub unlike : answer_c ≡ Err mismatch.Differ → ReadingIn Same N T role → ⊥
            unlike e R = go (compared e) (returned R)
              where
                go : Compared F T map faces (split Z.vertices (take (3 * n) coarse)) (Err mismatch.Differ)
                    → (r : Reading) × Returned Same N T role r → ⊥
                go (differ not) (r, R) =
                    not (returned-tested P.searched R P.begins coarsened sources map faces
                    (λ p l. map-coarse R p l ∙ sym (at_take (3 * n) coarse p l)) (map-numbers R) (faces-once R)
                    ).agreed

            module _ {M : ℕ} (m : answer ≡ Some M) (v : answer_v ≡ true) (t : answer_t ≡ true) where
              -- and where they have the same vertices, all is as tested
              tested : Agree Same F
                  → Tested N F Z.vertices n T kept (take (3 * n) coarse) corners numbers claimed map faces
              tested alike = record {
                quarter = P.quarter;
                count = omega (arith, (all-counted m).1, edges-counted);
                kept = λ p b. X.coarse_held v p b ∙ sym (at_take (3 * n) coarse p b);
                between = X.numbers_held v;
                once = Y.holds.sound t;
                agreed = alike;
              }

              module _ {table : List ℕ}
                  (room : Rooms N F (buffers other rows ring marks coarse numbers map faces table)) where
                -- The reading that stands in the buffers.
                abbrev made-reading : Reading
                made-reading = reading_in N F M n coarse map faces

                -- so the maps are those of the reading that the old rule returns
                read-old : Agree Same F → Returned Same N T role made-reading
                read-old alike =
                    rw (all-counted m).0
                    (found-returned P.searched.search (tables-built P.searched coarsened) same-implies
                    (tables-found P.searched coarsened (omega (arith, room.map.room))
                    (omega (arith, room.faces.room)) sources (tested alike)) role some P.begins)

                -- a triangle agrees by these maps as it does by the buffers
                agrees-there : {k : ℕ} → k < F
                    → Rotated (renamed map T) k (split Z.vertices (take (3 * n) coarse)) (at faces k)
                    → Rotated (renamed (take N map) T) k (split M (take (3 * n) coarse)) (at (take F faces) k)
                agrees-there {k} l a = rw (
                  renamed-front mesh.proper.otherwise map,
                  (all-counted m).0,
                  at_take F faces k l,
                ) a

                agrees_back : {k : ℕ} → k < F
                    → Rotated (renamed (take N map) T) k (split M (take (3 * n) coarse)) (at (take F faces) k)
                    → Rotated (renamed map T) k (split Z.vertices (take (3 * n) coarse)) (at faces k)
                agrees_back {k} l a = rw (
                  renamed-front mesh.proper.otherwise map,
                  (all-counted m).0,
                  at_take F faces k l,
                ) at a

                -- where all agree, it is the returned one
                pub read : answer_c ≡ Ok tt → Returned Rotated N T role made-reading
                read e = go (compared e)
                  where
                    go : Compared F T map faces (split Z.vertices (take (3 * n) coarse)) (Ok tt)
                        → Returned Rotated N T role made-reading
                    go (agreed all) = agrees-returned
                        (read-old (λ k l. rotated-implies.same (all k l)))
                        (λ k d. d.differs (agrees-there (inside d) (all k (inside d))))
                      where
                        inside : {k : ℕ} → Disagrees Rotated T made-reading k → k < F
                        inside d = omega (arith, mesh.whole, d.inside)

                -- and else the least that does not is known
                pub read-inside-out : {k : ℕ} → answer_c ≡ Err (mismatch.InsideOut k) → OldOnly N T role k
                read-inside-out e = go (compared e)
                  where
                    go : {k : ℕ}
                        → Compared F T map faces (split Z.vertices (take (3 * n) coarse)) (Err (mismatch.InsideOut k))
                        → OldOnly N T role k
                    go (inside_out same l not before) = record {
                      reading = made-reading;
                      returned = read-old same;
                      least = record {
                        here = record {
                          inside = omega (arith, mesh.whole);
                          differs = λ a. not (agrees_back l a);
                        };
                        before = λ j b d. d.differs (agrees-there (omega arith) (before j b));
                      };
                    }

                -- so where they do not all agree, it is known why there is no reading
                pub refused : (why : Mismatch) → answer_c ≡ Err why
                    → TriedRole role N F T coarse map faces (Err (no_reading_of why))
                refused (mismatch.InsideOut k) e = tried_inside_out (read-inside-out e)
                refused mismatch.Differ e = tried_none (unlike e)
