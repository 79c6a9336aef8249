-- `mesh_faults::same_as_earlier` meets its contract: the least half-edge with a twin before it is one of the least
-- triangle that is the same as an earlier one.
use Prim.Native.Nat.{ℕ, ◌*◌, ◌/◌, ◌<◌}
use native.Mathlib.Omega.{arith}
use mathlib.Core.Path.{◌≡◌}
use mathlib.Core.List.{List, ◌++◌}
use lib.ListN.{length, drop, replicate}
use borrow.Author.Rules.{rules}
use Rattle.theory.specs.Mesh.{at}
use Rattle.theory.specs.Splitting.{first_on}
use Rattle.theory.specs.Refusals.{SameAsEarlier}
use Rattle.theory.proofs.Corners.{before}
use Rattle.std.proofs.Common.{Option, option_map}
use Rattle.lists.specs.Places.{Least}
use Rattle.lists.specs.Tables.{Tabulated}
use Rattle.lists.proofs.Lists.{at-filled, length-filled}
use Rattle.mesh_rings.specs.Tables.{third}
use Rattle.mesh_rings.proofs.Sides.{corner-below, corners-different}
use Rattle.mesh_faults.specs.Faults.{SameLent}
use Rattle.mesh_faults.specs.Twins.{TwinsLent, TwinFound}
use Rattle.mesh_faults.proofs.Twins.{least-same}
use Rattle.mesh_faults.proofs.same_as_earlier.Goals as goal

module _ {N F : ℕ} {T ring thirds₀ stamp₀ : List ℕ} (L : SameLent N F T ring thirds₀ stamp₀) {thirds : List ℕ}
    (E : Tabulated (third T) (3 * F) thirds) where
  -- third vertices are vertices
  third-below : (h : ℕ) → h < 3 * F → at thirds h < N
  third-below h l = omega (arith, E.entry h l, corner-below L.listed (before h) h l (omega arith))

  -- what `least_twin` requires
  searchable : {stamp : List ℕ} → length thirds ≡ length thirds₀
      → stamp ≡ replicate N (3 * F) ++ drop N stamp₀ → TwinsLent (3 * F) ring thirds stamp
  searchable s e =
      rw e
      (record {
        room = record {
          small = L.listed.small;
          ring_room = omega (arith, L.ring_room);
          thirds_room = omega (arith, L.thirds_room);
          stampable = λ h l.
              omega (
                arith,
                third-below h l,
                L.stamp_room,
                length-filled N (3 * F) stamp₀ (omega (arith, L.stamp_room)),
              );
          key = first_on T;
          ringed = L.ringed;
        };
        fresh = λ h l. at-filled N (3 * F) stamp₀ (at thirds h) (third-below h l);
      })

  -- what it finds tells the triangle
  placed : {r : Option ℕ} → TwinFound (3 * F) ring thirds r → Least (SameAsEarlier T) F (option_map (λ h. h / 3) r)
  placed P =
      least-same T F L.listed.whole (corners-different L.listed.whole L.different) E
      (P.found (first_on T) L.ringed)

pub least_twin-requires : goal.least_twin-requires
least_twin-requires c = searchable c.requires c.third_vertices.ensures c.third_vertices.auto.thirds c.fill.ensures

pub returns : goal.returns
returns c =
    let e : c.map.result ≡ option_map (λ h. h / 3) c.least_twin.result = search rules in
    rw e (placed c.requires c.third_vertices.ensures c.least_twin.ensures)
