-- `mesh_faults::corner_not_below` meets its contract: the first corner that is not below `vertices` is one of the least
-- triangle with one.
use Prim.Native.Nat.{ℕ, ◌*◌, ◌/◌, ◌≤◌, ◌<◌}
use native.Mathlib.Omega.{arith}
use mathlib.Core.Path.{◌≡◌, refl}
use mathlib.Core.List.{List}
use lib.ListN.{take}
use Rattle.std.proofs.Common.{rules, tests, Option, option_map}
use Rattle.std.proofs.lemmas.Iterator.{YieldsList-from_slice, IsFirst-from_position}
use Rattle.theory.specs.Mesh.{at}
use Rattle.theory.specs.Refusals.{CornerNotBelow}
use Rattle.lists.specs.Places.{Least}
use Rattle.lists.proofs.Places.{FirstOf, least-first, least-third}
use Rattle.mesh_faults.specs.Faults.{Whole}
use Rattle.mesh_faults.proofs.corner_not_below.Goals as goal

-- the first corner that is not below N tells the triangle
placed : {N F : ℕ} {T : List ℕ} (r : Option ℕ) → Whole F T → FirstOf (λ v. N ≤ v) (λ v. v < N) (take (3 * F) T) r
    → Least (CornerNotBelow N T) F (option_map (λ c. c / 3) r)
placed {N} {F} {T} r W first =
    least-third at-fault corner
    (least-first (λ v. N ≤ v) (λ v. v < N) T (omega (arith, W.whole)) (λ c l. l) (λ c l m. omega arith) r first)
  where
    at-fault : (c : ℕ) → c < 3 * F → N ≤ at T c → CornerNotBelow N T (c / 3)
    at-fault c l out =
        record {
          v = at T c;
          corner = record { corner = c; inside = omega (arith, W.whole); triangle = refl; holds = refl };
          not_below = out;
        }

    corner : (k : ℕ) → k < F → CornerNotBelow N T k → (c : ℕ) × (c / 3 ≡ k) × (N ≤ at T c)
    corner k l Q = (Q.corner.corner, Q.corner.triangle, omega arith)

pub returns : goal.returns
returns c =
    let e : c.map.result ≡ option_map (λ c. c / 3) c.position.result = search rules in
    rw e
    (placed c.position.result c.requires
    (IsFirst-from_position _ _ _ (λ v. c.args.mesh.vertices ≤ v) (λ v. v < c.args.mesh.vertices) c.position.ensures.ran
    (YieldsList-from_slice (take (3 * c.args.mesh.triangles) c.args.mesh.list.now) (search rules))
    (λ x q k. search (rules, tests))
    (λ x q k. search (rules, tests))))
