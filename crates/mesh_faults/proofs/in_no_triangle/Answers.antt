-- `mesh_faults::in_no_triangle` meets its contract: the marks that are 0 are those of the vertices in no triangle.
use Prim.Native.Nat.{ℕ, ◌*◌, ◌/◌, ◌<◌}
use native.Mathlib.Omega.{arith}
use mathlib.Core.Path.{◌≡◌, refl}
use mathlib.Core.List.{List}
use Rattle.theory.specs.Mesh.{at}
use Rattle.theory.specs.Refusals.{InNoTriangle}
use Rattle.std.proofs.Common.{Option}
use Rattle.lists.specs.Places.{Least}
use Rattle.lists.proofs.Places.{least-alike}
use Rattle.mesh_rings.specs.Tables.{Listed}
use Rattle.mesh_faults.specs.Faults.{UsedMark, used, unused, UsedMarks}
use Rattle.mesh_faults.proofs.in_no_triangle.Goals as goal

-- a vertex whose mark is 0 is held by no corner
unmarked : {T : List ℕ} {n v w : ℕ} → UsedMark T n v w → w ≡ 0 → (c : ℕ) → c < n → at T c ≡ v → ⊥
unmarked (used d l p) e = absurd (omega arith)
unmarked (unused none) e = none

-- the mark of a vertex that is held by no corner is 0
none-unmarked : {T : List ℕ} {n v w : ℕ} → UsedMark T n v w → ((c : ℕ) → c < n → at T c ≡ v → ⊥) → w ≡ 0
none-unmarked (used d l p) none = absurd (none d l p)
none-unmarked (unused _) none = refl

-- the least mark that is 0 is that of the least vertex in no triangle
least : {N F : ℕ} {T marks : List ℕ} {r : Option ℕ} → Listed N F T → UsedMarks N T (3 * F) marks
    → Least (λ v. at marks v ≡ 0) N r → Least (InNoTriangle N T) N r
least L M =
    least-alike
    (λ v l e.
    record { inside = l; nowhere = λ k o. unmarked (M.mark v l) e o.corner (omega arith) o.holds })
    (λ v l Q.
    none-unmarked (M.mark v l)
    (λ c b e. Q.nowhere (c / 3) (record { corner = c; inside = omega arith; triangle = refl; holds = e })))

pub returns : goal.returns
returns c = least c.requires.listed c.mark_used.ensures c.first_zero.ensures
