-- `undo_stages::find_tiles` meets its contract: what is reached from the start is marked, and the rows of the marked
-- triangles are selected and counted.
use native.Mathlib.Omega.{arith}
use Prim.Native.Nat.{ℕ, ◌*◌, ◌<◌}
use mathlib.Core.Path.{◌≡◌, sym}
use mathlib.Core.List.{List}
use Rattle.theory.proofs.Counting.{count-le}
use Rattle.lists.specs.Marks.{marked}
use Rattle.mesh_reach.specs.Reached.{Reached}
use Rattle.undo_match.specs.Selected.{Selected}
use Rattle.undo_stages.specs.Role.{Gathered, nowhere, uneven, quarter}
use Rattle.undo_stages.proofs.find_tiles.Goals as goal

-- what is marked and selected, from the start
gathered : {t s F n : ℕ} {rows ring marks kept : List ℕ} → t ≡ s → t < F → Reached t F ring marks
    → Selected F rows marks n kept → Gathered s F rows ring marks kept n
gathered starts l reached selected = rw (← starts) (record { inside = l; reached = reached; selected = selected })

-- four times as many as are selected fit
four-fits : {F n : ℕ} {rows marks kept : List ℕ} → 3 * F < 65536 → Selected F rows marks n kept → 4 * n < 262144
four-fits {F} {marks = marks} l S = omega (arith, S.all, count-le (marked marks) F)

pub returns-in_err-tile : goal.returns-in_err-tile
returns-in_err-tile c = rw c.from_residual.ensures (nowhere (sym c.in_err-tile.ensures.number))

pub overflow_mul-count : goal.overflow_mul-count
overflow_mul-count c = omega (arith, four-fits c.requires.small c.select-count.ensures)

pub returns-then-count-triangles : goal.returns-then-count-triangles
returns-then-count-triangles c =
    uneven (gathered c.in_ok-tile.ensures.number c.in_ok-tile.ensures.within c.reach.ensures c.select-count.ensures)
    c.if-count-triangles.true

pub returns : goal.returns
returns c = quarter (gathered c.in_ok-tile.ensures.number c.in_ok-tile.ensures.within c.reach.ensures c.select-count.ensures)
    c.if-count-triangles.false (omega (arith, c.requires.inside, c.if-count-triangles.false))
