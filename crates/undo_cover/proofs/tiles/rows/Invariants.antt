-- `undo_cover::tiles::rows`: the rows of the first k triangles are written.
use Prim.Native.Nat.{ℕ, ◌<◌}
use mathlib.Core.Path.{◌≡◌}
use mathlib.Core.List.{List}
use lib.ListN.{length}
use Rattle.undo_cover.specs.Tiles.{RowOf, RowsLent}
use Rattle.undo_cover.proofs.tiles.rows.Given as goal

pub record Turn (F : ℕ) (other thirds rows₀ rows : List ℕ) (k : ℕ) : Type 0 where
  pub lent : RowsLent F other thirds rows₀
  pub long : length rows ≡ length rows₀
  pub done : (j : ℕ) → j < k → RowOf F other thirds j rows

abbrev pub invariant-loop-k : goal.invariant-loop-k
invariant-loop-k l = Turn l.triangles l.other l.thirds l.initial.rows l.rows l.k
