-- `split::write_fours`: for every N whose edge vertices' numbers are those of the table, the list begins with the fours
-- of the first k triangles, and the rest is as it was.
use Rattle.std.proofs.Common.{◌≡◌, ℕ, ◌*◌, ◌++◌, drop}
use Rattle.theory.specs.Splitting.{edge_no, fours}
use Rattle.lists.specs.Tables.{Tabulated}
use Rattle.split.proofs.write_fours.Given as goal

abbrev pub invariant-loop-k : goal.invariant-loop-k
invariant-loop-k l =
    (N : ℕ) → Tabulated (edge_no N l.list) (3 * l.triangles) l.numbers
    → l.out ≡ fours N l.list l.k ++ drop (12 * l.k) l.fn.out
