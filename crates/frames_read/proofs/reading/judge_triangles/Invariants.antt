-- `frames_read::reading::judge_triangles` meets its contract. The invariant: the first k lines are read.
use Prim.Native.Nat.{ℕ}
use mathlib.Core.List.{List}
use Rattle.frames_read.proofs.Triangles.{Reached}
use Rattle.frames_read.proofs.reading.judge_triangles.Given as goal

pub record Turn (bytes rest : List ℕ) (F k : ℕ) : Type 0 where
  pub so_far : List ℕ
  pub reached : Reached bytes F k so_far rest

abbrev pub invariant-loop-k : goal.invariant-loop-k
invariant-loop-k l = Turn l.bytes l.rest l.triangles l.k
