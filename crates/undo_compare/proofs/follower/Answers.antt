-- `undo_compare::follower` meets its contract: each return is a case of it.
use native.Mathlib.Omega.{arith}
use Rattle.undo_compare.specs.Compared.{after_first, after_second, after_last}
use Rattle.undo_compare.proofs.follower.Goals as goal

pub returns-then-v-x : goal.returns-then-v-x
returns-then-v-x c = after_first (omega arith)

pub returns-then-v-y : goal.returns-then-v-y
returns-then-v-y c = after_second (λ e. omega arith) (omega arith)

pub returns : goal.returns
returns c = after_last (λ e. omega arith) (λ e. omega arith)
