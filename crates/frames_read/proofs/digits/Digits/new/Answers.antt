-- `frames_read::digits::Digits::new` meets its contract: its bytes are, one after the other, the entries that
-- `entry_of` computes.
use Prim.Native.Nat.{ℕ}
use mathlib.Core.List.{List}
use Rattle.theory.specs.Frames.{digit_value}
use Rattle.theory.proofs.Finite.{tabulate, tabulate-at}
use Rattle.frames_read.specs.Parts.{entry_of}
use Rattle.frames_read.proofs.digits.Digits.new.Goals as goal

-- the entries of all bytes
all : List ℕ
unfolding tabulate entry_of digit_value
all = tabulate entry_of 256

pub invariant_of-result : goal.invariant_of-result
unfolding all
invariant_of-result c = record { right = tabulate-at entry_of 256 }
