-- `index_write::digits::put_number`: where the digits of `left` are put before `at`, the number is. The writer is not moved.
use Rattle.std.proofs.Common.{◌≡◌, ◌-◌, length}
use Rattle.std.proofs.lemmas.List.Edits.{sets}
use Rattle.theory.specs.Index.{last_digits, decimal}
use Rattle.index_write.proofs.digits.put_number.Given as goal

abbrev pub invariant-loop-at : goal.invariant-loop-at
invariant-loop-at l =
    let w = l.initial.out in
    record {
      puts :
          sets l.out.bytes.now w.place (last_digits (l.at - w.place) l.left)
          ≡ sets w.bytes.now w.place (decimal l.value);
      long : length l.out.bytes.now ≡ length w.bytes.now;
      same : l.out.bytes.ghost_name ≡ w.bytes.ghost_name;
      place : l.out.place ≡ w.place;
    }
