-- `undo_match::select::select` meets its contract: at most all triangles are marked, and the entries of the runs that are
-- stored are their corners.
use native.Mathlib.Omega.{arith}
use mathlib.Core.Path.{◌∙◌}
use Rattle.theory.specs.Mesh.{at}
use Rattle.theory.proofs.Counting.{count-le}
use Rattle.lists.specs.Marks.{marked}
use Rattle.undo_match.proofs.Runs.{at-three_of}
use Rattle.undo_match.proofs.select.select.Goals as goal

pub write_marked-requires : goal.write_marked-requires
write_marked-requires c =
    record {
      marks_room = c.requires.marks_room;
      out_room = omega (arith, c.requires.out_room, count-le (marked c.args.marks.now) c.args.triangles);
      each = λ k l. record { list_room = omega (arith, c.requires.list_room) };
    }

pub returns : goal.returns
returns c =
    record {
      all = c.write_marked.ensures.all;
      entry = λ k i b m s. c.write_marked.ensures.entry k i b m s ∙ at-three_of (at c.args.list.now) k i s;
    }
