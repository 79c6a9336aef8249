-- `frames_write::text::put_map` meets its contract.
use Rattle.frames_write.proofs.Appends.{row_room, row_more, mapped-row, mapped-all}
use Rattle.frames_write.proofs.text.put_map.Goals as goal

pub put_entry-requires : goal.put_entry-requires
put_entry-requires c =
    rw c.at.ensures (row_room (mapped-row _ _) (rw (mapped-all _ _) c.requires) c.loop-k.invariant c.loop-k-test.true)

pub loop-k-preserved : goal.loop-k-preserved
loop-k-preserved c =
    row_more (mapped-row _ _) c.loop-k-test.true c.loop-k.invariant (rw c.at.ensures at c.put_entry.ensures)
