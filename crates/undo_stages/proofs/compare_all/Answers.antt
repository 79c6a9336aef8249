-- `undo_stages::compare_all` meets its contract: after `write_fours` the front of the buffer is the splitting, whose
-- triangles have three different corners.
use Rattle.undo_stages.proofs.Mapped.{compare-lent, all-compared}
use Rattle.undo_stages.proofs.compare_all.Goals as goal

pub compare-requires : goal.compare-requires
compare-requires c = compare-lent c.requires c.write_fours.ensures

pub returns : goal.returns
returns c = all-compared c.requires c.write_fours.ensures c.compare.ensures
