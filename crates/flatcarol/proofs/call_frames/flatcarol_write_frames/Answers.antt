-- `flatcarol::call_frames::flatcarol_write_frames` meets its contract: it answers what `write_frames` comes to.
use Rattle.flatcarol.proofs.call_frames.flatcarol_write_frames.Goals as goal

pub returns : goal.returns
returns c = rw c.into.ensures c.write_frames.ensures
