-- `flatcarol::call_frames::flatcarol_read_frames` meets its contract: it answers what `read_frames` comes to.
use Rattle.flatcarol.proofs.call_frames.flatcarol_read_frames.Goals as goal

pub returns : goal.returns
returns c = rw c.into.ensures c.read_frames.ensures
