-- `flatcarol::call_index::flatcarol_read_index` meets its contract: it answers what `read_index` comes to.
use Rattle.flatcarol.proofs.call_index.flatcarol_read_index.Goals as goal

pub returns : goal.returns
returns c = rw c.into.ensures c.read_index.ensures
