-- `flatcarol::call_index::flatcarol_write_index` meets its contract: it answers what `write_index` comes to.
use Rattle.flatcarol.proofs.call_index.flatcarol_write_index.Goals as goal

pub returns : goal.returns
returns c = rw c.into.ensures c.write_index.ensures
