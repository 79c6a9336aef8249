-- `index_read::runs::take_run` meets its contract: -1 closes a face, and any other run is judged as a number.
use mathlib.Core.Path.{sym, ◌∙◌}
use Rattle.index_read.proofs.Sayings.{close-run, taken-close}
use Rattle.index_read.proofs.runs.take_run.Goals as goal

pub returns-then-close_at : goal.returns-then-close_at
returns-then-close_at c = taken-close (sym (close-run _ _ c.requires) ∙ sym c.if-close_at.ensures)

pub take_number-requires : goal.take_number-requires
take_number-requires c = record {
  lent = c.requires;
  number = sym (close-run _ _ c.requires) ∙ sym c.if-close_at.ensures;
}
