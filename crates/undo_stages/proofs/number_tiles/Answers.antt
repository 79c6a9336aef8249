-- `undo_stages::number_tiles` meets its contract: the tables of the coarse mesh are made one after the other, each from
-- the ones before, in the two work buffers.
use native.Mathlib.Omega.{arith}
use mathlib.Core.Path.{◌∙◌}
use Rattle.undo_stages.specs.Role.{even, odd}
use Rattle.undo_stages.proofs.Numbers.{tables, numberable, sum_fits}
use Rattle.undo_stages.proofs.number_tiles.Goals as goal

pub number_edges-edges-requires : goal.number_edges-edges-requires
number_edges-edges-requires c =
    numberable c.requires
    (tables c.requires c.mark_used.ensures c.ranks-kept_count.ensures c.gather.auto.out c.gather.ensures c.ranks.ensures
    c.selected_ring.ensures)
    (c.selected_ring.auto.out ∙ c.mark_used.auto.marks ∙ c.fill.auto.s)

pub overflow_add-kept_count : goal.overflow_add-kept_count
overflow_add-kept_count c = omega (
  arith,
  sum_fits c.requires
      (tables c.requires c.mark_used.ensures c.ranks-kept_count.ensures c.gather.auto.out c.gather.ensures c.ranks.ensures
      c.selected_ring.ensures)
      c.number_edges-edges.ensures,
)

pub returns-then-kept_count-edges : goal.returns-then-kept_count-edges
returns-then-kept_count-edges c = record {
  vertices = _;
  edges = _;
  ring_c = _;
  tables = tables c.requires c.mark_used.ensures c.ranks-kept_count.ensures c.gather.auto.out c.gather.ensures c.ranks.ensures
      c.selected_ring.ensures;
  numbered = c.number_edges-edges.ensures;
  answers = odd c.if-kept_count-edges.true;
}

pub returns : goal.returns
returns c = record {
  vertices = _;
  edges = _;
  ring_c = _;
  tables = tables c.requires c.mark_used.ensures c.ranks-kept_count.ensures c.gather.auto.out c.gather.ensures c.ranks.ensures
      c.selected_ring.ensures;
  numbered = c.number_edges-edges.ensures;
  answers = even c.if-kept_count-edges.false;
}
