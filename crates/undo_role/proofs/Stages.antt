-- From the tables that `number_tiles` makes to those that the coarse mesh is read from, and back to what it requires:
-- the coarse mesh's rings are those of its edges.
use Prim.Native.Nat.{ℕ, ◌*◌}
use mathlib.Core.Path.{◌∙◌}
use mathlib.Core.List.{List}
use lib.ListN.{take}
use lib.Seq.{length-take-le}
use Rattle.theory.specs.Splitting.{first_on}
use Rattle.lists.proofs.Lists.{at_take}
use Rattle.mesh_rings.specs.Ring.{RingBy}
use Rattle.undo_match.specs.Selected.{Selected}
use Rattle.undo_stages.specs.Role.{CoarseTables}
use Rattle.undo_role.proofs.Coarse.{Searched, Tables}
use Rattle.undo_role.proofs.CoarseEdges.{rings-coarse}

module _ {N F n : ℕ} {W ring marks kept : List ℕ} {M : ℕ} {coarse ring_c : List ℕ}
    (B : CoarseTables N F n ring marks kept M coarse ring_c) (rows : Selected F W marks n kept) where
  -- the tables of the marked triangles, with the coarse mesh's list cut to its length
  pub stage-tables : Tables N F W marks M n kept B.vertex_rank B.rank (take (3 * n) coarse)
  stage-tables = record {
    ranks = B.ranks;
    rows = rows;
    kept_marks = B.kept_marks;
    keeps = B.keeps;
    vertex_ranks = B.vertex_ranks;
    whole = length-take-le (3 * n) coarse B.room;
    entries = record { entry = λ p l. at_take (3 * n) coarse p l ∙ B.entries.entry p l };
  }

  -- the selected rings are those of the coarse mesh
  pub stage-rings : {T : List ℕ} {s : ℕ} → Searched N F T W s marks → RingBy (3 * F) (first_on W) ring
      → RingBy (3 * n) (first_on (take (3 * n) coarse)) ring_c
  stage-rings S ringed = rings-coarse S stage-tables ringed B.links
