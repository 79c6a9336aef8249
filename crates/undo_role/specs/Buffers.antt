-- The nine work buffers of an undo, in the order in which every function of the undo takes them.
use Rattle.std.specs.Prelude.{ℕ, List}
use Rattle.mesh_rings.specs.Tables.{Work}

-- What they are, by name.
pub record Buffers : Type 0 where
  pub other : List ℕ
  pub rows : List ℕ
  pub ring : List ℕ
  pub marks : List ℕ
  pub coarse : List ℕ
  pub numbers : List ℕ
  pub map : List ℕ
  pub faces : List ℕ
  pub table : List ℕ

-- The same, by place.
abbrev pub buffers : (other rows ring marks coarse numbers map faces table : List ℕ) → Buffers
buffers other rows ring marks coarse numbers map faces table = record {
  other = other;
  rows = rows;
  ring = ring;
  marks = marks;
  coarse = coarse;
  numbers = numbers;
  map = map;
  faces = faces;
  table = table;
}

-- Room in each of them.
pub record Rooms (N F : ℕ) (b : Buffers) : Type 0 where
  pub other : Work N F b.other
  pub rows : Work N F b.rows
  pub ring : Work N F b.ring
  pub marks : Work N F b.marks
  pub coarse : Work N F b.coarse
  pub numbers : Work N F b.numbers
  pub map : Work N F b.map
  pub faces : Work N F b.faces
  pub table : Work N F b.table
