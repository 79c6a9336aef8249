-- The sizes that documents 01 and 02 name, each once. The code's limits type is tied to these by contracts.
use Rattle.std.specs.Prelude.{ℕ}

-- refusal 4: "F above 16,384"
abbrev pub most_triangles : ℕ
most_triangles = 16384

-- refusal 4: "split: above 4,096"
abbrev pub most_split_triangles : ℕ
most_split_triangles = 4096

-- refusal 4: "or V above 32,767"
abbrev pub most_vertices : ℕ
most_vertices = 32767

-- undo one: "Asked 4: the least role that has a reading"
abbrev pub any_role : ℕ
any_role = 4

-- "Asked at most 0 to 7 levels", "kept in seven places of the answer"
abbrev pub most_levels : ℕ
most_levels = 7

-- #105: "13 is given above 16,396 bytes"
abbrev pub most_bytes : ℕ
most_bytes = 16396

-- the program "has room for 1,024 triangles .."
abbrev pub program_triangles : ℕ
program_triangles = 1024

-- ".. and 1,026 vertices"
abbrev pub program_vertices : ℕ
program_vertices = 1026

-- #101's refusal 14: "a corner above 65,535"
abbrev pub most_corner : ℕ
most_corner = 65535
