-- What is counted of a mesh, of its splitting, and of the coarse mesh of a reading.
use Rattle.std.specs.Prelude.{ℕ, ◌+◌, ◌-◌, ◌*◌, ◌/◌, ◌<◌, List}
use Rattle.theory.specs.Mesh.{triangles}
use Rattle.theory.specs.Splitting.{edges, boundary_edges}
use Rattle.theory.specs.Calls.{Answer, accepted}
use Rattle.answers.specs.declared.counts.Counts.{Counts}

-- What is counted of the mesh (N, T).
abbrev pub counts_of : ℕ → List ℕ → Counts
counts_of N T = record { vertices = N; triangles = triangles T; edges = edges T; boundary = boundary_edges T }

-- The answer that says so much.
abbrev pub accepted_counts : Counts → Answer
accepted_counts c = accepted c.vertices c.triangles c.edges c.boundary

-- What `split_counts` is lent: counts within 16 bits.
pub record SplitCountsLent (c : Counts) : Type 0 where
  pub vertices : c.vertices < 65536
  pub triangles : c.triangles < 65536
  pub edges : c.edges < 65536
  pub boundary : c.boundary < 65536

-- "Hence V + E vertices, 2E + 3F edges, 4F triangles", and two boundary edges for each.
abbrev pub split_counts : Counts → Counts
split_counts c = record {
  vertices = c.vertices + c.edges;
  triangles = 4 * c.triangles;
  edges = 2 * c.edges + 3 * c.triangles;
  boundary = 2 * c.boundary;
}

-- The coarse mesh of a reading has M vertices and n triangles: from the V and B of the input its E and B.
abbrev pub coarse_counts : ℕ → ℕ → ℕ → ℕ → Counts
coarse_counts N B M n = record { vertices = M; triangles = n; edges = N - M; boundary = B / 2 }
