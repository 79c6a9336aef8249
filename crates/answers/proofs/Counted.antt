-- What is counted of a splitting, and of the coarse mesh of a reading, by what is counted of the mesh it comes from.
use Prim.Native.Nat.{ℕ, ◌+◌, ◌≤◌}
use native.Mathlib.Omega.{arith}
use mathlib.Core.Path.{◌≡◌}
use mathlib.Core.List.{List}
use Rattle.theory.specs.Mesh.{triangles, Same, Rotated, Proper}
use Rattle.theory.specs.Splitting.{edges, boundary_edges, split}
use Rattle.theory.specs.Reading.{Reading, IsReading}
use Rattle.theory.proofs.Agreement.{reading-same}
use Rattle.theory.proofs.Rotation.{rotated-implies}
use Rattle.theory.proofs.Splitting.{split-triangles}
use Rattle.theory.proofs.SplitEdges.{split-edges, split-boundary}
use Rattle.theory.proofs.EdgeCounts.{reading-vertices, reading-boundary}
use Rattle.answers.specs.declared.counts.Counts.{Counts}
use Rattle.answers.specs.Counts.{counts_of, split_counts, coarse_counts}

-- counts are the same where each number is
pub counts_same : {a b : Counts} → a.vertices ≡ b.vertices → a.triangles ≡ b.triangles → a.edges ≡ b.edges
    → a.boundary ≡ b.boundary → a ≡ b
counts_same v t e b = λ i. record { vertices = v i; triangles = t i; edges = e i; boundary = b i }

-- so much is counted of the splitting of a proper mesh
pub split-counted : {N : ℕ} {T : List ℕ} → Proper N T → split_counts (counts_of N T) ≡ counts_of (N + edges T) (split N T)
split-counted {N} {T} P = counts_same (omega arith) (omega (arith, split-triangles N T))
    (omega (arith, split-edges N T P)) (omega (arith, split-boundary N T P.otherwise))

module _ {N : ℕ} {T : List ℕ} (P : Proper N T) {r : Reading} (R : IsReading Rotated N T r) where
  -- it is one by `Same`, of which the laws of counts speak
  is_same : IsReading Same N T r
  is_same = reading-same rotated-implies R

  -- no more vertices are kept than there are
  pub kept-at-most : r.vertices ≤ N
  kept-at-most = omega (arith, reading-vertices P is_same)

  -- and so much of the coarse mesh of a reading
  pub coarse-counted : {n : ℕ} → triangles r.mesh ≡ n
      → coarse_counts N (boundary_edges T) r.vertices n ≡ counts_of r.vertices r.mesh
  coarse-counted e = counts_same (omega arith) (omega arith)
      (omega (arith, reading-vertices P is_same)) (omega (arith, reading-boundary P is_same))
