-- Request 102: the counts that the answers carry are those of the resulting mesh, as a caller finds it; and what they
-- are by the input's own.
use Prim.Native.Nat.{ℕ, ◌+◌, ◌*◌, ◌^◌}
use mathlib.Core.Path.{◌≡◌, sym, ap, ◌∙◌}
use mathlib.Core.List.{List}
use Rattle.theory.specs.Mesh.{triangles, Same}
use Rattle.theory.specs.Splitting.{edges, boundary_edges}
use Rattle.theory.specs.Reading.{IsReading}
use Rattle.theory.specs.Calls.{Answer, OneAnswer, SeveralAnswer, Outputs, accepted_mesh}
use Rattle.theory.specs.Calls.{Splits, UndoesOne, UndoesSeveral}
use Rattle.theory.specs.Demands.{found_mesh, found_reading}
use Rattle.theory.proofs.Agreement.{reading-same}
use Rattle.theory.proofs.Rotation.{rotated-implies}
use Rattle.theory.proofs.SplitEdges.{split-edges, split-boundary}
use Rattle.theory.proofs.EdgeCounts.{reading-vertices, reading-boundary}
use Rattle.theory.proofs.Results.{split-accepted, Accepted, one-accepted-found}
use Rattle.theory.proofs.Results.{several-halves, several-accepted-found}

-- ---- split

module _ {N : ℕ} {T out out' : List ℕ} {works works' : List (List ℕ)} {answer : Answer}
    (S : Splits N T out works answer out' works') (none : answer.refusal ≡ 0) where
  -- the answer counts the splitting that was written
  pub splitting-counted : answer ≡ accepted_mesh answer.vertices (found_mesh answer out')
  splitting-counted = (split-accepted S none).counted

  -- "Split's count is proved to be 2E + 3F"
  pub splitting-edges : answer.edges ≡ 2 * edges T + 3 * triangles T
  splitting-edges = ap (λ (a : Answer). a.edges) splitting-counted ∙ ap edges (split-accepted S none).found
      ∙ split-edges N T (split-accepted S none).within.proper

  -- and its boundary count is 2B
  pub splitting-boundary : answer.boundary_edges ≡ 2 * boundary_edges T
  splitting-boundary = ap (λ (a : Answer). a.boundary_edges) splitting-counted
      ∙ ap boundary_edges (split-accepted S none).found
      ∙ split-boundary N T (split-accepted S none).within.proper.otherwise

-- ---- undo one

module _ {N : ℕ} {T : List ℕ} {asked : ℕ} {out out' : Outputs} {works works' : List (List ℕ)} {answer : OneAnswer}
    (U : UndoesOne N T asked out works answer out' works') (none : answer.common.refusal ≡ 0) where
  -- what the acceptance says
  acceptance : Accepted N T asked out answer out'
  acceptance = one-accepted-found U none

  -- a reading by `Same` too, of which the laws of counts speak
  is_same : IsReading Same N T (found_reading N T answer out')
  is_same = reading-same rotated-implies acceptance.returned.is

  -- the answer counts the coarse mesh that was written
  pub returned-counted :
      answer.common ≡ accepted_mesh answer.common.vertices (found_mesh answer.common out'.mesh)
  returned-counted = acceptance.counted

  -- its edges are as many as the vertices that are not kept
  pub returned-edges : N ≡ answer.common.vertices + answer.common.edges
  returned-edges = reading-vertices acceptance.within.proper is_same
      ∙ ap (λ (a : Answer). answer.common.vertices + a.edges) (sym returned-counted)

  -- its boundary edges are half of the input's
  pub returned-boundary : boundary_edges T ≡ 2 * answer.common.boundary_edges
  returned-boundary = reading-boundary acceptance.within.proper is_same
      ∙ ap (λ (a : Answer). 2 * a.boundary_edges) (sym returned-counted)

-- ---- undo several

module _ {N : ℕ} {T : List ℕ} {asked : ℕ} {out out' : List ℕ} {works works' : List (List ℕ)} {answer : SeveralAnswer}
    (U : UndoesSeveral N T asked out works answer out' works') (none : answer.common.refusal ≡ 0) where
  -- the answer counts the mesh that is left
  pub left-counted : answer.common ≡ accepted_mesh answer.common.vertices (found_mesh answer.common out')
  left-counted = (several-accepted-found U none).counted

  -- each level leaves half of the boundary edges: so a mesh without a hole stays one, and no level makes a hole
  pub left-boundary : boundary_edges T ≡ 2 ^ answer.levels * answer.common.boundary_edges
  left-boundary = several-halves (several-accepted-found U none).within.proper (several-accepted-found U none).undone
      ∙ ap (λ (a : Answer). 2 ^ answer.levels * a.boundary_edges) (sym left-counted)
