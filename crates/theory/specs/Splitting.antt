-- Document 01, "Splitting": the numbering of the edge vertices and the four triangles that each triangle becomes.
-- All of it computes. Half-edge h runs from corner h to the next corner of its triangle, so that the half-edges of
-- (v1, v2, v3) are v1v2, v2v3, v3v1 in the order of their numbers.
use Rattle.std.specs.Prelude.{ℕ, zero, suc, ◌+◌, ◌*◌, ◌/◌, ◌%◌, min, max, Bool, ◌&&◌, List, [], ◌∷◌, ◌++◌, eqb, length}
use Rattle.theory.specs.Counting.{count, first_from}
use Rattle.theory.specs.Mesh.{at, triangles}

-- The corner after corner c in its triangle.
abbrev pub next : ℕ → ℕ
next c = 3 * (c / 3) + (c + 1) % 3

-- The lesser end of a half-edge: its edge is "an unordered pair".
abbrev pub lesser : List ℕ → ℕ → ℕ
lesser T h = min (at T h) (at T (next h))

-- The greater end.
abbrev pub greater : List ℕ → ℕ → ℕ
greater T h = max (at T h) (at T (next h))

-- Whether two half-edges are on the same edge.
unfoldable pub same_edge : List ℕ → ℕ → ℕ → Bool
same_edge T h g = eqb (lesser T g) (lesser T h) && eqb (greater T g) (greater T h)

-- The first appearance of the edge that h is on.
unfoldable pub first_on : List ℕ → ℕ → ℕ
first_on T h = first_from (same_edge T h) 0 h

-- Whether h is the first appearance of its edge.
unfoldable pub is_first : List ℕ → ℕ → Bool
is_first T h = eqb (first_on T h) h

-- E: how many edges there are, each counted at its first appearance.
unfoldable pub edges : List ℕ → ℕ
edges T = count (is_first T) (length T)

-- How many half-edges are on the edge that h is on: one of each triangle that has it, where corners are different.
unfoldable pub appearances : List ℕ → ℕ → ℕ
appearances T h = count (same_edge T h) (length T)

-- "An edge is boundary .. when one .. triangle": whether h is the first appearance of such an edge.
unfoldable pub is_boundary : List ℕ → ℕ → Bool
is_boundary T h = is_first T h && eqb (appearances T h) 1

-- B: how many boundary edges there are, each counted at its first appearance.
unfoldable pub boundary_edges : List ℕ → ℕ
boundary_edges T = count (is_boundary T) (length T)

-- "Each coarse edge gets one new vertex, numbered V, V+1, ... in order of first appearance": the vertex on h's edge.
unfoldable pub edge_no : ℕ → List ℕ → ℕ → ℕ
edge_no N T h = N + count (is_first T) (first_on T h)

-- The table of document 01: what triangle j becomes.
unfoldable pub four : ℕ → List ℕ → ℕ → List ℕ
four N T j =
    let v1 : ℕ = at T (3 * j) in
    let v2 : ℕ = at T (3 * j + 1) in
    let v3 : ℕ = at T (3 * j + 2) in
    let e12 : ℕ = edge_no N T (3 * j) in
    let e23 : ℕ = edge_no N T (3 * j + 1) in
    let e31 : ℕ = edge_no N T (3 * j + 2) in
    e12 ∷ e23 ∷ e31 ∷
    v1 ∷ e12 ∷ e31 ∷
    v2 ∷ e23 ∷ e12 ∷
    v3 ∷ e31 ∷ e23 ∷ []

-- The four of each of the first j triangles, in order.
unfoldable pub fours : ℕ → List ℕ → ℕ → List ℕ
fours N T zero = []
fours N T (suc j) = fours N T j ++ four N T j

-- The splitting's list; its vertices are the numbers below N + edges T.
unfoldable pub split : ℕ → List ℕ → List ℕ
split N T = fours N T (triangles T)
