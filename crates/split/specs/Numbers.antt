-- The numbers of the edge vertices, by the rings of the edges.
use Rattle.std.specs.Prelude.{ℕ, ◌+◌, ◌≤◌, ◌<◌, ◌≡◌, ◌≢◌, List, length, set}
use Rattle.theory.specs.Mesh.{at}
use Rattle.theory.specs.Splitting.{first_on, edges, edge_no}
use Rattle.lists.specs.Tables.{Tabulated}
use Rattle.mesh_rings.specs.Ring.{RingBy}

-- What `number_edges` is lent: the rings of the edges of some list of n half-edges, and room.
pub record NumberLent (N n : ℕ) (ring numbers : List ℕ) : Type 0 where
  pub small : N + n < 65536
  pub ring_room : n ≤ length ring
  pub numbers_room : n ≤ length numbers
  pub list : List ℕ
  pub whole : length list ≡ n
  pub ringed : RingBy n (first_on list) ring

-- Whatever list the rings are those of: each half-edge has the number of the vertex on its edge, from N up, and E is
-- how many edges there are.
pub record Numbered (N n : ℕ) (ring : List ℕ) (E : ℕ) (numbers : List ℕ) : Type 0 where
  pub number : (T : List ℕ) → length T ≡ n → RingBy n (first_on T) ring → Tabulated (edge_no N T) n numbers
  pub total : (T : List ℕ) → length T ≡ n → RingBy n (first_on T) ring → E ≡ edges T

-- What `number_all` is lent: the same, and no half-edge has a number yet, which N + n says.
pub record UnnumberedLent (N n : ℕ) (ring numbers : List ℕ) : Type 0 where
  pub lent : NumberLent N n ring numbers
  pub none : (h : ℕ) → h < n → at numbers h ≡ N + n

-- What `number` is lent: half-edge h and the next one have room, and N + E can stand in an entry.
pub record OneLent (h v N E : ℕ) (numbers : List ℕ) : Type 0 where
  pub room : h < length numbers
  pub next_room : v < length numbers
  pub small : N + E < 65535

-- Half-edge h gets the next number where it has none, with one edge more, and else keeps its own; the next on its ring,
-- v, gets the same.
pub data OneNumbered (h v none N E : ℕ) (numbers : List ℕ) : ℕ → List ℕ → Type 0 where
  next : at numbers h ≡ none → OneNumbered h v none N E numbers (E + 1) (set (set numbers h (N + E)) v (N + E))
  same : at numbers h ≢ none
      → OneNumbered h v none N E numbers E (set (set numbers h (at numbers h)) v (at numbers h))
