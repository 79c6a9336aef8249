-- Twins: half-edges with the same edge and the same third vertex; and what the search for the least one with a twin
-- before it is lent and does. A key tells the edge of a half-edge.
use Rattle.std.specs.Prelude.{ℕ, ◌+◌, ◌≤◌, ◌<◌, min, ◌≡◌, ◌≢◌, List, length, set, Option}
use Rattle.theory.specs.Mesh.{at}
use Rattle.lists.specs.Places.{Least}
use Rattle.mesh_rings.specs.Ring.{RingBy}

-- Half-edge x has a twin below b.
pub record TwinBelow (key : ℕ → ℕ) (thirds : List ℕ) (b x : ℕ) : Type 0 where
  pub twin : ℕ
  pub before : twin < b
  pub edge : key twin ≡ key x
  pub vertex : at thirds twin ≡ at thirds x

-- Half-edge x has a twin before it.
abbrev pub HasTwin : (ℕ → ℕ) → List ℕ → ℕ → Type 0
HasTwin key thirds x = TwinBelow key thirds x x

-- What the search is lent: the rings of n half-edges by some key, their third vertices, which are indices of `stamp`,
-- and room.
pub record TwinRoom (n : ℕ) (ring thirds stamp : List ℕ) : Type 0 where
  pub small : n < 65536
  pub ring_room : n ≤ length ring
  pub thirds_room : n ≤ length thirds
  pub stampable : (h : ℕ) → h < n → at thirds h < length stamp
  pub key : ℕ → ℕ
  pub ringed : RingBy n key ring

-- What `least_twin` is lent: the same, with no stamp below n at a third vertex.
pub record TwinsLent (n : ℕ) (ring thirds stamp : List ℕ) : Type 0 where
  pub room : TwinRoom n ring thirds stamp
  pub fresh : (h : ℕ) → h < n → at stamp (at thirds h) ≡ n

-- Whatever key the rings are by, the answer is the least half-edge with a twin before it.
pub record TwinFound (n : ℕ) (ring thirds : List ℕ) (answer : Option ℕ) : Type 0 where
  pub found : (key : ℕ → ℕ) → RingBy n key ring → Least (HasTwin key thirds) n answer

-- Of the half-edges whose edges end before h, the least with a twin before it; n where there is none.
pub record LeastBefore (n : ℕ) (key : ℕ → ℕ) (thirds : List ℕ) (h least : ℕ) : Type 0 where
  pub within : least ≤ n
  pub here : least < n → HasTwin key thirds least
  pub before : (x : ℕ) → x < least → ((g : ℕ) → h ≤ g → g < n → key g ≡ key x → ⊥) → HasTwin key thirds x → ⊥

-- What `look_at` is lent: half-edge h, and no stamp from h up at a third vertex, but n.
pub record TwinLent (h n : ℕ) (ring thirds stamp : List ℕ) : Type 0 where
  pub room : TwinRoom n ring thirds stamp
  pub inside : h < n
  pub fresh : (g x : ℕ) → h ≤ g → g < n → x < n → at stamp (at thirds x) ≢ g

-- What `walk_to` is lent: the same, where h is the last on its edge, and others are before it.
pub record LastLent (h n : ℕ) (ring thirds stamp : List ℕ) : Type 0 where
  pub lent : TwinLent h n ring thirds stamp
  pub last : at ring h < h

-- The edges that end at h are looked at too, and no stamp but h is new.
pub record TwinMet (h n : ℕ) (ring thirds : List ℕ) (least : ℕ) (stamp : List ℕ) (least' : ℕ) (stamp' : List ℕ)
    : Type 0 where
  pub more : (key : ℕ → ℕ) → RingBy n key ring → LeastBefore n key thirds h least
      → LeastBefore n key thirds (h + 1) least'
  pub stamps : (v : ℕ) → at stamp' v ≢ h → at stamp' v ≡ at stamp v

-- What `meet` is lent: half-edge x with its third vertex, and h, up to which x is, as a stamp.
pub record MeetLent (x h : ℕ) (thirds stamp : List ℕ) : Type 0 where
  pub small : h < 65536
  pub upto : x ≤ h
  pub thirds_room : x < length thirds
  pub stampable : at thirds x < length stamp

-- Where the third vertex of x has the stamp h, x counts; it has it from then on.
pub data Met (x h : ℕ) (thirds : List ℕ) (least : ℕ) (stamp : List ℕ) : ℕ → List ℕ → Type 0 where
  again : at stamp (at thirds x) ≡ h → Met x h thirds least stamp (min least x) (set stamp (at thirds x) h)
  anew : at stamp (at thirds x) ≢ h → Met x h thirds least stamp least (set stamp (at thirds x) h)
