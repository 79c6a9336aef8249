-- Document 01, "Refusals by number": the table, row by row, and which row a call gives. 15 is #103's.
use Rattle.std.specs.Prelude.{ℕ, ◌/◌, ◌%◌, ◌≤◌, ◌<◌, ◌≡◌, ◌≢◌, ◌⊎◌, List, [], ◌∷◌}
use Rattle.theory.specs.Limits.{most_vertices, most_bytes}
use Rattle.theory.specs.Mesh.{triangles, On, Same, Rotated, Reach}
use Rattle.theory.specs.Reading.{Reading, Disagrees, Returned}
use Rattle.theory.specs.Choice.{Chosen, NoneChosen}

-- A row of the table: its number, and at which places it is given.
pub record Rule : Type 1 where
  pub number : ℕ
  pub given : ℕ → Type 0

-- "Place is 0 unless named."
abbrev pub NoPlace : Type 0 → ℕ → Type 0
NoPlace condition place = condition × (place ≡ 0)

-- ---- room

-- A lent buffer: how many entries it has and how many are needed.
pub record Room : Type 0 where
  pub lent : ℕ
  pub needed : ℕ

-- "a lent buffer shorter than needed".
unfoldable pub Short : List Room → Type 0
Short [] = ⊥
Short (room ∷ rooms) = (room.lent < room.needed) ⊎ Short rooms

-- ---- the rows

-- 1: "asked above 4 (undo one) or above 7 (undo several)".
abbrev pub asked_too_much : ℕ → ℕ → Rule
asked_too_much most asked = record { number = 1; given = NoPlace (most < asked) }

-- 2: "list length not a multiple of 3", of so many entries.
abbrev pub not_threes : ℕ → Rule
not_threes entries = record { number = 2; given = NoPlace (entries % 3 ≢ 0) }

-- 3: "no triangle", of F.
abbrev pub no_triangle : ℕ → Rule
no_triangle F = record { number = 3; given = NoPlace (F ≡ 0) }

-- 4: "F above 16,384 (split: above 4,096) or V above 32,767".
abbrev pub too_large : ℕ → ℕ → ℕ → Rule
too_large most N F = record { number = 4; given = NoPlace ((most < F) ⊎ (most_vertices < N)) }

-- 5: "a lent buffer shorter than needed".
abbrev pub too_short : List Room → Rule
too_short rooms = record { number = 5; given = NoPlace (Short rooms) }

-- Triangle k has a corner that is not below N.
pub record CornerNotBelow (N : ℕ) (T : List ℕ) (k : ℕ) : Type 0 where
  pub v : ℕ
  pub corner : On T k v
  pub not_below : N ≤ v

-- 6: "a corner not below V", at the "least triangle".
abbrev pub corner_not_below : ℕ → List ℕ → Rule
corner_not_below N T = record { number = 6; given = CornerNotBelow N T }

-- Triangle k has two equal corners.
pub record EqualCorners (T : List ℕ) (k : ℕ) : Type 0 where
  pub v : ℕ
  pub one : On T k v
  pub other : On T k v
  pub two : one.corner ≢ other.corner

-- 7: "two equal corners", at the "least triangle".
abbrev pub equal_corners : List ℕ → Rule
equal_corners T = record { number = 7; given = EqualCorners T }

-- Triangle k is the same as an earlier one.
pub record SameAsEarlier (T : List ℕ) (k : ℕ) : Type 0 where
  pub earlier : ℕ
  pub before : earlier < k
  pub inside : k < triangles T
  pub same : Same T earlier T k

-- 8: "same as an earlier triangle", at the "least later one".
abbrev pub same_as_earlier : List ℕ → Rule
same_as_earlier T = record { number = 8; given = SameAsEarlier T }

-- Vertex v is in no triangle.
pub record InNoTriangle (N : ℕ) (T : List ℕ) (v : ℕ) : Type 0 where
  pub inside : v < N
  pub nowhere : (k : ℕ) → On T k v → ⊥

-- 9: "a vertex in no triangle", at the "least vertex".
abbrev pub in_no_triangle : ℕ → List ℕ → Rule
in_no_triangle N T = record { number = 9; given = InNoTriangle N T }

-- Triangle k is not connected to triangle 0.
pub record NotConnected (T : List ℕ) (k : ℕ) : Type 0 where
  pub inside : k < triangles T
  pub apart : Reach T 0 k → ⊥

-- 10: "not connected to triangle 0", at the "least triangle".
abbrev pub not_connected : List ℕ → Rule
not_connected T = record { number = 10; given = NotConnected T }

-- 11: "no reading in the role asked (asked 4: in any)".
abbrev pub no_reading : ℕ → List ℕ → ℕ → Rule
no_reading N T asked = record { number = 11; given = NoPlace (NoneChosen Rotated N T asked) }

-- #103: "a role asked has a reading by the old rule but none asked has one by the new", and triangle k "disagrees with
-- the splitting of the mesh the old rule returns in the least such role".
pub record InsideOut (N : ℕ) (T : List ℕ) (asked k : ℕ) : Type 0 where
  pub none_by_new : NoneChosen Rotated N T asked
  pub role : ℕ
  pub by_old : Chosen Same N T asked role
  pub reading : Reading
  pub returned : Returned Same N T role reading
  pub disagrees : Disagrees Rotated T reading k

-- 15, at the "least triangle that disagrees".
abbrev pub inside_out : ℕ → List ℕ → ℕ → Rule
inside_out N T asked = record { number = 15; given = InsideOut N T asked }

-- 12, "a frame not as required", is a row of `Frames`, where lines are.

-- 13: "program input above" what #105 allows, 16,396 bytes; of so many bytes.
abbrev pub input_too_long : ℕ → Rule
input_too_long bytes = record { number = 13; given = NoPlace (most_bytes < bytes) }

-- The rows that judge the length of an index list and its V, 2 to 4, in their order; F is a third of the entries.
abbrev pub size_rules : ℕ → ℕ → ℕ → List Rule
size_rules most N entries = not_threes entries ∷ no_triangle (entries / 3) ∷ too_large most N (entries / 3) ∷ []

-- The rows that judge the mesh itself, 6 to 10, in their order.
abbrev pub mesh_rules : ℕ → List ℕ → List Rule
mesh_rules N T = corner_not_below N T ∷ equal_corners T ∷ same_as_earlier T ∷ in_no_triangle N T ∷ not_connected T ∷ []

-- The rows that judge its readings: "15, in place of 11", and so before it.
abbrev pub reading_rules : ℕ → List ℕ → ℕ → List Rule
reading_rules N T asked = inside_out N T asked ∷ no_reading N T asked ∷ []

-- ---- which row is given

-- "least triangle", "least vertex": the least place at which a row is given.
pub record LeastPlace (given : ℕ → Type 0) (place : ℕ) : Type 0 where
  pub here : given place
  pub before : (earlier : ℕ) → earlier < place → given earlier → ⊥

-- No row of the list is given, at any place.
unfoldable pub Passed : List Rule → Type 0
Passed [] = Unit {0}
Passed (rule ∷ rules) = ((place : ℕ) → rule.given place → ⊥) × Passed rules

-- "Checked in this order": the first row that is given has the number, at its least place.
unfoldable pub Refused : List Rule → ℕ → ℕ → Type 0
Refused [] number place = ⊥
Refused (rule ∷ rules) number place =
    ((number ≡ rule.number) × LeastPlace rule.given place)
    ⊎ (((earlier : ℕ) → rule.given earlier → ⊥) × Refused rules number place)
