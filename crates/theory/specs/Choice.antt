-- Document 01, "Calls": which role an undo takes, and undo several level by level.
use Rattle.std.specs.Prelude.{ℕ, zero, suc, ◌≤◌, ◌<◌, List, [], ◌∷◌, ◌++◌, take, replicate}
use Rattle.theory.specs.Limits.{any_role, most_levels}
use Rattle.theory.specs.Mesh.{Rotated}
use Rattle.theory.specs.Reading.{Agreement, Reading, ReadingIn, Returned}

-- "the least role that has a reading".
pub record LeastRole (agree : Agreement) (N : ℕ) (T : List ℕ) (role : ℕ) : Type 0 where
  pub has : ReadingIn agree N T role
  pub before : (earlier : ℕ) → earlier < role → ReadingIn agree N T earlier → ⊥

-- No role has a reading.
pub record NoRole (agree : Agreement) (N : ℕ) (T : List ℕ) : Type 0 where
  pub none : (role : ℕ) → ReadingIn agree N T role → ⊥

-- Undo one: "Asked 0 to 3: that role. Asked 4: the least role that has a reading."
pub data Chosen (agree : Agreement) (N : ℕ) (T : List ℕ) : ℕ → ℕ → Type 0 where
  named : {role : ℕ} → role ≤ 3 → ReadingIn agree N T role → Chosen agree N T role role
  least : {role : ℕ} → LeastRole agree N T role → Chosen agree N T any_role role

-- "no reading in the role asked (asked 4: in any)".
pub data NoneChosen (agree : Agreement) (N : ℕ) (T : List ℕ) : ℕ → Type 0 where
  named : {role : ℕ} → role ≤ 3 → (ReadingIn agree N T role → ⊥) → NoneChosen agree N T role
  least : NoRole agree N T → NoneChosen agree N T any_role

-- Undo several, with an allowance of levels: the levels undone, the roles taken, and the mesh that is left.
-- "It stops when the asked number is reached or no reading exists", which is where 15 or 11 would be given (#103: "at
-- either number"); otherwise "the least role is taken, and the smaller mesh is treated the same way".
pub data Several : ℕ → ℕ → List ℕ → ℕ → List ℕ → ℕ → List ℕ → Type 0 where
  reached : {N : ℕ} {T : List ℕ} → Several zero N T zero [] N T
  stopped : {allowance N : ℕ} {T : List ℕ} → NoRole Rotated N T → Several (suc allowance) N T zero [] N T
  undone : {allowance N levels role M : ℕ} {T roles C : List ℕ} (r : Reading)
      → LeastRole Rotated N T role → Returned Rotated N T role r
      → Several allowance r.vertices r.mesh levels roles M C
      → Several (suc allowance) N T (suc levels) (role ∷ roles) M C

-- "The role taken at each level is kept in seven places of the answer; unused places are 0."
abbrev pub seven_places : List ℕ → List ℕ
seven_places roles = take most_levels (roles ++ replicate most_levels 0)
