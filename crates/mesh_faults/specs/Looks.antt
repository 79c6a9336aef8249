-- What the methods of a search for twins are lent, and do.
use Rattle.std.specs.Prelude.{ℕ, ◌≡◌, length}
use Rattle.mesh_faults.specs.Twins.{TwinLent, LastLent, TwinMet}
use Rattle.mesh_faults.specs.declared.TwinSearch.{TwinSearch}

-- The search reads the same tables, and keeps its stamps in the same one.
pub record SameTables (old new : TwinSearch) : Type 0 where
  pub number : new.n ≡ old.n
  pub ring : new.ring ≡ old.ring
  pub thirds : new.thirds ≡ old.thirds
  pub stamp : new.stamp.ghost_name ≡ old.stamp.ghost_name
  pub long : length new.stamp.now ≡ length old.stamp.now

-- What `look_at` is lent.
abbrev pub LookLent : ℕ → TwinSearch → Type 0
LookLent h search = TwinLent h search.n search.ring.now search.thirds.now search.stamp.now

-- What `walk_to` is lent.
abbrev pub WalkLent : ℕ → TwinSearch → Type 0
WalkLent h search = LastLent h search.n search.ring.now search.thirds.now search.stamp.now

-- The edges that end at h are looked at too, from `least` on.
abbrev pub Looked : ℕ → ℕ → TwinSearch → ℕ → TwinSearch → Type 0
Looked h least old least' new = TwinMet h old.n old.ring.now old.thirds.now least old.stamp.now least' new.stamp.now
