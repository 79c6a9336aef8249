-- `answers::levels::one_more` meets its contract: the six entries that it takes are the first six.
use native.Mathlib.Omega.{arith}
use Prim.Native.Nat.{ℕ, ◌+◌}
use mathlib.Core.Path.{ap}
use mathlib.Core.List.{List, ◌∷◌}
use Rattle.answers.specs.declared.levels.Levels.{Levels}
use Rattle.answers.proofs.Places.{first-six}
use Rattle.answers.proofs.levels.one_more.Goals as goal

-- one level more, with the roles after the new one
abbrev more : ℕ → Levels → List ℕ → Levels
more role rest others = record { levels = rest.levels + 1; left = rest.left; roles = role ∷ others }

pub returns : goal.returns
returns c = ap (more c.args.role c.args.rest) (first-six c.args.rest.roles (omega (arith, c.requires.places)))
