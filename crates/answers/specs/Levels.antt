-- What several levels come to, counted level by level.
use Rattle.std.specs.Prelude.{ℕ, ◌+◌, ◌-◌, ◌*◌, ◌≤◌, ◌<◌, ◌≡◌, List, ◌∷◌, length, take, replicate}
use Rattle.theory.specs.Limits.{most_levels}
use Rattle.theory.specs.Calls.{SeveralAnswer}
use Rattle.answers.specs.declared.counts.Counts.{Counts}
use Rattle.answers.specs.declared.levels.Levels.{Levels}
use Rattle.answers.specs.Counts.{accepted_counts}

-- Their answer; the roles stand in their places already.
abbrev pub answer_to_levels : Levels → SeveralAnswer
answer_to_levels undone = record {
  common = accepted_counts undone.left;
  levels = undone.levels;
  roles = undone.roles;
}

-- What `stop` is lent: F triangles, and room for them.
pub record StopLent (F : ℕ) (list out : List ℕ) : Type 0 where
  pub halves : 3 * F < 65536
  pub listed : 3 * F ≤ length list
  pub room : 3 * F ≤ length out

-- What `one_more` is lent: a role, and fewer levels than there are places.
pub record MoreLent (role : ℕ) (rest : Levels) : Type 0 where
  pub is_role : role ≤ 3
  pub few : rest.levels < most_levels
  pub places : length rest.roles ≡ most_levels

-- No level: the mesh of which so much is counted is left.
abbrev pub no_level : Counts → Levels
no_level counts = record { levels = 0; left = counts; roles = replicate most_levels 0 }

-- One level more, whose role stands in front of the others.
abbrev pub one_more : ℕ → Levels → Levels
one_more role rest = record {
  levels = rest.levels + 1;
  left = rest.left;
  roles = role ∷ take (most_levels - 1) rest.roles;
}
