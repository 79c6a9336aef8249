-- What a byte may be, in one word each.
use Rattle.std.specs.Prelude.{ℕ, Bool, ◌||◌}
use Rattle.theory.specs.Index.{separator, comment_start}

-- "a run ends at a separator, #".
unfoldable pub ends_run : ℕ → Bool
ends_run byte = separator byte || comment_start byte
