-- What reading standard input may answer.
use Rattle.std.specs.Prelude.{ℕ, Result, Ok, Err}

-- How many bytes were read; none that count where reading failed.
abbrev pub bytes_read : {E : Type 0} → Result ℕ E → ℕ
bytes_read (Ok count) = count
bytes_read (Err _) = 0
