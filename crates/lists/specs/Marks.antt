-- Marked indices and their ranks.
use Rattle.std.specs.Prelude.{ℕ, ◌≤◌, ◌<◌, ◌≡◌, Bool, not, List, eqb, length}
use Rattle.theory.specs.Mesh.{at}
use Rattle.theory.specs.Counting.{bit, count}

-- A mark is an entry other than 0.
abbrev pub marked : List ℕ → ℕ → Bool
marked marks i = not (eqb (at marks i) 0)

-- 1 for a mark, 0 for none.
abbrev pub bit_of : ℕ → ℕ
bit_of mark = bit (not (eqb mark 0))

-- What `ranks` is lent: n marks and room, within 16 bits.
pub record RanksLent (n : ℕ) (marks rank : List ℕ) : Type 0 where
  pub small : n < 65536
  pub marks_room : n ≤ length marks
  pub rank_room : n ≤ length rank

-- Each index has the number of marked ones before it; `total` are marked.
pub record RanksOf (n : ℕ) (marks : List ℕ) (total : ℕ) (rank : List ℕ) : Type 0 where
  pub entry : (i : ℕ) → i < n → at rank i ≡ count (marked marks) i
  pub all : total ≡ count (marked marks) n
