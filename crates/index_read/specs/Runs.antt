-- The runs of a text as the readers meet them: where the next one starts, its bytes, and what each case of an answer
-- says.
use Rattle.std.specs.Prelude.{ℕ, ◌+◌, ◌≤◌, ◌<◌, ◌≡◌, Bool, true, false, not, ◌&&◌, List, [], ◌∷◌, eqb, ltb, length, drop, Option, Some, None, IfSome}
use Rattle.theory.specs.Mesh.{at}
use Rattle.theory.specs.Index.{comment_start, runs, Said, corner, close, wrong, is_minus_one, says}
use Rattle.index_read.specs.Bytes.{ends_run}
use Rattle.index_read.specs.declared.runs.Run.{Run}
use Rattle.index_read.specs.declared.runs.Run.TheVariants as run

-- ---- bytes at a place

-- Whether a byte stands there that ends no run.
unfoldable pub goes_on : List ℕ → ℕ → Bool
goes_on text place = ltb place (length text) && not (ends_run (at text place))

-- Whether the # of a comment stands there.
unfoldable pub comment_at : List ℕ → ℕ → Bool
comment_at text place = ltb place (length text) && comment_start (at text place)

-- Whether -1 stands there, and ends a run.
unfoldable pub close_at : List ℕ → ℕ → Bool
close_at text place =
    (eqb (at text place) 45 && (ltb (place + 1) (length text) && eqb (at text (place + 1)) 49))
    && not (goes_on text (place + 2))

-- "a longest stretch": the bytes in front that end no run.
unfoldable pub stretch : List ℕ → List ℕ
stretch [] = []
stretch (byte ∷ bytes) = elim (ends_run byte) [ true ↦ [] | false ↦ byte ∷ stretch bytes ]

-- ---- where a run starts

-- The runs from a place on, which is in no comment, are those from another on, which is in none either.
pub record SameRuns (text : List ℕ) (from next : ℕ) : Type 0 where
  pub onward : from ≤ next
  pub within : next ≤ length text
  pub same : runs false from (drop from text) ≡ runs false next (drop next text)

-- At the next place a run starts, or the text ends.
pub record NextRun (text : List ℕ) (from next : ℕ) : Type 0 where
  pub passed : SameRuns text from next
  pub starts : next < length text → goes_on text next ≡ true

-- ---- what it says

-- A run starts at the place.
pub record RunLent (text : List ℕ) (from : ℕ) : Type 0 where
  pub inside : from < length text
  pub starts : goes_on text from ≡ true

-- One that is not -1.
pub record NumberLent (text : List ℕ) (from : ℕ) : Type 0 where
  pub lent : RunLent text from
  pub number : is_minus_one (stretch (drop from text)) ≡ false

-- What a right run says.
abbrev pub said_by : Run → Said
said_by (run.Corner value) = corner value
said_by run.Close = close

-- What a run says, by the cases of the answer.
abbrev pub said_of : Option (Run × ℕ) → Said
said_of (Some (run, end)) = said_by run
said_of None = wrong

-- The answer says what the run does that starts at the place, and where it is right, it ends after its bytes.
pub record RunTaken (text : List ℕ) (from : ℕ) (answer : Option (Run × ℕ)) : Type 0 where
  pub said : said_of answer ≡ says (stretch (drop from text))
  pub ends : IfSome answer (λ taken. taken.1 ≡ from + length (stretch (drop from text)))
