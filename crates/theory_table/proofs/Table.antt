-- The claim of the tables, `starred-holds`, `index-texts-hold` and `spellings-hold`: every row's result is what the
-- call's promise allows on the row's input, and all that it allows. All rows of a table are tested by one computation;
-- that a row which passes its test is satisfied is proved for all rows at once, and that the promise allows nothing
-- else comes from `Determined`.
use mathlib.Core.Bool.{Bool, true, ◌&&◌}
use mathlib.Core.List.Memᴰ.{head as first}
use mathlib.Core.List.Memᴰ.{tail as later}
use mathlib.Core.List.{List, [], ◌∷◌, Memᴰ as Member}
use lib.Dec.{T as So}
use Rattle.theory.proofs.Tests.{and_sound}
use Rattle.theory.proofs.Determined.{splits-determined, undoes-one-determined, undoes-several-determined}
use Rattle.theory.proofs.Determined.{reads-frames-determined, reads-index-determined, writes-index-determined}
use Rattle.theory_table.specs.Table.{Row, splits, undoes_one, undoes_several, reads, reads_index, writes_index}
use Rattle.theory_table.specs.Table.{Satisfied, Only, Holds, starred, index_texts, spellings}
use Rattle.theory_table.proofs.SplitTests.{split_test, split_test-sound}
use Rattle.theory_table.proofs.UndoTests.{one_test, one_test-sound, undo_several_test, undo_several_test-sound}
use Rattle.theory_table.proofs.FrameTests.{read_row_test, read_row_test-sound}
use Rattle.theory_table.proofs.IndexTests.{read_index_test, read_index_test-sound, write_index_test, write_index_test-sound}

-- whether a row holds
unfoldable pub row_test : Row → Bool
unfolding split_test one_test undo_several_test read_row_test read_index_test write_index_test
row_test (splits N T answer new) = split_test N T answer new
row_test (undoes_one N T asked answer new) = one_test N T asked answer new
row_test (undoes_several N T asked answer new) = undo_several_test N T asked answer new
row_test (reads room bytes answer new) = read_row_test room bytes answer new
row_test (reads_index N text lent answer new) = read_index_test N text lent answer new
row_test (writes_index N T lent answer new) = write_index_test N T lent answer new

-- then its result satisfies the call's promise
row_test-sound : (row : Row) → So (row_test row) → Satisfied row
unfolding row_test
row_test-sound (splits N T answer new) t = split_test-sound N T answer new t
row_test-sound (undoes_one N T asked answer new) t = one_test-sound N T asked answer new t
row_test-sound (undoes_several N T asked answer new) t = undo_several_test-sound N T asked answer new t
row_test-sound (reads room bytes answer new) t = read_row_test-sound room bytes answer new t
row_test-sound (reads_index N text lent answer new) t = read_index_test-sound N text lent answer new t
row_test-sound (writes_index N T lent answer new) t = write_index_test-sound N T lent answer new t

-- whether all rows hold
unfoldable pub rows_test : List Row → Bool
unfolding row_test
rows_test [] = true
rows_test (row ∷ rows) =
    let others : Bool = rows_test rows in
    row_test row && others

-- then each row's result satisfies the call's promise
rows_test-sound : (rows : List Row) → So (rows_test rows) → (row : Row) → Member row rows → Satisfied row
unfolding rows_test
rows_test-sound [] t other x'' = elim x'' [ ]
rows_test-sound (row ∷ rows) t other (first e) =
    rw e (row_test-sound row (and_sound (row_test row) (rows_test rows) t).0)
rows_test-sound (row ∷ rows) t other (later m) =
    rows_test-sound rows (and_sound (row_test row) (rows_test rows) t).1 other m

-- where a row's result satisfies the promise, nothing else does
satisfied-only : (row : Row) → Satisfied row → Only row
unfolding Satisfied Only
satisfied-only (splits N T answer new) S = λ out works enough a o w P. splits-determined P (S out works enough)
satisfied-only (undoes_one N T asked answer new) S =
    λ out works enough a o w P. undoes-one-determined P (S out works enough)
satisfied-only (undoes_several N T asked answer new) S =
    λ out works enough a o w P. undoes-several-determined P (S out works enough)
satisfied-only (reads room bytes answer new) S = λ out enough a o P. reads-frames-determined P (S out enough)
satisfied-only (reads_index N text lent answer new) S = λ out e a o P. reads-index-determined P (S out e)
satisfied-only (writes_index N T lent answer new) S = λ out e a o P. writes-index-determined P (S out e)

-- where all rows of a table pass their tests, every row of it holds
rows-hold : (rows : List Row) → So (rows_test rows) → (row : Row) → Member row rows → Holds row
rows-hold rows t row m =
    let satisfied : Satisfied row = rows_test-sound rows t row m in
    record { satisfied = satisfied; only = satisfied-only row satisfied }

-- every row of the starred meshes passes its test: where this is refused, some row is wrong
starred-passes : So (rows_test starred)
unfolding rows_test starred
starred-passes = tt

-- the claim of that table: every row of it holds
pub starred-holds : (row : Row) → Member row starred → Holds row
starred-holds = rows-hold starred starred-passes

-- every row of the index texts passes its test
index-texts-pass : So (rows_test index_texts)
unfolding rows_test index_texts
index-texts-pass = tt

-- and holds
pub index-texts-hold : (row : Row) → Member row index_texts → Holds row
index-texts-hold = rows-hold index_texts index-texts-pass

-- every row of the spellings passes its test
spellings-pass : So (rows_test spellings)
unfolding rows_test spellings
spellings-pass = tt

-- and holds
pub spellings-hold : (row : Row) → Member row spellings → Holds row
spellings-hold = rows-hold spellings spellings-pass
