-- Whether a row of reading or of writing an index text holds, as tests that compute: the call as a function gives the
-- row's result.
use Prim.Native.Nat.{ℕ}
use mathlib.Core.Path.{◌≡◌, subst₂}
use mathlib.Core.Bool.{Bool, ◌&&◌}
use mathlib.Core.List.{List}
use lib.Dec.{T as So}
use lib.ListN.{length}
use Rattle.theory.specs.Calls.{written}
use Rattle.theory.specs.Frames.{FramesAnswer}
use Rattle.theory.specs.Index.{separator, comment_start, line_end, joined, runs, decimal_value, corner_said, is_minus_one}
use Rattle.theory.specs.Index.{says, face_after, corners_said, faces_from, text_says, ReadsIndex}
use Rattle.theory.specs.Index.{digits_needed, last_digits, decimal, corner_text, gap, face_text, faces_text, index_text}
use Rattle.theory.specs.Index.{TextAnswer, WritesIndex}
use Rattle.theory.proofs.Tests.{and_sound}
use Rattle.theory.proofs.IndexDemands.{sized_result, read_result, reads-result, write_result, writes-result}
use Rattle.theory_table.specs.Table.{reads_index, writes_index, Satisfied}
use Rattle.theory_table.proofs.Equal.{equal_lists, equal_lists-sound, equal_frames, equal_frames-sound}
use Rattle.theory_table.proofs.Equal.{equal_texts, equal_texts-sound}

-- what is true of a result is true of an answer and entries that equal its own
equal-result : {A : Type 0} (equal : A → A → Bool) → ((a b : A) → So (equal a b) → a ≡ b) → (P : A → List ℕ → Type 0)
    → (result : A × List ℕ) (answer : A) (new : List ℕ) → So (equal result.0 answer && equal_lists result.1 new)
    → P result.0 result.1 → P answer new
equal-result equal sound P result answer new t kept =
    let both = and_sound (equal result.0 answer) (equal_lists result.1 new) t in
    subst₂ P (sound result.0 answer both.0) (equal_lists-sound result.1 new both.1) kept

-- the row of reading
unfoldable pub read_index_test : ℕ → List ℕ → ℕ → FramesAnswer → List ℕ → Bool
unfolding equal_frames equal_lists read_result sized_result text_says faces_from face_after corners_said
    says corner_said is_minus_one decimal_value runs joined separator comment_start line_end
read_index_test N text lent answer new =
    let result : FramesAnswer × List ℕ = read_result N lent (text_says text) in
    equal_frames result.0 answer && equal_lists result.1 new

-- then its result satisfies the promise
pub read_index_test-sound : (N : ℕ) (text : List ℕ) (lent : ℕ) (answer : FramesAnswer) (new : List ℕ)
    → So (read_index_test N text lent answer new) → Satisfied (reads_index N text lent answer new)
unfolding read_index_test Satisfied
read_index_test-sound N text lent answer new t out e =
    equal-result equal_frames equal_frames-sound (λ a n. ReadsIndex N text out a (written n out))
    (read_result N (length out) (text_says text)) answer new (rw e t) (reads-result N text out)

-- the row of writing
unfoldable pub write_index_test : ℕ → List ℕ → ℕ → TextAnswer → List ℕ → Bool
unfolding equal_texts equal_lists write_result sized_result index_text faces_text face_text gap corner_text
    decimal last_digits digits_needed
write_index_test N T lent answer new =
    let result : TextAnswer × List ℕ = write_result N lent T in
    equal_texts result.0 answer && equal_lists result.1 new

-- then its result satisfies the promise
pub write_index_test-sound : (N : ℕ) (T : List ℕ) (lent : ℕ) (answer : TextAnswer) (new : List ℕ)
    → So (write_index_test N T lent answer new) → Satisfied (writes_index N T lent answer new)
unfolding write_index_test Satisfied
write_index_test-sound N T lent answer new t out e =
    equal-result equal_texts equal_texts-sound (λ a n. WritesIndex N T out a (written n out))
    (write_result N (length out) T) answer new (rw e t) (writes-result N T out)
