-- What the promises of the two calls for index texts say of one another, limits and room included: written text reads
-- back to the mesh, what is read and written again is a normal spelling, which stays as it is, how long a written text
-- is at most, and which refusals are given at all. Last, each call as a function that keeps its promise.
use Prim.Native.Nat.{ℕ, ◌*◌, ◌%◌, ◌≤◌}
use native.Mathlib.Omega.{arith}
use mathlib.Core.Path.{◌≡◌, refl, sym, ap, ap₂, ◌∙◌, subst}
use mathlib.Core.Bool.{true, false, ◌||◌}
use mathlib.Core.Logic.{◌⊎◌, inl, inr}
use mathlib.Core.List.{List, [], ◌∷◌}
use borrow.Author.Tests.{ltb-true, ltb-false, eqb-true, eqb-false}
use lib.Dec.{ltb, eqb}
use lib.ListN.{length, length-take}
use Rattle.theory.specs.Limits.{most_triangles, most_vertices}
use Rattle.theory.specs.Mesh.{triangles}
use Rattle.theory.specs.Refusals.{Rule, Room, Short, not_threes, too_large, too_short, Passed, Refused}
use Rattle.theory.specs.Calls.{written}
use Rattle.theory.specs.Frames.{FramesAnswer, frames_refusal, frames_accepted, read_rooms}
use Rattle.theory.specs.Index.{Faces, faces, wrong_at, text_says, face_count, text_wrong, read_index_rules, ReadsIndex}
use Rattle.theory.specs.Index.{index_text, TextAnswer, text_refusal, text_accepted, write_index_rules, WritesIndex}
use Rattle.theory.specs.Demands.{found_corners, found_text, NormalSpelling}
use Rattle.theory.proofs.Refusals.{at-place-0, refused-above, refused-number, not-given, large-within}
use Rattle.theory.proofs.Refusals.{within-large, none-short-fits, fits-none-short, Fitting}
use Rattle.theory.proofs.Refusals.{fitting-passed, passed-fitting}
use Rattle.theory.proofs.Determined.{reads-index-determined, writes-index-determined}
use Rattle.theory.proofs.Results.{take-written}
use Rattle.theory.proofs.Reader.{within-limits, above-limits, by-test}
use Rattle.theory.proofs.FrameDemands.{FourDigitCorners}
use Rattle.theory.proofs.Index.{index_text-length, text-back, text-whole, text-corners}

-- ---- which refusals are given

-- "Refusals 14, 4, 5": reading answers no other number
pub read-index-refusals : {N : ℕ} {text out out' : List ℕ} {answer : FramesAnswer} → ReadsIndex N text out answer out'
    → (answer.refusal ≡ 0) ⊎ ((answer.refusal ≡ 14) ⊎ ((answer.refusal ≡ 4) ⊎ (answer.refusal ≡ 5)))
read-index-refusals {N} {text} {out} (ReadsIndex.refuses n p R e _) =
    inr (subst (λ (m : ℕ). (m ≡ 14) ⊎ ((m ≡ 4) ⊎ (m ≡ 5))) (ap (λ (a : FramesAnswer). a.refusal) (sym e))
    (refused-number (read_index_rules N text (length out)) n p R))
read-index-refusals (ReadsIndex.accepts _ _ _ e _) = inl (ap (λ (a : FramesAnswer). a.refusal) e)

-- "Refusals 2, 4, 5": writing answers no other number
pub write-index-refusals : {N : ℕ} {T out out' : List ℕ} {answer : TextAnswer} → WritesIndex N T out answer out'
    → (answer.common.refusal ≡ 0)
    ⊎ ((answer.common.refusal ≡ 2) ⊎ ((answer.common.refusal ≡ 4) ⊎ (answer.common.refusal ≡ 5)))
write-index-refusals {N} {T} {out} (WritesIndex.refuses n p R e _) =
    inr (subst (λ (m : ℕ). (m ≡ 2) ⊎ ((m ≡ 4) ⊎ (m ≡ 5))) (ap (λ (a : TextAnswer). a.common.refusal) (sym e))
    (refused-number (write_index_rules N T (length out)) n p R))
write-index-refusals (WritesIndex.accepts _ e _) = inl (ap (λ (a : TextAnswer). a.common.refusal) e)

-- ---- what writing accepts

-- A mesh that can be written: whole, within the limits, and its text fits into the room. No corner is judged.
abbrev pub TextWritable : ℕ → List ℕ → ℕ → Type 0
TextWritable N T room = Fitting N (length T) (record { lent = room; needed = length (index_text T) })

-- it is refused by no row
pub text-writable-passed : (N : ℕ) (T out : List ℕ) → TextWritable N T (length out)
    → Passed (write_index_rules N T (length out))
text-writable-passed N T out W = fitting-passed N (length T) _ W

-- and what is refused by no row is such a mesh
pub passed-text-writable : (N : ℕ) (T out : List ℕ) → Passed (write_index_rules N T (length out))
    → TextWritable N T (length out)
passed-text-writable N T out passed = passed-fitting N (length T) _ passed

-- What an acceptance by writing says, of the text as a caller finds it.
pub record TextWrote (N : ℕ) (T out : List ℕ) (answer : TextAnswer) (out' : List ℕ) : Type 0 where
  pub writable : TextWritable N T (length out)
  pub found : found_text answer out' ≡ index_text T

-- where writing refuses nothing, it is such an acceptance
pub text-write-accepted : {N : ℕ} {T out out' : List ℕ} {answer : TextAnswer} → WritesIndex N T out answer out'
    → answer.common.refusal ≡ 0 → TextWrote N T out answer out'
text-write-accepted (WritesIndex.refuses n p R e _) accepts = absurd (omega (
  arith,
  refused-above _ n p R (omega arith),
  ap (λ (a : TextAnswer). a.common.refusal) e,
  accepts,
))
text-write-accepted {N} {T} {out} (WritesIndex.accepts passed e f) accepts = record {
  writable = passed-text-writable N T out passed;
  found = ap₂ found_text e f ∙ take-written (index_text T) out refl;
}

-- "the writer's length is at most 21F bytes"; a refusal writes none
pub written-at-most : {N : ℕ} {T out out' : List ℕ} {answer : TextAnswer} → WritesIndex N T out answer out'
    → answer.bytes ≤ 21 * triangles T
written-at-most (WritesIndex.refuses n p R e _) = omega (arith, ap (λ (a : TextAnswer). a.bytes) e)
written-at-most {T} (WritesIndex.accepts _ e _) =
    omega (arith, ap (λ (a : TextAnswer). a.bytes) e, index_text-length T)

-- ---- what reading accepts

-- A text that can be read: it says a list of faces, within the limits, that fits into the room.
pub record TextReadable (N : ℕ) (text T : List ℕ) (room : ℕ) : Type 0 where
  pub says : text_says text ≡ faces T
  pub few : triangles T ≤ most_triangles
  pub low : N ≤ most_vertices
  pub fits : 3 * triangles T ≤ room

-- it is refused by no row
pub text-readable-passed : (N : ℕ) (text T out : List ℕ) → TextReadable N text T (length out)
    → Passed (read_index_rules N text (length out))
unfolding Passed face_count
text-readable-passed N text T out R =
    let count : face_count (text_says text) ≡ triangles T = ap face_count R.says in (
      λ place g. let z : ◌≡◌ {A = ℕ} 0 1 = cc R.says in absurd (omega arith),
      (
        λ place g. within-large R.few R.low (rw count at g).0,
        (λ place g. fits-none-short (read_rooms (triangles T) (length out)) (R.fits, tt) (rw count at g).0, tt),
      ),
    )

-- a list that is said by a text which is refused by no row can be read from it
pub said-readable : (N : ℕ) (text T out : List ℕ) → Passed (read_index_rules N text (length out))
    → text_says text ≡ faces T → TextReadable N text T (length out)
unfolding Passed face_count
said-readable N text T out passed says =
    let count : face_count (text_says text) ≡ triangles T = ap face_count says in
    let rooms : List Room = read_rooms (face_count (text_says text)) (length out) in
    let limits = large-within most_triangles N (face_count (text_says text)) passed.1.0 in
    let fits = (none-short-fits rooms (not-given (Short rooms) passed.1.1.0)).0 in
    record { says = says; few = omega (arith, limits.0); low = limits.1; fits = omega (arith, fits) }

-- and a text that is refused by no row says one
pub passed-text-readable : (N : ℕ) (text out : List ℕ) → Passed (read_index_rules N text (length out))
    → (T : List ℕ) × TextReadable N text T (length out)
unfolding Passed
passed-text-readable N text out passed = go (text_says text) refl
  where
    go : (said : Faces) → text_says text ≡ said → (T : List ℕ) × TextReadable N text T (length out)
    go (faces T) e = (T, said-readable N text T out passed e)
    go (wrong_at place) e = absurd (passed.0 place e)

-- where a text is at fault, 14 is given, and only there
pub fault-refused : (N : ℕ) (text : List ℕ) (room place : ℕ) → text_says text ≡ wrong_at place
    → Refused (read_index_rules N text room) 14 place
unfolding Refused
fault-refused N text room place e =
    inl (refl, record { here = e; before = λ earlier l g. omega (arith, one earlier g) })
  where
    one : (other : ℕ) → text_says text ≡ wrong_at other → other ≡ place
    one other g = cc

-- What an acceptance by reading says, of the mesh as a caller finds it.
pub record TextFound (N : ℕ) (text out : List ℕ) (answer : FramesAnswer) (out' : List ℕ) : Type 0 where
  pub counted : triangles (found_corners answer out') ≡ answer.triangles
  pub vertices : answer.vertices ≡ N
  pub readable : TextReadable N text (found_corners answer out') (length out)

-- where reading refuses nothing, it is such an acceptance
pub text-read-accepted : {N : ℕ} {text out out' : List ℕ} {answer : FramesAnswer} → ReadsIndex N text out answer out'
    → answer.refusal ≡ 0 → TextFound N text out answer out'
text-read-accepted (ReadsIndex.refuses n p R e _) accepts =
    absurd (omega (arith, refused-above _ n p R (omega arith), ap (λ (a : FramesAnswer). a.refusal) e, accepts))
text-read-accepted {N} {text} {out} {out'} {answer} (ReadsIndex.accepts T passed says e f) accepts =
    let found : found_corners answer out' ≡ T = ap₂ found_corners e f ∙ take-written T out (text-whole text T says) in
    record {
      counted = ap triangles found ∙ ap (λ (a : FramesAnswer). a.triangles) (sym e);
      vertices = ap (λ (a : FramesAnswer). a.vertices) e;
      readable = rw found (said-readable N text T out passed says);
    }

-- ---- written text reads back to the mesh

module _ {N : ℕ} {T o o' : List ℕ} {a : TextAnswer} (W : WritesIndex N T o a o') (accepts : a.common.refusal ≡ 0)
    (small : FourDigitCorners T) where
  -- the text that writing left can be read, and says the mesh
  written-text-readable : {room : ℕ} → 3 * triangles T ≤ room → TextReadable N (found_text a o') T room
  written-text-readable enough =
      let w = text-write-accepted W accepts in
      record {
        says = ap (λ (text : List ℕ). text_says text) w.found ∙ text-back T w.writable.whole small;
        few = w.writable.few;
        low = w.writable.low;
        fits = enough;
      }

  -- text that was written is accepted by reading, with room enough, and leaves the mesh in the buffer
  pub written-text-accepted : {out : List ℕ} → 3 * triangles T ≤ length out
      → ReadsIndex N (found_text a o') out (frames_accepted N (triangles T)) (written T out)
  written-text-accepted {out} enough =
      let r = written-text-readable enough in
      ReadsIndex.accepts T (text-readable-passed N (found_text a o') T out r) r.says refl refl

  -- no other result keeps reading's promise: it reads back to the mesh, and the rest of the buffer stays
  pub written-text-reads-back : {out out' : List ℕ} {answer : FramesAnswer} → 3 * triangles T ≤ length out
      → ReadsIndex N (found_text a o') out answer out'
      → (answer ≡ frames_accepted N (triangles T)) × (out' ≡ written T out)
  written-text-reads-back enough R = reads-index-determined R (written-text-accepted enough)

-- ---- what is read and written again is a normal spelling

-- The text that writing left is a normal spelling and says what another text says.
pub record Respelled (text : List ℕ) (a : TextAnswer) (o' : List ℕ) : Type 0 where
  pub accepted : a.common.refusal ≡ 0
  pub normal : NormalSpelling (found_text a o')
  pub same : text_says (found_text a o') ≡ text_says text

module _ {N : ℕ} {text out out' : List ℕ} {answer : FramesAnswer} (R : ReadsIndex N text out answer out')
    (accepts : answer.refusal ≡ 0) where
  -- the text says the corners that were read
  text-says-found : text_says text ≡ faces (found_corners answer out')
  text-says-found = (text-read-accepted R accepts).readable.says

  -- which are of 16 bits
  found-small : FourDigitCorners (found_corners answer out')
  found-small = text-corners text (found_corners answer out') text-says-found

  -- and are a whole mesh
  found-whole : length (found_corners answer out') ≡ 3 * triangles (found_corners answer out')
  found-whole = text-whole text (found_corners answer out') text-says-found

  -- a mesh that was read is accepted by writing, with room enough, and leaves its text in the buffer
  pub read-text-can-be-written : {o : List ℕ} → length (index_text (found_corners answer out')) ≤ length o
      → WritesIndex answer.vertices (found_corners answer out') o
      (text_accepted answer.vertices answer.triangles (length (index_text (found_corners answer out'))))
      (written (index_text (found_corners answer out')) o)
  read-text-can-be-written {o} enough =
      let T : List ℕ = found_corners answer out' in
      let r = text-read-accepted R accepts in
      WritesIndex.accepts
      (text-writable-passed answer.vertices T o (record {
        whole = found-whole;
        few = r.readable.few;
        low = omega (arith, r.vertices, r.readable.low);
        fits = enough;
      }))
      (ap (λ (F : ℕ). text_accepted answer.vertices F (length (index_text T))) (sym r.counted)) refl

  -- no other result keeps writing's promise
  pub read-text-writes-back : {o o' : List ℕ} {a : TextAnswer}
      → length (index_text (found_corners answer out')) ≤ length o
      → WritesIndex answer.vertices (found_corners answer out') o a o'
      → (a ≡ text_accepted answer.vertices answer.triangles (length (index_text (found_corners answer out'))))
      × (o' ≡ written (index_text (found_corners answer out')) o)
  read-text-writes-back enough W = writes-index-determined W (read-text-can-be-written enough)

  -- what is read and written again is a normal spelling of the same corners
  pub read-text-respelled : {o o' : List ℕ} {a : TextAnswer} → length (index_text (found_corners answer out')) ≤ length o
      → WritesIndex answer.vertices (found_corners answer out') o a o' → Respelled text a o'
  read-text-respelled {o} {o'} {a} enough W =
      let T : List ℕ = found_corners answer out' in
      let accepted : a.common.refusal ≡ 0 =
      ap (λ (b : TextAnswer). b.common.refusal) (read-text-writes-back enough W).0 in
      let spelled : found_text a o' ≡ index_text T = (text-write-accepted W accepted).found in
      let says : text_says (found_text a o') ≡ faces T =
      ap (λ (t : List ℕ). text_says t) spelled ∙ text-back T found-whole found-small in
      record {
        accepted = accepted;
        normal = record { list = T; says = says; spelled = spelled };
        same = says ∙ sym text-says-found;
      }

  -- a normal spelling is read and written again as it is
  pub normal-stays : {o o' : List ℕ} {a : TextAnswer} → NormalSpelling text → length text ≤ length o
      → WritesIndex answer.vertices (found_corners answer out') o a o' → found_text a o' ≡ text
  normal-stays {o} normal enough W =
      let said : faces (found_corners answer out') ≡ faces normal.list = sym text-says-found ∙ normal.says in
      let list : found_corners answer out' ≡ normal.list = cc in
      let same : index_text (found_corners answer out') ≡ text = ap index_text list ∙ sym normal.spelled in
      let fits : length (index_text (found_corners answer out')) ≤ length o = rw same enough in
      (text-write-accepted W (read-text-respelled fits W).accepted).found ∙ same

-- ---- to read and to write once more changes nothing

module _ {N : ℕ} {text out out' : List ℕ} {answer : FramesAnswer} (R : ReadsIndex N text out answer out')
    (accepts : answer.refusal ≡ 0) {o o' : List ℕ} {a : TextAnswer}
    (enough : length (index_text (found_corners answer out')) ≤ length o)
    (W : WritesIndex answer.vertices (found_corners answer out') o a o') {next next' : List ℕ} {again : FramesAnswer}
    (room : 3 * answer.triangles ≤ length next)
    (S : ReadsIndex answer.vertices (found_text a o') next again next') where
  -- the text that was written is a normal spelling
  respelled : Respelled text a o'
  respelled = read-text-respelled R accepts enough W

  -- and reads back
  reread : (again ≡ frames_accepted answer.vertices (triangles (found_corners answer out')))
      × (next' ≡ written (found_corners answer out') next)
  reread =
      written-text-reads-back W respelled.accepted (found-small R accepts)
      (omega (arith, room, (text-read-accepted R accepts).counted)) S

  -- it is read as the text before it was
  pub respelled-answered : again ≡ frames_accepted answer.vertices answer.triangles
  respelled-answered = reread.0 ∙ ap (frames_accepted answer.vertices) (text-read-accepted R accepts).counted

  -- with the same corners
  pub respelled-read : found_corners again next' ≡ found_corners answer out'
  respelled-read =
      ap₂ found_corners reread.0 reread.1
      ∙ take-written (found_corners answer out') next (found-whole R accepts)

  -- which are written as the same bytes
  pub respelled-stays : {p p' : List ℕ} {b : TextAnswer} → a.bytes ≤ length p
      → WritesIndex again.vertices (found_corners again next') p b p' → found_text b p' ≡ found_text a o'
  respelled-stays fits X =
      let short : length (found_text a o') ≤ a.bytes = simp length-take (omega arith) in
      normal-stays S (ap (λ (b : FramesAnswer). b.refusal) respelled-answered) respelled.normal (omega arith) X

-- ---- the calls as functions

-- What the rows 4 and 5 come to: a refusal with one of the two numbers, or what is accepted.
unfoldable pub sized_result : {A : Type 0} → ℕ → ℕ → Room → (ℕ → A) → A → A
sized_result N F room refuse accept =
    elim (ltb most_triangles F || ltb most_vertices N) [
      | true ↦ refuse 4
      | false ↦ elim (ltb room.lent room.needed) [ true ↦ refuse 5 | false ↦ accept ]
    ]

module _ (first : Rule) (right : (place : ℕ) → first.given place → ⊥) (N F : ℕ) (room : Room) where
  -- The rows 4 and 5 after a row that is not given.
  abbrev rows : List Rule
  rows = first ∷ too_large most_triangles N F ∷ too_short (room ∷ []) ∷ []

  -- what is true of a refusal by them and of an acceptance is true of what they come to
  sized-result : {A : Type 0} (P : A → Type 0) {refuse : ℕ → A} {accept : A}
      → ((number : ℕ) → Refused rows number 0 → P (refuse number)) → (Passed rows → P accept)
      → P (sized_result N F room refuse accept)
  unfolding sized_result Refused Passed Short
  sized-result P {refuse} {accept} refused passed =
      by-test P (ltb most_triangles F || ltb most_vertices N)
      (λ t. refused 4 (inr (right, inl (refl, at-place-0 (above-limits _ _ _ _ t))))) λ f.
      let limits : (F ≤ most_triangles) × (N ≤ most_vertices) = within-limits _ _ _ _ f in
      let few : (place : ℕ) → (too_large most_triangles N F).given place → ⊥ =
      λ place g. within-large limits.0 limits.1 g.0 in
      by-test P (ltb room.lent room.needed)
      (λ t. refused 5 (inr (right, inr (few, inl (refl, at-place-0 (inl (ltb-true _ _ t))))))) λ f.
      passed (right, (few, ((λ place g. fits-none-short (room ∷ []) (ltb-false _ _ f, tt) g.0), tt)))

-- What reading answers and writes in front of so many entries, by what the text says.
unfoldable pub read_result : ℕ → ℕ → Faces → FramesAnswer × List ℕ
read_result N lent (wrong_at place) = (frames_refusal 14 place, [])
read_result N lent (faces T) =
    sized_result N (triangles T) (record { lent = lent; needed = 3 * triangles T })
    (λ number. (frames_refusal number 0, [])) (frames_accepted N (triangles T), T)

-- that keeps reading's promise
pub reads-result : (N : ℕ) (text out : List ℕ)
    → let result = read_result N (length out) (text_says text) in
    ReadsIndex N text out result.0 (written result.1 out)
unfolding read_result face_count Refused
reads-result N text out = go (text_says text) refl
  where
    go : (said : Faces) → text_says text ≡ said
        → ReadsIndex N text out (read_result N (length out) said).0 (written (read_result N (length out) said).1 out)
    go (wrong_at place) e = ReadsIndex.refuses 14 place (fault-refused N text (length out) place e) refl refl
    go (faces T) e =
        let count : face_count (text_says text) ≡ triangles T = ap face_count e in
        sized-result (text_wrong text) (λ place g. let z : ◌≡◌ {A = ℕ} 0 1 = cc (e, g) in absurd (omega arith))
        N (triangles T) (record { lent = length out; needed = 3 * triangles T })
        (λ (r : FramesAnswer × List ℕ). ReadsIndex N text out r.0 (written r.1 out))
        (λ number refused. ReadsIndex.refuses number 0 (rw count refused) refl refl)
        (λ passed. ReadsIndex.accepts T (rw count passed) e refl refl)

-- What writing answers and writes in front of so many bytes.
unfoldable pub write_result : ℕ → ℕ → List ℕ → TextAnswer × List ℕ
write_result N lent T =
    elim (eqb (length T % 3) 0) [
      | true ↦ sized_result N (triangles T) (record { lent = lent; needed = length (index_text T) })
          (λ number. (text_refusal number 0, []))
          (text_accepted N (triangles T) (length (index_text T)), index_text T)
      | false ↦ (text_refusal 2 0, [])
    ]

-- that keeps writing's promise
pub writes-result : (N : ℕ) (T out : List ℕ)
    → let result = write_result N (length out) T in
    WritesIndex N T out result.0 (written result.1 out)
unfolding write_result Refused
writes-result N T out =
    let Kept : TextAnswer × List ℕ → Type 0 = λ r. WritesIndex N T out r.0 (written r.1 out) in
    by-test Kept (eqb (length T % 3) 0)
    (λ t. sized-result (not_threes (length T)) (λ place g. g.0 (eqb-true _ _ t))
    N (triangles T) (record { lent = length out; needed = length (index_text T) }) Kept
    (λ number refused. WritesIndex.refuses number 0 refused refl refl)
    (λ passed. WritesIndex.accepts passed refl refl))
    (λ f. WritesIndex.refuses 2 0 (inl (refl, at-place-0 (eqb-false _ _ f))) refl refl)
