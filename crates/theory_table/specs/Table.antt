-- Document 01, "Meshes to try": "The starred meshes form a single table under a single proved claim." Here are the
-- rows, what one row claims, and the table; and two more tables, the index texts of document 02's #101 and the
-- spellings of frames of its #105. That every row holds is `starred-holds`, `index-texts-hold` and `spellings-hold` in
-- `proofs/Table`. To add a row is one line of `starred`, `index_texts` or `spellings`.
use Rattle.std.specs.Prelude.{ℕ, zero, suc, ◌≤◌, ◌≡◌, List, [], ◌∷◌, ◌++◌, map, length}
use Prim.Native.Char.{code}
use Prim.Native.String.{String, len, char_at}
use Rattle.theory.specs.Limits.{any_role, most_levels}
use Rattle.theory.specs.Calls.{Answer, OneAnswer, SeveralAnswer, Outputs, refusal, accepted, one_refusal, one_accepted}
use Rattle.theory.specs.Calls.{several_refusal, several_accepted, written, zeros}
use Rattle.theory.specs.Calls.{lent_to_split, Splits, lent_to_undo_one, UndoesOne, lent_to_undo_several, UndoesSeveral}
use Rattle.theory.specs.Frames.{FramesAnswer, frames_refusal, frames_accepted, ReadsFrames}
use Rattle.theory.specs.Index.{TextAnswer, text_refusal, text_accepted, ReadsIndex, WritesIndex}
use Rattle.theory.specs.Demands.{Enough}

-- ---- rows

-- A row: the call with its input, its answer, and the entries that it writes in front of each output buffer (a refusal
-- writes none). Reading also says for how many entries there must be room, and the calls for index texts how many
-- entries or bytes are lent.
pub data Row : Type 0 where
  splits : (N : ℕ) (T : List ℕ) (answer : Answer) (new : List ℕ) → Row
  undoes_one : (N : ℕ) (T : List ℕ) (asked : ℕ) (answer : OneAnswer) (new : Outputs) → Row
  undoes_several : (N : ℕ) (T : List ℕ) (asked : ℕ) (answer : SeveralAnswer) (new : List ℕ) → Row
  reads : (room : ℕ) (bytes : List ℕ) (answer : FramesAnswer) (new : List ℕ) → Row
  reads_index : (N : ℕ) (text : List ℕ) (lent : ℕ) (answer : FramesAnswer) (new : List ℕ) → Row
  writes_index : (N : ℕ) (T : List ℕ) (lent : ℕ) (answer : TextAnswer) (new : List ℕ) → Row

-- What a refusal of undo one writes.
abbrev pub nothing_written : Outputs
nothing_written = record { mesh = []; vertex_map = []; triangle_map = [] }

-- The three output buffers of undo one with what is written in front.
abbrev pub written_outputs : Outputs → Outputs → Outputs
written_outputs new out = record {
  mesh = written new.mesh out.mesh;
  vertex_map = written new.vertex_map out.vertex_map;
  triangle_map = written new.triangle_map out.triangle_map;
}

-- ---- what a row claims

-- The row's result satisfies the call's promise on the row's input, whatever stands in the lent buffers and however
-- many work buffers there are, where room enough is lent.
unfoldable pub Satisfied : Row → Type 0
Satisfied (splits N T answer new) =
    (out : List ℕ) (works : List (List ℕ)) → Enough (lent_to_split N T out works)
    → Splits N T out works answer (written new out) (map zeros works)
Satisfied (undoes_one N T asked answer new) =
    (out : Outputs) (works : List (List ℕ)) → Enough (lent_to_undo_one N T out works)
    → UndoesOne N T asked out works answer (written_outputs new out) (map zeros works)
Satisfied (undoes_several N T asked answer new) =
    (out : List ℕ) (works : List (List ℕ)) → Enough (lent_to_undo_several N T out works)
    → UndoesSeveral N T asked out works answer (written new out) (map zeros works)
Satisfied (reads room bytes answer new) =
    (out : List ℕ) → room ≤ length out → ReadsFrames bytes out answer (written new out)
Satisfied (reads_index N text lent answer new) =
    (out : List ℕ) → length out ≡ lent → ReadsIndex N text out answer (written new out)
Satisfied (writes_index N T lent answer new) =
    (out : List ℕ) → length out ≡ lent → WritesIndex N T out answer (written new out)

-- Every result that satisfies the call's promise on the row's input, where room enough is lent, is the row's.
unfoldable pub Only : Row → Type 0
Only (splits N T answer new) =
    (out : List ℕ) (works : List (List ℕ)) → Enough (lent_to_split N T out works)
    → (a : Answer) (o : List ℕ) (w : List (List ℕ)) → Splits N T out works a o w
    → (a ≡ answer) × (o ≡ written new out) × (w ≡ map zeros works)
Only (undoes_one N T asked answer new) =
    (out : Outputs) (works : List (List ℕ)) → Enough (lent_to_undo_one N T out works)
    → (a : OneAnswer) (o : Outputs) (w : List (List ℕ)) → UndoesOne N T asked out works a o w
    → (a ≡ answer) × (o ≡ written_outputs new out) × (w ≡ map zeros works)
Only (undoes_several N T asked answer new) =
    (out : List ℕ) (works : List (List ℕ)) → Enough (lent_to_undo_several N T out works)
    → (a : SeveralAnswer) (o : List ℕ) (w : List (List ℕ)) → UndoesSeveral N T asked out works a o w
    → (a ≡ answer) × (o ≡ written new out) × (w ≡ map zeros works)
Only (reads room bytes answer new) =
    (out : List ℕ) → room ≤ length out → (a : FramesAnswer) (o : List ℕ) → ReadsFrames bytes out a o
    → (a ≡ answer) × (o ≡ written new out)
Only (reads_index N text lent answer new) =
    (out : List ℕ) → length out ≡ lent → (a : FramesAnswer) (o : List ℕ) → ReadsIndex N text out a o
    → (a ≡ answer) × (o ≡ written new out)
Only (writes_index N T lent answer new) =
    (out : List ℕ) → length out ≡ lent → (a : TextAnswer) (o : List ℕ) → WritesIndex N T out a o
    → (a ≡ answer) × (o ≡ written new out)

-- What a row claims: its result is what the call's promise allows on the row's input, and all that it allows.
pub record Holds (row : Row) : Type 0 where
  pub satisfied : Satisfied row
  pub only : Only row

-- ---- what rows are made of

-- Three rows: split, undo one (asked 4) and undo several (asked 7) each give this refusal at this place.
abbrev pub each_refuses : ℕ → List ℕ → ℕ → ℕ → List Row
each_refuses N T number place =
    splits N T (refusal number place) []
    ∷ undoes_one N T any_role (one_refusal number place) nothing_written
    ∷ undoes_several N T most_levels (several_refusal number place) []
    ∷ []

-- n bytes of a text from place i on; the texts here have one byte a character.
unfoldable pub bytes_from : String → ℕ → ℕ → List ℕ
bytes_from text i zero = []
bytes_from text i (suc n) = code (char_at text i) ∷ bytes_from text (suc i) n

-- A text as bytes.
unfoldable pub text_bytes : String → List ℕ
unfolding bytes_from
text_bytes text = bytes_from text 0 (len text)

-- A text and LF, as bytes.
unfoldable pub text_line : String → List ℕ
unfolding text_bytes
text_line text = text_bytes text ++ (10 ∷ [])

-- The sample input, as bytes.
unfoldable pub sample_bytes : List ℕ
unfolding text_line
sample_bytes =
    text_line "4D00060004" ++ text_line "46000500000003" ++ text_line "46000400010000"
    ++ text_line "46000300000001" ++ text_line "46000200030001"

-- The sample's mesh.
abbrev pub sample : List ℕ
sample = 5 ∷ 0 ∷ 3 ∷ 4 ∷ 1 ∷ 0 ∷ 3 ∷ 0 ∷ 1 ∷ 2 ∷ 3 ∷ 1 ∷ []

-- The reading of the sample as it is shown: the coarse mesh, the vertex map, the triangle map.
abbrev pub sample_shown : Outputs
sample_shown = record {
  mesh = 0 ∷ 2 ∷ 1 ∷ [];
  vertex_map = 4 ∷ 5 ∷ 0 ∷ 3 ∷ 1 ∷ 2 ∷ [];
  triangle_map = 2 ∷ 3 ∷ 0 ∷ 1 ∷ [];
}

-- Three triangles on the edge 0-1.
abbrev pub fin : List ℕ
fin = 0 ∷ 1 ∷ 2 ∷ 0 ∷ 1 ∷ 3 ∷ 0 ∷ 1 ∷ 4 ∷ []

-- What it becomes, four triangles a line: the edges are 0-1 (vertex 5), 1-2 (6), 2-0 (7), 1-3 (8), 3-0 (9), 1-4 (10),
-- 4-0 (11).
abbrev pub fin_split : List ℕ
fin_split =
    5 ∷ 6 ∷ 7 ∷ 0 ∷ 5 ∷ 7 ∷ 1 ∷ 6 ∷ 5 ∷ 2 ∷ 7 ∷ 6
    ∷ 5 ∷ 8 ∷ 9 ∷ 0 ∷ 5 ∷ 9 ∷ 1 ∷ 8 ∷ 5 ∷ 3 ∷ 9 ∷ 8
    ∷ 5 ∷ 10 ∷ 11 ∷ 0 ∷ 5 ∷ 11 ∷ 1 ∷ 10 ∷ 5 ∷ 4 ∷ 11 ∷ 10
    ∷ []

-- Two triangles on the edge 0-1, which runs the same way in both.
abbrev pub alongside : List ℕ
alongside = 0 ∷ 1 ∷ 2 ∷ 0 ∷ 1 ∷ 3 ∷ []

-- What they become: the edges are 0-1 (vertex 4), 1-2 (5), 2-0 (6), 1-3 (7), 3-0 (8).
abbrev pub alongside_split : List ℕ
alongside_split =
    4 ∷ 5 ∷ 6 ∷ 0 ∷ 4 ∷ 6 ∷ 1 ∷ 5 ∷ 4 ∷ 2 ∷ 6 ∷ 5
    ∷ 4 ∷ 7 ∷ 8 ∷ 0 ∷ 4 ∷ 8 ∷ 1 ∷ 7 ∷ 4 ∷ 3 ∷ 8 ∷ 7
    ∷ []

-- So many numbers upward from i.
unfoldable pub upward : ℕ → ℕ → List ℕ
upward i zero = []
upward i (suc n) = i ∷ upward (suc i) n

-- A mesh that comes back from its splitting of so many vertices and triangles, with maps that send each to itself.
unfoldable pub came_back : List ℕ → ℕ → ℕ → Outputs
unfolding upward
came_back T N F = record { mesh = T; vertex_map = upward 0 N; triangle_map = upward 0 F }

-- The splitting of (0,1,2) with the triangle at vertex 0 turned.
abbrev pub corner_turned : List ℕ
corner_turned = 3 ∷ 4 ∷ 5 ∷ 0 ∷ 5 ∷ 3 ∷ 1 ∷ 4 ∷ 3 ∷ 2 ∷ 5 ∷ 4 ∷ []

-- The same with the centre turned instead.
abbrev pub centre_turned : List ℕ
centre_turned = 3 ∷ 5 ∷ 4 ∷ 0 ∷ 3 ∷ 5 ∷ 1 ∷ 4 ∷ 3 ∷ 2 ∷ 5 ∷ 4 ∷ []

-- And with all four turned.
abbrev pub all_turned : List ℕ
all_turned = 5 ∷ 4 ∷ 3 ∷ 0 ∷ 5 ∷ 3 ∷ 1 ∷ 3 ∷ 4 ∷ 2 ∷ 4 ∷ 5 ∷ []

-- Its reading: the centre (5,4,3) has vertex 0 across 3-5, 2 across 5-4 and 1 across 4-3, and (0,2,1) splits to
-- (3,4,5), (0,3,5), (2,4,3), (1,5,4).
abbrev pub all_turned_shown : Outputs
all_turned_shown = record {
  mesh = 0 ∷ 2 ∷ 1 ∷ [];
  vertex_map = 0 ∷ 1 ∷ 2 ∷ 5 ∷ 4 ∷ 3 ∷ [];
  triangle_map = 0 ∷ 1 ∷ 3 ∷ 2 ∷ [];
}

-- ---- the table

-- The starred meshes, each under document 01's words for it. How many edges and boundary edges there are is #102's, and
-- two rows are for these counts alone; the last rows are #103's examples.
unfoldable pub starred : List Row
unfolding sample_bytes came_back
starred =
    -- "One triangle (0,1,2) splits to (3,4,5), (0,3,5), (1,4,3), (2,5,4)."
    splits 3 (0 ∷ 1 ∷ 2 ∷ []) (accepted 6 4 9 6) (3 ∷ 4 ∷ 5 ∷ 0 ∷ 3 ∷ 5 ∷ 1 ∷ 4 ∷ 3 ∷ 2 ∷ 5 ∷ 4 ∷ [])
    -- #102's example: where no level is asked, the mesh itself is counted
    ∷ undoes_several 3 (0 ∷ 1 ∷ 2 ∷ []) 0 (several_accepted 0 [] (accepted 3 1 3 3)) (0 ∷ 1 ∷ 2 ∷ [])
    -- "The input above has the reading shown, in role 1."
    ∷ reads 12 sample_bytes (frames_accepted 6 4) sample
    ∷ undoes_one 6 sample 0 (one_refusal 11 0) nothing_written
    ∷ undoes_one 6 sample 1 (one_accepted 1 (accepted 3 1 3 3)) sample_shown
    ∷ undoes_one 6 sample 2 (one_refusal 11 0) nothing_written
    ∷ undoes_one 6 sample 3 (one_refusal 11 0) nothing_written
    ∷ undoes_one 6 sample any_role (one_accepted 1 (accepted 3 1 3 3)) sample_shown
    ∷ undoes_several 6 sample 1 (several_accepted 1 (1 ∷ []) (accepted 3 1 3 3)) (0 ∷ 2 ∷ 1 ∷ [])
    ∷ undoes_several 6 sample most_levels (several_accepted 1 (1 ∷ []) (accepted 3 1 3 3)) (0 ∷ 2 ∷ 1 ∷ [])
    -- "Three triangles on the edge 0-1, third corners 2, 3, 4: splits to 12 vertices, 12 triangles."
    ∷ splits 5 fin (accepted 12 12 23 12) fin_split
    -- an edge with three triangles is no boundary edge
    ∷ undoes_several 5 fin 0 (several_accepted 0 [] (accepted 5 3 7 6)) fin
    -- ""4D00000000" and LF: reads as V = 0, F = 0. Empty bytes: 12, place 0."
    ∷ reads 0 (text_line "4D00000000") (frames_accepted 0 0) []
    ∷ reads 0 [] (frames_refusal 12 0) []
    -- "(0,1,2), (0,2,1), V = 3: refusal 8, place 1."
    ∷ each_refuses 3 (0 ∷ 1 ∷ 2 ∷ 0 ∷ 2 ∷ 1 ∷ []) 8 1
    -- "(0,1,2), (0,3,4), V = 5: touch at a point; 10, place 1."
    ++ each_refuses 5 (0 ∷ 1 ∷ 2 ∷ 0 ∷ 3 ∷ 4 ∷ []) 10 1
    -- "(0,1,2), V = 4: 9, place 3."
    ++ each_refuses 4 (0 ∷ 1 ∷ 2 ∷ []) 9 3
    -- "V = 2: 6, place 0."
    ++ each_refuses 2 (0 ∷ 1 ∷ 2 ∷ []) 6 0
    -- "(0,0,1), V = 2: 7, place 0."
    ++ each_refuses 2 (0 ∷ 0 ∷ 1 ∷ []) 7 0
    -- #103: one corner triangle is turned, and shows; "undo several stops at either number"
    ++ undoes_one 6 corner_turned 0 (one_refusal 15 1) nothing_written
    ∷ undoes_one 6 corner_turned 1 (one_refusal 11 0) nothing_written
    ∷ undoes_one 6 corner_turned any_role (one_refusal 15 1) nothing_written
    ∷ undoes_several 6 corner_turned most_levels (several_accepted 0 [] (accepted 6 4 9 6)) corner_turned
    -- "the centre is turned, and shows at its least corner triangle"
    ∷ undoes_one 6 centre_turned 0 (one_refusal 15 1) nothing_written
    -- all four are turned, and agree
    ∷ undoes_one 6 all_turned 0 (one_accepted 0 (accepted 3 1 3 3)) all_turned_shown
    -- "An edge between two tiles may run the same way in both"
    ∷ undoes_one 9 alongside_split 0 (one_accepted 0 (accepted 4 2 5 4)) (came_back alongside 9 8)
    -- "the split fin of document 01 is still accepted"
    ∷ undoes_one 12 fin_split 0 (one_accepted 0 (accepted 5 3 7 6)) (came_back fin 12 12)
    ∷ []

-- ---- index texts

-- Two rows: the text says this list for V = 9, with room for 6 entries, and that is written again in its normal
-- spelling, with room for 30 bytes.
abbrev pub read_and_written : List ℕ → ℕ → List ℕ → List ℕ → List Row
read_and_written text F T spelling =
    reads_index 9 text 6 (frames_accepted 9 F) T
    ∷ writes_index 9 T 30 (text_accepted 9 F (length spelling)) spelling
    ∷ []

-- A row: the text is refused 14 at a place.
abbrev pub refused_at : ℕ → List ℕ → Row
refused_at place text = reads_index 9 text 6 (frames_refusal 14 place) []

-- The examples of #101 as they were decided ("V = 9, room for 6 entries"), each under its words.
unfoldable pub index_texts : List Row
unfolding text_bytes
index_texts =
    -- "`0 1 2` is F 1; `0 1 2 -1,3,4,5,-1` is F 2"
    read_and_written (text_bytes "0 1 2") 1 (0 ∷ 1 ∷ 2 ∷ []) (text_bytes "0 1 2 -1")
    ++ read_and_written (text_bytes "0 1 2 -1,3,4,5,-1") 2 (0 ∷ 1 ∷ 2 ∷ 3 ∷ 4 ∷ 5 ∷ []) (text_bytes "0 1 2 -1 3 4 5 -1")
    -- "`0 1`: 14 at 3; `0 1 `: 14 at 4; `-1`: 14 at 0; `0 1 2 -1 -1`: 14 at 9; `0 1 2 3`: 14 at 6"
    ++ refused_at 3 (text_bytes "0 1")
    ∷ refused_at 4 (text_bytes "0 1 ")
    ∷ refused_at 0 (text_bytes "-1")
    ∷ refused_at 9 (text_bytes "0 1 2 -1 -1")
    ∷ refused_at 6 (text_bytes "0 1 2 3")
    -- "`0 1 65536`: 14 at 4; `0 1 2#-1` CR `3 4 5`: 14 at 9; `#a` CR `0 1 2`: F 1"
    ∷ refused_at 4 (text_bytes "0 1 65536")
    ∷ refused_at 9 (text_bytes "0 1 2#-1" ++ (13 ∷ text_bytes "3 4 5"))
    ∷ read_and_written (text_bytes "#a" ++ (13 ∷ text_bytes "0 1 2")) 1 (0 ∷ 1 ∷ 2 ∷ []) (text_bytes "0 1 2 -1")
    -- "`x` with V = 40,000: 14 at 0", and without a fault 4
    ++ reads_index 40000 (text_bytes "x") 6 (frames_refusal 14 0) []
    ∷ reads_index 40000 (text_bytes "0 1 2") 6 (frames_refusal 4 0) []
    -- "5 (3F entries)"
    ∷ reads_index 9 (text_bytes "0 1 2 -1 3 4 5") 5 (frames_refusal 5 0) []
    -- "the value must not wrap (`65536`, `4294967297`, `18446744073709551616` are at fault, `0000000000000000000007` is
    -- 7)"
    ∷ refused_at 0 (text_bytes "4294967297")
    ∷ refused_at 0 (text_bytes "18446744073709551616")
    ∷ read_and_written (text_bytes "0000000000000000000007 65535,0") 1 (7 ∷ 65535 ∷ 0 ∷ []) (text_bytes "7 65535 0 -1")
    -- "`-01`, `+1`, `-2`, `0x1F`, `1.0`, `[`, `1-1`, other white space, a byte order mark: at fault"
    ++ refused_at 0 (text_bytes "-01")
    ∷ refused_at 0 (text_bytes "+1")
    ∷ refused_at 0 (text_bytes "-2")
    ∷ refused_at 0 (text_bytes "0x1F")
    ∷ refused_at 0 (text_bytes "1.0")
    ∷ refused_at 0 (text_bytes "[")
    ∷ refused_at 0 (text_bytes "1-1")
    ∷ refused_at 0 (12 ∷ [])
    ∷ refused_at 0 (239 ∷ 187 ∷ 191 ∷ text_bytes "0 1 2")
    -- "Empty text, separators or comments alone: accepted with F = 0", "F = 0 writes nothing"
    ∷ read_and_written [] 0 [] []
    ++ read_and_written (text_bytes " , # 0 1 2") 0 [] []
    -- "Writing (0,1,2),(10,65535,3) takes 22 bytes; 21 lent: 5."
    ++ writes_index 9 (0 ∷ 1 ∷ 2 ∷ 10 ∷ 65535 ∷ 3 ∷ []) 22 (text_accepted 9 2 22) (text_bytes "0 1 2 -1 10 65535 3 -1")
    ∷ writes_index 9 (0 ∷ 1 ∷ 2 ∷ 10 ∷ 65535 ∷ 3 ∷ []) 21 (text_refusal 5 0) []
    ∷ writes_index 9 (0 ∷ 1 ∷ []) 30 (text_refusal 2 0) []
    ∷ writes_index 40000 (0 ∷ 1 ∷ 2 ∷ []) 30 (text_refusal 4 0) []
    ∷ []

-- ---- spellings of frames

-- A text and CR LF, as bytes.
unfoldable pub text_line_cr : String → List ℕ
unfolding text_bytes
text_line_cr text = text_bytes text ++ (13 ∷ 10 ∷ [])

-- The examples of #105 as they were decided, each under its words.
unfoldable pub spellings : List Row
unfolding text_bytes text_line text_line_cr
spellings =
    -- "`4d00000000` CR LF: V 0, F 0."
    reads 0 (text_line_cr "4d00000000") (frames_accepted 0 0) []
    -- "`4D00000000` CR: 12 at 0."
    ∷ reads 0 (text_bytes "4D00000000" ++ (13 ∷ [])) (frames_refusal 12 0) []
    -- "`4D00000000` LF CR: 12 at 1."
    ∷ reads 0 (text_line "4D00000000" ++ (13 ∷ [])) (frames_refusal 12 1) []
    -- "`4D00030001` CR LF `46000000010002` LF: accepted."
    ∷ reads 3 (text_line_cr "4D00030001" ++ text_line "46000000010002") (frames_accepted 3 1) (0 ∷ 1 ∷ 2 ∷ [])
    -- "Kinds are digits too", "Case and line ends may be mixed within a file, a line, a number"
    ∷ reads 3 (text_line "4d000a0001" ++ text_line_cr "46aBcD0A0fEf01") (frames_accepted 10 1) (43981 ∷ 2575 ∷ 61185 ∷ [])
    -- "A lone CR, CR CR LF and anything else is 12 at the line whose end is wrong"
    ∷ reads 3 (text_line "4D00030001" ++ text_bytes "46000000010002" ++ (13 ∷ [])) (frames_refusal 12 1) []
    ∷ reads 0 (text_bytes "4D00000000" ++ (13 ∷ 13 ∷ 10 ∷ [])) (frames_refusal 12 0) []
    ∷ reads 0 (text_bytes "4D00000000" ++ (32 ∷ 10 ∷ [])) (frames_refusal 12 0) []
    -- "a CR after a right LF belongs to the next line"
    ∷ reads 3 (text_line "4D00030001" ++ (13 ∷ text_line "46000000010002")) (frames_refusal 12 1) []
    ∷ reads 3 (text_line_cr "4D00030001" ++ text_line_cr "46000000010002" ++ (13 ∷ [])) (frames_refusal 12 2) []
    -- the letters after F are no digits, in either case
    ∷ reads 3 (text_line "4D00030001" ++ text_line "4600000001000G") (frames_refusal 12 1) []
    ∷ reads 3 (text_line "4D00030001" ++ text_line "4600000001000g") (frames_refusal 12 1) []
    ∷ []
