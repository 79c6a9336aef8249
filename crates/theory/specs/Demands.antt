-- The words in which demands 2 and 3, and the like of frames and of index texts, are said and that the rules do not
-- need. The theorems are in `proofs/Demands`, `proofs/SeveralDemands`, `proofs/FrameDemands` and `proofs/IndexDemands`;
-- no contract speaks of anything here.
use Rattle.std.specs.Prelude.{ℕ, zero, suc, ◌+◌, ◌-◌, ◌*◌, ◌≤◌, ◌<◌, ◌≡◌, ◌⊎◌, ◌↔◌, true, false, ◌&&◌, List, [], ◌∷◌, map, leb, eqb, length, take}
use Rattle.std.proofs.Math.Option.{none, some}
use Rattle.theory.specs.Limits.{most_vertices}
use Rattle.theory.specs.Mesh.{at, triangles, Rotated, Proper}
use Rattle.theory.specs.Splitting.{edges, split}
use Rattle.theory.specs.Reading.{Matched, Reading}
use Rattle.theory.specs.Refusals.{Room, Short}
use Rattle.theory.specs.Calls.{Answer, OneAnswer, SeveralAnswer, Outputs, accepted_mesh, written, zeros, Splits}
use Rattle.theory.specs.Frames.{FramesAnswer, frames, take_line, corners, wrong_line, first_line, later_lines}
use Rattle.theory.specs.Index.{faces, text_says, index_text, TextAnswer}

-- "room enough lent": no lent buffer is shorter than needed.
abbrev pub Enough : List Room → Type 0
Enough rooms = Short rooms → ⊥

-- "a proper mesh within the limits" of a call that takes at most so many triangles.
pub record Within (most N : ℕ) (T : List ℕ) : Type 0 where
  pub proper : Proper N T
  pub some : 0 < triangles T
  pub few_triangles : triangles T ≤ most
  pub few_vertices : N ≤ most_vertices

-- "the same apart from numbering and order", and #103: "up to rotation of corners": some match takes one mesh onto the
-- other.
abbrev pub SameApart : ℕ → List ℕ → ℕ → List ℕ → Type 0
SameApart N T M S = (f : List ℕ) × (g : List ℕ) × Matched Rotated f g N T M S

-- The mesh that a call wrote, as a caller finds it: "the entries it needs", three for each triangle of the answer.
abbrev pub found_mesh : Answer → List ℕ → List ℕ
found_mesh answer out = take (3 * answer.triangles) out

-- The corners that reading wrote, as a caller finds them: "3F", F being the answer's.
abbrev pub found_corners : FramesAnswer → List ℕ → List ℕ
found_corners answer out = take (3 * answer.triangles) out

-- The frames that writing wrote, as a caller finds them: "11 + 15F bytes", F being the answer's.
abbrev pub found_bytes : FramesAnswer → List ℕ → List ℕ
found_bytes answer out = take (11 + 15 * answer.triangles) out

-- #105, "its one normal spelling": the frames of what was read; no bytes where the lines say no mesh.
unfoldable pub normal : List ℕ → List ℕ
normal bytes =
    elim (take_line 0x4D 2 bytes) [
      | none ↦ []
      | some first ↦ elim (later_lines bytes) [
        | corners T ↦ frames (first_line bytes).vertices T
        | wrong_line place ↦ []
      ]
    ]

-- "of upper case and LF": no byte is one of a to f, and none is CR.
pub record OfUpperAndLF (bytes : List ℕ) : Type 0 where
  pub no_lower : (i : ℕ) → i < length bytes → 97 ≤ at bytes i → at bytes i ≤ 102 → ⊥
  pub no_cr : (i : ℕ) → i < length bytes → at bytes i ≡ 13 → ⊥

-- A byte in upper case: A to F for a to f, any other as it is.
unfoldable pub to_upper : ℕ → ℕ
to_upper byte = elim (leb 97 byte && leb byte 102) [ true ↦ byte - 32 | false ↦ byte ]

-- The bytes in upper case, without CR.
unfoldable pub to_upper_and_lf : List ℕ → List ℕ
to_upper_and_lf [] = []
to_upper_and_lf (byte ∷ bytes) =
    elim (eqb byte 13) [ true ↦ to_upper_and_lf bytes | false ↦ to_upper byte ∷ to_upper_and_lf bytes ]

-- The text that writing an index list wrote, as a caller finds it: so many bytes as the answer says.
abbrev pub found_text : TextAnswer → List ℕ → List ℕ
found_text answer out = take answer.bytes out

-- "a normal spelling": the text is what writing makes of the mesh that it says.
pub record NormalSpelling (text : List ℕ) : Type 0 where
  pub list : List ℕ
  pub says : text_says text ≡ faces list
  pub spelled : text ≡ index_text list

-- The reading that undo one of (N, T) wrote, as a caller finds it: the mesh, and V and F entries of the two maps.
abbrev pub found_reading : ℕ → List ℕ → OneAnswer → Outputs → Reading
found_reading N T answer out = record {
  vertices = answer.common.vertices;
  mesh = found_mesh answer.common out.mesh;
  vertex_map = take N out.vertex_map;
  triangle_map = take (triangles T) out.triangle_map;
}

-- "accepted by split .., and its splitting is the input under the returned maps": split's result on a reading's mesh.
pub record SplitsBack (N : ℕ) (T : List ℕ) (r : Reading) (out : List ℕ) (works : List (List ℕ)) (answer : Answer)
    (out' : List ℕ) (works' : List (List ℕ)) : Type 0 where
  pub answers : answer ≡ accepted_mesh (r.vertices + edges r.mesh) (split r.vertices r.mesh)
  pub writes : out' ≡ written (split r.vertices r.mesh) out
  pub clears : works' ≡ map zeros works
  pub same_vertices : answer.vertices ≡ N
  pub same_triangles : answer.triangles ≡ triangles T
  pub input : Matched Rotated r.vertex_map r.triangle_map N T answer.vertices (found_mesh answer out')

-- "accepted exactly if": a call with this refusal number accepts if so; if not, it gives 15 if it is so by the old
-- rule, and else 11; and nothing else.
pub record Exactly (so by_old : Type 0) (number : ℕ) : Type 0 where
  pub accepted : number ≡ 0 ↔ so
  pub inside_out : number ≡ 15 ↔ ((so → ⊥) × by_old)
  pub refused : number ≡ 11 ↔ (by_old → ⊥)
  pub one_of_them : (number ≡ 0) ⊎ ((number ≡ 15) ⊎ (number ≡ 11))

-- The roles that undo several took, as a caller finds them: one for each level of the answer.
abbrev pub found_roles : SeveralAnswer → List ℕ
found_roles answer = take answer.levels answer.roles

-- (N, T) "split" several times: so many calls of split, each accepted and given the mesh that the one before wrote,
-- make (M, S), whatever buffers are lent to them.
pub data SplitTimes (N : ℕ) (T : List ℕ) : ℕ → ℕ → List ℕ → Type 0 where
  never : SplitTimes N T zero N T
  once_more : {times M : ℕ} {S out out' : List ℕ} {works works' : List (List ℕ)} {answer : Answer}
      → SplitTimes N T times M S → Splits M S out works answer out' works' → answer.refusal ≡ 0
      → SplitTimes N T (suc times) answer.vertices (found_mesh answer out')
