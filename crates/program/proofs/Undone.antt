-- From what undo one came to, to what is printed.
use Prim.Native.Nat.{ℕ, ◌*◌, ◌≤◌}
use native.Mathlib.Omega.{arith}
use mathlib.Core.Path.{◌≡◌, refl, ap}
use mathlib.Core.List.{List}
use lib.ListN.{length, length-append, length-drop, take, drop}
use lib.Seq.{take_at}
use Rattle.std.specs.Prelude.{Ok, Err}
use Rattle.theory.specs.Mesh.{triangles, Rotated}
use Rattle.theory.specs.Reading.{Reading, Returned}
use Rattle.theory.specs.Choice.{Chosen}
use Rattle.theory.specs.Refusals.{Passed, Refused}
use Rattle.theory.specs.Calls.{Outputs, written, undo_one_rules, UndoesOne}
use Rattle.theory.specs.Program.{reading_text, program_rooms, PrintsMesh}
use Rattle.theory.proofs.Refusals.{refused-above}
use Rattle.limits.specs.declared.refusal.Refusal.{Refusal}
use Rattle.limits.specs.Numbers.{number_of, place_of}
use Rattle.limits.proofs.Judgement.{number-above}
use Rattle.answers.specs.declared.taken.Undone.{Undone}
use Rattle.answers.specs.Taken.{reading_in}
use Rattle.answers.specs.Said.{one_said}
use Rattle.frames_write.specs.declared.puts.Writer.{Writer}
use Rattle.frames_write.specs.Putting.{Room, Put}
use Rattle.program.specs.Answering.{longest_text, TextRoom, TextPut}
use Rattle.program.proofs.Printed.{line_of}
use Rattle.program.proofs.Rooms.{OutputRoom, WorkRoom, program-passed, program-refused}
use Rattle.program.proofs.Texts.{reading_text-length}

-- ---- the outputs

-- A list stands in front of a buffer.
record Front (new buffer : List ℕ) : Type 0 where
  fits : length new ≤ length buffer
  front : take (length new) buffer ≡ new

-- what is written to a buffer whose length stays stands in front of it
written-front : (new old : List ℕ) {buffer : List ℕ} → buffer ≡ written new old → length buffer ≡ length old
    → Front new buffer
written-front new old e same = record {
  fits = omega (arith, simp (length-append, length-drop) at (ap length e));
  front = rw e (take_at new (drop (length new) old) (length new) refl);
}

-- What was accepted: a reading that the outputs hold in front, and that the program's rows pass.
pub record Accepted (N : ℕ) (T : List ℕ) (asked : ℕ) (undone : Undone) (out' : Outputs) : Type 0 where
  reading : Reading
  passed : Passed (undo_one_rules N T asked (program_rooms N (triangles T)))
  chosen : Chosen Rotated N T asked undone.role
  returned : Returned Rotated N T undone.role reading
  kept : undone.counts.vertices ≡ reading.vertices
  centres : undone.counts.triangles ≡ triangles reading.mesh
  room : OutputRoom out'
  mesh : Front reading.mesh out'.mesh
  vertex_map : Front reading.vertex_map out'.vertex_map
  triangle_map : Front reading.triangle_map out'.triangle_map

module _ {N : ℕ} {T : List ℕ} {asked : ℕ} {out out' : Outputs} {works works' : List (List ℕ)} (room : OutputRoom out)
    (enough : WorkRoom works) where
  -- what undo one refuses, the program's rows do
  refused : (refusal : Refusal) → UndoesOne N T asked out works (one_said (Err refusal)) out' works'
      → Refused (undo_one_rules N T asked (program_rooms N (triangles T))) (number_of refusal) (place_of refusal)
  refused refusal (UndoesOne.refuses number place f e _ _) =
      rw (ap (λ a. a.common.refusal) e, ap (λ a. a.common.place) e)
      (program-refused N T room works enough asked number place f)
  refused refusal (UndoesOne.accepts role r p c d e _ _) =
      absurd (omega (arith, ap (λ a. a.common.refusal) e, number-above refusal))

  -- its line is right
  pub refusal-right : (refusal : Refusal) → UndoesOne N T asked out works (one_said (Err refusal)) out' works'
      → PrintsMesh N T asked (line_of refusal)
  refusal-right refusal undoes = PrintsMesh.refuses _ _ (refused refusal undoes) refl

  -- what it accepts was accepted
  pub accepted : {undone : Undone} → OutputRoom out' → UndoesOne N T asked out works (one_said (Ok undone)) out' works'
      → Accepted N T asked undone out'
  accepted room' (UndoesOne.refuses number place f e _ _) =
      absurd (omega (
        arith,
        ap (λ a. a.common.refusal) e,
        refused-above (undo_one_rules N T asked _) number place f (omega arith),
      ))
  accepted {undone} room' (UndoesOne.accepts role r p c d e leaves _) =
      let same : undone.role ≡ role = ap (λ a. a.role) e in
      record {
        reading = r;
        passed = program-passed N T room works enough asked p;
        chosen = rw same c;
        returned = rw same d;
        kept = ap (λ a. a.common.vertices) e;
        centres = ap (λ a. a.common.triangles) e;
        room = room';
        mesh = written-front _ _ (ap (λ o. o.mesh) leaves) (omega (arith, room.mesh, room'.mesh));
        vertex_map = written-front _ _ (ap (λ o. o.vertex_map) leaves) (omega (arith, room.vertices, room'.vertices));
        triangle_map =
            written-front _ _ (ap (λ o. o.triangle_map) leaves) (omega (arith, room.triangles, room'.triangles));
      }

module _ {N : ℕ} {T : List ℕ} {asked : ℕ} {undone : Undone} {out : Outputs} (A : Accepted N T asked undone out) where
  -- it has as many corners as are counted
  corners : length A.reading.mesh ≡ 3 * undone.counts.triangles
  corners = omega (arith, A.centres, A.returned.is.proper.otherwise.whole)

  -- the outputs hold the maps in front
  pub vertices-held : N ≤ length out.vertex_map
  vertices-held = omega (arith, A.returned.is.matched.vertices.long, A.vertex_map.fits)

  pub triangles-held : triangles T ≤ length out.triangle_map
  triangles-held = omega (arith, A.returned.is.matched.faces.long, A.triangle_map.fits)

  -- and the reading
  abbrev held : Reading
  held =
      reading_in N (triangles T) undone.counts.vertices undone.counts.triangles out.mesh out.vertex_map
      out.triangle_map

  held-reading : held ≡ A.reading
  held-reading =
      let vertices = A.returned.is.matched.vertices.long in
      let faces = A.returned.is.matched.faces.long in
      rw (A.kept, ← corners, ← vertices, ← faces, A.mesh.front, A.vertex_map.front, A.triangle_map.front)

  -- its text is short
  reading-short : length (reading_text undone.role held) ≤ longest_text
  reading-short =
      rw held-reading (omega (
        arith,
        reading_text-length undone.role A.reading,
        A.mesh.fits,
        A.vertex_map.fits,
        A.triangle_map.fits,
        A.room.mesh,
        A.room.vertices,
        A.room.triangles,
      ))

  -- there is room for it
  pub reading-room : {w : Writer} → TextRoom w → Room (reading_text undone.role held) w
  reading-room lent = record { fits = omega (arith, reading-short, lent.fits) }

  -- and it is right
  pub reading-put : {w w' : Writer} → Put (reading_text undone.role held) w w' → TextPut (PrintsMesh N T asked) w w'
  reading-put put = record {
    text = _;
    is = rw held-reading (PrintsMesh.accepts undone.role A.reading A.passed A.chosen A.returned refl);
    short = reading-short;
    put = put;
  }
