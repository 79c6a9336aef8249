-- How long the text of a reading is.
use Prim.Native.Nat.{ℕ, ◌+◌, ◌*◌}
use native.Mathlib.Omega.{arith}
use mathlib.Core.Path.{◌≡◌}
use lib.ListN.{length, length-append}
use Rattle.theory.specs.Mesh.{triangles}
use Rattle.theory.specs.Reading.{Reading}
use Rattle.theory.specs.Program.{reading_text}
use Rattle.theory.proofs.Frames.{frames-length}
use Rattle.frames_write.proofs.Appends.{answer_line-length, map_lines-length}

-- eleven bytes for the answer, the coarse mesh's frames, and seven for each entry of the maps
pub reading_text-length : (role : ℕ) (r : Reading)
    → length (reading_text role r)
    ≡ 11 + (11 + 15 * triangles r.mesh) + 7 * length r.vertex_map + 7 * length r.triangle_map
unfolding reading_text
reading_text-length role r =
    simp length-append
    (omega (
      arith,
      answer_line-length 0 role 0,
      frames-length r.vertices r.mesh,
      map_lines-length 0x56 r.vertex_map,
      map_lines-length 0x54 r.triangle_map,
    ))
