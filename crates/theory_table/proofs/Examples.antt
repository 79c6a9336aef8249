-- What the tables do not say. A reading must match triangle by triangle, so the sample's reading with two entries of
-- the vertex map exchanged is none, in any role and by the old rule too, though all counts are right. And the normal
-- spelling of a file as the partner apps write it.
use mathlib.Core.Path.{◌≡◌, refl}
use mathlib.Core.List.{[], ◌∷◌, ◌++◌}
use Rattle.theory.specs.Reading.{Agreement, Reading, IsReading}
use Rattle.theory.specs.Frames.{digit, two_digits, four_digits, line, mesh_line, triangle_line, triangle_lines, frames}
use Rattle.theory.specs.Frames.{digit_value, take_digits, take_numbers, take_lf, take_end, take_line, take_triangles}
use Rattle.theory.specs.Frames.{first_line}
use Rattle.theory.specs.Demands.{normal}
use Rattle.theory.proofs.Agreement.{Implies, reading-same}
use Rattle.theory.proofs.Decide.{same_test}
use Rattle.theory.proofs.ReadingTests.{same-decided, is_reading_test, is_reading_test-complete}
use Rattle.theory_table.specs.Table.{sample, sample_shown, text_line, text_line_cr}

-- the sample's reading with the first two entries of the vertex map exchanged
abbrev exchanged : Reading
exchanged = record {
  vertices = 3;
  mesh = sample_shown.mesh;
  vertex_map = 5 ∷ 4 ∷ 0 ∷ 3 ∷ 1 ∷ 2 ∷ [];
  triangle_map = sample_shown.triangle_map;
}

-- is no reading, whatever is asked of matched triangles beside the same three vertices
pub sample-exchanged : {agree : Agreement} → Implies agree → IsReading agree 6 sample exchanged → ⊥
unfolding is_reading_test same_test
sample-exchanged I R = is_reading_test-complete same-decided 6 sample exchanged (reading-same I R)

-- a file of lower case and CR LF in its normal spelling
pub normal-example : normal (text_line_cr "4d000a0001" ++ text_line_cr "460000abcd00ef")
    ≡ text_line "4D000A0001" ++ text_line "460000ABCD00EF"
unfolding normal text_line_cr text_line first_line take_line take_triangles take_digits take_numbers take_end take_lf digit_value
    frames mesh_line triangle_lines triangle_line line two_digits four_digits digit
normal-example = refl
