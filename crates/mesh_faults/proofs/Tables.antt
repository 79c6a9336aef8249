-- A search for twins keeps its tables from one call to the next.
use mathlib.Core.Path.{◌∙◌, refl}
use Rattle.mesh_faults.specs.declared.TwinSearch.{TwinSearch}
use Rattle.mesh_faults.specs.Looks.{SameTables}

-- at first it has them
pub same-none : {search : TwinSearch} → SameTables search search
same-none = record { number = refl; ring = refl; thirds = refl; stamp = refl; long = refl }

-- one call more keeps them
pub same-more : {one two three : TwinSearch} → SameTables one two → SameTables two three → SameTables one three
same-more A B =
    record {
      number = B.number ∙ A.number;
      ring = B.ring ∙ A.ring;
      thirds = B.thirds ∙ A.thirds;
      stamp = B.stamp ∙ A.stamp;
      long = B.long ∙ A.long;
    }
