-- Document 01, "Refusals by number": what number and place each refusal of the code stands for.
use Rattle.std.specs.Prelude.{ℕ}
use Rattle.limits.specs.declared.refusal.Refusal.{Refusal}
use Rattle.limits.specs.declared.refusal.Refusal.TheVariants.{AskedTooMuch, NotThrees, NoTriangle, TooLarge, TooShort}
use Rattle.limits.specs.declared.refusal.Refusal.TheVariants.{CornerNotBelow, EqualCorners, SameAsEarlier}
use Rattle.limits.specs.declared.refusal.Refusal.TheVariants.{InNoTriangle, NotConnected, NoReading, LineWrong}
use Rattle.limits.specs.declared.refusal.Refusal.TheVariants.{InputTooLong, TextWrong, InsideOut}

-- The number in the table.
abbrev pub number_of : Refusal → ℕ
number_of AskedTooMuch = 1
number_of NotThrees = 2
number_of NoTriangle = 3
number_of TooLarge = 4
number_of TooShort = 5
number_of (CornerNotBelow triangle) = 6
number_of (EqualCorners triangle) = 7
number_of (SameAsEarlier triangle) = 8
number_of (InNoTriangle vertex) = 9
number_of (NotConnected triangle) = 10
number_of NoReading = 11
number_of (LineWrong line) = 12
number_of InputTooLong = 13
number_of (TextWrong byte) = 14
number_of (InsideOut triangle) = 15

-- "Place is 0 unless named."
abbrev pub place_of : Refusal → ℕ
place_of AskedTooMuch = 0
place_of NotThrees = 0
place_of NoTriangle = 0
place_of TooLarge = 0
place_of TooShort = 0
place_of (CornerNotBelow triangle) = triangle
place_of (EqualCorners triangle) = triangle
place_of (SameAsEarlier triangle) = triangle
place_of (InNoTriangle vertex) = vertex
place_of (NotConnected triangle) = triangle
place_of NoReading = 0
place_of (LineWrong line) = line
place_of InputTooLong = 0
place_of (TextWrong byte) = byte
place_of (InsideOut triangle) = triangle
