-- What a passing trace satisfies.
use Rattle.std.specs.Prelude.{ℕ, ◌^◌, ◌<◌, [], length}
use Rattle.p3_air.specs.Author.{CommRing, current, plain_declaration}
use Rattle.p3_air.specs.Claims.{row_assignment, Grid, plain_trace, IsNumberBelow}
use Rattle.p3_air.specs.Instances.{Instance, instance}
use Rattle.example_range.specs.Range.{range}

-- `Range` on a trace, as a check sees it
abbrev pub range_instance : {F : Type 0} → CommRing F → Grid F → Instance F
range_instance R trace = instance (plain_declaration (range R) 17 0) trace []

-- at each row, the value in column 0 is the image of a number below 2^16
abbrev pub AllBelow : {F : Type 0} → CommRing F → Grid F → Type 0
AllBelow R trace = (row : ℕ) → row < length trace.rows → IsNumberBelow R (row_assignment R (plain_trace trace []) row) (2 ^ 16) (current 0)
