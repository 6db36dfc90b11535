-- What a passing trace satisfies.
use Rattle.std.specs.Prelude.{ℕ, ◌<◌, [], length}
use Rattle.p3_air.specs.Author.{CommRing, plain_declaration, word_at}
use Rattle.p3_air.specs.Claims.{row_assignment, Grid, plain_trace, AddsUp}
use Rattle.p3_air.specs.Instances.{Instance, instance}
use Rattle.example_adder.specs.Adder.{adder}

-- `Adder` on a trace, as a check sees it
abbrev pub adder_instance : {F : Type 0} → CommRing F → Grid F → Instance F
adder_instance R trace = instance (plain_declaration (adder R) 102 0) trace []

-- at each row, the first word is the sum of the other two modulo 2^32
abbrev pub RowsAddUp : {F : Type 0} → CommRing F → Grid F → Type 0
RowsAddUp R trace = (row : ℕ) → row < length trace.rows → AddsUp R (row_assignment R (plain_trace trace []) row) (word_at 0) (word_at 34) (word_at 68)
