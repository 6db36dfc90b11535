-- Spelling and reading boundary values.
use Rattle.std.specs.Prelude.{◌≡◌, ℕ, List, [], ◌∷◌, Option, option_and_then, codes}
use Rattle.serde_json.specs.Data.{Data, string, object, member, no_members}
use Rattle.serde_json.specs.Find.{as_str, get}
use Rattle.air_json.specs.Parts.{whole_at, all_three, find_name}
use Rattle.air_json.specs.Plain.{Plain}
use Rattle.air_json.specs.Spelling.{number_data, HasField, HasWhole}
use Rattle.air_core.specs.declared.boundary.BoundaryEnd.{BoundaryEnd}
use Rattle.air_core.specs.declared.boundary.BoundaryEnd.TheVariants as ends
use Rattle.air_core.specs.declared.boundary.BoundaryPublic.{BoundaryPublic}

-- ---- writing

abbrev pub end_data : BoundaryEnd → Data
end_data ends.First = string (codes "First")
end_data ends.Last = string (codes "Last")

abbrev pub cell_data : BoundaryPublic → Data
cell_data p = object (member (codes "column") (number_data p.column) (member (codes "end") (end_data p.end) (member (codes "public_value") (number_data p.public_value) no_members)))

-- ---- spelling an end or a cell: further keys of a struct's object are ignored

abbrev pub SpellsEnd : Data → BoundaryEnd → Type 0
SpellsEnd d e = d ≡ end_data e

abbrev pub SpellsCell : Data → BoundaryPublic → Type 0
SpellsCell d p =
    HasWhole (codes "column") p.column d
    × HasField (codes "end") (λ e. SpellsEnd e p.end) d
    × HasWhole (codes "public_value") p.public_value d

-- ---- reading

abbrev pub bare_ends : List (List ℕ × BoundaryEnd)
bare_ends = (codes "First", ends.First) ∷ (codes "Last", ends.Last) ∷ []

unfoldable pub end_of : Data → Option BoundaryEnd
end_of d = option_and_then (find_name bare_ends) (as_str d)

abbrev pub end_plain : Plain BoundaryEnd
end_plain = record { written = end_data; spells = SpellsEnd; read = end_of }

abbrev pub cell_at : ℕ → BoundaryEnd → ℕ → BoundaryPublic
cell_at c e p = record { column = c; end = e; public_value = p }

unfoldable pub cell_of : Data → Option BoundaryPublic
cell_of d = all_three cell_at (whole_at (codes "column") d) (option_and_then end_of (get (codes "end") d)) (whole_at (codes "public_value") d)

abbrev pub cell_plain : Plain BoundaryPublic
cell_plain = record { written = cell_data; spells = SpellsCell; read = cell_of }
