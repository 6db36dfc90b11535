-- The parts of a spelling.
use Rattle.std.specs.Prelude.{◌≡◌, ℕ, List, Some}
use Rattle.serde_json.specs.Data.{Data, number, unsigned, object, no_members, member}
use Rattle.serde_json.specs.Find.{get}

abbrev pub number_data : ℕ → Data
number_data n = number (unsigned n)

-- a case with contents: an object with one member
abbrev pub case_data : List ℕ → Data → Data
case_data name contents = object (member name contents no_members)

-- d is the case of this name, and its contents satisfy P
abbrev pub IsCase : List ℕ → (Data → Type 0) → Data → Type 0
IsCase name P d = (c : Data) × (d ≡ case_data name c) × P c

-- d has a field of this name whose value satisfies P; other fields are ignored
abbrev pub HasField : List ℕ → (Data → Type 0) → Data → Type 0
HasField name P d = (c : Data) × (get name d ≡ Some c) × P c

-- d is the whole number n
abbrev pub IsWholeNumber : ℕ → Data → Type 0
IsWholeNumber n d = d ≡ number_data n

-- the field of this name is the whole number n
abbrev pub HasWhole : List ℕ → ℕ → Data → Type 0
HasWhole name n d = get name d ≡ Some (number_data n)
