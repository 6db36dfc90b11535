-- The fields over which an object may be.
use Rattle.std.specs.Prelude.{ℕ, List, [], ◌∷◌, Option, Some, None, option_and_then, codes}
use Rattle.serde_json.specs.Data.{Data}
use Rattle.serde_json.specs.Find.{get, as_str}
use Rattle.air_field.specs.Modular.{Modular}
use Rattle.air_field.specs.Residue.{residues}
use Rattle.air_field.specs.Modulo.{baby_bears}
use Rattle.air_field.specs.KoalaBear.{KoalaBear, koala_bear_modulus}
use Rattle.air_field.specs.Mersenne31.{Mersenne31, mersenne31_modulus}
use Rattle.air_field.specs.Goldilocks.{goldilocks_modular}
use Rattle.air_json.specs.Parts.{find_name}
use Rattle.air_object.specs.declared.field_name.FieldName.{FieldName}
use Rattle.air_object.specs.declared.field_name.FieldName.TheVariants as fields

-- the name of each field
abbrev pub field_names : List (List ℕ × FieldName)
field_names = (codes "BabyBear", fields.BabyBear) ∷ (codes "KoalaBear", fields.KoalaBear) ∷ (codes "Mersenne31", fields.Mersenne31) ∷ (codes "Goldilocks", fields.Goldilocks) ∷ []

-- the field that the value of the member `field` names: BabyBear without the member; none if the value isn't the text of a field's name
abbrev pub named_by : Option Data → Option FieldName
named_by None = Some fields.BabyBear
named_by (Some d) = option_and_then (find_name field_names) (as_str d)

unfoldable pub field_of : Data → Option FieldName
field_of d = named_by (get (codes "field") d)

abbrev pub koala_bears : Modular KoalaBear 2130706433
koala_bears = residues koala_bear_modulus

abbrev pub mersennes : Modular Mersenne31 2147483647
mersennes = residues mersenne31_modulus

-- P holds for the residues of the field with this name
abbrev pub OverField : ((F : Type 0) (p : ℕ) → Modular F p → Type 0) → FieldName → Type 0
OverField P fields.BabyBear = P _ _ baby_bears
OverField P fields.KoalaBear = P _ _ koala_bears
OverField P fields.Mersenne31 = P _ _ mersennes
OverField P fields.Goldilocks = P _ _ goldilocks_modular
