-- The steps of the parser.
use Rattle.std.specs.Prelude.{◌≡◌, ◌⊎◌, ℕ, Option, Some, option_map, List, [], ◌∷◌, ◌++◌, length, map}
use Rattle.air_field.specs.BabyBear.{BabyBear}
use Rattle.air_program.specs.declared.refusals.Refusal.{Refusal}
use Rattle.air_program.specs.declared.refusals.Refusal.TheVariants as refusals

-- the canonical numbers of the elements
abbrev pub element_values : List BabyBear → List ℕ
element_values = map (λ x. x.residue)

-- the errors of the parser
abbrev pub IsParseRefusal : Refusal → Type 0
IsParseRefusal why = (why ≡ refusals.Memory) ⊎ (why ≡ refusals.Syntax)

-- the numbers, after those of `before`
abbrev pub onto : List ℕ → Option (List ℕ) → Option (List ℕ)
onto before numbers = option_map (λ ns. before ++ ns) numbers

-- a row before the others; an empty row means that no row was left
abbrev pub with_row : List ℕ → Option (List (List ℕ)) → Option (List (List ℕ))
with_row [] rows = Some []
with_row (n ∷ ns) rows = option_map (λ rs. (n ∷ ns) ∷ rs) rows

-- `new` is `old` followed by the first remaining row, if there was one
abbrev pub PushesRow : List ℕ → List ℕ → ℕ → Option (List (List ℕ)) → Option (List (List ℕ)) → Type 0
PushesRow old new count left after = (row : List ℕ) × (new ≡ old ++ row) × (count ≡ length row) × (left ≡ with_row row after)
