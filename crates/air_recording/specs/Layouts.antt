-- Layouts: as shapes, compared with an AIR's declaration, and of constraints.
use Rattle.std.specs.Prelude.{◌≡◌, ◌≢◌, ℕ, ◌+◌, ◌<◌, ◌≤◌, ◌^◌, List, length, ◌++◌, All, Option, Some, vec_len, nat_le, ⊤}
use Rattle.std.specs.List.{find}
use Rattle.air_field.specs.Assignment.{Shape, IsMissing}
use Rattle.air_builder.specs.Declaration.{Declaration, table_width}
use Rattle.air_builder.specs.Refusals.{NoneMissing}
use Rattle.air_core.specs.declared.errors.AirError.{AirError}
use Rattle.air_core.specs.declared.errors.AirError.TheVariants.{Memory, CountOverflow, LayoutMainWidth, LayoutPublicValues, LayoutPeriodicColumns, IndexPastTotal}
use Rattle.air_recording.specs.declared.layouts.air_layout.AirLayout.{AirLayout}
use Rattle.air_recording.specs.declared.layouts.constraint_layout.ConstraintLayout.{ConstraintLayout}

-- the number of entries of each kind
abbrev pub layout_shape : AirLayout → Shape
layout_shape l = record {
  main_width = l.main_width;
  preprocessed_width = l.preprocessed_width;
  periodic_columns = l.num_periodic_columns;
  public_values = l.num_public_values;
  permutation_width = l.permutation_width;
  challenges = l.num_permutation_challenges;
  permutation_values = l.num_permutation_values;
}

-- the counts that an AIR declares, and no permutation data
abbrev pub air_layout : {F : Type 0} → Declaration F → AirLayout
air_layout d = record {
  preprocessed_width = table_width d.preprocessed;
  main_width = d.width;
  num_public_values = d.num_public_values;
  permutation_width = 0;
  num_permutation_challenges = 0;
  num_permutation_values = 0;
  num_periodic_columns = length d.periodic;
}

-- the layout's counts are those that an AIR declares; the preprocessed width may differ
pub record FitsAir {F : Type 0} (l : AirLayout) (d : Declaration F) : Type 0 where
  pub width_is : l.main_width ≡ d.width
  pub public_is : l.num_public_values ≡ d.num_public_values
  pub periodic_is : l.num_periodic_columns ≡ length d.periodic

-- the first count, in this order, that isn't the AIR's
abbrev pub LayoutRefuses : {F : Type 0} → AirLayout → Declaration F → AirError → Type 0
LayoutRefuses l d (LayoutMainWidth layout air) = (layout ≡ l.main_width) × (air ≡ d.width) × (layout ≢ air)
LayoutRefuses l d (LayoutPublicValues layout air) =
    (l.main_width ≡ d.width) × (layout ≡ l.num_public_values) × (air ≡ d.num_public_values) × (layout ≢ air)
LayoutRefuses l d (LayoutPeriodicColumns layout air) =
    (l.main_width ≡ d.width) × (l.num_public_values ≡ d.num_public_values)
    × (layout ≡ l.num_periodic_columns) × (air ≡ length d.periodic) × (layout ≢ air)
LayoutRefuses l d _ = ⊥

-- The layout has the AIR's counts, and each entry that a declared term names.
pub record LayoutSuits {F : Type 0} (l : AirLayout) (d : Declaration F) : Type 0 where
  pub fits : FitsAir l d
  pub there : NoneMissing (IsMissing (layout_shape l)) d.constraints

-- the number of constraints
abbrev pub constraint_count : ConstraintLayout → ℕ
constraint_count l = vec_len l.base_indices + vec_len l.ext_indices

-- the indices of the base constraints, then those of the extension constraints
abbrev pub constraint_indices : ConstraintLayout → List ℕ
constraint_indices l = l.base_indices.items ++ l.ext_indices.items

-- the first index at or past a total
abbrev pub first_past : ℕ → List ℕ → Option ℕ
first_past total indices = find (nat_le total) indices

-- the count fits `usize`, and each index is below it
pub record IsWithinCount (l : ConstraintLayout) : Type 0 where
  pub fits : constraint_count l < 2 ^ 64
  pub below : All (λ i. i < constraint_count l) (constraint_indices l)

-- `Memory`; a count past `usize`, which no memory holds; or the first index at or past the count, base indices first
abbrev pub DecompositionRefuses : ConstraintLayout → AirError → Type 0
DecompositionRefuses l Memory = ⊤
DecompositionRefuses l CountOverflow = 2 ^ 64 ≤ constraint_count l
DecompositionRefuses l (IndexPastTotal index total) =
    (total ≡ constraint_count l) × (first_past (constraint_count l) (constraint_indices l) ≡ Some index)
DecompositionRefuses l _ = ⊥
