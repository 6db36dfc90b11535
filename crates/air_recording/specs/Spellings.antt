-- Layouts as JSON values: how they are written and read.
use Rattle.std.specs.Prelude.{◌≡◌, ℕ, List, Option, Some, option_and_then, codes}
use Rattle.serde_json.specs.Data.{Data, object, member, no_members}
use Rattle.air_json.specs.Parts.{whole_at}
use Rattle.air_json.specs.Spelling.{number_data, HasWhole}
use Rattle.air_json.specs.WholeNumbers.{wholes_data, HasWholes}
use Rattle.air_recording.specs.declared.layouts.air_layout.AirLayout.{AirLayout}
use Rattle.air_recording.specs.declared.layouts.constraint_layout.ConstraintLayout.{ConstraintLayout}

-- ---- the written values

abbrev pub layout_data : AirLayout → Data
layout_data l = object (
    member (codes "main_width") (number_data l.main_width) (
    member (codes "num_periodic_columns") (number_data l.num_periodic_columns) (
    member (codes "num_permutation_challenges") (number_data l.num_permutation_challenges) (
    member (codes "num_permutation_values") (number_data l.num_permutation_values) (
    member (codes "num_public_values") (number_data l.num_public_values) (
    member (codes "permutation_width") (number_data l.permutation_width) (
    member (codes "preprocessed_width") (number_data l.preprocessed_width) no_members)))))))

abbrev pub constraints_data : ConstraintLayout → Data
constraints_data l = object (
    member (codes "base_indices") (wholes_data l.base_indices.items) (
    member (codes "ext_indices") (wholes_data l.ext_indices.items) no_members))

-- ---- a value that spells a layout; further keys of the object are ignored

pub record SpellsLayout (d : Data) (l : AirLayout) : Type 0 where
  pub preprocessed : HasWhole (codes "preprocessed_width") l.preprocessed_width d
  pub main : HasWhole (codes "main_width") l.main_width d
  pub public : HasWhole (codes "num_public_values") l.num_public_values d
  pub permutation : HasWhole (codes "permutation_width") l.permutation_width d
  pub challenges : HasWhole (codes "num_permutation_challenges") l.num_permutation_challenges d
  pub values : HasWhole (codes "num_permutation_values") l.num_permutation_values d
  pub periodic : HasWhole (codes "num_periodic_columns") l.num_periodic_columns d

pub record SpellsConstraints (d : Data) (l : ConstraintLayout) : Type 0 where
  pub base : HasWholes (codes "base_indices") l.base_indices.items d
  pub ext : HasWholes (codes "ext_indices") l.ext_indices.items d

-- both have the same indices
pub record HaveSameIndices (l m : ConstraintLayout) : Type 0 where
  pub base : l.base_indices.items ≡ m.base_indices.items
  pub ext : l.ext_indices.items ≡ m.ext_indices.items

-- ---- how a reader finds them

-- passes the whole number in the field of this name on to `next`; None without one
abbrev pub with_count : List ℕ → Data → (ℕ → Option AirLayout) → Option AirLayout
with_count name d next = option_and_then next (whole_at name d)

unfoldable pub layout_from_data : Data → Option AirLayout
layout_from_data d =
    with_count (codes "preprocessed_width") d (λ preprocessed.
    with_count (codes "main_width") d (λ main.
    with_count (codes "num_public_values") d (λ public.
    with_count (codes "permutation_width") d (λ permutation.
    with_count (codes "num_permutation_challenges") d (λ challenges.
    with_count (codes "num_permutation_values") d (λ values.
    with_count (codes "num_periodic_columns") d (λ periodic.
    Some (record {
      preprocessed_width = preprocessed;
      main_width = main;
      num_public_values = public;
      permutation_width = permutation;
      num_permutation_challenges = challenges;
      num_permutation_values = values;
      num_periodic_columns = periodic;
    }))))))))
