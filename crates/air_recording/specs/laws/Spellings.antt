-- Layouts as JSON values: the reader answers the layout that is spelt, and the writer writes a spelling of it.
use Rattle.std.specs.Prelude.{◌≡◌, ℕ, List, Option, Some, None, option_and_then, codes, refl}
use Rattle.std.proofs.Common.{sym, ap, ◌∙◌}
use Rattle.serde_json.specs.Data.{Data}
use Rattle.air_json.specs.Spelling.{HasWhole}
use Rattle.air_json.specs.laws.WholeNumbers.{wholes_read}
use Rattle.air_json.specs.Parts.{whole_at}
use Rattle.air_json.specs.laws.Readings.{by_some, field_found, field_read}
use Rattle.air_recording.specs.Spellings.{layout_data, constraints_data, SpellsLayout, SpellsConstraints, HaveSameIndices, with_count, layout_from_data}
use Rattle.air_recording.specs.declared.layouts.air_layout.AirLayout.{AirLayout}
use Rattle.air_recording.specs.declared.layouts.constraint_layout.ConstraintLayout.{ConstraintLayout}

pub layout_is_spelt : (l : AirLayout) → SpellsLayout (layout_data l) l
layout_is_spelt l = record { preprocessed = refl; main = refl; public = refl; permutation = refl; challenges = refl; values = refl; periodic = refl }

-- one field is read
count_read : (name : List ℕ) (d : Data) (n : ℕ) (next : ℕ → Option AirLayout) → HasWhole name n d → with_count name d next ≡ next n
count_read name d n next h = ap (option_and_then next) (field_read name d n h)

pub layout_again : (d : Data) (l : AirLayout) → SpellsLayout d l → layout_from_data d ≡ Some l
unfolding layout_from_data
layout_again d l h =
    count_read (codes "preprocessed_width") d l.preprocessed_width _ h.preprocessed
    ∙ (count_read (codes "main_width") d l.main_width _ h.main
    ∙ (count_read (codes "num_public_values") d l.num_public_values _ h.public
    ∙ (count_read (codes "permutation_width") d l.permutation_width _ h.permutation
    ∙ (count_read (codes "num_permutation_challenges") d l.num_permutation_challenges _ h.challenges
    ∙ (count_read (codes "num_permutation_values") d l.num_permutation_values _ h.values
    ∙ count_read (codes "num_periodic_columns") d l.num_periodic_columns _ h.periodic)))))

-- one field was found, and the result of `next`
found_of : (o : Option ℕ) (next : ℕ → Option AirLayout) (l : AirLayout) → option_and_then next o ≡ Some l → (n : ℕ) × (o ≡ Some n) × (next n ≡ Some l)
found_of None next l e = absurd cc
found_of (Some n) next l e = (n, refl, e)

pub layout_found : (d : Data) (l : AirLayout) → layout_from_data d ≡ Some l → SpellsLayout d l
unfolding layout_from_data
layout_found d l e =
    let preprocessed = found_of (whole_at (codes "preprocessed_width") d) _ l e in
    let main = found_of (whole_at (codes "main_width") d) _ l preprocessed.2 in
    let public = found_of (whole_at (codes "num_public_values") d) _ l main.2 in
    let permutation = found_of (whole_at (codes "permutation_width") d) _ l public.2 in
    let challenges = found_of (whole_at (codes "num_permutation_challenges") d) _ l permutation.2 in
    let values = found_of (whole_at (codes "num_permutation_values") d) _ l challenges.2 in
    let periodic = found_of (whole_at (codes "num_periodic_columns") d) _ l values.2 in
    by_some (SpellsLayout d) _ l
    (record {
      preprocessed = field_found (codes "preprocessed_width") d preprocessed.0 preprocessed.1;
      main = field_found (codes "main_width") d main.0 main.1;
      public = field_found (codes "num_public_values") d public.0 public.1;
      permutation = field_found (codes "permutation_width") d permutation.0 permutation.1;
      challenges = field_found (codes "num_permutation_challenges") d challenges.0 challenges.1;
      values = field_found (codes "num_permutation_values") d values.0 values.1;
      periodic = field_found (codes "num_periodic_columns") d periodic.0 periodic.1;
    })
    periodic.2

pub layout_is_only : (d : Data) (l m : AirLayout) → SpellsLayout d l → SpellsLayout d m → l ≡ m
layout_is_only d l m h k = same l m (sym (layout_again d l h) ∙ layout_again d m k)
  where
    same : (l m : AirLayout) → Some l ≡ Some m → l ≡ m
    same l m e = cc

-- ---- layouts of constraints

pub constraints_are_spelt : (l : ConstraintLayout) → SpellsConstraints (constraints_data l) l
constraints_are_spelt l = record { base = refl; ext = refl }

same_numbers : (ns ms : List ℕ) (o : Option (List ℕ)) → o ≡ Some ns → o ≡ Some ms → ns ≡ ms
same_numbers ns ms o h k = cc

pub constraints_are_only : (d : Data) (l m : ConstraintLayout) → SpellsConstraints d l → SpellsConstraints d m → HaveSameIndices l m
constraints_are_only d l m h k = record {
  base = same_numbers l.base_indices.items m.base_indices.items _ (wholes_read (codes "base_indices") d l.base_indices.items h.base) (wholes_read (codes "base_indices") d m.base_indices.items k.base);
  ext = same_numbers l.ext_indices.items m.ext_indices.items _ (wholes_read (codes "ext_indices") d l.ext_indices.items h.ext) (wholes_read (codes "ext_indices") d m.ext_indices.items k.ext);
}
