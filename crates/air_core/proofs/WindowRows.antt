-- The rows of a matrix of two rows.
use Rattle.std.specs.Prelude.{slice_get}
use Rattle.std.proofs.Common.{◌≡◌, ◌∙◌, List, Some, drop, sym, ap}
use Rattle.std.proofs.lemmas.Option.{same_Some}
use Rattle.air_field.specs.Grid.{Grid, IsTwoRows, first_of, first_row_of, second_row_of}

module _ {T : Type 0} (g : Grid T) (h : IsTwoRows g) (row : List T) where
  -- the row that is found at 0 is the first
  pub first_is : Some row ≡ slice_get g.rows 0 → row ≡ first_row_of g
  first_is e = same_Some row h.0 (e ∙ ap (λ rows. slice_get rows 0) h.2) ∙ sym (ap first_of h.2)

  -- the row that is found at 1 is the second
  pub second_is : Some row ≡ slice_get g.rows 1 → row ≡ second_row_of g
  second_is e = same_Some row h.1 (e ∙ ap (λ rows. slice_get rows 1) h.2) ∙ sym (ap (λ rows. first_of (drop 1 rows)) h.2)
