-- The two rows of a matrix of two rows have equal length.
use Rattle.std.specs.Prelude.{◌≡◌, length, drop}
use Rattle.std.proofs.Common.{sym, ap, ◌∙◌}
use Rattle.air_field.specs.Grid.{Grid, IsTwoRows, first_of, first_row_of, second_row_of}

pub two_rows_width : {T : Type 0} (g : Grid T) → IsTwoRows g → length (first_row_of g) ≡ length (second_row_of g)
two_rows_width g h =
    ap (λ rows. length (first_of rows)) h.2 ∙ h.3 ∙ sym (ap (λ rows. length (first_of (drop 1 rows))) h.2)
