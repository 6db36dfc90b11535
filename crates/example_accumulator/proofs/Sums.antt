-- The public value is the sum of the column.
use Rattle.std.specs.Prelude.{◌≡◌, ◌<◌, List, ◌++◌, slice_index_or}
use Rattle.std.proofs.Common.{◌∙◌, ap}
use Rattle.p3_air.specs.Author.{Assertion, CommRing, current, next, public, first_row, last_row, transition, ◌⊕◌, ◌≐◌, is_zero, when}
use Rattle.p3_air.specs.Assignment.{Trace}
use Rattle.air_chains.specs.Chains.{column_sum}
use Rattle.air_chains.specs.Rows.{height, value_at, HoldOnRows}
use Rattle.air_chains.specs.laws.Chains.{folds_over_rows}
use Rattle.air_chains.specs.laws.Rows.{both_hold, first_row_holds, next_is, last_is}
use Rattle.example_accumulator.specs.Accumulator.{accumulator}

module _ {F : Type 0} (R : CommRing F) (t : Trace F) where
  pub total_is_sum : HoldOnRows R t accumulator → 0 < height t → value_at R t 0 (public 0) ≡ column_sum R 0 t.main_trace.rows
  total_is_sum holds some =
      let first : List (Assertion F) = when first_row (is_zero (current 1)) in
      let transitions : List (Assertion F) = when transition (next 1 ≐ current 1 ⊕ current 0) in
      let last : List (Assertion F) = when last_row (public 0 ≐ current 1 ⊕ current 0) in
      let begins = both_hold R t first (transitions ++ last) holds in
      let rest = both_hold R t transitions last begins.1 in
      folds_over_rows (λ total row. R.add total (slice_index_or row 0 R.zero)) t.main_trace.rows some
      (λ i total. value_at R t i (current 1) ≡ total)
      (λ total. value_at R t 0 (public 0) ≡ total)
      R.zero
      (first_row_holds R t (is_zero (current 1)) begins.0 some).0
      (λ i total more is. next_is R t 1 (current 1 ⊕ current 0) rest.0 i more ∙ ap (λ x. R.add x (value_at R t i (current 0))) is)
      (λ i total at_end is. last_is R t (public 0) (current 1 ⊕ current 0) rest.1 i at_end ∙ ap (λ x. R.add x (value_at R t i (current 0))) is)
