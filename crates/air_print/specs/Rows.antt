-- The values that the leaves read at a row.
use Rattle.std.specs.Prelude.{ℕ, ◌%◌, List, length, map, Vec, slice_index_or}
use Rattle.std.specs.Global.{Global}
use Rattle.air_field.specs.Assignment.{Trace}
use Rattle.air_field.specs.Grid.{table_grid}
use Rattle.air_print.specs.declared.rows.TraceRows.{TraceRows}

abbrev pub columns_of : {F : Type 0} → List (Vec F Global) → List (List F)
columns_of columns = map (λ column. column.items) columns

-- a periodic column at a row, or z if there is no such column
abbrev pub periodic_at : {F : Type 0} → F → List (Vec F Global) → ℕ → ℕ → F
periodic_at z columns row c =
    slice_index_or (map (λ column. slice_index_or column (row % length column) z) (columns_of columns)) c z

abbrev pub trace_of : {F : Type 0} → TraceRows F → Trace F
trace_of t = record {
  main_trace = t.main.now;
  preprocessed_trace = table_grid t.preprocessed.now;
  periodic_columns = columns_of t.periodic.now;
  public_values = t.public_values.now;
}
