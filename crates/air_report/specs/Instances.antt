-- Instances: an AIR on a trace.
use Rattle.std.specs.Prelude.{ℕ, List, length, map}
use Rattle.air_field.specs.Grid.{Grid, table_grid}
use Rattle.air_field.specs.Assignment.{Trace}
use Rattle.air_builder.specs.Declaration.{Declaration}

-- An instance: an AIR's declaration, a main trace and public values.
pub record Instance (F : Type 0) : Type 0 where
  pub air : Declaration F
  pub main : Grid F
  pub public : List F

abbrev pub instance : {F : Type 0} → Declaration F → Grid F → List F → Instance F
instance air trace values = record { air = air; main = trace; public = values }

-- the number of rows of the main trace
abbrev pub row_count : {F : Type 0} → Instance F → ℕ
row_count x = length x.main.rows

-- the whole trace: main, preprocessed, periodic columns and public values
abbrev pub instance_trace : {F : Type 0} → Instance F → Trace F
instance_trace x = record {
  main_trace = x.main;
  preprocessed_trace = table_grid x.air.preprocessed;
  periodic_columns = map (λ column. column.items) x.air.periodic;
  public_values = x.public;
}
