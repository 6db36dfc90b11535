-- The declaration of an AIR.
use Rattle.std.specs.Prelude.{ℕ, List, [], Option, None, Some, Vec}
use Rattle.std.specs.Global.{Global}
use Rattle.air_field.specs.Grid.{Grid}
use Rattle.air_builder.specs.Assertion.{Assertion}
use Rattle.air_builder.specs.declared.airs.beside.Beside.{Beside}
use Rattle.air_core.specs.declared.boundary.BoundaryPublic.{BoundaryPublic}

-- The declared constraints, in order; the number of columns of the main trace and of public values; the preprocessed trace,
-- if there is one; the periodic columns, each the values of one period; and the boundary values: cells of the main trace
-- that hold public values.
pub record Declaration (F : Type 0) : Type 0 where
  pub constraints : List (Assertion F)
  pub width : ℕ
  pub num_public_values : ℕ
  pub preprocessed : Option (Grid F)
  pub periodic : List (Vec F Global)
  pub cells : List BoundaryPublic

-- constraints, and all else that an AIR declares
abbrev pub declaration_of : {F : Type 0} → List (Assertion F) → Beside F → Declaration F
declaration_of ts b = record {
  constraints = ts;
  width = b.width;
  num_public_values = b.num_public_values;
  preprocessed = b.preprocessed;
  periodic = b.periodic.items;
  cells = b.cells.items;
}

-- constraints on a main trace of this width, with `public` public values, and nothing else
abbrev pub plain_declaration : {F : Type 0} → List (Assertion F) → ℕ → ℕ → Declaration F
plain_declaration ts width public = record {
  constraints = ts;
  width = width;
  num_public_values = public;
  preprocessed = None;
  periodic = [];
  cells = [];
}

-- the number of columns of a preprocessed trace, 0 without one
abbrev pub table_width : {F : Type 0} → Option (Grid F) → ℕ
table_width None = 0
table_width (Some table) = table.width
