-- Whether a trace has the columns and public values that its AIR declares.
use Rattle.std.specs.Prelude.{◌≡◌, ◌≢◌, length}
use Rattle.air_report.specs.Instances.{Instance}
use Rattle.air_audit.specs.declared.declared_shape.ShapeError.{ShapeError}
use Rattle.air_audit.specs.declared.declared_shape.ShapeError.TheVariants.{MainWidth, PublicValues}

-- The trace has the declared number of columns, and there are as many public values as the AIR declares.
pub record HasDeclaredShape {F : Type 0} (x : Instance F) : Type 0 where
  pub columns : x.main.width ≡ x.air.width
  pub public_values : length x.public ≡ x.air.num_public_values

-- the first count, in this order, that isn't the declared one
abbrev pub ShapeRefuses : {F : Type 0} → Instance F → ShapeError → Type 0
ShapeRefuses x (MainWidth trace air) = (trace ≡ x.main.width) × (air ≡ x.air.width) × (trace ≢ air)
ShapeRefuses x (PublicValues given air) =
    (x.main.width ≡ x.air.width) × (given ≡ length x.public) × (air ≡ x.air.num_public_values) × (given ≢ air)
