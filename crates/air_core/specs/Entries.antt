-- Which leaf a variable is.
use Rattle.std.specs.Prelude.{ℕ}
use Rattle.air_field.specs.Term.{Leaf, preprocessed, main, periodic, public}
use Rattle.air_core.specs.declared.variables.entry.BaseEntry.{BaseEntry}
use Rattle.air_core.specs.declared.variables.entry.BaseEntry.TheVariants.{Preprocessed, Main, Periodic, Public}

-- the leaf at place i of an entry
abbrev pub entry_leaf : BaseEntry → ℕ → Leaf
entry_leaf (Preprocessed o) i = preprocessed o i
entry_leaf (Main o) i = main o i
entry_leaf Periodic i = periodic i
entry_leaf Public i = public i
