-- Named builders that discard labels, and named builders under a filter.
use Rattle.std.specs.Prelude.{List}
use Rattle.air_field.specs.Term.{Term}
use Rattle.air_builder.specs.Assertion.{filter_by}
use Rattle.air_builder.specs.Builders.{BuilderView, MeansIn}
use Rattle.air_builder.specs.Filters.{GrewUnder}
use Rattle.air_builder.specs.Labels.{Labelled}

-- a labelled assertion under a condition
abbrev pub filtered_label : {F : Type 0} → Term F → Labelled F → Labelled F
filtered_label c l = (filter_by c l.0, l.1)

-- the builder inside grew by the condition times each term, under the same labels
abbrev pub LabelledInside : {S R E F N : Type 0} → BuilderView S R E F → (S → S → List (Labelled F) → Type 0)
    → N → N → E → E → S → S → List (Labelled F) → Type 0
LabelledInside view labelled n m x y a b ls = GrewUnder filtered_label view.kept labelled (MeansIn view) n m x y a b ls
