-- What a value has, as the specification sees it: each root as its tree.
use Rattle.std.specs.Prelude.{map, Result, string_bytes}
use Rattle.std.specs.Result.{result_map_both}
use Rattle.air_field.specs.declared.errors.MatrixError.{MatrixError}
use Rattle.air_symbolic.specs.Pools.{tree_at}
use Rattle.air_object.specs.Members.{MemberValues, Made, LabelledTrees}
use Rattle.air_object.specs.declared.input.FlatInput.{FlatInput}
use Rattle.air_object.specs.declared.labelled.Labelled.{Labelled}

abbrev pub seen_labelled : {F : Type 0} → Labelled F → LabelledTrees F
seen_labelled l = (map (tree_at l.pool) l.roots.items, map string_bytes l.labels.items)

abbrev pub seen_input : {F : Type 0} → FlatInput F → MemberValues F
seen_input i = record {
  width = i.beside.width;
  main = i.trial.main;
  preprocessed = i.beside.preprocessed;
  num_public_values = i.beside.num_public_values;
  public_values = i.trial.public_values.items;
  constraints = (seen_labelled i.constraints).0;
  periodic = map (λ c. c.items) i.beside.periodic.items;
  boundary = i.beside.cells.items;
  cap = i.trial.cap;
  weight = i.trial.transition_weight;
  labels = (seen_labelled i.constraints).1;
}

-- the same of an input or the error of a matrix
abbrev pub seen_made : {F : Type 0} → Result (FlatInput F) MatrixError → Made F
seen_made r = result_map_both seen_input (λ f. f) r
