-- The answer to the word `explain`.
use Rattle.std.specs.Prelude.{◌≡◌, ℕ, ◌-◌, ◌<◌, List, [], ◌∷◌, ◌++◌, length, map, Option, None, Some, slice_get}
use Rattle.std.specs.Option.{option_to_list}
use Rattle.std.specs.List.{AllZip, flat_map}
use Rattle.serde_json.specs.Data.{Data}
use Rattle.air_field.specs.Assignment.{Trace, row_assignment}
use Rattle.air_field.specs.Grid.{table_grid}
use Rattle.air_field.specs.Modular.{Modular, modular_ring}
use Rattle.air_field.specs.Term.{Leaf}
use Rattle.air_core.specs.declared.boundary.BoundaryPublic.{BoundaryPublic}
use Rattle.air_symbolic.specs.BaseLeaves.{base_leaves}
use Rattle.air_symbolic.specs.ExtLeaves.{BaseNodes}
use Rattle.air_symbolic.specs.Reach.{Reached}
use Rattle.air_print.specs.Names.{AreNames}
use Rattle.air_print.specs.Cells.{cell_line}
use Rattle.air_print.specs.Explained.{Explains, reached_definitions}
use Rattle.air_audit.specs.declared.audit.Audit.{Audit}
use Rattle.air_object.specs.declared.input.FlatInput.{FlatInput}
use Rattle.air_program.specs.FlatAnswer.{AnswersAudit}
use Rattle.air_program.specs.Reasons.{input_refusal}
use Rattle.air_program.specs.Refusals.{AnswersReason, air_name}
use Rattle.air_program.specs.Texts.{Found, found_in, place_of, IsFailureLine, count_lines, findings_status}
use Rattle.air_print.specs.Lines.{lines_text, listed_name}

-- a failure: its row, its constraint and the label's bytes
abbrev pub Failure : Type 0
Failure = ℕ × ℕ × Option (List ℕ)

-- the roots of the failures' constraints
abbrev pub failing_roots : List ℕ → List Failure → List ℕ
failing_roots roots failures = flat_map (λ f. option_to_list (slice_get roots (place_of f).1)) failures

-- a line for the boundary value, if there is one; s gives the values of the leaves
abbrev pub cell_lines : {F : Type 0} {p : ℕ} → Modular F p → (Leaf → F) → Option BoundaryPublic → List (List ℕ)
cell_lines m s None = []
cell_lines m s (Some cell) = cell_line m s cell.column cell.public_value ∷ []

-- Below, constraints are roots of a pool, and `names` has the name of expression i at index i.

module _ {F : Type 0} {p : ℕ} (m : Modular F p) (pool : BaseNodes F) (roots : List ℕ) (cells : List BoundaryPublic) (trace : Trace F) (names : List (Option ℕ)) where
  -- the values of the leaves at a row
  abbrev pub at_row : ℕ → Leaf → F
  at_row row = row_assignment (modular_ring m) trace row

  -- The lines below a failure. For a root: the lines that explain it at the failure's row, if the row is in the trace. Otherwise: the line of the boundary
  -- value whose index is the failure's constraint index less the number of roots.
  abbrev pub StandsBelow : ℕ × ℕ → Option ℕ → List (List ℕ) → Type 0
  StandsBelow place (Some root) lines =
      place.0 < length trace.main_trace.rows → Explains m (modular_ring m) (at_row place.0) pool names root lines
  StandsBelow place None lines = lines ≡ cell_lines m (at_row place.0) (slice_get cells (place.1 - length roots))

  -- the line that `flat` prints for the failure, and the lines below it
  pub record IsExplained (f : Failure) (lines : List (List ℕ)) : Type 0 where
    pub line : List ℕ
    pub below : List (List ℕ)
    pub is_line : IsFailureLine f line
    pub is_below : StandsBelow (place_of f) (slice_get roots (place_of f).1) below
    pub lines_are : lines ≡ line ∷ below

  -- `new` is `old` followed by the lines that explain these failures
  pub record PushesExplained (failures : List Failure) (old new : List ℕ) : Type 0 where
    pub blocks : List (List (List ℕ))
    pub each : AllZip IsExplained failures blocks
    pub pushed : new ≡ old ++ lines_text (flat_map (λ b. b) blocks)

-- `new` is `old` followed by a line for each name that the failures' constraints reach, in order
pub record PushesNames {F : Type 0} {p : ℕ} (m : Modular F p) (pool : BaseNodes F) (roots : List ℕ) (names : List ℕ × List (Option ℕ)) (failures : List Failure) (old new : List ℕ) : Type 0 where
  pub marks : List (Option ℕ)
  pub failing : Reached base_leaves pool.nodes (failing_roots roots failures) marks
  pub pushed : new ≡ old ++ lines_text (reached_definitions m pool names marks)

-- The lines of the counts, and the definitions of those names of `show` that failing constraints reach, in order.
abbrev pub front_lines : {F : Type 0} {p : ℕ} → Modular F p → BaseNodes F → List ℕ × List (Option ℕ) → List (Option ℕ) → Found → List (List ℕ)
front_lines m pool names marks f = count_lines f ++ reached_definitions m pool names marks

-- These lines, and then each failure with the lines below it.
pub record IsExplainedText {F : Type 0} {p : ℕ} (m : Modular F p) (pool : BaseNodes F) (roots : List ℕ) (cells : List BoundaryPublic) (trace : Trace F) (f : Found) (text : List ℕ) : Type 0 where
  pub names : List ℕ × List (Option ℕ)
  pub are_names : AreNames base_leaves pool.nodes roots names
  pub marks : List (Option ℕ)
  pub failing : Reached base_leaves pool.nodes (failing_roots roots f.failures) marks
  pub explains : PushesExplained m pool roots cells trace names.1 f.failures (lines_text (front_lines m pool names marks f)) text

-- the same expressions have names, and each of them has the same name
abbrev pub NamesAlike : List ℕ × List (Option ℕ) → List ℕ × List (Option ℕ) → Type 0
NamesAlike a b = (a.0 ≡ b.0) × ((i : ℕ) → listed_name a.1 i ≡ listed_name b.1 i)

-- the trace of an input
abbrev pub input_trace : {F : Type 0} → FlatInput F → Trace F
input_trace i = record {
  main_trace = i.trial.main;
  preprocessed_trace = table_grid i.beside.preprocessed;
  periodic_columns = map (λ column. column.items) i.beside.periodic.items;
  public_values = i.trial.public_values.items;
}

-- the explanation of what an audit of the input found
abbrev pub ExplainsInput : {F : Type 0} {p : ℕ} → Modular F p → FlatInput F → Audit F → List ℕ → Type 0
ExplainsInput m i audit = IsExplainedText m i.constraints.pool i.constraints.roots.items i.beside.cells.items (input_trace i) (found_in audit)

-- what the audit found, explained, or the name of the first error and its reason
abbrev pub ExplainedIn : (F : Type 0) (p : ℕ) → Modular F p → Data → ℕ → List ℕ → Type 0
ExplainedIn F p m =
    AnswersAudit m (λ input audit status text. (status ≡ findings_status (found_in audit)) × ExplainsInput m input audit text)
    (λ d e. AnswersReason (air_name e) (input_refusal m d e))
