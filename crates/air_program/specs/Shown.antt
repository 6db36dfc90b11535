-- The answer to the word `show`.
use Rattle.std.specs.Prelude.{◌≡◌, ◌⊎◌, ℕ, List, map}
use Rattle.serde_json.specs.Data.{Data}
use Rattle.air_field.specs.Modular.{Modular}
use Rattle.air_symbolic.specs.ExtLeaves.{BaseNodes}
use Rattle.air_symbolic.specs.Pools.{tree_at}
use Rattle.air_json.specs.Faults.{air_fault}
use Rattle.air_json.specs.declared.errors.FlatError.{FlatError}
use Rattle.air_print.specs.Lines.{ShowsRoots}
use Rattle.air_object.specs.Gained.{AreRootsOf}
use Rattle.air_object.specs.Members.{labelled_constraints}
use Rattle.air_program.specs.Reasons.{labelled_refusal}
use Rattle.air_program.specs.Refusals.{AnswersReason, air_name}

-- The text shows the roots of the value's pool, which have the trees that the member `constraints` spells, with the
-- labels that the member `labels` spells.
pub record ShowsValue {F : Type 0} {p : ℕ} (m : Modular F p) (d : Data) (text : List ℕ) : Type 0 where
  pub pool : BaseNodes F
  pub roots : List ℕ
  pub are : AreRootsOf m d pool roots
  pub labels : List (List ℕ)
  pub spelt : (labelled_constraints m).spells d (map (tree_at pool) roots, labels)
  pub shows : ShowsRoots m pool roots labels text

-- such a text, or the name of the first fault of the two members and its reason
abbrev pub ShownIn : (F : Type 0) (p : ℕ) → Modular F p → Data → ℕ → List ℕ → Type 0
ShownIn F p m d status text =
    ((status ≡ 0) × ShowsValue m d text)
    ⊎ ((f : FlatError) × (labelled_constraints m).fault d f × AnswersReason (air_name (air_fault f)) (labelled_refusal m d (air_fault f)) status text)
