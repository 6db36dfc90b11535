-- The label of an expression that is made and then asserted under a name.
use Rattle.std.proofs.Common.{ℕ, List, [], ◌∷◌, Option, Result, Ok, Err, OnOk, OnErr, refl}
use Rattle.air_field.specs.Term.{Leaf, Term}
use Rattle.air_core.specs.declared.errors.AirError.{AirError}
use Rattle.air_builder.specs.Assertion.{Assertion}
use Rattle.air_builder.specs.Batches.{AssertsOf}
use Rattle.air_builder.specs.Labels.{Labelled, LabelledEach, NamedLaws}
use Rattle.air_builder.specs.laws.Labels.{one_label, no_label}
use Rattle.air_author.specs.Constraints.{IsLabelled}
use Rattle.air_author.specs.Expressions.{MakesTerm}

module _ {S E F : Type 0} {grew : S → S → List (Assertion F) → Type 0} {labelled : S → S → List (Labelled F) → Type 0}
    (named : NamedLaws grew labelled) {means : S → E → Term F → Type 0} {missing : S → Leaf → Type 0}
    {refuses : S → AirError → List (Assertion F) → Type 0} {says : Option (List ℕ) → Type 0} where
  -- the assertion has the label of its name
  pub made_then_labelled : (one : Term F → Assertion F) (a b d : S) (x : E) (r : Result (Unit {0}) AirError) (t : Term F)
      → MakesTerm means grew missing refuses a b (Ok x) t
      → LabelledEach (AssertsOf one means (λ t. t)) labelled (λ i. says) b d (x ∷ []) r
      → OnOk r (IsLabelled labelled says a d (one t))
  made_then_labelled one a b d x (Ok u) t h k =
      let l = one_label k in
      record {
        label = l.label;
        said = l.said;
        grown = named.labelled_joined a b d [] ((one t, l.label) ∷ []) (named.labelled_nothing a b h.keeps) (l.grown (one t) (t, h.made.0, refl));
      }
  made_then_labelled one a b d x (Err e) t h k = tt

  -- where the assertion was refused, nothing is labelled
  pub made_then_refused : (one : Term F → Assertion F) (a b d : S) (x : E) (r : Result (Unit {0}) AirError) (t : Term F)
      → MakesTerm means grew missing refuses a b (Ok x) t
      → LabelledEach (AssertsOf one means (λ t. t)) labelled (λ i. says) b d (x ∷ []) r
      → OnErr r (labelled a d [])
  made_then_refused one a b d x (Ok u) t h k = tt
  made_then_refused one a b d x (Err e) t h k = named.labelled_joined a b d [] [] (named.labelled_nothing a b h.keeps) (no_label k)
