-- The effect of making an expression.
use Rattle.std.specs.Prelude.{ℕ, zero, suc, List, [], ◌∷◌, All, Result, Ok, Err, OnOk, IfOk, IfErr}
use Rattle.std.specs.List.{AllZip}
use Rattle.air_field.specs.Term.{Leaf, Term}
use Rattle.air_field.specs.declared.errors.RingError.{RingError}
use Rattle.air_core.specs.declared.errors.AirError.{AirError}
use Rattle.air_core.specs.Errors.{air_error}
use Rattle.air_builder.specs.Assertion.{Assertion}
use Rattle.air_builder.specs.Builders.{BuilderView, MeansIn}
use Rattle.air_builder.specs.Notation.{constant, ◌⊙◌}
use Rattle.air_builder.specs.Refusals.{PartOf, EachLeaf}

-- the fact holds of the builder, and of every state that keeps it
abbrev pub AlwaysAfter : {S : Type 0} → (S → S → Type 0) → (S → Type 0) → S → Type 0
AlwaysAfter {S} kept fact a = (b : S) → kept a b → fact b

-- The effect of a call that makes an element of each term, in order. Nothing was asserted, and at Ok no leaf of the terms is
-- missing. An error is one that the builder may give of any list that has each of the terms as a part.
pub record Makes {S E F X Y : Type 0} (elements : Y → List E) (means : S → E → Term F → Type 0)
    (grew : S → S → List (Assertion F) → Type 0) (missing : S → Leaf → Type 0)
    (refuses : S → X → List (Assertion F) → Type 0) (a b : S) (r : Result Y X) (ts : List (Term F)) : Type 0 where
  pub keeps : grew a b []
  pub made : IfOk r (λ y. AllZip (means b) (elements y) ts)
  pub there : OnOk r (All (EachLeaf (λ l. missing a l → ⊥)) ts)
  pub refused : IfErr r (λ e. (ss : List (Assertion F)) → All (λ t. PartOf t ss) ts → refuses a e ss)

-- `Makes` for one element of one term
abbrev pub MakesTerm : {S E F X : Type 0} → (S → E → Term F → Type 0) → (S → S → List (Assertion F) → Type 0)
    → (S → Leaf → Type 0) → (S → X → List (Assertion F) → Type 0) → S → S → Result E X → Term F → Type 0
MakesTerm means grew missing refuses a b r t = Makes (λ x. x ∷ []) means grew missing refuses a b r (t ∷ [])

-- `Makes` for a pair of elements of two terms
abbrev pub MakesBoth : {S E F X : Type 0} → (S → E → Term F → Type 0) → (S → S → List (Assertion F) → Type 0)
    → (S → Leaf → Type 0) → (S → X → List (Assertion F) → Type 0) → S → S → Result (E × E) X → Term F → Term F → Type 0
MakesBoth means grew missing refuses a b r t u = Makes (λ p. p.0 ∷ p.1 ∷ []) means grew missing refuses a b r (t ∷ u ∷ [])

-- `MakesTerm` and `MakesBoth` for a builder's view
abbrev pub MakesIn : {S R E F : Type 0} → BuilderView S R E F → S → S → Result E AirError → Term F → Type 0
MakesIn view a b r t = MakesTerm (MeansIn view) view.grew view.missing view.refuses a b r t

abbrev pub MakesBothIn : {S R E F : Type 0} → BuilderView S R E F → S → S → Result (E × E) AirError → Term F → Term F → Type 0
MakesBothIn view a b r t u = MakesBoth (MeansIn view) view.grew view.missing view.refuses a b r t u

-- a ring's answer as its builder's: the error is converted
abbrev pub air_result : {E : Type 0} → Result E RingError → Result E AirError
air_result (Ok x) = Ok x
air_result (Err e) = Err (air_error e)

-- the n-fold product of the term, from the left; one for n = 0
abbrev pub power_term : {F : Type 0} → F → Term F → ℕ → Term F
power_term one t zero = constant one
power_term one t (suc zero) = t
power_term one t (suc (suc n)) = power_term one t (suc n) ⊙ t

-- x means the term in the builder, and no leaf of the term is missing
pub record IsUsable {S E F : Type 0} (means : S → E → Term F → Type 0) (missing : S → Leaf → Type 0) (x : E) (t : Term F) (b : S) : Type 0 where
  pub meant : means b x t
  pub leaves : EachLeaf (λ l. missing b l → ⊥) t

-- `IsUsable` for a builder's view
abbrev pub IsUsableIn : {S R E F : Type 0} → BuilderView S R E F → E → Term F → S → Type 0
IsUsableIn view = IsUsable (MeansIn view) view.missing
