-- The base and the extension terms of a declared list, and their indices in it.
use Rattle.std.specs.Prelude.{◌≡◌, ℕ, Bool, true, false, List, [], ◌∷◌, map}
use Rattle.std.specs.List.{filter, enumerate_from}
use Rattle.air_field.specs.Term.{Term}
use Rattle.air_builder.specs.Assertion.{Assertion, Base, Extension}
use Rattle.air_recording.specs.declared.symbolic.kind.ConstraintKind.{ConstraintKind}
use Rattle.air_recording.specs.declared.symbolic.kind.ConstraintKind.TheVariants as kind

abbrev pub kind_of : {F : Type 0} → Assertion F → ConstraintKind
kind_of (Base t) = kind.Base
kind_of (Extension t) = kind.Extension

-- the base terms, in order
abbrev pub base_terms : {F : Type 0} → List (Assertion F) → List (Term F)
base_terms [] = []
base_terms (Base t ∷ ts) = t ∷ base_terms ts
base_terms (Extension t ∷ ts) = base_terms ts

-- the extension terms, in order
abbrev pub ext_terms : {F : Type 0} → List (Assertion F) → List (Term F)
ext_terms [] = []
ext_terms (Base t ∷ ts) = ext_terms ts
ext_terms (Extension t ∷ ts) = t ∷ ext_terms ts

abbrev pub is_base : ConstraintKind → Bool
is_base kind.Base = true
is_base kind.Extension = false

abbrev pub is_extension : ConstraintKind → Bool
is_extension kind.Base = false
is_extension kind.Extension = true

-- the kind is the given one
abbrev pub is_of : ConstraintKind → ConstraintKind → Bool
is_of kind.Base = is_base
is_of kind.Extension = is_extension

-- the indices, counted from n on, at which the kind satisfies `is`
abbrev pub places_from : (ConstraintKind → Bool) → ℕ → List ConstraintKind → List ℕ
places_from is n ks = map (λ p. p.0) (filter (λ p. is p.1) (enumerate_from n ks))

-- as `places_from`, counted from 0 on
abbrev pub places_where : (ConstraintKind → Bool) → List ConstraintKind → List ℕ
places_where is ks = places_from is 0 ks

-- the kinds are those of the declared list, in order
abbrev pub RecordsKinds : {F : Type 0} → List ConstraintKind → List (Assertion F) → Type 0
RecordsKinds kinds ts = kinds ≡ map kind_of ts
