-- Bits packed into a number.
use Rattle.std.specs.Prelude.{List, [], ◌∷◌}
use Rattle.std.specs.List.{AllZip}
use Rattle.air_field.specs.Term.{Term}
use Rattle.air_field.specs.Algebra.{double_term}
use Rattle.air_builder.specs.Notation.{constant, ◌⊕◌}

-- t plus twice the rest: the sum of 2^i t_i
abbrev pub packed_from : {F : Type 0} → Term F → List (Term F) → Term F
packed_from t [] = t
packed_from t (u ∷ us) = double_term (packed_from u us) ⊕ t

-- the sum of 2^i t_i; the constant `none` for the empty list
abbrev pub packed_term : {F : Type 0} → F → List (Term F) → Term F
packed_term none [] = constant none
packed_term none (t ∷ ts) = packed_from t ts

-- z is an element that means the sum of 2^i t_i, of the terms that the elements meant
abbrev pub MadeOfPacked : {R E F : Type 0} → (R → E → Type 0) → (R → E → Term F → Type 0) → F → R → R → List E → E → Type 0
MadeOfPacked {F = F} has means none old new xs z =
    has new z × ((ts : List (Term F)) → AllZip (means old) xs ts → means new z (packed_term none ts))

-- making that sum may be refused with e
abbrev pub RefusedOfPacked : {R E F X : Type 0} → (R → E → Term F → Type 0) → (X → Term F → Type 0) → F → R → List E → X → Type 0
RefusedOfPacked {F = F} means refuses none old xs e =
    (ts : List (Term F)) → AllZip (means old) xs ts → refuses e (packed_term none ts)
