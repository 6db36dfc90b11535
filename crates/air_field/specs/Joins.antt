-- Sums and products of lists of elements, from the left.
use Rattle.std.specs.Prelude.{List, [], ◌∷◌}
use Rattle.std.specs.List.{AllZip}
use Rattle.air_field.specs.Term.{Term, const_term}

-- t joined with the terms one by one
abbrev pub join_from : {F : Type 0} → (Term F → Term F → Term F) → Term F → List (Term F) → Term F
join_from op t [] = t
join_from op t (u ∷ us) = join_from op (op t u) us

-- the terms joined from the left, or a constant for the empty list
abbrev pub join_terms : {F : Type 0} → (Term F → Term F → Term F) → F → List (Term F) → Term F
join_terms op none [] = const_term none
join_terms op none (t ∷ ts) = join_from op t ts

-- z is an element that means the join of the terms that the elements meant
abbrev pub MadeOfAll : {R E F : Type 0} → (R → E → Type 0) → (R → E → Term F → Type 0) → (Term F → Term F → Term F) → F → R → R → List E → E → Type 0
MadeOfAll {F = F} has means op none old new xs z =
    has new z × ((ts : List (Term F)) → AllZip (means old) xs ts → means new z (join_terms op none ts))

-- making the join of the terms that the elements meant may fail with e
abbrev pub RefusedOfAll : {R E F X : Type 0} → (R → E → Term F → Type 0) → (X → Term F → Type 0) → (Term F → Term F → Term F) → F → R → List E → X → Type 0
RefusedOfAll {F = F} means refuses op none old xs e =
    (ts : List (Term F)) → AllZip (means old) xs ts → refuses e (join_terms op none ts)
