-- The value of a term.
use Rattle.air_field.specs.Ring.{minus, AlgebraOver}
use Rattle.air_field.specs.Term.{Leaf, Term, leaf_term, const_term, ext_const_term, add_term, sub_term, neg_term, mul_term}

-- the value of a term, where s gives the leaves' values
abbrev pub value : {F E : Type 0} → AlgebraOver F E → (Leaf → E) → Term F → E
value a s (leaf_term l) = s l
value a s (const_term c) = a.embed c
value a s (ext_const_term c) = a.extend c
value a s (add_term t u) = a.ring.add (value a s t) (value a s u)
value a s (sub_term t u) = minus a.ring (value a s t) (value a s u)
value a s (neg_term t) = a.ring.neg (value a s t)
value a s (mul_term t u) = a.ring.mul (value a s t) (value a s u)
