-- What a draft says: the terms of its steps, and those that its claims say to be zero.
use Rattle.std.specs.Prelude.{ℕ, zero, suc, List, [], ◌∷◌, ◌++◌, Option, None, Some, slice_index_or, slice_get, Vec}
use Rattle.std.specs.Global.{Global}
use Rattle.air_field.specs.Ring.{CommRing, image}
use Rattle.air_field.specs.Term.{first_row, last_row, transition, Term, leaf_term, const_term, ext_const_term, add_term, sub_term, neg_term, mul_term}
use Rattle.air_field.specs.Algebra.{bool_check_term, xor_term, andn_term}
use Rattle.air_core.specs.Entries.{entry_leaf}
use Rattle.air_builder.specs.Builders.{less_one_term}
use Rattle.air_draft.specs.declared.step.Operand.{Operand}
use Rattle.air_draft.specs.declared.step.Operand.TheVariants as operand
use Rattle.air_draft.specs.declared.step.Step.{Step}
use Rattle.air_draft.specs.declared.step.Step.TheVariants.{Variable, IsFirstRow, IsLastRow, IsTransition, Number, Constant, Add, Sub, Mul, Neg, Power, Xor, AndNot}
use Rattle.air_draft.specs.declared.claim.Factor.{Factor}
use Rattle.air_draft.specs.declared.claim.Factor.TheVariants.{FirstRow, LastRow, Transition, Nonzero, Different}
use Rattle.air_draft.specs.declared.claim.Claimed.{Claimed}
use Rattle.air_draft.specs.declared.claim.Claimed.TheVariants.{Zero, One, Bool, Equal, Extension}
use Rattle.air_draft.specs.declared.claim.Claim.{Claim}

-- the term of a number, where terms have the numbers from 0; a number past them has the term 0
abbrev pub term_at : {F : Type 0} → List (Term F) → ℕ → Term F
term_at ts i = slice_index_or ts i (ext_const_term [])

-- the term of a constant, and 0 for none
abbrev pub constant_term : {F : Type 0} → Option F → Term F
constant_term None = ext_const_term []
constant_term (Some c) = const_term c

-- the term of an operand: that of a step, or of a whole number
abbrev pub operand_term : {F : Type 0} → CommRing F → (ℕ → Term F) → Operand → Term F
operand_term r at (operand.Step x) = at x
operand_term r at (operand.Number n) = const_term (image r n)

-- a power of a term, multiplied from the left
abbrev pub power_term : {F : Type 0} → F → Term F → ℕ → Term F
power_term one t zero = const_term one
power_term one t (suc zero) = t
power_term one t (suc (suc k)) = mul_term (power_term one t (suc k)) t

-- the term of a step, from the field's constants in a draft and the terms of its operands
abbrev pub step_term : {F : Type 0} → CommRing F → F → List F → (ℕ → Term F) → Step → Term F
step_term r one constants at (Variable entry index) = leaf_term (entry_leaf entry index)
step_term r one constants at IsFirstRow = leaf_term first_row
step_term r one constants at IsLastRow = leaf_term last_row
step_term r one constants at IsTransition = leaf_term transition
step_term r one constants at (Number n) = const_term (image r n)
step_term r one constants at (Constant k) = constant_term (slice_get constants k)
step_term r one constants at (Add x y) = add_term (operand_term r at x) (operand_term r at y)
step_term r one constants at (Sub x y) = sub_term (operand_term r at x) (operand_term r at y)
step_term r one constants at (Mul x y) = mul_term (operand_term r at x) (operand_term r at y)
step_term r one constants at (Neg x) = neg_term (at x)
step_term r one constants at (Power x k) = power_term one (at x) k
step_term r one constants at (Xor x y) = xor_term (at x) (at y)
step_term r one constants at (AndNot x y) = andn_term one (at x) (at y)

-- the terms of steps that come after others, in order, where a step's term is that of its operands
abbrev pub terms_after : {F S : Type 0} → ((ℕ → Term F) → S → Term F) → List (Term F) → List S → List (Term F)
terms_after term before [] = before
terms_after term before (s ∷ ss) = terms_after term (before ++ term (term_at before) s ∷ []) ss

-- the terms of all steps, in order
abbrev pub step_terms : {F : Type 0} → CommRing F → F → List F → List Step → List (Term F)
step_terms r one constants ss = terms_after (step_term r one constants) [] ss

-- what is claimed of base expressions to be zero, without its conditions; of others nothing, so 0
abbrev pub claimed_term : {F : Type 0} → F → (ℕ → Term F) → Claimed → Term F
claimed_term one at (Zero x) = at x
claimed_term one at (One x) = less_one_term one (at x)
claimed_term one at (Bool x) = bool_check_term one (at x)
claimed_term one at (Equal x y) = sub_term (at x) (at y)
claimed_term one at (Extension _) = ext_const_term []

-- the term of a condition's factor: a selector, an expression, or a difference
abbrev pub factor_term : {F : Type 0} → (ℕ → Term F) → Factor → Term F
factor_term at FirstRow = leaf_term first_row
factor_term at LastRow = leaf_term last_row
factor_term at Transition = leaf_term transition
factor_term at (Nonzero x) = at x
factor_term at (Different x y) = sub_term (at x) (at y)

-- a term times the factors of conditions, the innermost first
abbrev pub under_conditions : {F : Type 0} → (ℕ → Term F) → List Factor → Term F → Term F
under_conditions at [] t = t
under_conditions at (c ∷ cs) t = under_conditions at cs (mul_term (factor_term at c) t)

-- the items of a list, if there is one
abbrev pub items_or_none : {A : Type 0} → Option (Vec A Global) → List A
items_or_none None = []
items_or_none (Some v) = v.items

-- the factors of a condition; none has none
abbrev pub factors_of : List (Vec Factor Global) → Option ℕ → List Factor
factors_of conditions None = []
factors_of conditions (Some k) = items_or_none (slice_get conditions k)

-- what a claim says to be zero: what it claims, times the factors of its conditions
abbrev pub claim_term : {F : Type 0} → F → (ℕ → Term F) → List (Vec Factor Global) → Claim → Term F
claim_term one at conditions c = under_conditions at (factors_of conditions c.condition) (claimed_term one at c.claimed)
