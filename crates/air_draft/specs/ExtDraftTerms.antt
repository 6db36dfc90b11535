-- What a draft says over an extension: the terms of its steps there, and what its claims of both kinds assert.
use Rattle.std.specs.Prelude.{ℕ, List, [], ◌∷◌, Vec}
use Rattle.std.specs.Global.{Global}
use Rattle.air_field.specs.Extension.{Basis}
use Rattle.air_field.specs.Term.{Term, leaf_term, ext_const_term, add_term, sub_term, neg_term, mul_term}
use Rattle.air_core.specs.ExtEntries.{ext_entry_leaf}
use Rattle.air_builder.specs.Assertion.{Assertion, Base, Extension}
use Rattle.air_builder.specs.Builders.{less_one_term}
use Rattle.air_draft.specs.DraftTerms.{terms_after, claimed_term, factor_term, under_conditions, factors_of}
use Rattle.air_draft.specs.declared.claim.Factor.{Factor}
use Rattle.air_draft.specs.declared.claim.Claim.{Claim}
use Rattle.air_draft.specs.declared.claim.Claimed.{Claimed}
use Rattle.air_draft.specs.declared.claim.Claimed.TheVariants as claimed
use Rattle.air_draft.specs.declared.claim.ExtClaimed.{ExtClaimed}
use Rattle.air_draft.specs.declared.claim.ExtClaimed.TheVariants.{Zero, One, Equal}
use Rattle.air_draft.specs.declared.ext_step.ExtStep.{ExtStep}
use Rattle.air_draft.specs.declared.ext_step.ExtStep.TheVariants.{Lift, Variable, Constant, Add, Sub, Neg, Mul}

-- the term of a step over the extension, from those of base expressions and of its operands
abbrev pub ext_step_term : {F EF : Type 0} → Basis F EF → (ℕ → Term F) → (ℕ → Term F) → ExtStep F EF → Term F
ext_step_term basis base at (Lift x) = base x
ext_step_term basis base at (Variable v) = leaf_term (ext_entry_leaf v.entry v.index)
ext_step_term basis base at (Constant c) = ext_const_term (basis.coefficients c)
ext_step_term basis base at (Add x y) = add_term (at x) (at y)
ext_step_term basis base at (Sub x y) = sub_term (at x) (at y)
ext_step_term basis base at (Neg x) = neg_term (at x)
ext_step_term basis base at (Mul x y) = mul_term (at x) (at y)

-- the terms of all steps over the extension, in order
abbrev pub ext_step_terms : {F EF : Type 0} → Basis F EF → (ℕ → Term F) → List (ExtStep F EF) → List (Term F)
ext_step_terms basis base ss = terms_after (ext_step_term basis base) [] ss

-- the number of the first expression that a claim over the extension names
abbrev pub first_operand : ExtClaimed → ℕ
first_operand (Zero x) = x
first_operand (One x) = x
first_operand (Equal x y) = x

-- what is claimed over the extension to be zero, without its conditions
abbrev pub ext_claimed_term : {F : Type 0} → F → (ℕ → Term F) → ExtClaimed → Term F
ext_claimed_term one at (Zero x) = at x
ext_claimed_term one at (One x) = less_one_term one (at x)
ext_claimed_term one at (Equal x y) = sub_term (at x) (at y)

-- a term over the extension times the lifted factors of conditions, the innermost first, as filters multiply it
abbrev pub under_lifted : {F : Type 0} → (ℕ → Term F) → List Factor → Term F → Term F
under_lifted at [] t = t
under_lifted at (c ∷ cs) t = under_lifted at cs (mul_term t (factor_term at c))

-- what is asserted of a claim under conditions with these factors
abbrev pub claimed_assertion : {F : Type 0} → F → (ℕ → Term F) → (ℕ → Term F) → List Factor → Claimed → Assertion F
claimed_assertion one base at factors (claimed.Extension c) = Extension (under_lifted base factors (ext_claimed_term one at c))
claimed_assertion one base at factors c = Base (under_conditions base factors (claimed_term one base c))

-- what a claim of either kind asserts
abbrev pub claim_assertion : {F : Type 0} → F → (ℕ → Term F) → (ℕ → Term F) → List (Vec Factor Global) → Claim → Assertion F
claim_assertion one base at conditions c = claimed_assertion one base at (factors_of conditions c.condition) c.claimed

-- the term of an assertion
abbrev pub asserted_term : {F : Type 0} → Assertion F → Term F
asserted_term (Base t) = t
asserted_term (Extension t) = t
