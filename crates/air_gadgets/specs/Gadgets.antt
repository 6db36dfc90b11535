-- The assertions of the word gadgets.
use Rattle.std.specs.Prelude.{◌≡◌, ℕ, ◌*◌, ◌^◌, ◌⊎◌, List, [], ◌∷◌, ◌++◌, map, take, drop, Bool, true, false, Result, IfOk, IfErr, ⊤}
use Rattle.std.specs.List.{AllZip}
use Rattle.air_field.specs.Ring.{CommRing, image}
use Rattle.air_field.specs.Term.{Leaf, Term, with_leaves}
use Rattle.air_field.specs.Algebra.{bool_check_term, scaled_term, xor_term}
use Rattle.air_core.specs.declared.errors.AirError.{AirError}
use Rattle.air_gadgets.specs.Packing.{packed_term}
use Rattle.air_builder.specs.Assertion.{Assertion, Base}
use Rattle.air_builder.specs.Batches.{Asserted, OfBeginning}
use Rattle.air_builder.specs.Builders.{BuilderView}
use Rattle.air_builder.specs.Notation.{constant, ◌⊕◌, ◌⊖◌, ◌⊙◌}
use Rattle.air_gadgets.specs.Words.{Limbs, rotated_left}

-- t - u - v, and t - u - v - w
abbrev pub less_two_term : {F : Type 0} → Term F → Term F → Term F → Term F
less_two_term t u v = t ⊖ u ⊖ v

abbrev pub less_three_term : {F : Type 0} → Term F → Term F → Term F → Term F → Term F
less_three_term t u v w = t ⊖ u ⊖ v ⊖ w

-- t + n
abbrev pub raised_term : {F : Type 0} → CommRing F → ℕ → Term F → Term F
raised_term R n t = t ⊕ constant (image R n)

-- u (t + n)
abbrev pub times_raised_term : {F : Type 0} → CommRing F → ℕ → Term F → Term F → Term F
times_raised_term R n t u = u ⊙ raised_term R n t

-- t (t + n), and t (t + n) (t + 2n)
abbrev pub carry_term : {F : Type 0} → CommRing F → ℕ → Term F → Term F
carry_term R n t = times_raised_term R n t t

abbrev pub two_carries_term : {F : Type 0} → CommRing F → ℕ → Term F → Term F
two_carries_term R n t = times_raised_term R (2 * n) t (carry_term R n t)

-- low + 2^16 high
abbrev pub whole_term : {F : Type 0} → CommRing F → Term F → Term F → Term F
whole_term R low high = low ⊕ scaled_term (image R (2 ^ 16)) high

-- one carry, or two
abbrev pub carries_term : {F : Type 0} → CommRing F → Bool → ℕ → Term F → Term F
carries_term R true n t = two_carries_term R n t
carries_term R false n t = carry_term R n t

-- the whole difference and the low one, each with its carries
abbrev pub carried_terms : {F : Type 0} → CommRing F → Bool → Term F → Term F → List (Term F)
carried_terms R two low high = carries_term R two (2 ^ 32) (whole_term R low high) ∷ carries_term R two (2 ^ 16) low ∷ []

-- a - b - c of the words and of their low limbs, each with one carry
abbrev pub add2_terms : {F : Type 0} → CommRing F → Limbs (Term F) → Limbs (Term F) → Limbs (Term F) → List (Term F)
add2_terms R a b c = carried_terms R false (less_two_term a.low b.low c.low) (less_two_term a.high b.high c.high)

abbrev pub add2_asserts : {F : Type 0} → CommRing F → Limbs (Term F) → Limbs (Term F) → Limbs (Term F) → List (Assertion F)
add2_asserts R a b c = map Base (add2_terms R a b c)

-- a - b - c - d of the words and of their low limbs, each with two carries
abbrev pub add3_terms : {F : Type 0} → CommRing F → Limbs (Term F) → Limbs (Term F) → Limbs (Term F) → Limbs (Term F) → List (Term F)
add3_terms R a b c d = carried_terms R true (less_three_term a.low b.low c.low d.low) (less_three_term a.high b.high c.high d.high)

abbrev pub add3_asserts : {F : Type 0} → CommRing F → Limbs (Term F) → Limbs (Term F) → Limbs (Term F) → Limbs (Term F) → List (Assertion F)
add3_asserts R a b c d = map Base (add3_terms R a b c d)

-- the xor of two lists of bits, index by index
abbrev pub xor_terms : {F : Type 0} → List (Term F) → List (Term F) → List (Term F)
xor_terms [] us = []
xor_terms (t ∷ ts) [] = []
xor_terms (t ∷ ts) (u ∷ us) = xor_term t u ∷ xor_terms ts us

-- the packed xor of two lists of bits, and a limb minus that
abbrev pub packed_xor_term : {F : Type 0} → CommRing F → List (Term F) → List (Term F) → Term F
packed_xor_term R ts us = packed_term R.zero (xor_terms ts us)

abbrev pub half_term : {F : Type 0} → CommRing F → Term F → List (Term F) → List (Term F) → Term F
half_term R t us vs = t ⊖ packed_xor_term R us vs

-- the halves of a minus those of b xor c rotated
abbrev pub half_terms : {F : Type 0} → CommRing F → Limbs (Term F) → List (Term F) → List (Term F) → ℕ → List (Term F)
half_terms R a b c shift =
    let bits = xor_terms b (rotated_left shift c) in
    a.low ⊖ packed_term R.zero (take 16 bits) ∷ a.high ⊖ packed_term R.zero (drop 16 bits) ∷ []

-- each is zero or one
abbrev pub test_asserts : {F : Type 0} → CommRing F → List (Term F) → List (Assertion F)
test_asserts R ts = map (λ t. Base (bool_check_term R.one t)) ts

-- c is made of bits, and a is b xor c rotated to the left
abbrev pub xor_asserts : {F : Type 0} → CommRing F → Limbs (Term F) → List (Term F) → List (Term F) → ℕ → List (Assertion F)
xor_asserts R a b c shift = test_asserts R c ++ map Base (half_terms R a b c shift)

-- M holds of the operation on all operands for which the other predicates hold
abbrev pub FromOne : {A B : Type 0} → (A → B) → (A → Type 0) → (B → Type 0) → Type 0
FromOne {A} op P M = (t : A) → P t → M (op t)

abbrev pub FromTwo : {A B C : Type 0} → (A → B → C) → (A → Type 0) → (B → Type 0) → (C → Type 0) → Type 0
FromTwo {A} {B} op P Q M = (t : A) (u : B) → P t → Q u → M (op t u)

abbrev pub FromThree : {A B C D : Type 0} → (A → B → C → D) → (A → Type 0) → (B → Type 0) → (C → Type 0) → (D → Type 0) → Type 0
FromThree {A} {B} {C} op P Q S M = (t : A) (u : B) (v : C) → P t → Q u → S v → M (op t u v)

abbrev pub FromFour : {A B C D G : Type 0} → (A → B → C → D → G) → (A → Type 0) → (B → Type 0) → (C → Type 0) → (D → Type 0) → (G → Type 0) → Type 0
FromFour {A} {B} {C} {D} op P Q S T M = (t : A) (u : B) (v : C) (w : D) → P t → Q u → S v → T w → M (op t u v w)

-- The answer of a call that makes something in a ring: at Ok it means the terms, and an error is one of making them. `from`
-- states a predicate of the terms made from the operands.
pub record MakesFrom {E X A : Type 0} (has : E → Type 0) (means : E → A → Type 0) (refuses : X → A → Type 0)
    (from : (A → Type 0) → Type 0) (result : Result E X) : Type 0 where
  pub made : IfOk result (λ z. has z × from (means z))
  pub refused : IfErr result (λ e. from (refuses e))

-- making one of the terms may be refused with e
abbrev pub RefusesOne : {X F : Type 0} → (X → Term F → Type 0) → X → List (Term F) → Type 0
RefusesOne refuses e [] = ⊥
RefusesOne refuses e (t ∷ ts) = refuses e t ⊎ RefusesOne refuses e ts

-- the two elements of the list mean the limbs' terms
abbrev pub LimbsMean : {X F : Type 0} → (X → Term F → Type 0) → List X → Limbs (Term F) → Type 0
LimbsMean means xs t = AllZip means xs (t.low ∷ t.high ∷ [])

-- a variable means a term in a builder, once each leaf is replaced by how the builder reads it
abbrev pub VariableMeans : {S V F : Type 0} → (V → Term F → Type 0) → (S → Leaf → Term F) → S → V → Term F → Type 0
VariableMeans means reads_as b v t = means v (with_leaves (reads_as b) t)

-- `VariableMeans` for a builder's view
abbrev pub VariableMeansIn : {S R V E F : Type 0} → BuilderView S R E F → (V → Term F → Type 0) → S → V → Term F → Type 0
VariableMeansIn view means = VariableMeans means view.reads_as

-- the list is that of `add2`'s assertions, for some terms that its arguments mean
abbrev pub Adds2 : {V E F : Type 0} → CommRing F → (V → Term F → Type 0) → (E → Term F → Type 0) → List V → List V → List E → List (Assertion F) → Type 0
Adds2 {F = F} R reads_as means a b c ts =
    (t : Limbs (Term F)) × (u : Limbs (Term F)) × (v : Limbs (Term F))
    × LimbsMean reads_as a t × LimbsMean reads_as b u × LimbsMean means c v × (ts ≡ add2_asserts R t u v)

-- the list is that of `add3`'s assertions, for some terms that its arguments mean
abbrev pub Adds3 : {V E F : Type 0} → CommRing F → (V → Term F → Type 0) → (E → Term F → Type 0) → List V → List V → List E → List E → List (Assertion F) → Type 0
Adds3 {F = F} R reads_as means a b c d ts =
    (t : Limbs (Term F)) × (u : Limbs (Term F)) × (v : Limbs (Term F)) × (w : Limbs (Term F))
    × LimbsMean reads_as a t × LimbsMean reads_as b u × LimbsMean means c v × LimbsMean means d w × (ts ≡ add3_asserts R t u v w)

-- the list is that of `xor_32_shift`'s assertions, for some terms that its arguments mean
abbrev pub Xors : {V F : Type 0} → CommRing F → (V → Term F → Type 0) → List V → List V → List V → ℕ → List (Assertion F) → Type 0
Xors {F = F} R reads_as a b c shift ts =
    (t : Limbs (Term F)) × (u : List (Term F)) × (v : List (Term F))
    × LimbsMean reads_as a t × AllZip reads_as b u × AllZip reads_as c v × (ts ≡ xor_asserts R t u v shift)

-- the assertion is that a limb minus the packed xor of two lists of bits is zero, for some terms that the three mean
abbrev pub HalfOf : {S V F : Type 0} → CommRing F → (S → V → Term F → Type 0) → S → V × List V × List V → Assertion F → Type 0
HalfOf {F = F} R means a p s =
    (t : Term F) × (us : List (Term F)) × (vs : List (Term F))
    × means a p.0 t × AllZip (means a) p.1 us × AllZip (means a) p.2 vs
    × (s ≡ Base (half_term R t us vs))

-- The effect of a call that asserts a list, for every list that `is` allows.
abbrev pub AssertedSuch : {S X F : Type 0} → (List (Assertion F) → Type 0) → (S → S → Type 0)
    → (S → S → List (Assertion F) → Type 0) → (S → X → List (Assertion F) → Type 0) → S → S → Result ⊤ X → Type 0
AssertedSuch {F = F} is kept grew refuses a b result =
    Asserted (λ s fact. (ts : List (Assertion F)) → is ts → fact ts)
    (λ s fact. (ts : List (Assertion F)) → is ts → OfBeginning ts fact) kept grew refuses a b result

-- `AssertedSuch` for a builder's view
abbrev pub AssertedSuchIn : {S R E F : Type 0} → BuilderView S R E F → (List (Assertion F) → Type 0) → S → S
    → Result ⊤ AirError → Type 0
AssertedSuchIn view is a b result = AssertedSuch is view.kept view.grew view.refuses a b result
