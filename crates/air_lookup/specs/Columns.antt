-- The constraints of a lookup argument on a permutation trace.
use Rattle.std.specs.Prelude.{◌≡◌, ℕ, zero, suc, ◌<◌, List, [], ◌∷◌, ◌++◌, map, ⊤}
use Rattle.air_field.specs.Ring.{CommRing, AlgebraOver}
use Rattle.air_field.specs.Term.{Leaf, Term, leaf_term, const_term, add_term, sub_term, mul_term, first_row, last_row, transition, permutation, challenge, IsBase}
use Rattle.air_field.specs.Value.{value}
use Rattle.air_builder.specs.Assertion.{Assertion, Base, Extension}
use Rattle.air_lookup.specs.Balance.{Entry}

-- What a row looks up or offers: a value, and how often it is offered. One that is looked up has a negative multiplicity.
pub record Interaction (F : Type 0) : Type 0 where
  pub value : Term F
  pub multiplicity : Term F

-- The columns of the permutation trace that an argument uses, and its challenge: the accumulator's, and the first one of
-- the shares.
pub record Places : Type 0 where
  pub accumulator : ℕ
  pub shares : ℕ
  pub challenge : ℕ

-- (alpha - value) share - multiplicity
abbrev pub share_term : {F : Type 0} → ℕ → ℕ → Interaction F → Term F
share_term c k x = sub_term (mul_term (sub_term (leaf_term (challenge c)) x.value) (leaf_term (permutation 0 k))) x.multiplicity

-- one for each interaction, with the shares in columns from k on
abbrev pub share_terms : {F : Type 0} → ℕ → ℕ → List (Interaction F) → List (Assertion F)
share_terms c k [] = []
share_terms c k (x ∷ xs) = Extension (share_term c k x) ∷ share_terms c (suc k) xs

-- the sum of a row's shares
abbrev pub shares_term : {F : Type 0} → CommRing F → ℕ → List (Interaction F) → Term F
shares_term r k [] = const_term r.zero
shares_term r k (x ∷ []) = leaf_term (permutation 0 k)
shares_term r k (x ∷ y ∷ ys) = add_term (leaf_term (permutation 0 k)) (shares_term r (suc k) (y ∷ ys))

-- the accumulator of a row, plus its shares
abbrev pub after_term : {F : Type 0} → CommRing F → Places → List (Interaction F) → Term F
after_term r p xs = add_term (leaf_term (permutation 0 p.accumulator)) (shares_term r p.shares xs)

-- The constraints of a running sum: each share is one, the accumulator begins at zero, and each row adds its shares.
abbrev pub running_terms : {F : Type 0} → CommRing F → Places → List (Interaction F) → List (Assertion F)
running_terms r p xs =
    share_terms p.challenge p.shares xs ++
    Extension (mul_term (leaf_term (permutation 0 p.accumulator)) (leaf_term first_row)) ∷
    Extension (mul_term (sub_term (leaf_term (permutation 1 p.accumulator)) (after_term r p xs)) (leaf_term transition)) ∷ []

-- The constraints of a lookup argument: the running sum is zero after the last row.
abbrev pub lookup_terms : {F : Type 0} → CommRing F → Places → List (Interaction F) → List (Assertion F)
lookup_terms r p xs = running_terms r p xs ++ Extension (mul_term (after_term r p xs) (leaf_term last_row)) ∷ []

-- the values and multiplicities consist of base leaves and constants
abbrev pub AreBase : {F : Type 0} → List (Interaction F) → Type 0
AreBase [] = ⊤
AreBase (x ∷ xs) = IsBase x.value × IsBase x.multiplicity × AreBase xs

-- The list contains the part, its assertions one after another.
pub record Includes {F : Type 0} (part ts : List (Assertion F)) : Type 0 where
  pub before : List (Assertion F)
  pub after : List (Assertion F)
  pub is_part : ts ≡ before ++ (part ++ after)

-- each extension term is zero
abbrev pub ExtVanish : {F E : Type 0} → AlgebraOver F E → (Leaf → E) → List (Assertion F) → Type 0
ExtVanish a s [] = ⊤
ExtVanish a s (Base t ∷ ts) = ExtVanish a s ts
ExtVanish a s (Extension t ∷ ts) = (value a s t ≡ a.ring.zero) × ExtVanish a s ts

-- the entries of a row
abbrev pub entries_at : {F E : Type 0} → AlgebraOver F E → (Leaf → E) → List (Interaction F) → List (Entry E)
entries_at a s xs = map (λ x. record { value = value a s x.value; multiplicity = value a s x.multiplicity }) xs

-- the entries of the first n rows
abbrev pub entries_below : {F E : Type 0} → AlgebraOver F E → (ℕ → Leaf → E) → List (Interaction F) → ℕ → List (Entry E)
entries_below a s xs zero = []
entries_below a s xs (suc n) = entries_below a s xs n ++ entries_at a (s n) xs

-- The assignments are those of the n rows of a trace and its permutation trace, and challenge c is alpha.
pub record AreRows {E : Type 0} (one : E) (n c : ℕ) (alpha : E) (s : ℕ → Leaf → E) : Type 0 where
  pub first : s 0 first_row ≡ one
  pub on_transition : (i : ℕ) → suc i < n → s i transition ≡ one
  pub last : (i : ℕ) → suc i ≡ n → s i last_row ≡ one
  pub next : (i : ℕ) → suc i < n → (k : ℕ) → s i (permutation 1 k) ≡ s (suc i) (permutation 0 k)
  pub challenge_is : (i : ℕ) → i < n → s i (challenge c) ≡ alpha
