-- Entries of which several share one constraint, with a common denominator.
use Rattle.std.specs.Prelude.{◌≡◌, ◌≢◌, ℕ, zero, suc, List, [], ◌∷◌, ◌++◌, Bool, ⊤}
use Rattle.air_field.specs.Distinct.{AtMost}
use Rattle.air_field.specs.Ring.{CommRing, AlgebraOver, minus}
use Rattle.air_field.specs.Term.{Leaf, Term, leaf_term, const_term, add_term, sub_term, neg_term, mul_term, first_row, last_row, transition, permutation, challenge}
use Rattle.air_builder.specs.Assertion.{Assertion, Extension}
use Rattle.air_lookup.specs.Columns.{Interaction, entries_at}
use Rattle.air_lookup.specs.Balance.{Entry, sum_of, total, others}

-- the common denominator: the product of alpha - value
abbrev pub denominator : {A : Type 0} → CommRing A → A → List (Entry A) → A
denominator r alpha [] = r.one
denominator r alpha (e ∷ es) = r.mul (minus r alpha e.value) (denominator r alpha es)

-- the numerator over it: the sum of each multiplicity times the differences of the other entries
abbrev pub numerator : {A : Type 0} → CommRing A → A → List (Entry A) → A
numerator r alpha [] = r.zero
numerator r alpha (e ∷ es) = r.add (r.mul e.multiplicity (denominator r alpha es)) (r.mul (minus r alpha e.value) (numerator r alpha es))

-- each group's share times its denominator is its numerator
abbrev pub AreGroupShares : {A : Type 0} → CommRing A → A → List (List (Entry A)) → List A → Type 0
AreGroupShares r alpha [] [] = ⊤
AreGroupShares r alpha [] (d ∷ ds) = ⊥
AreGroupShares r alpha (g ∷ gs) [] = ⊥
AreGroupShares r alpha (g ∷ gs) (d ∷ ds) = (r.mul d (denominator r alpha g) ≡ numerator r alpha g) × AreGroupShares r alpha gs ds

-- The groups have shares at alpha whose sum is zero.
pub record GroupsBalance {A : Type 0} (r : CommRing A) (alpha : A) (groups : List (List (Entry A))) : Type 0 where
  pub shares : List A
  pub are_shares : AreGroupShares r alpha groups shares
  pub sum : sum_of r shares ≡ r.zero

abbrev pub entries_of : {A : Type 0} → List (List (Entry A)) → List (Entry A)
entries_of [] = []
entries_of (g ∷ gs) = g ++ entries_of gs

-- If the multiplicities of some value don't sum to zero, the groups balance at at most one element more than there are
-- entries of other values.
abbrev pub FewGroupsBalance : {A : Type 0} → CommRing A → (A → A → Bool) → Type 0
FewGroupsBalance {A} r eq =
    (gs : List (List (Entry A))) (v : A) → total r eq v (entries_of gs) ≢ r.zero
    → AtMost (λ alpha. GroupsBalance r alpha gs) (suc (others eq v (entries_of gs)))

-- the denominator and the numerator of a row's interactions
abbrev pub denominator_term : {F : Type 0} → CommRing F → ℕ → List (Interaction F) → Term F
denominator_term r c [] = const_term r.one
denominator_term r c (x ∷ xs) = mul_term (sub_term (leaf_term (challenge c)) x.value) (denominator_term r c xs)

abbrev pub numerator_term : {F : Type 0} → CommRing F → ℕ → List (Interaction F) → Term F
numerator_term r c [] = const_term r.zero
numerator_term r c (x ∷ xs) =
    add_term (mul_term x.multiplicity (denominator_term r c xs)) (mul_term (sub_term (leaf_term (challenge c)) x.value) (numerator_term r c xs))

-- The constraints of a gadget: the accumulator in column k begins at zero, each row's share times the denominator is the
-- numerator, and the accumulator is zero after the last row.
abbrev pub gadget_terms : {F : Type 0} → CommRing F → ℕ → ℕ → List (Interaction F) → List (Assertion F)
gadget_terms r k c xs =
    let here = leaf_term (permutation 0 k) in
    let next = leaf_term (permutation 1 k) in
    Extension (mul_term here (leaf_term first_row)) ∷
    Extension (mul_term (sub_term (mul_term (sub_term next here) (denominator_term r c xs)) (numerator_term r c xs)) (leaf_term transition)) ∷
    Extension (mul_term (sub_term (mul_term (neg_term here) (denominator_term r c xs)) (numerator_term r c xs)) (leaf_term last_row)) ∷ []

-- the entries of n rows from row i on, a group for each row
abbrev pub groups_from : {F E : Type 0} → AlgebraOver F E → (ℕ → Leaf → E) → List (Interaction F) → ℕ → ℕ → List (List (Entry E))
groups_from a s xs i zero = []
groups_from a s xs i (suc n) = entries_at a (s i) xs ∷ groups_from a s xs (suc i) n
