-- Lookups of values that other challenges make, such as fingerprints of tuples.
use Rattle.std.specs.Prelude.{◌≡◌, ◌≢◌, ℕ, List, [], ◌∷◌, length, Bool, slice_index_or, ⊤}
use Rattle.air_field.specs.Distinct.{AtMost, FewerThan}
use Rattle.air_field.specs.Ring.{CommRing, AlgebraOver}
use Rattle.air_field.specs.Term.{Leaf, preprocessed, main, periodic, public, first_row, last_row, transition, permutation, challenge, permutation_value}
use Rattle.air_field.specs.Term.{Term, leaf_term, const_term, ext_const_term, add_term, sub_term, neg_term, mul_term}
use Rattle.air_field.specs.Assignment.{row_at}
use Rattle.air_field.specs.OneRow.{PermutationData, one_row_value}
use Rattle.air_report.specs.Instances.{Instance, instance_trace, row_count}
use Rattle.air_report.specs.Permuted.{PermutationTrace}
use Rattle.air_lookup.specs.Balance.{Entry, total, others}
use Rattle.air_lookup.specs.Columns.{Interaction, Places, Includes, lookup_terms, entries_below}
use Rattle.air_lookup.specs.Theorem.{ListsNothing, challenge_of}

-- the leaf is no entry of the permutation trace, no exposed value, and not challenge c
abbrev pub LeafAvoids : ℕ → Leaf → Type 0
LeafAvoids c (preprocessed o i) = ⊤
LeafAvoids c (main o i) = ⊤
LeafAvoids c (periodic i) = ⊤
LeafAvoids c (public i) = ⊤
LeafAvoids c first_row = ⊤
LeafAvoids c last_row = ⊤
LeafAvoids c transition = ⊤
LeafAvoids c (permutation o i) = ⊥
LeafAvoids c (challenge i) = i ≢ c
LeafAvoids c (permutation_value i) = ⊥

-- each leaf of the term is so
abbrev pub Avoids : {F : Type 0} → ℕ → Term F → Type 0
Avoids c (leaf_term l) = LeafAvoids c l
Avoids c (const_term x) = ⊤
Avoids c (ext_const_term xs) = ⊤
Avoids c (add_term t u) = Avoids c t × Avoids c u
Avoids c (sub_term t u) = Avoids c t × Avoids c u
Avoids c (neg_term t) = Avoids c t
Avoids c (mul_term t u) = Avoids c t × Avoids c u

abbrev pub AllAvoid : {F : Type 0} → ℕ → List (Interaction F) → Type 0
AllAvoid c [] = ⊤
AllAvoid c (x ∷ xs) = Avoids c x.value × Avoids c x.multiplicity × AllAvoid c xs

-- only challenges, no permutation trace and no exposed values
abbrev pub only_challenges : {E : Type 0} → List E → PermutationData E
only_challenges challenges = record { current = []; next = []; challenges = challenges; exposed = [] }

-- the assignment of row i of the trace, with these challenges
abbrev pub leaves_with : {F E : Type 0} → CommRing F → AlgebraOver F E → Instance F → List E → ℕ → Leaf → E
leaves_with r a g challenges i = one_row_value r.zero a (row_at r (instance_trace g) i) (only_challenges challenges)

-- the entries of all rows, with these challenges
abbrev pub entries_with : {F E : Type 0} → CommRing F → AlgebraOver F E → Instance F → List E → List (Interaction F) → List (Entry E)
entries_with r a g challenges xs = entries_below a (leaves_with r a g challenges) xs (row_count g)

-- both lists have the same elements at every index but c
abbrev pub AgreeBut : {E : Type 0} → E → ℕ → List E → List E → Type 0
AgreeBut z c xs ys = (i : ℕ) → i ≢ c → slice_index_or xs i z ≡ slice_index_or ys i z

-- Alpha passes beside these challenges: there is a permutation trace with them, but for challenge c, which is alpha, and
-- with an empty report.
pub record PassesBeside {F E : Type 0} (r : CommRing F) (a : AlgebraOver F E) (eq : F → F → Bool) (ext_eq : E → E → Bool) (g : Instance F) (c : ℕ)
    (challenges : List E) (alpha : E) : Type 0 where
  pub permutation : PermutationTrace E
  pub lists : ListsNothing r a eq ext_eq g permutation
  pub challenge_is : challenge_of a permutation c ≡ alpha
  pub beside : AgreeBut a.ring.zero c permutation.challenges challenges

-- `FewChallengesPass` for values that the other challenges make.
abbrev pub FewChallengesPassBeside : {F E : Type 0} → CommRing F → AlgebraOver F E → (F → F → Bool) → (E → E → Bool) → Type 0
FewChallengesPassBeside {F} {E} r a eq ext_eq =
    (g : Instance F) (p : Places) (xs : List (Interaction F)) → AllAvoid p.challenge xs → Includes (lookup_terms r p xs) g.air.constraints
    → (challenges : List E) (v : E) → total a.ring ext_eq v (entries_with r a g challenges xs) ≢ a.ring.zero
    → AtMost (λ alpha. PassesBeside r a eq ext_eq g p.challenge challenges alpha) (others ext_eq v (entries_with r a g challenges xs))

-- the fingerprint of a tuple: x_0 + beta x_1 + beta^2 x_2 + ..
abbrev pub fingerprint : {A : Type 0} → CommRing A → A → List A → A
fingerprint r beta [] = r.zero
fingerprint r beta (x ∷ xs) = r.add x (r.mul beta (fingerprint r beta xs))

-- Two different tuples of the same length have the same fingerprint at fewer elements than they have entries.
abbrev pub FewCollide : {A : Type 0} → CommRing A → Type 0
FewCollide {A} r =
    (xs ys : List A) → length xs ≡ length ys → xs ≢ ys → FewerThan (λ beta. fingerprint r beta xs ≡ fingerprint r beta ys) (length xs)
