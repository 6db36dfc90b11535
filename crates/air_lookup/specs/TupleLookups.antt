-- Lookups of tuples by their fingerprints, with two challenges.
use Rattle.std.specs.Prelude.{◌≡◌, ◌≢◌, ℕ, ◌+◌, ◌-◌, ◌*◌, ◌<◌, ◌≤◌, List, [], ◌∷◌, length, map, Bool, true, count_by, sum_by, ⊤}
use Rattle.air_field.specs.Distinct.{Distinct}
use Rattle.air_field.specs.Ring.{CommRing, AlgebraOver}
use Rattle.air_field.specs.Term.{Term, leaf_term, const_term, add_term, mul_term, challenge, IsBase}
use Rattle.air_report.specs.Instances.{Instance, row_count}
use Rattle.air_report.specs.Permuted.{PermutationTrace}
use Rattle.air_lookup.specs.Columns.{Interaction, Places, Includes, lookup_terms}
use Rattle.air_lookup.specs.Theorem.{on_row, table_lookup, ListsNothing, challenge_of}

-- the fingerprint of a tuple of terms by challenge d: t_0 + beta t_1 + beta^2 t_2 + ..
abbrev pub fingerprint_term : {F : Type 0} → CommRing F → ℕ → List (Term F) → Term F
fingerprint_term r d [] = const_term r.zero
fingerprint_term r d (t ∷ ts) = add_term t (mul_term (leaf_term (challenge d)) (fingerprint_term r d ts))

abbrev pub AllBase : {F : Type 0} → List (Term F) → Type 0
AllBase [] = ⊤
AllBase (t ∷ ts) = IsBase t × AllBase ts

-- each row looks a tuple up, and offers an entry of the table with a multiplicity
abbrev pub tuple_lookup : {F : Type 0} → CommRing F → ℕ → List (Term F) → List (Term F) → Term F → List (Interaction F)
tuple_lookup r d looked_up entry multiplicity = table_lookup r (fingerprint_term r d looked_up) (fingerprint_term r d entry) multiplicity

-- a tuple's values at a row
abbrev pub tuple_at : {F : Type 0} → CommRing F → Instance F → ℕ → List (Term F) → List F
tuple_at r g i ts = map (on_row r g i) ts

-- The pair passes: there is a permutation trace whose challenge c is alpha and whose challenge d is beta, and with which
-- the report is empty.
pub record PairPasses {F E : Type 0} (r : CommRing F) (a : AlgebraOver F E) (eq : F → F → Bool) (ext_eq : E → E → Bool) (g : Instance F) (c d : ℕ)
    (alpha beta : E) : Type 0 where
  pub permutation : PermutationTrace E
  pub lists : ListsNothing r a eq ext_eq g permutation
  pub alpha_is : challenge_of a permutation c ≡ alpha
  pub beta_is : challenge_of a permutation d ≡ beta

-- how many of the pairs pass a test
abbrev pub passing_pairs : {A : Type 0} → (A → A → Bool) → List A → List A → ℕ
passing_pairs passes alphas betas = sum_by (λ beta. count_by (λ alpha. passes alpha beta) alphas) betas

-- There are fewer rows than the characteristic p. If the tuple that some row looks up isn't in the table, then of all pairs
-- of A challenges alpha and B challenges beta at most 2 N B + N (w - 1) A pass, for N rows and tuples of w values: those of
-- each beta at which the tuple has the fingerprint of one in the table, and twice as many of each other beta as there are
-- rows.
abbrev pub TuplesAreSound : {F E : Type 0} → CommRing F → AlgebraOver F E → (F → F → Bool) → (E → E → Bool) → ℕ → Type 0
TuplesAreSound {F} {E} r a eq ext_eq p =
    (g : Instance F) (at : Places) (d : ℕ) (looked_up entry : List (Term F)) (multiplicity : Term F)
    → AllBase looked_up → AllBase entry → IsBase multiplicity → length looked_up ≡ length entry
    → Includes (lookup_terms r at (tuple_lookup r d looked_up entry multiplicity)) g.air.constraints
    → (row : ℕ) → row < row_count g → row_count g < p
    → ((k : ℕ) → k < row_count g → tuple_at r g k entry ≢ tuple_at r g row looked_up)
    → (passes : E → E → Bool) → ((alpha beta : E) → passes alpha beta ≡ true → PairPasses r a eq ext_eq g at.challenge d alpha beta)
    → (alphas betas : List E) → Distinct alphas → Distinct betas
    → passing_pairs passes alphas betas ≤ 2 * row_count g * length betas + row_count g * (length entry - 1) * length alphas
