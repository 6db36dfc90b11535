-- Lookups of values that other challenges make.
use Rattle.std.specs.Prelude.{◌≡◌, ◌↔◌, ◌<◌, ℕ, zero, suc, List, [], ◌∷◌, ◌++◌, length, Bool, true, refl}
use Rattle.std.proofs.Common.{subst, sym, ◌∙◌, ap, ap₂, arith}
use Rattle.std.proofs.lemmas.List.Elements.{All-weaker}
use Rattle.air_field.specs.Domain.{IsDomain}
use Rattle.air_field.specs.Ring.{CommRing, AlgebraOver, AlgebraOverLaws, AllZero, minus}
use Rattle.air_field.specs.Term.{preprocessed, main, periodic, public, first_row, last_row, transition, permutation, challenge, permutation_value}
use Rattle.air_field.specs.Term.{Term, leaf_term, const_term, ext_const_term, add_term, sub_term, neg_term, mul_term}
use Rattle.air_field.specs.Value.{value}
use Rattle.air_field.specs.Assignment.{RowValues, row_at}
use Rattle.air_field.specs.OneRow.{PermutationData, one_row_value}
use Rattle.air_field.specs.laws.Distinct.{AtMost-weaker}
use Rattle.air_field.specs.laws.Roots.{few_roots, poly_value}
use Rattle.air_report.specs.Instances.{Instance, instance_trace, row_count}
use Rattle.air_report.specs.Permuted.{PermutationTrace, permutation_at}
use Rattle.air_lookup.specs.Balance.{Entry, Balances}
use Rattle.air_lookup.specs.Columns.{Interaction, entries_at, entries_below}
use Rattle.air_lookup.specs.Theorem.{challenge_of}
use Rattle.air_lookup.specs.Tuples.{Avoids, AllAvoid, only_challenges, leaves_with, entries_with, AgreeBut, PassesBeside, FewChallengesPassBeside, fingerprint, FewCollide}
use Rattle.air_lookup.specs.laws.Balance.{few_balance}
use Rattle.air_lookup.specs.laws.Polynomials.{add_scaled-length, difference, difference-value, difference_first}
use Rattle.air_lookup.specs.laws.Traces.{leaves, lookup_balances}

module _ {F E : Type 0} (r : CommRing F) (a : AlgebraOver F E) (c : ℕ) where
  -- a term that avoids a challenge has the same value beside others
  value_beside : (v : RowValues F) (p q : PermutationData E) → AgreeBut a.ring.zero c p.challenges q.challenges → (t : Term F) → Avoids c t
      → value a (one_row_value r.zero a v p) t ≡ value a (one_row_value r.zero a v q) t
  value_beside v p q agree (leaf_term (preprocessed o i)) h = refl
  value_beside v p q agree (leaf_term (main o i)) h = refl
  value_beside v p q agree (leaf_term (periodic i)) h = refl
  value_beside v p q agree (leaf_term (public i)) h = refl
  value_beside v p q agree (leaf_term first_row) h = refl
  value_beside v p q agree (leaf_term last_row) h = refl
  value_beside v p q agree (leaf_term transition) h = refl
  value_beside v p q agree (leaf_term (permutation o i)) h = absurd h
  value_beside v p q agree (leaf_term (challenge i)) h = agree i h
  value_beside v p q agree (leaf_term (permutation_value i)) h = absurd h
  value_beside v p q agree (const_term x) h = refl
  value_beside v p q agree (ext_const_term xs) h = refl
  value_beside v p q agree (add_term t u) h = ap₂ a.ring.add (value_beside v p q agree t h.0) (value_beside v p q agree u h.1)
  value_beside v p q agree (sub_term t u) h = ap₂ (minus a.ring) (value_beside v p q agree t h.0) (value_beside v p q agree u h.1)
  value_beside v p q agree (neg_term t) h = ap a.ring.neg (value_beside v p q agree t h)
  value_beside v p q agree (mul_term t u) h = ap₂ a.ring.mul (value_beside v p q agree t h.0) (value_beside v p q agree u h.1)

  entry : E → E → Entry E
  entry m n = record { value = m; multiplicity = n }

  pub row_beside : (v : RowValues F) (p q : PermutationData E) → AgreeBut a.ring.zero c p.challenges q.challenges → (xs : List (Interaction F)) → AllAvoid c xs
      → entries_at a (one_row_value r.zero a v p) xs ≡ entries_at a (one_row_value r.zero a v q) xs
  unfolding entry
  row_beside v p q agree [] h = refl
  row_beside v p q agree (x ∷ xs) h =
      ap₂ (λ e es. e ∷ es) (ap₂ entry (value_beside v p q agree x.value h.0) (value_beside v p q agree x.multiplicity h.1)) (row_beside v p q agree xs h.2)

  rows_beside : (g : Instance F) (q : PermutationTrace E) (challenges : List E) → AgreeBut a.ring.zero c q.challenges challenges
      → (xs : List (Interaction F)) → AllAvoid c xs → (n : ℕ)
      → entries_below a (leaves r a g q) xs n ≡ entries_below a (leaves_with r a g challenges) xs n
  rows_beside g q challenges agree xs h zero = refl
  rows_beside g q challenges agree xs h (suc n) =
      ap₂ (λ es fs. es ++ fs) (rows_beside g q challenges agree xs h n)
      (row_beside (row_at r (instance_trace g) n) (permutation_at q n) (only_challenges challenges) agree xs h)

module _ {F E : Type 0} (r : CommRing F) (a : AlgebraOver F E) (eq : F → F → Bool) (ext_eq : E → E → Bool) (decides : (x y : E) → (ext_eq x y ≡ true) ↔ (x ≡ y))
    (laws : AlgebraOverLaws r a) where
  pub few_challenges_pass_beside : IsDomain a.ring → FewChallengesPassBeside r a eq ext_eq
  few_challenges_pass_beside domain g p xs avoid has challenges v other =
      let es = entries_with r a g challenges xs in
      AtMost-weaker {P = λ alpha. Balances a.ring alpha es} {Q = λ alpha. PassesBeside r a eq ext_eq g p.challenge challenges alpha}
      (λ alpha h. subst (λ x. Balances a.ring x es) h.challenge_is
      (subst (Balances a.ring (challenge_of a h.permutation p.challenge)) (rows_beside r a p.challenge g h.permutation challenges h.beside xs avoid (row_count g))
      (lookup_balances r a eq ext_eq decides laws g p xs has h.permutation h.lists)))
      (few_balance a.ring ext_eq v decides domain es other)

-- ---- fingerprints
module _ {A : Type 0} (r : CommRing A) where
  fingerprint_is : (beta : A) (xs : List A) → fingerprint r beta xs ≡ poly_value r xs beta
  fingerprint_is beta [] = refl
  fingerprint_is beta (x ∷ xs) = ap (λ y. r.add x (r.mul beta y)) (fingerprint_is beta xs)

  same_lists : (xs ys : List A) → length xs ≡ length ys → AllZero r (difference r xs ys) → xs ≡ ys
  same_lists [] [] e h = refl
  same_lists [] (y ∷ ys) e h = absurd (omega (arith, e))
  same_lists (x ∷ xs) [] e h = absurd (omega (arith, e))
  same_lists (x ∷ xs) (y ∷ ys) e h = ap₂ (λ z zs. z ∷ zs) (difference_first r x y h.0) (same_lists xs ys (omega (arith, e)) h.1)

  pub few_collide : IsDomain r → FewCollide r
  few_collide domain xs ys e differ alphas distinct all =
      let root : (beta : A) → fingerprint r beta xs ≡ fingerprint r beta ys → poly_value r (difference r xs ys) beta ≡ r.zero = λ beta h.
      difference-value r xs ys beta
      ∙ (ap (λ z. minus r z (poly_value r ys beta)) (sym (fingerprint_is beta xs) ∙ (h ∙ fingerprint_is beta ys)) ∙ r.add_neg (poly_value r ys beta)) in
      subst (λ n. length alphas < n) (add_scaled-length r (r.neg r.one) xs ys (length xs) refl (sym e))
      (few_roots r domain (difference r xs ys) (λ h. differ (same_lists xs ys e h)) alphas distinct
      (All-weaker (λ beta. fingerprint r beta xs ≡ fingerprint r beta ys) (λ beta. poly_value r (difference r xs ys) beta ≡ r.zero) root alphas all))
