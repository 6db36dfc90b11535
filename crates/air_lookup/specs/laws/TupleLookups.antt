-- Few pairs of challenges let a lookup of tuples pass that doesn't hold.
use Rattle.std.specs.Prelude.{◌≡◌, ◌≢◌, ◌↔◌, ℕ, zero, suc, ◌+◌, ◌-◌, ◌*◌, ◌<◌, ◌≤◌, List, [], ◌∷◌, ◌++◌, length, map, Bool, true, false, cond, count_by, refl}
use Rattle.std.proofs.Common.{subst, sym, ◌∙◌, ap, ap₂, inl, inr, arith}
use Rattle.std.proofs.Math.Nat.{add-mul, mul-suc, mul-le-mul_right}
use Rattle.std.proofs.lemmas.Bool.{cases_lt}
use Rattle.std.proofs.lemmas.List.{length-map}
use Rattle.std.proofs.lemmas.List.Elements.{All-head, All-weaker}
use Rattle.std.proofs.lemmas.List.Sums.{count_by-le-length, sum_by-cons}
use Rattle.air_field.specs.Distinct.{AtMost, Distinct}
use Rattle.air_field.specs.Domain.{IsDomain}
use Rattle.air_field.specs.Ring.{CommRing, AlgebraOver, AlgebraOverLaws}
use Rattle.air_field.specs.Term.{Term, const_term, neg_term, IsBase}
use Rattle.air_field.specs.Value.{value}
use Rattle.air_field.specs.Assignment.{row_at}
use Rattle.air_field.specs.laws.Distinct.{AtMost-either, count_at_most}
use Rattle.air_field.specs.laws.Images.{HasCharacteristic}
use Rattle.air_report.specs.Instances.{Instance, instance_trace, row_count}
use Rattle.air_report.specs.Permuted.{PermutationTrace, permutation_at}
use Rattle.air_report.specs.laws.Over.{base_embedded}
use Rattle.air_lookup.specs.Balance.{Entry, Balances, total}
use Rattle.air_lookup.specs.Columns.{entries_below}
use Rattle.air_lookup.specs.Theorem.{on_row, challenge_of}
use Rattle.air_lookup.specs.TupleLookups.{AllBase, PairPasses, TuplesAreSound, fingerprint_term, passing_pairs, tuple_at, tuple_lookup}
use Rattle.air_lookup.specs.Tuples.{fingerprint}
use Rattle.air_lookup.specs.laws.Balance.{few_balance}
use Rattle.air_lookup.specs.laws.RowLookups.{row_entries, others_most, total_some}
use Rattle.air_lookup.specs.laws.Traces.{leaves, lookup_balances}
use Rattle.air_lookup.specs.laws.Tuples.{few_collide}

-- ---- pairs
module _ {A : Type 0} (passes : A → A → Bool) (bad : A → Bool) (m : ℕ) (alphas : List A) (distinct : Distinct alphas)
    (few : (beta : A) → bad beta ≡ false → AtMost (λ alpha. passes alpha beta ≡ true) m) where
  abbrev passing : A → ℕ
  passing beta = count_by (λ alpha. passes alpha beta) alphas

  -- all pairs of a bad element may pass, and few of another
  one_beta : (beta : A) (b : Bool) → bad beta ≡ b → passing beta ≤ m + cond b 1 0 * length alphas
  one_beta beta true is = omega (arith, count_by-le-length (λ alpha. passes alpha beta) alphas)
  one_beta beta false is = omega (arith, count_at_most (λ alpha. passes alpha beta) (λ alpha h. h) alphas distinct (few beta is))

  pairs_bounded : (betas : List A) → passing_pairs passes alphas betas ≤ m * length betas + count_by bad betas * length alphas
  pairs_bounded [] = omega arith
  pairs_bounded (beta ∷ betas) =
      let one = one_beta beta (bad beta) refl in
      let rest = pairs_bounded betas in
      let sum = sum_by-cons passing beta betas in
      let count = sum_by-cons (λ y. cond (bad y) 1 0) beta betas in
      subst (λ s. s ≤ m * suc (length betas) + count_by bad (beta ∷ betas) * length alphas) (sym sum)
      (subst (λ c. passing beta + passing_pairs passes alphas betas ≤ m * suc (length betas) + c * length alphas) (sym count)
      (split (cond (bad beta) 1 0) (count_by bad betas) one rest))
    where
      split : (c k : ℕ) → passing beta ≤ m + c * length alphas → passing_pairs passes alphas betas ≤ m * length betas + k * length alphas
          → passing beta + passing_pairs passes alphas betas ≤ m * suc (length betas) + (c + k) * length alphas
      split c k h i = omega (arith, h, i, add-mul c k (length alphas), mul-suc m (length betas))

  pub few_pairs : (b : ℕ) → AtMost (λ beta. bad beta ≡ true) b → (betas : List A) → Distinct betas
      → passing_pairs passes alphas betas ≤ m * length betas + b * length alphas
  few_pairs b most betas apart =
      omega (arith, pairs_bounded betas, mul-le-mul_right (length alphas) (count_at_most bad (λ beta h. h) betas apart most))

-- ---- fingerprints
module _ {F E : Type 0} (r : CommRing F) (a : AlgebraOver F E) (laws : AlgebraOverLaws r a) (g : Instance F) where
  -- the fingerprint of the tuple at row i
  abbrev print : List (Term F) → E → ℕ → E
  print ts beta i = fingerprint a.ring beta (map a.embed (tuple_at r g i ts))

  print_is : (q : PermutationTrace E) (d i : ℕ) (ts : List (Term F)) → AllBase ts
      → value a (leaves r a g q i) (fingerprint_term r d ts) ≡ print ts (challenge_of a q d) i
  print_is q d i [] h = laws.embed_zero
  print_is q d i (t ∷ ts) h =
      ap₂ a.ring.add (base_embedded r a laws t h.0 (row_at r (instance_trace g) i) (permutation_at q i))
      (ap (a.ring.mul (challenge_of a q d)) (print_is q d i ts h.1))

  entry : E → E → Entry E
  entry m n = record { value = m; multiplicity = n }

  pair : E → E → E → E → List (Entry E)
  pair u m v n = entry u m ∷ entry v n ∷ []

  module _ (d : ℕ) (looked_up offered : List (Term F)) (multiplicity : Term F) where
    abbrev rows : E → ℕ → List (Entry E)
    rows beta n = row_entries a.ring (print looked_up beta) (print offered beta) (λ i. a.embed (on_row r g i multiplicity)) n

    rows_are : (q : PermutationTrace E) → AllBase looked_up → AllBase offered → IsBase multiplicity → (n : ℕ)
        → entries_below a (leaves r a g q) (tuple_lookup r d looked_up offered multiplicity) n ≡ rows (challenge_of a q d) n
    unfolding entry pair
    rows_are q base_looked base_offered base zero = refl
    rows_are q base_looked base_offered base (suc n) =
        let s = leaves r a g q n in
        let beta = challenge_of a q d in
        ap₂ (λ es fs. es ++ fs) (rows_are q base_looked base_offered base n)
        (ap₂ (λ u v. pair u (value a s (neg_term (const_term r.one))) v (value a s multiplicity))
        (print_is q d n looked_up base_looked) (print_is q d n offered base_offered)
        ∙ ap₂ (λ m k. pair (print looked_up beta n) m (print offered beta n) k) (ap a.ring.neg laws.embed_one)
        (base_embedded r a laws multiplicity base (row_at r (instance_trace g) n) (permutation_at q n)))

-- lists with the same images are the same
same_images : {F E : Type 0} (f : F → E) → ((x y : F) → f x ≡ f y → x ≡ y) → (xs ys : List F) → map f xs ≡ map f ys → xs ≡ ys
same_images f same [] [] e = refl
same_images f same [] (y ∷ ys) e = cc
same_images f same (x ∷ xs) [] e = cc
same_images f same (x ∷ xs) (y ∷ ys) e =
    let here : f x ≡ f y = cc in
    let rest : map f xs ≡ map f ys = cc in
    ap₂ (λ z zs. z ∷ zs) (same x y here) (same_images f same xs ys rest)

both_false : (b c : Bool) → cond b true c ≡ false → (b ≡ false) × (c ≡ false)
both_false true c h = cc
both_false false c h = (refl, h)

module _ {F E : Type 0} (r : CommRing F) (a : AlgebraOver F E) (laws : AlgebraOverLaws r a) (eq : F → F → Bool) (ext_eq : E → E → Bool)
    (decides : (x y : E) → (ext_eq x y ≡ true) ↔ (x ≡ y)) (same_in : (x y : F) → a.embed x ≡ a.embed y → x ≡ y) (domain : IsDomain a.ring) where
  module _ (g : Instance F) (looked_up offered : List (Term F)) (long : length looked_up ≡ length offered) (row : ℕ) where
    -- at beta the tuple of the row has the fingerprint of one of the first n entries of the table
    abbrev collides : ℕ → E → Bool
    collides zero beta = false
    collides (suc n) beta = cond (ext_eq (print r a laws g offered beta n) (print r a laws g looked_up beta row)) true (collides n beta)

    one_collides : (n : ℕ) → tuple_at r g n offered ≢ tuple_at r g row looked_up
        → AtMost (λ beta. ext_eq (print r a laws g offered beta n) (print r a laws g looked_up beta row) ≡ true) (length offered - 1)
    one_collides n differ betas distinct all =
        let xs = map a.embed (tuple_at r g n offered) in
        let ys = map a.embed (tuple_at r g row looked_up) in
        let m : length xs ≡ length offered = length-map (tuple_at r g n offered) a.embed ∙ length-map offered (on_row r g n) in
        let k : length ys ≡ length looked_up = length-map (tuple_at r g row looked_up) a.embed ∙ length-map looked_up (on_row r g row) in
        let few : length betas < length xs =
        few_collide a.ring domain xs ys (m ∙ (sym long ∙ sym k)) (λ e. differ (same_images a.embed same_in _ _ e)) betas distinct
        (All-weaker _ (λ beta. fingerprint a.ring beta xs ≡ fingerprint a.ring beta ys) (λ beta h. (decides _ _).0 h) betas all) in
        omega (arith, few, m)

    collide_few : (n : ℕ) → ((k : ℕ) → k < n → tuple_at r g k offered ≢ tuple_at r g row looked_up)
        → AtMost (λ beta. collides n beta ≡ true) (n * (length offered - 1))
    collide_few zero away [] distinct all = omega arith
    collide_few zero away (beta ∷ betas) distinct all = let no : false ≡ true = All-head (λ _. false ≡ true) beta betas all in cc
    collide_few (suc n) away betas distinct all =
        omega (
          arith,
          AtMost-either (λ beta. ext_eq (print r a laws g offered beta n) (print r a laws g looked_up beta row)) (collides n)
              (one_collides n (away n (omega arith))) (collide_few n (λ k lt. away k (omega (arith, lt)))) betas distinct all,
        )

    none_collides : (beta : E) (n : ℕ) → collides n beta ≡ false → (k : ℕ) → k < n → print r a laws g offered beta k ≢ print r a laws g looked_up beta row
    none_collides beta zero h k lt e = absurd (omega (arith, lt))
    none_collides beta (suc n) h k lt e =
        let parts = both_false (ext_eq (print r a laws g offered beta n) (print r a laws g looked_up beta row)) (collides n beta) h in
        elim (cases_lt k n) [
          | inl below ↦ none_collides beta n parts.1 k below e
          | inr least ↦
              let at : k ≡ n = omega (arith, lt, least) in
              let there : ext_eq (print r a laws g offered beta n) (print r a laws g looked_up beta row) ≡ true =
              (decides _ _).1 (subst (λ i. print r a laws g offered beta i ≡ print r a laws g looked_up beta row) at e) in
              let no : true ≡ false = sym there ∙ parts.0 in cc
        ]

  module _ (p : ℕ) (has : HasCharacteristic a.ring p) where
    pub tuples_are_sound : TuplesAreSound r a eq ext_eq p
    tuples_are_sound g at d looked_up offered multiplicity base_looked base_offered base long declared row lt short away passes told
        alphas betas distinct apart =
        let n = row_count g in
        let rows_of : E → List (Entry E) = λ beta. rows r a laws g d looked_up offered multiplicity beta n in
        let balances : (alpha beta : E) → PairPasses r a eq ext_eq g at.challenge d alpha beta → Balances a.ring alpha (rows_of beta) = λ alpha beta h.
        let q = h.permutation in
        subst (λ x. Balances a.ring x (rows_of beta)) h.alpha_is
        (subst (λ b. Balances a.ring (challenge_of a q at.challenge) (rows_of b)) h.beta_is
        (subst (Balances a.ring (challenge_of a q at.challenge)) (rows_are r a laws g d looked_up offered multiplicity q base_looked base_offered base n)
        (lookup_balances r a eq ext_eq decides laws g at (tuple_lookup r d looked_up offered multiplicity) declared q h.lists))) in
        let few : (beta : E) → collides g looked_up offered long row n beta ≡ false → AtMost (λ alpha. passes alpha beta ≡ true) (2 * n) =
        λ beta good xs apart_xs all.
        let looks = print r a laws g looked_up beta in
        let offers = print r a laws g offered beta in
        let times : ℕ → E = λ i. a.embed (on_row r g i multiplicity) in
        let v = looks row in
        let some : total a.ring ext_eq v (rows_of beta) ≢ a.ring.zero =
        total_some a.ring looks offers times ext_eq decides v p has row n lt short refl (none_collides g looked_up offered long row beta n good) in
        omega (
          arith,
          others_most a.ring looks offers times ext_eq decides v n,
          few_balance a.ring ext_eq v decides domain (rows_of beta) some xs apart_xs
              (All-weaker _ (λ alpha. Balances a.ring alpha (rows_of beta)) (λ alpha h. balances alpha beta (told alpha beta h)) xs all),
        ) in
        few_pairs passes (collides g looked_up offered long row n) (2 * n) alphas distinct few (n * (length offered - 1))
        (collide_few g looked_up offered long row n away) betas apart
