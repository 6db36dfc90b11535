-- Each row looks a value up and offers one: the total of a value that isn't offered, and the number of other entries.
use Rattle.std.specs.Prelude.{◌≡◌, ◌≢◌, ◌↔◌}
use Rattle.std.proofs.Common.{ℕ, zero, suc, ◌*◌, ◌<◌, ◌≤◌, List, [], ◌∷◌, ◌++◌, length, Bool, true, false, not, cond, refl, sym, ap, subst, ◌∙◌, inl, inr, arith, length-append}
use Rattle.std.proofs.lemmas.Bool.{cases_lt}
use Rattle.air_field.specs.Ring.{CommRing, image}
use Rattle.air_field.specs.laws.Images.{HasCharacteristic, image-zero, image-suc, zero_of_image}
use Rattle.air_field.specs.laws.Ring.{neg_zero, neg_neg, neg_of_add}
use Rattle.air_lookup.specs.Balance.{Entry, total, others}
use Rattle.air_lookup.specs.laws.Lookups.{total-append, kept_at_most}

module _ {A : Type 0} (r : CommRing A) (looked_up offered multiplicity : ℕ → A) where
  abbrev pub row_list : ℕ → List (Entry A)
  row_list n = record { value = looked_up n; multiplicity = r.neg r.one } ∷ record { value = offered n; multiplicity = multiplicity n } ∷ []

  -- the entries of the first n rows
  abbrev pub row_entries : ℕ → List (Entry A)
  row_entries zero = []
  row_entries (suc n) = row_entries n ++ row_list n

  entries_many : (n : ℕ) → length (row_entries n) ≡ 2 * n
  entries_many zero = refl
  entries_many (suc n) = length-append (row_entries n) (row_list n) ∙ omega (arith, entries_many n)

  module _ (eq : A → A → Bool) (decides : (x y : A) → (eq x y ≡ true) ↔ (x ≡ y)) (v : A) where
    pub others_most : (n : ℕ) → others eq v (row_entries n) ≤ 2 * n
    others_most n = omega (arith, kept_at_most (λ e. not (eq e.value v)) (row_entries n), entries_many n)

    -- the number of the first n rows that look the value up
    abbrev times : ℕ → ℕ
    times zero = 0
    times (suc n) = cond (eq (looked_up n) v) (suc (times n)) (times n)

    times_at_most : (n : ℕ) → times n ≤ n
    times_at_most zero = omega arith
    times_at_most (suc n) =
        let rest = times_at_most n in
        elim (eq (looked_up n) v) as (λ b. cond b (suc (times n)) (times n) ≤ suc n) [ true ↦ omega (arith, rest) | false ↦ omega (arith, rest) ]

    more_times : (b : Bool) (n : ℕ) → n ≤ cond b (suc n) n
    more_times true n = omega arith
    more_times false n = omega arith

    one_time : (b : Bool) (n : ℕ) → b ≡ true → 0 < cond b (suc n) n
    one_time true n e = omega arith
    one_time false n e = cc

    times_some : (row n : ℕ) → row < n → looked_up row ≡ v → 0 < times n
    times_some row zero lt is = absurd (omega (arith, lt))
    times_some row (suc n) lt is =
        elim (cases_lt row n) [
          | inl below ↦ let k = times_some row n below is in omega (arith, k, more_times (eq (looked_up n) v) (times n))
          | inr least ↦
              let e : row ≡ n = omega (arith, lt, least) in
              one_time (eq (looked_up n) v) (times n) ((decides (looked_up n) v).1 (subst (λ i. looked_up i ≡ v) e is))
        ]

    row_total : (n : ℕ) (t : A) (b c : Bool) → c ≡ false
        → r.add (r.neg (image r (times n))) (cond b (r.add (r.neg r.one) (cond c (r.add t r.zero) r.zero)) (cond c (r.add t r.zero) r.zero))
        ≡ r.neg (image r (cond b (suc (times n)) (times n)))
    row_total n t b true e = cc
    row_total n t true false e =
        ap (r.add (r.neg (image r (times n)))) (r.add_zero (r.neg r.one))
        ∙ (sym (neg_of_add r (image r (times n)) r.one) ∙ ap r.neg (sym (image-suc r (times n))))
    row_total n t false false e = r.add_zero (r.neg (image r (times n)))

    differ : (x : A) → x ≢ v → eq x v ≡ false
    differ x other = turned (eq x v) (λ e. other ((decides x v).0 e))
      where
        turned : (b : Bool) → (b ≡ true → ⊥) → b ≡ false
        turned true h = absurd (h refl)
        turned false h = refl

    total_is : (n : ℕ) → ((k : ℕ) → k < n → offered k ≢ v) → total r eq v (row_entries n) ≡ r.neg (image r (times n))
    total_is zero away = sym (neg_zero r) ∙ ap r.neg (sym (image-zero r))
    total_is (suc n) away =
        total-append r eq v (row_entries n) (row_list n)
        ∙ (ap (λ x. r.add x (total r eq v (row_list n))) (total_is n (λ k lt. away k (omega (arith, lt))))
        ∙ row_total n (multiplicity n) (eq (looked_up n) v) (eq (offered n) v) (differ (offered n) (away n (omega arith))))

    -- if fewer rows than the characteristic look it up, and at least one, its total isn't zero
    pub total_some : (p : ℕ) → HasCharacteristic r p → (row n : ℕ) → row < n → n < p → looked_up row ≡ v
        → ((k : ℕ) → k < n → offered k ≢ v) → total r eq v (row_entries n) ≢ r.zero
    total_some p has row n lt short is away z =
        let low : times n < p = omega (arith, short, times_at_most n) in
        let none : times n ≡ 0 =
        zero_of_image r p has (times n) low (sym (neg_neg r (image r (times n))) ∙ (ap r.neg (sym (total_is n away) ∙ z) ∙ neg_zero r)) in
        absurd (omega (arith, none, times_some row n lt is))
