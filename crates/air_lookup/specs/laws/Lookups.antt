-- Values that balance at many elements are looked up as often as they are offered.
use Rattle.std.specs.Prelude.{◌≡◌, ◌≢◌, ◌↔◌, ℕ, suc, ◌+◌, ◌<◌, ◌≤◌, List, [], ◌∷◌, ◌++◌, length, map, Bool, true, false, not, cond, refl}
use Rattle.std.specs.List.{filter}
use Rattle.std.proofs.Common.{sym, ◌∙◌, ap, ap₂, subst, arith, length-append}
use Rattle.std.proofs.lemmas.List.{length-map}
use Rattle.std.proofs.lemmas.List.Filters.{length-filter_both}
use Rattle.std.proofs.lemmas.List.Sums.{count_by-le-length, length-filter}
use Rattle.air_field.specs.Distinct.{FewerThan}
use Rattle.air_field.specs.Domain.{IsDomain}
use Rattle.air_field.specs.Ring.{CommRing, image}
use Rattle.air_field.specs.laws.Images.{HasCharacteristic, image-zero, image-suc, same_of_image, zero_of_image}
use Rattle.air_field.specs.laws.Ring.{zero_add, neg_of_add, neg_zero, neg_neg, neg_unique}
use Rattle.air_lookup.specs.Balance.{Entry, Balances, total, others}
use Rattle.air_lookup.specs.Lookups.{each_with, occurrences, FewBalance, LookupsAreSound, MultisetsAreSound}
use Rattle.air_lookup.specs.laws.Balance.{few_balance}

pub kept_at_most : {A : Type 0} (p : A → Bool) (xs : List A) → length (filter p xs) ≤ length xs
kept_at_most p xs = omega (arith, length-filter p xs, count_by-le-length p xs)

-- each element passes the test or fails it
pub kept_both : {A : Type 0} (p : A → Bool) (xs : List A) → length (filter p xs) + length (filter (λ x. not (p x)) xs) ≡ length xs
kept_both p xs = length-filter_both p (λ x. not (p x)) (λ x. refl) xs

module _ {A : Type 0} (r : CommRing A) (eq : A → A → Bool) (v : A) where
  -- a value occurs as often as entries of it
  occurrences-values : (es : List (Entry A)) → occurrences eq v (map (λ e. e.value) es) ≡ length (filter (λ e. eq e.value v) es)
  occurrences-values [] = refl
  occurrences-values (e ∷ es) =
      let f : List A = filter (λ x. eq x v) (map (λ e. e.value) es) in
      let g : List (Entry A) = filter (λ e. eq e.value v) es in
      elim (eq e.value v) as (λ b. length (cond b (e.value ∷ f) f) ≡ length (cond b (e ∷ g) g))
      [ true ↦ ap suc (occurrences-values es) | false ↦ occurrences-values es ]

  -- if some entry is of v, the others are fewer than all
  others_less : (es : List (Entry A)) → occurrences eq v (map (λ e. e.value) es) ≢ 0 → others eq v es < length es
  others_less es some =
      let both = kept_both (λ e. eq e.value v) es in
      let other : length (filter (λ e. eq e.value v) es) ≢ 0 = λ n. some (occurrences-values es ∙ n) in
      omega (arith, both, other)

  total-append_step : (m t u w : A) (b : Bool) → w ≡ r.add t u → cond b (r.add m w) w ≡ r.add (cond b (r.add m t) t) u
  total-append_step m t u w true h = ap (r.add m) h ∙ sym (r.add_assoc m t u)
  total-append_step m t u w false h = h

  pub total-append : (xs ys : List (Entry A)) → total r eq v (xs ++ ys) ≡ r.add (total r eq v xs) (total r eq v ys)
  total-append [] ys = sym (zero_add r (total r eq v ys))
  total-append (e ∷ es) ys =
      total-append_step e.multiplicity (total r eq v es) (total r eq v ys) (total r eq v (es ++ ys)) (eq e.value v) (total-append es ys)

  -- the total of a value that doesn't occur
  total_none_step : (m t : A) (n : ℕ) (b : Bool) → cond b (suc n) n ≡ 0 → (n ≡ 0 → t ≡ r.zero) → cond b (r.add m t) t ≡ r.zero
  total_none_step m t n true h rest = absurd (omega (arith, h))
  total_none_step m t n false h rest = rest h

  kept_cond : {B : Type 0} (x : B) (f : List B) (b : Bool) → length (cond b (x ∷ f) f) ≡ cond b (suc (length f)) (length f)
  kept_cond x f true = refl
  kept_cond x f false = refl

  total_none : (es : List (Entry A)) → length (filter (λ e. eq e.value v) es) ≡ 0 → total r eq v es ≡ r.zero
  total_none [] h = refl
  total_none (e ∷ es) h =
      total_none_step e.multiplicity (total r eq v es) (length (filter (λ o. eq o.value v) es)) (eq e.value v)
      (sym (kept_cond e (filter (λ o. eq o.value v) es) (eq e.value v)) ∙ h) (total_none es)

  -- multiplicities one and minus one count
  count_step : (x : A) (f : List A) (t : A) (b : Bool) → t ≡ image r (length f) → cond b (r.add r.one t) t ≡ image r (length (cond b (x ∷ f) f))
  count_step x f t true h = ap (r.add r.one) h ∙ (r.add_comm r.one (image r (length f)) ∙ sym (image-suc r (length f)))
  count_step x f t false h = h

  total_ones : (xs : List A) → total r eq v (each_with r.one xs) ≡ image r (occurrences eq v xs)
  total_ones [] = sym (image-zero r)
  total_ones (x ∷ xs) = count_step x (filter (λ y. eq y v) xs) (total r eq v (each_with r.one xs)) (eq x v) (total_ones xs)

  minus_step : (x : A) (f : List A) (t : A) (b : Bool) → t ≡ r.neg (image r (length f))
      → cond b (r.add (r.neg r.one) t) t ≡ r.neg (image r (length (cond b (x ∷ f) f)))
  minus_step x f t true h =
      ap (r.add (r.neg r.one)) h
      ∙ (sym (neg_of_add r r.one (image r (length f)))
      ∙ ap r.neg (r.add_comm r.one (image r (length f)) ∙ sym (image-suc r (length f))))
  minus_step x f t false h = h

  total_minus : (xs : List A) → total r eq v (each_with (r.neg r.one) xs) ≡ r.neg (image r (occurrences eq v xs))
  total_minus [] = sym (neg_zero r) ∙ ap r.neg (sym (image-zero r))
  total_minus (x ∷ xs) = minus_step x (filter (λ y. eq y v) xs) (total r eq v (each_with (r.neg r.one) xs)) (eq x v) (total_minus xs)

-- the values of entries made of values
values_of : {A : Type 0} (m : A) (xs : List A) → map (λ (e : Entry A). e.value) (each_with m xs) ≡ xs
values_of m [] = refl
values_of m (x ∷ xs) = ap (λ l. x ∷ l) (values_of m xs)

occurrences-append : {A : Type 0} (eq : A → A → Bool) (v : A) (xs ys : List (Entry A))
    → length (filter (λ e. eq e.value v) (xs ++ ys)) ≡ length (filter (λ e. eq e.value v) xs) + length (filter (λ e. eq e.value v) ys)
occurrences-append eq v [] ys = omega arith
occurrences-append eq v (x ∷ xs) ys =
    let rest = occurrences-append eq v xs ys in
    let f : List _ = filter (λ e. eq e.value v) (xs ++ ys) in
    let g : List _ = filter (λ e. eq e.value v) xs in
    let n : ℕ = length (filter (λ e. eq e.value v) ys) in
    elim (eq x.value v) as (λ b. length (cond b (x ∷ f) f) ≡ length (cond b (x ∷ g) g) + n) [ true ↦ omega (arith, rest) | false ↦ rest ]

module _ {A : Type 0} (r : CommRing A) (eq : A → A → Bool) (decides : (a b : A) → (eq a b ≡ true) ↔ (a ≡ b)) (domain : IsDomain r) where
  pub few_balance_all : FewBalance r eq
  few_balance_all es v other = few_balance r eq v decides domain es other

  -- if the total of a value that occurs isn't zero, the entries balance at fewer elements than there are entries
  fewer_balance : (es : List (Entry A)) (v : A) → occurrences eq v (map (λ e. e.value) es) ≢ 0 → total r eq v es ≢ r.zero
      → FewerThan (λ alpha. Balances r alpha es) (length es)
  fewer_balance es v occurs other alphas distinct all =
      omega (arith, few_balance_all es v other alphas distinct all, others_less r eq v es occurs)

  module _ (p : ℕ) (has : HasCharacteristic r p) where
    negative_zero : (x : A) → r.neg x ≡ r.zero → x ≡ r.zero
    negative_zero x h = sym (neg_neg r x) ∙ (ap r.neg h ∙ neg_zero r)

    pub lookups_are_sound : LookupsAreSound r eq p
    lookups_are_sound looked_up table v few occurs none =
        let first : List (Entry A) = each_with (r.neg r.one) looked_up in
        let es : List (Entry A) = first ++ table in
        let here : length (filter (λ e. eq e.value v) first) ≡ occurrences eq v looked_up =
        sym (occurrences-values r eq v first) ∙ ap (occurrences eq v) (values_of (r.neg r.one) looked_up) in
        let away : length (filter (λ e. eq e.value v) table) ≡ 0 = sym (occurrences-values r eq v table) ∙ none in
        let is : total r eq v es ≡ r.neg (image r (occurrences eq v looked_up)) =
        total-append r eq v first table
        ∙ (ap₂ r.add (total_minus r eq v looked_up) (total_none r eq v table away)
        ∙ r.add_zero (r.neg (image r (occurrences eq v looked_up)))) in
        let less : occurrences eq v looked_up < p = omega (arith, few, kept_at_most (λ x. eq x v) looked_up) in
        let there : occurrences eq v (map (λ e. e.value) es) ≢ 0 =
        λ n. occurs (omega (arith, n, here, away, occurrences-values r eq v es, occurrences-append eq v first table)) in
        let long : length es ≡ length looked_up + length table =
        length-append first table ∙ ap (λ n. n + length table) (length-map looked_up _) in
        subst (FewerThan (λ alpha. Balances r alpha es)) long
        (fewer_balance es v there (λ z. occurs (zero_of_image r p has (occurrences eq v looked_up) less (negative_zero _ (sym is ∙ z)))))

    same_of_difference : (x y : A) → r.add (r.neg x) y ≡ r.zero → x ≡ y
    same_of_difference x y h = sym (neg_neg r x) ∙ sym (neg_unique r (r.neg x) y h)

    pub multisets_are_sound : MultisetsAreSound r eq p
    multisets_are_sound xs ys v short shorter differ =
        let first : List (Entry A) = each_with (r.neg r.one) xs in
        let second : List (Entry A) = each_with r.one ys in
        let here : length (filter (λ e. eq e.value v) first) ≡ occurrences eq v xs =
        sym (occurrences-values r eq v first) ∙ ap (occurrences eq v) (values_of (r.neg r.one) xs) in
        let away : length (filter (λ e. eq e.value v) second) ≡ occurrences eq v ys =
        sym (occurrences-values r eq v second) ∙ ap (occurrences eq v) (values_of r.one ys) in
        let is : total r eq v (first ++ second) ≡ r.add (r.neg (image r (occurrences eq v xs))) (image r (occurrences eq v ys)) =
        total-append r eq v first second ∙ ap₂ r.add (total_minus r eq v xs) (total_ones r eq v ys) in
        let less : occurrences eq v xs < p = omega (arith, short, kept_at_most (λ x. eq x v) xs) in
        let lesser : occurrences eq v ys < p = omega (arith, shorter, kept_at_most (λ x. eq x v) ys) in
        let there : occurrences eq v (map (λ e. e.value) (first ++ second)) ≢ 0 =
        λ n. differ (omega (arith, n, here, away, occurrences-values r eq v (first ++ second), occurrences-append eq v first second)) in
        let long : length (first ++ second) ≡ length xs + length ys =
        length-append first second ∙ ap₂ (λ m n. m + n) (length-map xs _) (length-map ys _) in
        subst (FewerThan (λ alpha. Balances r alpha (first ++ second))) long
        (fewer_balance (first ++ second) v there
        (λ z. differ (same_of_image r p has (occurrences eq v xs) (occurrences eq v ys) less lesser (same_of_difference _ _ (sym is ∙ z)))))
