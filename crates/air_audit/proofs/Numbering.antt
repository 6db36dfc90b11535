-- The numbering of marked numbers.
use Rattle.std.proofs.Common.{◌≡◌, ◌⊎◌, ◌≤◌, ℕ, ◌+◌, ◌<◌, List, [], ◌∷◌, ◌++◌, length, get_or, Option, None, Some, MatchOption, refl, sym, subst, ◌∙◌, arith, ⊎_elim}
use Rattle.std.proofs.lemmas.List.{get_or_default, get_or_append_left, get_or_push, length_push}
use Rattle.air_symbolic.specs.Reach.{Marked}
use Rattle.air_audit.specs.Plans.{number_at, IsPlaceOf}

before_or_at : (i k : ℕ) → i < k + 1 → (i < k) ⊎ (i ≡ k)
before_or_at i k below = grind (arith, below)

-- a place stays where further numbers follow
place_stays : (numbers more : List ℕ) (k p i : ℕ) → k ≤ length numbers → IsPlaceOf numbers k p i → IsPlaceOf (numbers ++ more) k p i
place_stays numbers more k p i within h = (h.0, h.1 ∙ sym (get_or_append_left numbers more 0 p (omega (arith, within, h.0))))

pub place_later : (numbers : List ℕ) (k m p i : ℕ) → k ≤ m → IsPlaceOf numbers k p i → IsPlaceOf numbers m p i
place_later numbers k m p i later h = (omega (arith, later, h.0), h.1)

-- the numbers below m that are marked are numbered
pub record NumberedTo (marks : List (Option ℕ)) (numbers places : List ℕ) (m : ℕ) : Type 0 where
  pub long : length places ≡ m
  pub marked : (k : ℕ) → k < length numbers → Marked marks (number_at numbers k)
  pub below : (k : ℕ) → k < length numbers → number_at numbers k < m
  pub placed : (i : ℕ) → i < m → Marked marks i → IsPlaceOf numbers (length numbers) (get_or places i 0) i
  pub before : (k i : ℕ) → k < length numbers → i < number_at numbers k → Marked marks i → IsPlaceOf numbers k (get_or places i 0) i

module _ (marks : List (Option ℕ)) (numbers places : List ℕ) (m : ℕ) (lt : m < length marks) (h : NumberedTo marks numbers places m) where
  old_place : (i : ℕ) → i < m → get_or (places ++ length numbers ∷ []) i 0 ≡ get_or places i 0
  old_place i below = get_or_append_left places (length numbers ∷ []) 0 i (omega (arith, below, h.long))

  -- nothing is marked at place m
  none_more : get_or marks m None ≡ None → NumberedTo marks numbers (places ++ length numbers ∷ []) (m + 1)
  none_more none = record {
    long = omega (arith, length_push places (length numbers), h.long);
    marked = h.marked;
    below = λ k k_in. omega (arith, h.below k k_in);
    placed = λ i below mi. ⊎_elim
        (λ (b : i < m). subst (λ p. IsPlaceOf numbers (length numbers) p i) (sym (old_place i b)) (h.placed i b mi))
        (λ (e : i ≡ m). absurd (clash i e mi))
        (before_or_at i m below);
    before = λ k i k_in b mi. subst (λ p. IsPlaceOf numbers k p i) (sym (old_place i (omega (arith, b, h.below k k_in)))) (h.before k i k_in b mi);
  }
    where
      empty : {i : ℕ} → Some i ≡ None → ⊥
      empty e = cc

      clash : (i : ℕ) → i ≡ m → Marked marks i → ⊥
      clash i e mi = empty (sym (subst (λ j. get_or marks j None ≡ Some i) e mi) ∙ none)

  -- number m is marked
  one_more : Marked marks m → NumberedTo marks (numbers ++ m ∷ []) (places ++ length numbers ∷ []) (m + 1)
  one_more here = record {
    long = omega (arith, length_push places (length numbers), h.long);
    marked = λ k k_in. ⊎_elim
        (λ (b : k < length numbers). subst (λ i. Marked marks i) (sym (old_number k b)) (h.marked k b))
        (λ (e : k ≡ length numbers). subst (λ i. Marked marks i) (sym (new_number k e)) here)
        (before_or_at k (length numbers) (omega (arith, long, k_in)));
    below = λ k k_in. ⊎_elim
        (λ (b : k < length numbers). let was = h.below k b in let same = old_number k b in omega (arith, was, same))
        (λ (e : k ≡ length numbers). let is = new_number k e in omega (arith, is))
        (before_or_at k (length numbers) (omega (arith, long, k_in)));
    placed = λ i below mi. ⊎_elim
        (λ (b : i < m). subst (λ p. IsPlaceOf (numbers ++ m ∷ []) (length (numbers ++ m ∷ [])) p i) (sym (old_place i b))
        (place_later (numbers ++ m ∷ []) (length numbers) (length (numbers ++ m ∷ [])) (get_or places i 0) i (omega (arith, long))
        (place_stays numbers (m ∷ []) (length numbers) (get_or places i 0) i (omega arith) (h.placed i b mi))))
        (λ (e : i ≡ m). subst (λ p. IsPlaceOf (numbers ++ m ∷ []) (length (numbers ++ m ∷ [])) p i) (sym (new_place i e))
        (omega (arith, long), e ∙ sym (new_number (length numbers) refl)))
        (before_or_at i m below);
    before = λ k i k_in b mi. ⊎_elim
        (λ (lo : k < length numbers).
        let below = subst (λ j. i < j) (old_number k lo) b in
        let was = h.below k lo in
        subst (λ p. IsPlaceOf (numbers ++ m ∷ []) k p i) (sym (old_place i (omega (arith, below, was))))
        (place_stays numbers (m ∷ []) k (get_or places i 0) i (omega (arith, lo)) (h.before k i lo below mi)))
        (λ (e : k ≡ length numbers).
        let below = subst (λ j. i < j) (new_number k e) b in
        subst (λ p. IsPlaceOf (numbers ++ m ∷ []) k p i) (sym (old_place i below))
        (place_later (numbers ++ m ∷ []) (length numbers) k (get_or places i 0) i (omega (arith, e))
        (place_stays numbers (m ∷ []) (length numbers) (get_or places i 0) i (omega arith) (h.placed i below mi))))
        (before_or_at k (length numbers) (omega (arith, long, k_in)));
  }
    where
      long : length (numbers ++ m ∷ []) ≡ length numbers + 1
      long = length_push numbers m

      old_number : (k : ℕ) → k < length numbers → number_at (numbers ++ m ∷ []) k ≡ number_at numbers k
      old_number k b = get_or_append_left numbers (m ∷ []) 0 k b

      new_number : (k : ℕ) → k ≡ length numbers → number_at (numbers ++ m ∷ []) k ≡ m
      new_number k e = get_or_push numbers m 0 k (sym e)

      new_place : (i : ℕ) → i ≡ m → get_or (places ++ length numbers ∷ []) i 0 ≡ length numbers
      new_place i e = get_or_push places (length numbers) 0 i (h.long ∙ sym e)

  -- what is marked at place m, if anything is, is numbered
  pub mark_numbered : ((i j : ℕ) → get_or marks i None ≡ Some j → j ≡ i) → (o : Option ℕ) → o ≡ get_or marks m o → (count : ℕ) → count ≡ length numbers → (new : List ℕ)
      → MatchOption o (new ≡ numbers) (λ i. new ≡ numbers ++ i ∷ []) → NumberedTo marks new (places ++ count ∷ []) (m + 1)
  mark_numbered own None is count all new e =
      subst (λ c. NumberedTo marks new (places ++ c ∷ []) (m + 1)) (sym all)
      (subst (λ v. NumberedTo marks v (places ++ length numbers ∷ []) (m + 1)) (sym e) (none_more (sym is)))
  mark_numbered own (Some i) is count all new e =
      let at : get_or marks m None ≡ Some i = get_or_default marks m None (Some i) lt ∙ sym is in
      let same : i ≡ m = own m i at in
      subst (λ c. NumberedTo marks new (places ++ c ∷ []) (m + 1)) (sym all)
      (subst (λ v. NumberedTo marks v (places ++ length numbers ∷ []) (m + 1)) (sym e)
      (subst (λ j. NumberedTo marks (numbers ++ j ∷ []) (places ++ length numbers ∷ []) (m + 1)) (sym same) (one_more (subst (λ j. get_or marks m None ≡ Some j) same at))))
