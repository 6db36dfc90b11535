-- Values that are words.
use Rattle.std.specs.Prelude.{◌*◌, ◌/◌, ◌%◌, ◌^◌, slice_index}
use Rattle.std.specs.List.{All}
use Rattle.std.proofs.Common.{◌≡◌, ◌<◌, ◌≤◌, ◌+◌, ℕ, suc, List, [], ◌∷◌, ◌++◌, length, slice_index_or, refl, sym, ◌∙◌, ap, ap₂, subst, arith, append_assoc, length-append}
use Rattle.air_field.specs.Ring.{CommRing, image}
use Rattle.air_field.specs.laws.Images.{HasCharacteristic, same_of_image}
use Rattle.air_chains.specs.WordValues.{word_values, HoldWords}

module _ {F : Type 0} (R : CommRing F) where
  entry_after : (before : List F) (x : F) (after : List F) → slice_index_or (before ++ x ∷ after) (length before) R.zero ≡ x
  entry_after [] x after = refl
  entry_after (y ∷ before) x after = entry_after before x after

  -- the values of words hold them
  pub words_placed : (before : List F) (ws : List ℕ) (after : List F) → HoldWords R (before ++ (word_values R ws ++ after)) (length before) ws
  words_placed before [] after = tt
  words_placed before (w ∷ ws) after =
      let low = image R (w % 2 ^ 16) in
      let high = image R (w / 2 ^ 16) in
      let rest = word_values R ws ++ after in
      let one : (before ++ low ∷ []) ++ high ∷ rest ≡ before ++ (low ∷ high ∷ rest) = append_assoc before (low ∷ []) (high ∷ rest) in
      let two : (before ++ low ∷ high ∷ []) ++ rest ≡ before ++ (low ∷ high ∷ rest) = append_assoc before (low ∷ high ∷ []) rest in
      let next : length (before ++ low ∷ []) ≡ length before + 1 = length-append before (low ∷ []) in
      let past : length (before ++ low ∷ high ∷ []) ≡ length before + 2 = length-append before (low ∷ high ∷ []) in (
        entry_after before low (high ∷ rest),
        subst (λ n. slice_index_or (before ++ (low ∷ high ∷ rest)) n R.zero ≡ high) next
            (subst (λ values. slice_index_or values (length (before ++ low ∷ [])) R.zero ≡ high) one (entry_after (before ++ low ∷ []) high rest)),
        subst (λ n. HoldWords R (before ++ (low ∷ high ∷ rest)) n ws) past
            (subst (λ values. HoldWords R values (length (before ++ low ∷ high ∷ [])) ws) two (words_placed (before ++ low ∷ high ∷ []) ws after)),
      )

  -- values hold words if they hold each
  pub words_held : (values : List F) (first : ℕ) (ws : List ℕ)
      → ((k : ℕ) → k < length ws → slice_index_or values (first + 2 * k) R.zero ≡ image R (slice_index ws k % 2 ^ 16))
      → ((k : ℕ) → k < length ws → slice_index_or values (first + 2 * k + 1) R.zero ≡ image R (slice_index ws k / 2 ^ 16))
      → HoldWords R values first ws
  words_held values first [] low high = tt
  words_held values first (w ∷ ws) low high =
      let here : first + 2 * 0 ≡ first = omega arith in
      let next : (k : ℕ) → first + 2 * suc k ≡ first + 2 + 2 * k = λ k. omega arith in (
        subst (λ n. slice_index_or values n R.zero ≡ image R (w % 2 ^ 16)) here (low 0 (omega arith)),
        subst (λ n. slice_index_or values (n + 1) R.zero ≡ image R (w / 2 ^ 16)) here (high 0 (omega arith)),
        words_held values (first + 2) ws
            (λ k lt. subst (λ n. slice_index_or values n R.zero ≡ image R (slice_index ws k % 2 ^ 16)) (next k) (low (suc k) (omega (arith, lt))))
            (λ k lt. subst (λ n. slice_index_or values (n + 1) R.zero ≡ image R (slice_index ws k / 2 ^ 16)) (next k) (high (suc k) (omega (arith, lt)))),
      )

  -- words that are held are held wherever the same values are
  pub words_moved : (values others : List F) (first at : ℕ) (ws : List ℕ)
      → ((k : ℕ) → k < 2 * length ws → slice_index_or others (at + k) R.zero ≡ slice_index_or values (first + k) R.zero)
      → HoldWords R values first ws → HoldWords R others at ws
  words_moved values others first at [] same h = tt
  words_moved values others first at (w ∷ ws) same h =
      let a : at + 0 ≡ at = omega arith in
      let f : first + 0 ≡ first = omega arith in
      let next : (n k : ℕ) → n + suc (suc k) ≡ n + 2 + k = λ n k. omega arith in (
        sym (ap (λ n. slice_index_or others n R.zero) a) ∙ (same 0 (omega arith) ∙ (ap (λ n. slice_index_or values n R.zero) f ∙ h.0)),
        same 1 (omega arith) ∙ h.1,
        words_moved values others (first + 2) (at + 2) ws
            (λ k lt. sym (ap (λ n. slice_index_or others n R.zero) (next at k))
            ∙ (same (suc (suc k)) (omega (arith, lt)) ∙ ap (λ n. slice_index_or values n R.zero) (next first k)))
            h.2,
      )

  low_half : (w : ℕ) → w % 2 ^ 16 < 2 ^ 16
  low_half w = omega arith

  high_half : (w : ℕ) → w < 2 ^ 32 → w / 2 ^ 16 < 2 ^ 16
  high_half w lt = omega (arith, lt)

  of_halves : (v w : ℕ) → v % 2 ^ 16 ≡ w % 2 ^ 16 → v / 2 ^ 16 ≡ w / 2 ^ 16 → v ≡ w
  of_halves v w low high = omega (arith, low, high)

  -- the same values hold the same words
  pub same_words : (p : ℕ) → HasCharacteristic R p → 2 ^ 16 ≤ p → (values : List F) (first : ℕ) (vs ws : List ℕ) → length vs ≡ length ws
      → All (λ w. w < 2 ^ 32) vs → All (λ w. w < 2 ^ 32) ws → HoldWords R values first vs → HoldWords R values first ws → vs ≡ ws
  same_words p has big values first [] [] count small_v small_w h k = refl
  same_words p has big values first [] (w ∷ ws) count small_v small_w h k = absurd (omega (arith, count))
  same_words p has big values first (v ∷ vs) [] count small_v small_w h k = absurd (omega (arith, count))
  same_words p has big values first (v ∷ vs) (w ∷ ws) count small_v small_w h k =
      let low = same_of_image R p has (v % 2 ^ 16) (w % 2 ^ 16) (omega (arith, big, low_half v)) (omega (arith, big, low_half w)) (sym h.0 ∙ k.0) in
      let high =
      same_of_image R p has (v / 2 ^ 16) (w / 2 ^ 16) (omega (arith, big, high_half v (small_v 0 0 (omega arith))))
      (omega (arith, big, high_half w (small_w 0 0 (omega arith)))) (sym h.1 ∙ k.1) in
      ap₂ (λ x xs. x ∷ xs) (of_halves v w low high)
      (same_words p has big values (first + 2) vs ws (omega (arith, count)) (λ i d lt. small_v (suc i) d (omega (arith, lt)))
      (λ i d lt. small_w (suc i) d (omega (arith, lt))) h.2 k.2)
