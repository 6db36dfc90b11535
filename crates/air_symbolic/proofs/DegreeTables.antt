-- The table of degrees, extended number by number.
use Rattle.std.proofs.Common.{◌≡◌, ◌⊎◌, ℕ, ◌+◌, ◌<◌, List, [], ◌∷◌, ◌++◌, length, get_or, sym, ap, ◌∙◌, arith, ⊎_elim}
use Rattle.std.proofs.lemmas.List.{get_or_append_left, get_or_push}
use Rattle.std.proofs.Math.ListN.{length-append}
use Rattle.air_symbolic.specs.DegreeTables.{capped, AreDegrees}

-- a table with one more degree
pub more-degrees : (degree : ℕ → ℕ) (k : ℕ) (table new : List ℕ) (y : ℕ) → new ≡ table ++ y ∷ [] → AreDegrees degree k table → y ≡ capped (degree k) → AreDegrees degree (k + 1) new
more-degrees degree k table new y e h is = record {
  places = omega (arith, ap length e, length-append table (y ∷ []), h.places);
  each = λ i b.
      ap (λ t. get_or t i 0) e
      ∙ ⊎_elim
      (λ (lt : i < k). get_or_append_left table (y ∷ []) 0 i (omega (arith, lt, h.places)) ∙ h.each i lt)
      (λ (at : i ≡ k). get_or_push table y 0 i (h.places ∙ sym at) ∙ is ∙ ap (λ j. capped (degree j)) (sym at))
      (before_or_at i b);
}
  where
    before_or_at : (i : ℕ) → i < k + 1 → (i < k) ⊎ (i ≡ k)
    before_or_at i b = grind (arith, b)
