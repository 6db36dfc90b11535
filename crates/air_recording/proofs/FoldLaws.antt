-- Horner's fold is its recombination.
use Rattle.std.proofs.Common.{◌≡◌, ℕ, ◌+◌, ◌<◌, List, [], ◌∷◌, length, map, get_or, refl, sym, ap, ap₂, ◌∙◌}
use Rattle.air_field.specs.Ring.{CommRing, AlgebraOver}
use Rattle.air_field.specs.Extension.{Basis, ExtensionLaws}
use Rattle.air_recording.specs.AlphaPowers.{alpha_power, alpha_powers_at, coordinates_of, all_coordinates_of}
use Rattle.air_recording.specs.declared.symbolic.kind.ConstraintKind.{ConstraintKind}
use Rattle.air_recording.specs.Folds.{sum_below, sum_by_powers, basis_element, weighted_sum, recombination, ArePlacesOf, values_at, Recombines}
use Rattle.air_recording.proofs.Tabulations.{IsTabulation, length-tabulation, get_or-tabulation}
use Rattle.air_recording.proofs.SumLaws.{sum_below-ext, sum_below-mul, sum_over, sum_over-ext, sum_below-over, weighted_sum-map, sum_below-from, sum-places, length-places}
use Rattle.air_recording.proofs.BasisParts.{part, element-parts}

module _ {F E : Type 0} (R : CommRing F) (a : AlgebraOver F E) (basis : Basis F E) (n : ℕ) (laws : ExtensionLaws R a basis n) where
  tabulated : (ws : List E) → IsTabulation (all_coordinates_of R basis ws) (coordinates_of R basis ws)
  tabulated ws = record { none = refl; more = λ m. refl }

  -- the summand of basis element d, from coordinates
  abbrev from_coordinates : List (List F) → List E → ℕ → E
  from_coordinates coordinates values d =
      weighted_sum a.ring (map (λ c. a.ring.mul (a.embed c) (basis_element R a d)) (get_or coordinates d [])) values

  -- the summand of basis element d, from whole weights
  abbrev from_weights : (ℕ → E) → (ℕ → E) → List ℕ → ℕ → E
  from_weights w v indices d = sum_over a.ring (λ i. a.ring.mul (part R a basis (w i) d) (v i)) indices

  by_basis : (w v : ℕ → E) (b : List ℕ) (d : ℕ) → d < n → from_coordinates (all_coordinates_of R basis (map w b) n) (map v b) d ≡ from_weights w v b d
  by_basis w v b d h =
      ap (λ l. weighted_sum a.ring (map (λ c. a.ring.mul (a.embed c) (basis_element R a d)) l) (map v b)) (get_or-tabulation (all_coordinates_of R basis (map w b)) (coordinates_of R basis (map w b)) (tabulated (map w b)) n d [] h)
      ∙ products b
    where
      products : (l : List ℕ) → weighted_sum a.ring (map (λ c. a.ring.mul (a.embed c) (basis_element R a d)) (coordinates_of R basis (map w l) d)) (map v l) ≡ from_weights w v l d
      products [] = refl
      products (i ∷ l) = ap (a.ring.add (a.ring.mul (part R a basis (w i) d) (v i))) (products l)

  whole_weight : (w v : ℕ → E) (i : ℕ) → sum_below a.ring (λ d. a.ring.mul (part R a basis (w i) d) (v i)) n ≡ a.ring.mul (w i) (v i)
  whole_weight w v i =
      sum_below-mul a.ring (part R a basis (w i)) (v i) n ∙ ap (λ x. a.ring.mul x (v i)) (element-parts R a basis n laws (w i))

  by_coordinates : (w v : ℕ → E) (b : List ℕ) →
      sum_below a.ring (from_coordinates (all_coordinates_of R basis (map w b) n) (map v b)) n ≡ sum_over a.ring (λ i. a.ring.mul (w i) (v i)) b
  by_coordinates w v b =
      sum_below-ext a.ring (from_coordinates (all_coordinates_of R basis (map w b) n) (map v b)) (from_weights w v b) n (by_basis w v b)
      ∙ (sum_below-over a.ring (λ d i. a.ring.mul (part R a basis (w i) d) (v i)) b n
      ∙ sum_over-ext a.ring (λ i. sum_below a.ring (λ d. a.ring.mul (part R a basis (w i) d) (v i)) n) (λ i. a.ring.mul (w i) (v i)) b (whole_weight w v))

  recombined : (w v : ℕ → E) (b e : List ℕ) →
      recombination R a (all_coordinates_of R basis (map w b) n) (map w e) (map v b) (map v e)
      ≡ a.ring.add (sum_over a.ring (λ i. a.ring.mul (w i) (v i)) b) (sum_over a.ring (λ i. a.ring.mul (w i) (v i)) e)
  recombined w v b e =
      ap₂ a.ring.add
      (ap (sum_below a.ring (from_coordinates (all_coordinates_of R basis (map w b) n) (map v b))) (length-tabulation (all_coordinates_of R basis (map w b)) (coordinates_of R basis (map w b)) (tabulated (map w b)) n) ∙ by_coordinates w v b)
      (weighted_sum-map a.ring w v e)

  -- The recombination, from coordinates and whole powers, of the values at the indices of both kinds is Horner's fold of all
  -- values.
  pub recombination-sum_by_powers : (alpha : E) (kinds : List ConstraintKind) (values : List E) (b e : List ℕ) → ArePlacesOf kinds b e → length values ≡ length kinds →
      recombination R a (all_coordinates_of R basis (alpha_powers_at a.ring alpha (length b + length e) b) n) (alpha_powers_at a.ring alpha (length b + length e) e) (values_at a.ring values b) (values_at a.ring values e)
      ≡ sum_by_powers a.ring alpha values
  recombination-sum_by_powers alpha kinds values b e are same_length =
      recombined (alpha_power a.ring alpha (length b + length e)) at b e
      ∙ (ap₂ (λ x y. a.ring.add (sum_over a.ring (λ i. a.ring.mul (alpha_power a.ring alpha (length b + length e) i) (at i)) x) (sum_over a.ring (λ i. a.ring.mul (alpha_power a.ring alpha (length b + length e) i) (at i)) y)) are.base are.extension
      ∙ (sum-places a.ring (λ i. a.ring.mul (alpha_power a.ring alpha (length b + length e) i) (at i)) 0 kinds
      ∙ (sym (sum_below-from a.ring (λ i. a.ring.mul (alpha_power a.ring alpha (length b + length e) i) (at i)) (length kinds))
      ∙ ap₂ (λ k m. sum_below a.ring (λ i. a.ring.mul (alpha_power a.ring alpha k i) (at i)) m) total (sym same_length))))
    where
      at : ℕ → E
      at i = get_or values i a.ring.zero

      total : length b + length e ≡ length values
      total = ap₂ (λ x y. length x + length y) are.base are.extension ∙ (length-places 0 kinds ∙ sym same_length)

  -- as above, for lists that equal these coordinates and these whole powers, of k constraints
  pub recombines : (alpha : E) (k : ℕ) (b e : List ℕ) (lists : List (List F)) (powers : List E) → k ≡ length b + length e → lists ≡ all_coordinates_of R basis (alpha_powers_at a.ring alpha k b) n → powers ≡ alpha_powers_at a.ring alpha k e → Recombines R a alpha b e lists powers
  recombines alpha k b e lists powers count lists_are powers_are kinds values are same_length =
      ap₂ (λ l p. recombination R a l p (values_at a.ring values b) (values_at a.ring values e))
      (lists_are ∙ ap (λ m. all_coordinates_of R basis (alpha_powers_at a.ring alpha m b) n) count)
      (powers_are ∙ ap (λ m. alpha_powers_at a.ring alpha m e) count)
      ∙ recombination-sum_by_powers alpha kinds values b e are same_length
