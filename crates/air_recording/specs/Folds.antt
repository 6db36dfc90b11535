-- Horner's fold of the values of constraints, and its recombination from weights and coordinates.
use Rattle.std.specs.Prelude.{◌≡◌, ℕ, zero, suc, List, [], ◌∷◌, ◌++◌, length, map, replicate, slice_index_or}
use Rattle.air_field.specs.Ring.{CommRing, AlgebraOver}
use Rattle.air_recording.specs.AlphaPowers.{alpha_power}
use Rattle.air_recording.specs.Kinds.{is_base, is_extension, places_where}
use Rattle.air_recording.specs.declared.symbolic.kind.ConstraintKind.{ConstraintKind}

-- f 0 + .. + f (n - 1)
abbrev pub sum_below : {E : Type 0} → CommRing E → (ℕ → E) → ℕ → E
sum_below r f zero = r.zero
sum_below r f (suc n) = r.add (sum_below r f n) (f n)

-- the sum of the k values by powers of alpha: value i times alpha^(k-1-i)
abbrev pub sum_by_powers : {E : Type 0} → CommRing E → E → List E → E
sum_by_powers r alpha values = sum_below r (λ i. r.mul (alpha_power r alpha (length values) i) (slice_index_or values i r.zero)) (length values)

-- the element whose coefficient d is one, and whose others are zero
abbrev pub basis_element : {F E : Type 0} → CommRing F → AlgebraOver F E → ℕ → E
basis_element R a d = a.extend (replicate d R.zero ++ R.one ∷ [])

-- the sum of weight times value, index by index
abbrev pub weighted_sum : {E : Type 0} → CommRing E → List E → List E → E
weighted_sum r [] values = r.zero
weighted_sum r (w ∷ weights) [] = r.zero
weighted_sum r (w ∷ weights) (v ∷ values) = r.add (r.mul w v) (weighted_sum r weights values)

-- The sum, over each basis element and each base constraint, of coordinate times basis element times value, plus the
-- sum, over each extension constraint, of whole power times value.
abbrev pub recombination : {F E : Type 0} → CommRing F → AlgebraOver F E → List (List F) → List E → List E → List E → E
recombination R a coordinates powers base extension =
    a.ring.add
    (sum_below a.ring (λ d. weighted_sum a.ring (map (λ c. a.ring.mul (a.embed c) (basis_element R a d)) (slice_index_or coordinates d [])) base) (length coordinates))
    (weighted_sum a.ring powers extension)

-- the first list has the indices of the base kinds, the second those of the extension kinds, in order
pub record ArePlacesOf (kinds : List ConstraintKind) (base_indices ext_indices : List ℕ) : Type 0 where
  pub base : base_indices ≡ places_where is_base kinds
  pub extension : ext_indices ≡ places_where is_extension kinds

-- the values at these indices
abbrev pub values_at : {E : Type 0} → CommRing E → List E → List ℕ → List E
values_at r values indices = map (λ i. slice_index_or values i r.zero) indices

-- For every list of constraints whose kinds have these indices, the recombination from these coordinates and powers is
-- Horner's fold of the values in order, whatever the values. For the empty list it is zero.
abbrev pub Recombines : {F E : Type 0} → CommRing F → AlgebraOver F E → E → List ℕ → List ℕ → List (List F) → List E → Type 0
Recombines {E = E} R a alpha base_indices ext_indices coordinates powers =
    (kinds : List ConstraintKind) (values : List E) → ArePlacesOf kinds base_indices ext_indices → length values ≡ length kinds
    → recombination R a coordinates powers (values_at a.ring values base_indices) (values_at a.ring values ext_indices) ≡ sum_by_powers a.ring alpha values
