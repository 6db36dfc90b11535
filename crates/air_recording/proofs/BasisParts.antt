-- An element of an extension is the sum of its coefficients times the basis elements.
use Rattle.std.proofs.Common.{◌≡◌, ℕ, zero, suc, ◌-◌, ◌<◌, ◌≤◌, ⊎_elim, [], ◌∷◌, ◌++◌, length, replicate, refl, sym, ap, ap₂, ◌∙◌, subst, arith}
use Rattle.std.proofs.lemmas.Bool.{cases_lt}
use Rattle.std.proofs.lemmas.List.{ext_get_or}
use Rattle.air_field.specs.Ring.{CommRing, AlgebraOver}
use Rattle.air_field.specs.laws.Ring.{zero_add, mul_zero}
use Rattle.air_field.specs.Coefficients.{coefficient, pad_to}
use Rattle.air_field.specs.laws.Coefficients.{coefficient-add, coefficient-scale}
use Rattle.air_field.specs.Extension.{Basis, ExtensionLaws}
use Rattle.air_field.specs.laws.Extension.{extension_over_laws}
use Rattle.air_recording.specs.Folds.{sum_below, basis_element}
use Rattle.air_recording.proofs.SumLaws.{sum_below-ext}

-- coefficient d of x times the basis element
abbrev pub part : {F E : Type 0} → CommRing F → AlgebraOver F E → Basis F E → E → ℕ → E
part R a basis x d = a.ring.mul (a.embed (coefficient R.zero (basis.coefficients x) d)) (basis_element R a d)

-- the unit list's coefficients
abbrev delta : {F : Type 0} → CommRing F → ℕ → ℕ → F
delta R zero zero = R.one
delta R zero (suc j) = R.zero
delta R (suc d) zero = R.zero
delta R (suc d) (suc j) = delta R d j

module _ {F : Type 0} (R : CommRing F) where
  unit-coefficient : (n d j : ℕ) → j < n → coefficient R.zero (pad_to R.zero n (replicate d R.zero ++ R.one ∷ [])) j ≡ delta R d j
  unit-coefficient zero d j h = absurd (omega arith)
  unit-coefficient (suc n) zero zero h = refl
  unit-coefficient (suc n) zero (suc j) h = none n j
    where
      none : (m i : ℕ) → coefficient R.zero (pad_to R.zero m []) i ≡ R.zero
      none zero i = refl
      none (suc m) zero = refl
      none (suc m) (suc i) = none m i
  unit-coefficient (suc n) (suc d) zero h = refl
  unit-coefficient (suc n) (suc d) (suc j) h = unit-coefficient n d j (omega arith)

  delta-same : (j : ℕ) → delta R j j ≡ R.one
  delta-same zero = refl
  delta-same (suc j) = delta-same j

  delta-other : (d j : ℕ) → d < j → delta R d j ≡ R.zero
  delta-other d zero h = absurd (omega arith)
  delta-other zero (suc j) h = refl
  delta-other (suc d) (suc j) h = delta-other d j (omega arith)

  delta-past : (d j : ℕ) → j < d → delta R d j ≡ R.zero
  delta-past zero j h = absurd (omega arith)
  delta-past (suc d) zero h = refl
  delta-past (suc d) (suc j) h = delta-past d j (omega arith)

  none-below : (c : ℕ → F) (j n : ℕ) → n ≤ j → sum_below R (λ d. R.mul (c d) (delta R d j)) n ≡ R.zero
  none-below c j zero h = refl
  none-below c j (suc n) h =
      ap₂ R.add (none-below c j n (omega arith)) (ap (R.mul (c n)) (delta-other n j (omega arith)) ∙ mul_zero R (c n)) ∙ R.add_zero R.zero

  one-at : (c : ℕ → F) (j n : ℕ) → j < n → sum_below R (λ d. R.mul (c d) (delta R d j)) n ≡ c j
  one-at c j zero h = absurd (omega arith)
  one-at c j (suc n) h = ⊎_elim (λ (l : j < n). earlier l (one-at c j n l)) (λ (l : n ≤ j). here (omega arith)) (cases_lt j n)
    where
      earlier : j < n → sum_below R (λ d. R.mul (c d) (delta R d j)) n ≡ c j → sum_below R (λ d. R.mul (c d) (delta R d j)) (suc n) ≡ c j
      earlier l rest =
          ap₂ R.add rest (ap (R.mul (c n)) (delta-past n j l) ∙ mul_zero R (c n)) ∙ R.add_zero (c j)

      here : j ≡ n → sum_below R (λ d. R.mul (c d) (delta R d j)) (suc n) ≡ c j
      here e =
          ap₂ R.add (none-below c j n (omega arith)) (ap (λ i. R.mul (c i) (delta R i j)) (sym e) ∙ (ap (R.mul (c j)) (delta-same j) ∙ R.mul_one (c j)))
          ∙ zero_add R (c j)

module _ {F E : Type 0} (R : CommRing F) (a : AlgebraOver F E) (basis : Basis F E) (n : ℕ) (laws : ExtensionLaws R a basis n) where
  nil-coefficient : (j : ℕ) → coefficient R.zero (basis.coefficients a.ring.zero) j ≡ R.zero
  nil-coefficient j =
      ap (λ x. coefficient R.zero (basis.coefficients x) j) (sym (extension_over_laws R a basis n laws).embed_zero)
      ∙ (ap (λ l. coefficient R.zero l j) (laws.embed_is R.zero) ∙ zeros (n - 1) j)
    where
      zeros : (m i : ℕ) → coefficient R.zero (R.zero ∷ replicate m R.zero) i ≡ R.zero
      zeros m zero = refl
      zeros zero (suc i) = refl
      zeros (suc m) (suc i) = zeros m i

  sum-coefficient : (f : ℕ → E) (m j : ℕ) → coefficient R.zero (basis.coefficients (sum_below a.ring f m)) j ≡ sum_below R (λ d. coefficient R.zero (basis.coefficients (f d)) j) m
  sum-coefficient f zero j = nil-coefficient j
  sum-coefficient f (suc m) j =
      ap (λ l. coefficient R.zero l j) (laws.add_is (sum_below a.ring f m) (f m))
      ∙ (coefficient-add R (basis.coefficients (sum_below a.ring f m)) (basis.coefficients (f m)) j
      ∙ ap (λ x. R.add x (coefficient R.zero (basis.coefficients (f m)) j)) (sum-coefficient f m j))

  part-coefficient : (c : F) (d j : ℕ) → j < n → coefficient R.zero (basis.coefficients (a.ring.mul (a.embed c) (basis_element R a d))) j ≡ R.mul c (delta R d j)
  part-coefficient c d j h =
      ap (λ l. coefficient R.zero l j) (laws.scale_is c (basis_element R a d))
      ∙ (coefficient-scale R c (basis.coefficients (basis_element R a d)) j
      ∙ ap (R.mul c) (ap (λ l. coefficient R.zero l j) (laws.extend_is (replicate d R.zero ++ R.one ∷ [])) ∙ unit-coefficient R n d j h))

  -- x is the sum of its parts
  pub element-parts : (x : E) → sum_below a.ring (part R a basis x) n ≡ x
  element-parts x =
      laws.same (sum_below a.ring (part R a basis x) n) x
      (ext_get_or R.zero (basis.coefficients (sum_below a.ring (part R a basis x) n)) (basis.coefficients x) (laws.count (sum_below a.ring (part R a basis x) n) ∙ sym (laws.count x)) each)
    where
      each : (j : ℕ) → j < length (basis.coefficients (sum_below a.ring (part R a basis x) n)) → coefficient R.zero (basis.coefficients (sum_below a.ring (part R a basis x) n)) j ≡ coefficient R.zero (basis.coefficients x) j
      each j b =
          let lt : j < n = subst (λ (m : ℕ). j < m) (laws.count (sum_below a.ring (part R a basis x) n)) b in
          sum-coefficient (part R a basis x) n j
          ∙ (sum_below-ext R (λ d. coefficient R.zero (basis.coefficients (part R a basis x d)) j) (λ d. R.mul (coefficient R.zero (basis.coefficients x) d) (delta R d j)) n (λ d h. part-coefficient (coefficient R.zero (basis.coefficients x) d) d j lt)
          ∙ one-at R (coefficient R.zero (basis.coefficients x)) j n lt)
