-- Packing is the sum of powers of two times elements.
use Rattle.std.proofs.Common.{◌≡◌, ◌∙◌, ℕ, suc, ◌+◌, ◌^◌, List, [], ◌∷◌, map, refl, sym, ap, ap₂, arith}
use Rattle.std.proofs.Math.Nat.{pow-suc}
use Rattle.air_field.specs.Ring.{CommRing, image, self_algebra}
use Rattle.air_field.specs.laws.RingSolver.{var, nought, unit, plus, times, ring}
use Rattle.air_field.specs.laws.Images.{image-one, image-add}
use Rattle.air_field.specs.Term.{Leaf, Term}
use Rattle.air_field.specs.Value.{value}
use Rattle.air_gadgets.specs.Packing.{packed_from}
use Rattle.air_gadgets.specs.PowerSums.{power_sum, PacksValues, PacksByPowers}

module _ {A : Type 0} (R : CommRing A) where
  doubled_power : (k : ℕ) → image R (2 ^ suc k) ≡ R.add (image R (2 ^ k)) (image R (2 ^ k))
  doubled_power k =
      let e : 2 ^ suc k ≡ 2 ^ k + 2 ^ k = omega (arith, pow-suc 2 k) in
      ap (image R) e ∙ image-add R (2 ^ k) (2 ^ k)

  twice_power_sum : (k : ℕ) (xs : List A) → power_sum R (suc k) xs ≡ R.add (power_sum R k xs) (power_sum R k xs)
  twice_power_sum k [] = ring R [] nought (plus nought nought) refl
  twice_power_sum k (x ∷ xs) =
      ap₂ R.add (ap (λ i. R.mul i x) (doubled_power k)) (twice_power_sum (suc k) xs)
      ∙ ring R (image R (2 ^ k) ∷ x ∷ power_sum R (suc k) xs ∷ [])
      (plus (times (plus (var 0) (var 0)) (var 1)) (plus (var 2) (var 2)))
      (plus (plus (times (var 0) (var 1)) (var 2)) (plus (times (var 0) (var 1)) (var 2))) refl

  first_place : (x y : A) → R.add (R.mul (image R 1) x) y ≡ R.add y x
  first_place x y = ap (λ i. R.add (R.mul i x) y) (image-one R) ∙ ring R (x ∷ y ∷ []) (plus (times unit (var 0)) (var 1)) (plus (var 1) (var 0)) refl

  none_after : (x : A) → R.add R.zero x ≡ x
  none_after x = ring R (x ∷ []) (plus nought (var 0)) (var 0) refl

  twice_first : (x y : A) → R.add x (R.mul (R.add R.one R.one) y) ≡ R.add (R.add y y) x
  twice_first x y = ring R (x ∷ y ∷ []) (plus (var 0) (times (plus unit unit) (var 1))) (plus (plus (var 1) (var 1)) (var 0)) refl

  pub packs_by_powers : PacksByPowers R
  packs_by_powers [] = refl
  packs_by_powers (x ∷ xs) =
      ap (λ w. R.add x (R.mul (R.add R.one R.one) w)) (packs_by_powers xs)
      ∙ (twice_first x (power_sum R 0 xs)
      ∙ (ap (λ w. R.add w x) (sym (twice_power_sum 0 xs)) ∙ sym (first_place x (power_sum R 1 xs))))

module _ {F : Type 0} (R : CommRing F) (s : Leaf → F) where
  packed_from_value : (t : Term F) (us : List (Term F)) → value (self_algebra R) s (packed_from t us) ≡ power_sum R 0 (map (value (self_algebra R) s) (t ∷ us))
  packed_from_value t [] = sym (first_place R (value (self_algebra R) s t) R.zero ∙ none_after R (value (self_algebra R) s t))
  packed_from_value t (u ∷ us) =
      let rest = map (value (self_algebra R) s) (u ∷ us) in
      ap (λ w. R.add (R.add w w) (value (self_algebra R) s t)) (packed_from_value u us)
      ∙ (ap (λ w. R.add w (value (self_algebra R) s t)) (sym (twice_power_sum R 0 rest))
      ∙ sym (first_place R (value (self_algebra R) s t) (power_sum R 1 rest)))

pub packs_values : {F : Type 0} (R : CommRing F) (none : F) → none ≡ R.zero → PacksValues R none
packs_values R none e s [] = e
packs_values R none e s (t ∷ us) = packed_from_value R s t us
