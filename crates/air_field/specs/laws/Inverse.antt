-- Every nonzero element has an inverse: in a prime field, and among the polynomials modulo X^4 - w over it.
use Rattle.std.specs.Prelude.{◌≡◌, ℕ, suc, ◌-◌, ◌≤◌}
use Rattle.std.proofs.Common.{◌∙◌, ap, inl, inr, arith}
use Rattle.air_field.specs.Binomial.{binomial_ring, constant_polynomial, of_list}
use Rattle.air_field.specs.Domain.{HasInverse, IsDomain}
use Rattle.air_field.specs.Modular.{Modular, modular_ring}
use Rattle.air_field.specs.NoSquare.{IsNoSquare}
use Rattle.air_field.specs.Powers.{power}
use Rattle.air_field.specs.Prime.{IsPrime}
use Rattle.air_field.specs.Residue.{residue_class, residue_ring, residues}
use Rattle.air_field.specs.Ring.{CommRing, minus}
use Rattle.air_field.specs.declared.fields.modulus.Modulus.{Ghosts}
use Rattle.air_field.specs.declared.fields.binomial.BinomialExtension.{BinomialExtension}
use Rattle.air_field.specs.laws.FourDomain.{same_of_minus, four_inverse}
use Rattle.air_field.specs.laws.Modular.{domain}
use Rattle.air_field.specs.laws.NoSquare.{power_is_own, ratio_is_no_square, root, root-square}
use Rattle.air_field.specs.laws.Ring.{ring_rules}
use Rattle.air_field.specs.laws.SamePolynomial.{same_list}

module _ {A : Type 0} (R : CommRing A) (domain : IsDomain R) where
  -- x y is 1 where x (y x) is x
  one_of : (x y : A) → R.mul (R.mul y x) x ≡ x → (x ≡ R.zero → ⊥) → R.mul x y ≡ R.one
  one_of x y h some =
      let apart : R.mul x (minus R (R.mul x y) R.one) ≡ minus R (R.mul (R.mul y x) x) x = simp ring_rules in
      elim (domain x (minus R (R.mul x y) R.one) (apart ∙ (ap (λ z. minus R z x) h ∙ R.add_neg x))) [
        | inl e ↦ absurd (some e)
        | inr e ↦ same_of_minus R R.zero (R.mul x y) R.one e
      ]

  by_power : (x : A) (n p : ℕ) → suc (suc n) ≡ p → power R x p ≡ x → (x ≡ R.zero → ⊥) → R.mul x (power R x n) ≡ R.one
  by_power x n p e fermat some = one_of x (power R x n) (ap (power R x) e ∙ fermat) some

pub modular_inverse : {A : Type 0} {p : ℕ} (m : Modular A p) → IsPrime p → (x : A) → (x ≡ m.class 0 → ⊥) → (modular_ring m).mul x (power (modular_ring m) x (p - 2)) ≡ m.class 1
modular_inverse {p = p} m prime x some =
    let least : 2 ≤ p = prime.least in
    by_power (modular_ring m) (domain m prime) x (p - 2) p (omega (arith, least)) (power_is_own m prime x) some

pub binomial_inverse : {M : Type 0} (m : Ghosts M) (w : ℕ) → IsNoSquare m.P w → (a : BinomialExtension M m) → (a ≡ constant_polynomial (residue_class m 0) → ⊥) → HasInverse (binomial_ring m w) a
binomial_inverse m w no_square a some =
    let found =
    four_inverse (residue_ring m) (residue_class m w) (domain (residues m) m.is_prime) (ratio_is_no_square (residues m) m.is_prime w no_square)
    (root (residues m) m.is_prime w no_square) (root-square (residues m) m.is_prime w no_square)
    (λ x. power (residue_ring m) x (m.P - 2)) (modular_inverse (residues m) m.is_prime)
    a.value a.four (λ e. some (same_list a (constant_polynomial (residue_class m 0)) e)) in
    (of_list found.0 found.1, same_list _ _ found.2)
