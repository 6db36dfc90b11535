-- The polynomials over a field of residues modulo X^4 - w: a ring, and an extension of that field.
use Rattle.std.specs.Prelude.{◌≡◌, ℕ, refl, List, length, ◌==◌}
use Rattle.air_field.specs.Ring.{CommRing, AlgebraOver}
use Rattle.air_field.specs.RingOps.{ops}
use Rattle.air_field.specs.Coefficients.{poly_add, poly_neg, binomial_mul, constant_four, pad_to}
use Rattle.air_field.specs.Extension.{Basis}
use Rattle.air_field.specs.BaseParts.{base_part}
use Rattle.air_field.specs.laws.FourCoefficients.{mul_length, add_length, neg_length, four_mul_assoc, four_mul_add}
use Rattle.air_field.specs.laws.FourCoefficients.{four_mul_comm, four_mul_one, four_add_assoc, four_add_comm}
use Rattle.air_field.specs.laws.FourCoefficients.{four_add_nil, four_add_neg}
use Rattle.air_field.specs.laws.Extension.{length-padded}
use Rattle.air_field.specs.Residue.{residue_class, residue_ring}
use Rattle.air_field.specs.declared.fields.modulus.Modulus.{Ghosts}
use Rattle.air_field.specs.declared.fields.residue.Residue.{Residue}
use Rattle.air_field.specs.declared.fields.binomial.BinomialExtension.{BinomialExtension}
use Rattle.air_field.specs.laws.SamePolynomial.{same_list}

abbrev pub of_list : {M : Type 0} {m : Ghosts M} (l : List (Residue M m)) → length l ≡ 4 → BinomialExtension M m
of_list l h = record { value = l; four = h }

-- the four coefficients of an element, the constant one first
abbrev pub coefficients_of : {M : Type 0} {m : Ghosts M} → BinomialExtension M m → List (Residue M m)
coefficients_of a = a.value

abbrev pub binomial_add : {M : Type 0} {m : Ghosts M} → BinomialExtension M m → BinomialExtension M m → BinomialExtension M m
binomial_add {m = m} a b = of_list (poly_add (ops (residue_ring m)) a.value b.value) (add_length (residue_ring m) a.value b.value a.four b.four)

-- the product of the polynomials, reduced by X^4 = w
abbrev pub binomial_product : {M : Type 0} {m : Ghosts M} → ℕ → BinomialExtension M m → BinomialExtension M m → BinomialExtension M m
binomial_product {m = m} w a b =
    of_list (binomial_mul (ops (residue_ring m)) (residue_class m w) a.value b.value) (mul_length (residue_ring m) (residue_class m w) a.value b.value a.four b.four)

abbrev pub binomial_neg : {M : Type 0} {m : Ghosts M} → BinomialExtension M m → BinomialExtension M m
binomial_neg {m = m} a = of_list (poly_neg (ops (residue_ring m)) a.value) (neg_length (residue_ring m) a.value a.four)

abbrev pub constant_polynomial : {M : Type 0} {m : Ghosts M} → Residue M m → BinomialExtension M m
constant_polynomial {m = m} x = of_list (constant_four (ops (residue_ring m)) x) refl

abbrev pub binomial_ring : {M : Type 0} (m : Ghosts M) → ℕ → CommRing (BinomialExtension M m)
binomial_ring m w =
    record {
      zero = constant_polynomial (residue_class m 0);
      one = constant_polynomial (residue_class m 1);
      add = binomial_add;
      mul = binomial_product w;
      neg = binomial_neg;
      add_assoc = λ a b c. same_list _ _ (four_add_assoc (residue_ring m) a.value b.value c.value a.four b.four c.four);
      add_comm = λ a b. same_list _ _ (four_add_comm (residue_ring m) a.value b.value a.four b.four);
      add_zero = λ a. same_list _ _ (four_add_nil (residue_ring m) a.value a.four);
      add_neg = λ a. same_list _ _ (four_add_neg (residue_ring m) a.value a.four);
      mul_assoc = λ a b c. same_list _ _ (four_mul_assoc (residue_ring m) (residue_class m w) a.value b.value c.value a.four b.four c.four);
      mul_comm = λ a b. same_list _ _ (four_mul_comm (residue_ring m) (residue_class m w) a.value b.value a.four b.four);
      mul_one = λ a. same_list _ _ (four_mul_one (residue_ring m) (residue_class m w) a.value a.four);
      mul_add = λ a b c. same_list _ _ (four_mul_add (residue_ring m) (residue_class m w) a.value b.value c.value a.four b.four c.four);
    }

-- the ring, the embedding of the base field as constants, and the polynomial of a coefficient list
abbrev pub binomial_over : {M : Type 0} (m : Ghosts M) → ℕ → AlgebraOver (Residue M m) (BinomialExtension M m)
binomial_over m w =
    record {
      ring = binomial_ring m w;
      embed = constant_polynomial;
      extend = λ l. of_list (pad_to (residue_class m 0) 4 l) (length-padded (residue_class m 0) 4 l);
    }

-- a polynomial's coefficients, and the constant that it equals, if there is one
abbrev pub binomial_basis : {M : Type 0} (m : Ghosts M) → Basis (Residue M m) (BinomialExtension M m)
binomial_basis m =
    record {
      coefficients = λ a. a.value;
      base_part = λ a. base_part (residue_ring m) (λ x y. x.residue == y.residue) a.value;
    }
