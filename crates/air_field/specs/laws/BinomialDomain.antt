-- The polynomials modulo X^4 - w are a domain, where w is no square modulo p and p is 1 modulo 4.
use Rattle.std.specs.Prelude.{ℕ}
use Rattle.std.proofs.Common.{ap, inl, inr}
use Rattle.air_field.specs.Binomial.{binomial_ring, constant_polynomial}
use Rattle.air_field.specs.Domain.{IsDomain}
use Rattle.air_field.specs.NoSquare.{IsNoSquare}
use Rattle.air_field.specs.Residue.{residue_class, residue_ring, residues}
use Rattle.air_field.specs.declared.fields.modulus.Modulus.{Ghosts}
use Rattle.air_field.specs.laws.FourDomain.{four_domain}
use Rattle.air_field.specs.laws.NoSquare.{ratio_is_no_square, root, root-square}
use Rattle.air_field.specs.laws.Modular.{domain}
use Rattle.air_field.specs.laws.SamePolynomial.{same_list}

pub binomial_domain : {M : Type 0} (m : Ghosts M) (w : ℕ) → IsNoSquare m.P w → IsDomain (binomial_ring m w)
binomial_domain m w no_square a b h =
    elim (four_domain (residue_ring m) (residue_class m w) (domain (residues m) m.is_prime) (ratio_is_no_square (residues m) m.is_prime w no_square)
    (root (residues m) m.is_prime w no_square) (root-square (residues m) m.is_prime w no_square) a.value b.value a.four b.four (ap (λ x. x.value) h)) [
      | inl e ↦ inl (same_list a (constant_polynomial (residue_class m 0)) e)
      | inr e ↦ inr (same_list b (constant_polynomial (residue_class m 0)) e)
    ]
