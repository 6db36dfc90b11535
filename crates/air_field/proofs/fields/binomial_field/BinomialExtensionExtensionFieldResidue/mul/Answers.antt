use Rattle.std.proofs.Common.{◌≡◌, ◌∙◌, ◌∷◌, [], ◌%◌, ap, subst, sym}
use Rattle.air_field.specs.RingOps.{ops}
use Rattle.air_field.specs.Coefficients.{binomial_mul}
use Rattle.air_field.specs.Coefficients.{IsProductModulo}
use Rattle.air_field.specs.laws.Coefficients.{product-modulo}
use Rattle.air_field.specs.laws.FourCoefficients.{four_rows, four_rows-is}
use Rattle.air_field.specs.Residue.{residue_class, residue_ring}
use Rattle.air_field.specs.laws.Residues.{same_value}
use Rattle.air_field.specs.laws.SamePolynomial.{same_list}
use Rattle.air_field.proofs.fields.binomial_field.BinomialExtensionExtensionFieldResidue.mul.Goals as goal

pub returns : goal.returns
returns g c =
    let w : c.new-w.result ≡ residue_class g.M.Modulus g.M.BinomialModulus.W = same_value _ _ (c.new-w.ensures ∙ ap (λ n. n % g.M.Modulus.P) c.W.ensures) in
    let written : c.dot_product.result ∷ c.dot_product-2.result ∷ c.dot_product-3.result ∷ c.dot_product-4.result ∷ [] ≡ four_rows (ops (residue_ring g.M.Modulus)) (residue_class g.M.Modulus g.M.BinomialModulus.W) c.args.self.value c.index-other-0.result c.index-other-1.result c.index-other-2.result c.index-other-3.result = cc in
    let reduced : c.dot_product.result ∷ c.dot_product-2.result ∷ c.dot_product-3.result ∷ c.dot_product-4.result ∷ [] ≡ binomial_mul (ops (residue_ring g.M.Modulus)) (residue_class g.M.Modulus g.M.BinomialModulus.W) c.args.self.value c.args.other.value =
    written
    ∙ four_rows-is (residue_ring g.M.Modulus) (residue_class g.M.Modulus g.M.BinomialModulus.W) c.args.self.value c.args.other.value _ _ _ _ c.args.self.four c.args.other.four
    c.index-other-0.is c.index-other-1.is c.index-other-2.is c.index-other-3.is in
    record {
      product = same_list _ _ reduced;
      coefficients =
          subst (IsProductModulo (residue_ring g.M.Modulus) (residue_class g.M.Modulus g.M.BinomialModulus.W) c.args.self.value c.args.other.value) (sym reduced)
          (product-modulo (residue_ring g.M.Modulus) (residue_class g.M.Modulus g.M.BinomialModulus.W) c.args.self.value c.args.other.value c.args.self.four c.args.other.four);
    }
