-- The extension has the laws of an extension, and `==` decides equality of its elements.
use Rattle.std.specs.Prelude.{◌≡◌, ℕ, ◌-◌, ◌∷◌, replicate, refl, eqb, ◌↔◌, true}
use Rattle.std.proofs.Common.{◌∙◌, ap, lit<}
use Rattle.std.proofs.lemmas.Slice.Eq.{slice_eq-Decides}
use Rattle.air_field.specs.Ring.{AlgebraOverLaws}
use Rattle.air_field.specs.laws.FourCoefficients.{four_scale}
use Rattle.air_field.specs.Extension.{ExtensionLaws}
use Rattle.air_field.specs.laws.BaseParts.{part-of, part-is}
use Rattle.air_field.specs.laws.Extension.{extension_over_laws}
use Rattle.air_field.specs.Residue.{residue_class, residue_ring, residues}
use Rattle.air_field.specs.laws.Modular.{equal_is}
use Rattle.air_field.specs.declared.fields.modulus.Modulus.{Ghosts}
use Rattle.air_field.specs.declared.fields.residue.Residue.{Residue}
use Rattle.air_field.specs.declared.fields.binomial.BinomialExtension.{BinomialExtension}
use lib.Pointwise.{pointwise}
use Rattle.air_field.specs.laws.SamePolynomial.{same_list}
use Rattle.air_field.specs.Binomial.{binomial_over, binomial_basis, constant_polynomial}

pub binomial_laws : {M : Type 0} (m : Ghosts M) (w : ℕ) → ExtensionLaws (residue_ring m) (binomial_over m w) (binomial_basis m) 4
binomial_laws m w =
    record {
      positive = lit< tt;
      count = λ a. a.four;
      same = same_list;
      extend_is = λ l. refl;
      embed_is = λ c. refl;
      embed_one = refl;
      add_is = λ a b. refl;
      scale_is = λ c a. four_scale (residue_ring m) (residue_class m w) c a.value a.four;
      part_of = λ c. part-of (residue_ring m) _ (equal_is (residues m)) c 3;
      part_is = λ x c h. same_list x (constant_polynomial c) (part-is (residue_ring m) _ (equal_is (residues m)) x.value c h
          ∙ ap (λ n. c ∷ replicate (n - 1) (residue_class m 0)) x.four);
    }

pub binomial_over_laws : {M : Type 0} (m : Ghosts M) (w : ℕ) → AlgebraOverLaws (residue_ring m) (binomial_over m w)
binomial_over_laws m w = extension_over_laws (residue_ring m) (binomial_over m w) (binomial_basis m) 4 (binomial_laws m w)

-- `==` decides equality of polynomials
pub same_polynomial : {M : Type 0} {m : Ghosts M} (a b : BinomialExtension M m) → (pointwise (λ x y. eqb x.residue y.residue) a.value b.value ≡ true) ↔ (a ≡ b)
same_polynomial {M = M} {m = m} a b =
    let told : (pointwise (λ (x y : Residue M m). eqb x.residue y.residue) a.value b.value ≡ true) ↔ (a.value ≡ b.value) = slice_eq-Decides (equal_is (residues m)) a.value b.value _ refl in
    ((λ h. same_list a b (told.0 h)), (λ e. told.1 (ap (λ x. x.value) e)))
