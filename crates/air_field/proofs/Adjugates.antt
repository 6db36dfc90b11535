-- The inverse of a polynomial modulo X^4 - w by its norm.
use Rattle.std.specs.Prelude.{◌≡◌, ℕ, [], ◌∷◌}
use Rattle.std.proofs.Common.{get_or, sym, ◌∙◌, ap, ap₂}
use Rattle.air_field.specs.Ring.{CommRing, AlgebraOver, AlgebraOverLaws}
use Rattle.air_field.specs.RingOps.{ops}
use Rattle.air_field.specs.Binomial.{binomial_over, binomial_product, constant_polynomial}
use Rattle.air_field.specs.Coefficients.{binomial_mul}
use Rattle.air_field.specs.Domain.{IsAdjugate}
use Rattle.air_field.specs.Modular.{modular_neg}
use Rattle.air_field.specs.NoSquare.{IsNoSquare}
use Rattle.air_field.specs.Residue.{residue_class, residue_ring, residues}
use Rattle.air_field.specs.declared.fields.modulus.Modulus.{Ghosts}
use Rattle.air_field.specs.declared.fields.residue.Residue.{Residue}
use Rattle.air_field.specs.declared.fields.binomial.BinomialExtension.{BinomialExtension}
use Rattle.air_field.specs.laws.FourDomain.{even, odd, norm, adjugate, first_product, times_adjugate, norm_nil}
use Rattle.air_field.specs.laws.Modular.{domain}
use Rattle.air_field.specs.laws.NoSquare.{ratio_is_no_square, root, root-square}
use Rattle.air_field.specs.laws.SamePolynomial.{same_list}

-- x times (y times the inverse of n) is one where x times y is n
pub by_norm : {F A : Type 0} (R : CommRing F) (over : AlgebraOver F A) → AlgebraOverLaws R over → (n i : F) (x y : A)
    → over.ring.mul x y ≡ over.embed n → R.mul n i ≡ R.one → over.ring.mul x (over.ring.mul y (over.embed i)) ≡ over.ring.one
by_norm R over laws n i x y h e =
    sym (over.ring.mul_assoc x y (over.embed i))
    ∙ (ap (λ z. over.ring.mul z (over.embed i)) h ∙ (sym (laws.embed_mul n i) ∙ (ap over.embed e ∙ laws.embed_one)))

module _ {M : Type 0} (m : Ghosts M) (w : ℕ) (no_square : IsNoSquare m.P w) where
  at_four : (x y : BinomialExtension M m) (a b c d : Residue M m) → a ∷ b ∷ c ∷ d ∷ [] ≡ x.value
      → y.value ≡ adjugate (residue_ring m) (residue_class m w) a b c d → IsAdjugate (binomial_over m w) (residue_class m 0) x y
  at_four x y a b c d hx hy =
      let R = residue_ring m in
      let v = residue_class m w in (
        norm R v a b c d,
        same_list _ _ (ap₂ (binomial_mul (ops R) v) (sym hx) hy ∙ times_adjugate R v a b c d),
        λ e. same_list _ _ (sym hx
            ∙ norm_nil R v (domain (residues m) m.is_prime) (ratio_is_no_square (residues m) m.is_prime w no_square)
            (root (residues m) m.is_prime w no_square) (root-square (residues m) m.is_prime w no_square) a b c d e),
      )

  -- the two products of the code
  pub by_conjugate : (x conjugate first second y : BinomialExtension M m) (a b c d e o s t : Residue M m)
      → a ∷ b ∷ c ∷ d ∷ [] ≡ x.value → conjugate.value ≡ a ∷ modular_neg (residues m) b ∷ c ∷ modular_neg (residues m) d ∷ []
      → first ≡ binomial_product w x conjugate → e ≡ get_or first.value 0 s → o ≡ get_or first.value 2 t
      → second.value ≡ e ∷ residue_class m 0 ∷ modular_neg (residues m) o ∷ residue_class m 0 ∷ []
      → y ≡ binomial_product w conjugate second → IsAdjugate (binomial_over m w) (residue_class m 0) x y
  by_conjugate x conjugate first second y a b c d e o s t hx hc hf he ho hs hy =
      let R = residue_ring m in
      let v = residue_class m w in
      let product : first.value ≡ even R v a b c d ∷ R.zero ∷ odd R v a b c d ∷ R.zero ∷ [] =
      ap (λ z. z.value) hf ∙ (ap₂ (binomial_mul (ops R) v) (sym hx) hc ∙ first_product R v a b c d) in
      let is_even : e ≡ even R v a b c d = he ∙ ap (λ l. get_or l 0 s) product in
      let is_odd : o ≡ odd R v a b c d = ho ∙ ap (λ l. get_or l 2 t) product in
      at_four x y a b c d hx
      (ap (λ z. z.value) hy
      ∙ ap₂ (binomial_mul (ops R) v) hc (hs ∙ ap₂ (λ f g. f ∷ R.zero ∷ R.neg g ∷ R.zero ∷ []) is_even is_odd))

-- the first coefficient read of a constant is the number
pub read_norm : {M : Type 0} {m : Ghosts M} (x : BinomialExtension M m) (first n : Residue M m)
    → first ≡ get_or x.value 0 first → x ≡ constant_polynomial n → first ≡ n
read_norm x first n h e = h ∙ ap (λ y. get_or y.value 0 first) e
