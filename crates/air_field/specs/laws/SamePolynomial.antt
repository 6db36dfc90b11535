-- Elements of the extension are equal if their coefficients are.
use Rattle.std.specs.Prelude.{◌≡◌, length}
use Rattle.std.proofs.Math.Nat.{ℕ_set}
use Rattle.air_field.specs.declared.fields.modulus.Modulus.{Ghosts}
use Rattle.air_field.specs.declared.fields.binomial.BinomialExtension.{BinomialExtension}
use mathlib.Core.HLevel.{is_prop→PathP}

-- two polynomials are equal if their coefficients are
pub same_list : {M : Type 0} {m : Ghosts M} (a b : BinomialExtension M m) → a.value ≡ b.value → a ≡ b
same_list a b p = λ i. record { value = p i; four = is_prop→PathP (λ j. length (p j) ≡ 4) (λ j x y. ℕ_set _ _ x y) a.four b.four i }
