-- Equal values are the same element, and a class is below the modulus.
use Rattle.std.specs.Prelude.{◌≡◌, ℕ, ◌%◌, ◌<◌}
use Rattle.std.specs.Coded.{le_prop}
use Rattle.std.proofs.Common.{lit<, mod-lt}
use Rattle.air_field.specs.declared.fields.goldilocks.Goldilocks.{Goldilocks}
use mathlib.Core.HLevel.{is_prop→PathP}

pub same_goldilocks : (a b : Goldilocks) → a.residue ≡ b.residue → a ≡ b
same_goldilocks a b p = λ i. record { residue = p i; reduced = is_prop→PathP (λ j. p j < 18446744069414584321) (λ j. le_prop) a.reduced b.reduced i }

pub goldilocks_bound : (n : ℕ) → n % 18446744069414584321 < 18446744069414584321
goldilocks_bound n = mod-lt n (lit< tt)
