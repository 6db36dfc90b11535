-- The field of 2130706433 elements, as specs/ and proofs/ name it: antt has no name for an alias.
use Rattle.std.proofs.Common.{lit<}
use Rattle.air_field.specs.laws.Primes.{koala_bear_prime}
use Rattle.air_field.specs.declared.fields.modulus.Modulus.{Ghosts}
use Rattle.air_field.specs.declared.fields.residue.Residue.{Residue}
use Rattle.air_field.specs.declared.fields.koala_bear.KoalaBearModulus.{KoalaBearModulus}

abbrev pub koala_bear_modulus : Ghosts KoalaBearModulus
koala_bear_modulus = record { P = 2130706433; is_prime = koala_bear_prime; small = lit< tt }

abbrev pub KoalaBear : Type 0
KoalaBear = Residue KoalaBearModulus koala_bear_modulus
