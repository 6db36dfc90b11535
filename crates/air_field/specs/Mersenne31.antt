-- The field of 2147483647 elements, as specs/ and proofs/ name it: antt has no name for an alias.
use Rattle.std.proofs.Common.{lit<}
use Rattle.air_field.specs.laws.Primes.{mersenne31_prime}
use Rattle.air_field.specs.declared.fields.modulus.Modulus.{Ghosts}
use Rattle.air_field.specs.declared.fields.residue.Residue.{Residue}
use Rattle.air_field.specs.declared.fields.mersenne31.Mersenne31Modulus.{Mersenne31Modulus}

abbrev pub mersenne31_modulus : Ghosts Mersenne31Modulus
mersenne31_modulus = record { P = 2147483647; is_prime = mersenne31_prime; small = lit< tt }

abbrev pub Mersenne31 : Type 0
Mersenne31 = Residue Mersenne31Modulus mersenne31_modulus
