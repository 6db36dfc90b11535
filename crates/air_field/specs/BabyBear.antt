-- The field of 2013265921 elements, as specs/ and proofs/ name it: antt has no name for an alias.
use Rattle.std.proofs.Common.{lit<}
use Rattle.air_field.specs.laws.Primes.{baby_bear_prime}
use Rattle.air_field.specs.declared.fields.modulus.Modulus.{Ghosts}
use Rattle.air_field.specs.declared.fields.residue.Residue.{Residue}
use Rattle.air_field.specs.declared.fields.baby_bear.BabyBearModulus.{BabyBearModulus}

abbrev pub baby_bear_modulus : Ghosts BabyBearModulus
baby_bear_modulus = record { P = 2013265921; is_prime = baby_bear_prime; small = lit< tt }

abbrev pub BabyBear : Type 0
BabyBear = Residue BabyBearModulus baby_bear_modulus
