-- The whole numbers modulo 2013265921: a commutative ring.
use Rattle.std.specs.Prelude.{ℕ}
use Rattle.air_field.specs.Ring.{CommRing}
use Rattle.air_field.specs.BabyBear.{BabyBear, baby_bear_modulus}
use Rattle.air_field.specs.Modular.{Modular, modular_add}
use Rattle.air_field.specs.Residue.{residue_class, residue_ring, residues}

abbrev pub baby_bears : Modular BabyBear 2013265921
baby_bears = residues baby_bear_modulus

-- the class of a whole number
abbrev pub class : ℕ → BabyBear
class n = residue_class baby_bear_modulus n

abbrev pub baby_bear_add : BabyBear → BabyBear → BabyBear
baby_bear_add a b = modular_add baby_bears a b

abbrev pub baby_bear_ring : CommRing BabyBear
baby_bear_ring = residue_ring baby_bear_modulus
