-- Classes of whole numbers modulo 2013265921: how they add, and when two are the same.
use Rattle.std.specs.Prelude.{◌≡◌, ℕ, ◌+◌, eqb, ◌↔◌, true}
use Rattle.air_field.specs.Ring.{image}
use Rattle.air_field.specs.BabyBear.{BabyBear}
use Rattle.air_field.specs.laws.Modular as modular
use Rattle.air_field.specs.Modulo.{class, baby_bears, baby_bear_add, baby_bear_ring}

pub class_of : (a : BabyBear) → class a.residue ≡ a
class_of a = modular.class_of baby_bears a

-- the class of a sum is that of the classes
pub class-add : (m n : ℕ) → class (m + n) ≡ baby_bear_add (class m) (class n)
class-add m n = modular.class-add baby_bears m n

-- the image of n is its class
pub image-class : (n : ℕ) → image baby_bear_ring n ≡ class n
image-class n = modular.image-class baby_bears n

-- `==` decides equality
pub equal_is : (a b : BabyBear) → (eqb a.residue b.residue ≡ true) ↔ (a ≡ b)
equal_is a b = modular.equal_is baby_bears a b
