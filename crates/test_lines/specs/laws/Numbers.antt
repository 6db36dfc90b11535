-- The value of a prime field's element is a number of it.
use Rattle.std.proofs.Common.{◌≡◌, ◌<◌, ℕ, ap, subst, ◌∙◌}
use Rattle.air_field.specs.Ring.{CommRing, image}
use Rattle.air_field.specs.Modular.{Modular, modular_ring}
use Rattle.air_field.specs.laws.Modular.{image-class, class_of}
use Rattle.test_lines.specs.Numbers.{AreNumbers}

-- the values of a modular field's elements are their numbers
pub are_values : {F : Type 0} {n p : ℕ} (m : Modular F n) {r : CommRing F} → n ≡ p → r ≡ modular_ring m → AreNumbers r p m.value
are_values m order ring = record {
  low = λ x. subst (λ k. m.value x < k) order (m.bound x);
  element = λ x. ap (λ s. image s (m.value x)) ring ∙ image-class m (m.value x) ∙ class_of m x;
}
