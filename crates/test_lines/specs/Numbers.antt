-- Elements of a prime field as numbers.
use Rattle.std.specs.Prelude.{◌≡◌, ℕ, ◌<◌}
use Rattle.air_field.specs.Ring.{CommRing, image}

-- each element is the image of its number, which is below p
pub record AreNumbers {F : Type 0} (r : CommRing F) (p : ℕ) (number : F → ℕ) : Type 0 where
  pub low : (x : F) → number x < p
  pub element : (x : F) → image r (number x) ≡ x
