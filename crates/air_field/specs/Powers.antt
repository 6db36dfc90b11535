-- Powers in a commutative ring.
use Rattle.std.specs.Prelude.{ℕ, zero, suc, List, [], ◌∷◌, ◌++◌}
use Rattle.air_field.specs.Ring.{CommRing}

abbrev pub power : {A : Type 0} (R : CommRing A) → A → ℕ → A
power R a zero = R.one
power R a (suc n) = R.mul (power R a n) a

-- the powers from the 0-th up to, and not including, the k-th
abbrev pub powers_of : {A : Type 0} (R : CommRing A) → A → ℕ → List A
powers_of R a zero = []
powers_of R a (suc k) = powers_of R a k ++ power R a k ∷ []
