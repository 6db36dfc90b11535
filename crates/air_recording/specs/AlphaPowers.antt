-- The weights of constraints in a fold by the powers of one element, whole and by coordinates.
use Rattle.std.specs.Prelude.{ℕ, zero, suc, ◌-◌, List, [], ◌∷◌, ◌++◌, map}
use Rattle.air_field.specs.Ring.{CommRing}
use Rattle.air_field.specs.Extension.{Basis}
use Rattle.air_field.specs.Coefficients.{coefficient}
use Rattle.air_field.specs.Powers.{power}

-- the weight of constraint i of k: alpha^(k-1-i)
abbrev pub alpha_power : {E : Type 0} → CommRing E → E → ℕ → ℕ → E
alpha_power r alpha k i = power r alpha (k - 1 - i)

-- the weights of the constraints with these indices
abbrev pub alpha_powers_at : {E : Type 0} → CommRing E → E → ℕ → List ℕ → List E
alpha_powers_at r alpha k indices = map (alpha_power r alpha k) indices

-- coefficient d of each of these weights
abbrev pub coordinates_of : {F E : Type 0} → CommRing F → Basis F E → List E → ℕ → List F
coordinates_of R basis weights d = map (λ w. coefficient R.zero (basis.coefficients w) d) weights

-- coefficient d of each of these weights, for each d below n in order
abbrev pub all_coordinates_of : {F E : Type 0} → CommRing F → Basis F E → List E → ℕ → List (List F)
all_coordinates_of R basis weights zero = []
all_coordinates_of R basis weights (suc n) = all_coordinates_of R basis weights n ++ coordinates_of R basis weights n ∷ []
