-- The element of the base field that equals a coefficient list, if there is one.
use Rattle.std.specs.Prelude.{Bool, true, ◌&&◌, List, [], ◌∷◌, Option, Some, None, if◌then◌else◌}
use Rattle.air_field.specs.Ring.{CommRing}

-- whether each coefficient is zero
abbrev pub all_zero : {F : Type 0} → CommRing F → (F → F → Bool) → List F → Bool
all_zero r eq [] = true
all_zero r eq (x ∷ xs) = eq x r.zero && all_zero r eq xs

-- the first coefficient, if all others are zero
abbrev pub base_part : {F : Type 0} → CommRing F → (F → F → Bool) → List F → Option F
base_part r eq [] = None
base_part r eq (x ∷ xs) = if all_zero r eq xs then Some x else None
