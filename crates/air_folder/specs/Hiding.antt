-- Elements by which values fold to zero.
use Rattle.std.specs.Prelude.{◌≡◌, Bool, List, [], ◌∷◌, ⊤}
use Rattle.std.specs.declared.cmp.Ordering.{Ordering}
use Rattle.std.specs.declared.cmp.Ordering.TheVariants.{Less}
use Rattle.air_field.specs.Ring.{CommRing}
use Rattle.air_recording.specs.Folds.{sum_by_powers}

-- whether Horner's fold of the values by alpha is zero
abbrev pub folds_to_zero : {A : Type 0} → CommRing A → (A → A → Bool) → List A → A → Bool
folds_to_zero r eq values alpha = eq (sum_by_powers r alpha values) r.zero

abbrev pub IsBelowAll : {A : Type 0} → (A → A → Ordering) → A → List A → Type 0
IsBelowAll cmp x [] = ⊤
IsBelowAll cmp x (y ∷ ys) = (cmp x y ≡ Less) × IsBelowAll cmp x ys

-- each element is below all that follow
abbrev pub IsIncreasing : {A : Type 0} → (A → A → Ordering) → List A → Type 0
IsIncreasing cmp [] = ⊤
IsIncreasing cmp (x ∷ xs) = IsBelowAll cmp x xs × IsIncreasing cmp xs
