-- Assertions that hold: all terms are zero.
use Rattle.std.specs.Prelude.{◌≡◌, List, [], ◌∷◌, ⊤}
use Rattle.air_field.specs.Ring.{CommRing, self_algebra}
use Rattle.air_field.specs.Term.{Leaf}
use Rattle.air_field.specs.Value.{value}
use Rattle.air_builder.specs.Assertion.{Assertion, Base, Extension}

-- each term has the value zero
abbrev pub AllVanish : {F : Type 0} → CommRing F → (Leaf → F) → List (Assertion F) → Type 0
AllVanish R s [] = ⊤
AllVanish R s (Base t ∷ ts) = (value (self_algebra R) s t ≡ R.zero) × AllVanish R s ts
AllVanish R s (Extension t ∷ ts) = (value (self_algebra R) s t ≡ R.zero) × AllVanish R s ts
