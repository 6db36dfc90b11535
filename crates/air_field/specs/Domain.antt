-- Rings where a product is zero only if a factor is, squares, and inverses.
use Rattle.std.specs.Prelude.{◌≡◌, ◌⊎◌, Option, None, Some}
use Rattle.air_field.specs.Ring.{CommRing, AlgebraOver}

-- a product is zero only if a factor is
abbrev pub IsDomain : {A : Type 0} → CommRing A → Type 0
IsDomain {A} R = (a b : A) → R.mul a b ≡ R.zero → (a ≡ R.zero) ⊎ (b ≡ R.zero)

-- w times a square is a square only if both are zero
abbrev pub IsNoRatio : {A : Type 0} → CommRing A → A → Type 0
IsNoRatio {A} R w = (x y : A) → R.mul x x ≡ R.mul w (R.mul y y) → y ≡ R.zero

abbrev pub HasInverse : {A : Type 0} → CommRing A → A → Type 0
HasInverse {A} R x = (y : A) × (R.mul x y ≡ R.one)

-- the answer of an inversion of x: None only for zero, else a y with x y = 1
abbrev pub IsInversion : {A : Type 0} → CommRing A → A → Option A → Type 0
IsInversion R x None = x ≡ R.zero
IsInversion R x (Some y) = R.mul x y ≡ R.one

-- x times y is an element n of the base field, and n is zero only if x is
abbrev pub IsAdjugate : {F A : Type 0} → AlgebraOver F A → F → A → A → Type 0
IsAdjugate {F} over zero x y = (n : F) × (over.ring.mul x y ≡ over.embed n) × (n ≡ zero → x ≡ over.ring.zero)
