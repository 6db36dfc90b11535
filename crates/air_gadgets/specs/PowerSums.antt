-- Sums of powers of two times elements.
use Rattle.std.specs.Prelude.{◌≡◌, ℕ, suc, ◌^◌, ◌<◌, List, [], ◌∷◌, map}
use Rattle.air_field.specs.Ring.{CommRing, AlgebraOver, image, self_algebra}
use Rattle.air_field.specs.Term.{Leaf, Term}
use Rattle.air_field.specs.Value.{value}
use Rattle.air_gadgets.specs.Bits.{digits_of, binary_sum}
use Rattle.air_gadgets.specs.Packing.{packed_term}

-- the sum of 2^(k + i) x_i
abbrev pub power_sum : {A : Type 0} → CommRing A → ℕ → List A → A
power_sum R k [] = R.zero
power_sum R k (x ∷ xs) = R.add (R.mul (image R (2 ^ k)) x) (power_sum R (suc k) xs)

-- in an algebra, the value of packed terms is the sum of 2^i v_i of the terms' values v_i
abbrev pub PacksValuesIn : {F E : Type 0} → AlgebraOver F E → F → Type 0
PacksValuesIn {F} {E} a none =
    (s : Leaf → E) (ts : List (Term F))
    → value a s (packed_term none ts) ≡ power_sum a.ring 0 (map (value a s) ts)

-- as `PacksValuesIn`, in the field itself
abbrev pub PacksValues : {F : Type 0} → CommRing F → F → Type 0
PacksValues R none = PacksValuesIn (self_algebra R) none

-- the sums of 2^i x_i by doubling and by powers are equal
abbrev pub PacksByPowers : {A : Type 0} → CommRing A → Type 0
PacksByPowers {A} R = (xs : List A) → binary_sum R xs ≡ power_sum R 0 xs

-- if the values of terms in an algebra are the images of the n lowest bits of a number below 2^n, the value of the packed
-- terms is the number's image
abbrev pub PacksNumbers : {F E : Type 0} → AlgebraOver F E → F → Type 0
PacksNumbers {F} {E} a none =
    (s : Leaf → E) (ts : List (Term F)) (n v : ℕ) → v < 2 ^ n
    → map (value a s) ts ≡ map (image a.ring) (digits_of 2 n v)
    → value a s (packed_term none ts) ≡ image a.ring v

-- an algebra embeds the field's image of a number as its own image of it
abbrev pub EmbedsImages : {F E : Type 0} → CommRing F → AlgebraOver F E → Type 0
EmbedsImages R a = (n : ℕ) → a.embed (image R n) ≡ image a.ring n
