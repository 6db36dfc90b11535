-- Numbers and their digits, bits, and bits in a ring.
use Rattle.std.specs.Prelude.{ℕ, zero, suc, ◌+◌, ◌/◌, ◌%◌, ◌<◌, List, [], ◌∷◌, ⊤}
use Rattle.air_field.specs.Ring.{CommRing, minus}

-- the k lowest digits of a number, lowest first
abbrev pub digits_of : ℕ → ℕ → ℕ → List ℕ
digits_of base zero n = []
digits_of base (suc k) n = n % base ∷ digits_of base k (n / base)

-- a list of numbers below 2
abbrev pub AreBits : List ℕ → Type 0
AreBits [] = ⊤
AreBits (b ∷ bs) = (b < 2) × AreBits bs

-- the xor of bits
abbrev pub xor_of_bits : List ℕ → ℕ
xor_of_bits [] = 0
xor_of_bits (b ∷ bs) = (b + xor_of_bits bs) % 2

-- the sum of 2^i x_i in a ring
abbrev pub binary_sum : {A : Type 0} → CommRing A → List A → A
binary_sum R [] = R.zero
binary_sum R (x ∷ xs) = R.add x (R.mul (R.add R.one R.one) (binary_sum R xs))

-- (x + y) - 2xy
abbrev pub ring_xor : {A : Type 0} → CommRing A → A → A → A
ring_xor R x y = minus R (R.add x y) (R.add (R.mul x y) (R.mul x y))
