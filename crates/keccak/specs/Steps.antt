-- The five steps of a round of Keccak-f on 1,600 bits (FIPS 202). A state is a list of 25 lanes, which are numbers below
-- 2^64; bit z of a lane is the bit of worth 2^z. Lane (x, y), with x and y modulo 5, is at index x + 5 y.
use Rattle.std.specs.Prelude.{ℕ, ◌+◌, ◌*◌, ◌%◌, ◌==◌, if◌then◌else◌, List, [], ◌∷◌, ◌++◌, bit_and, bit_xor, slice_index, slice_set}
use Rattle.std.specs.Int.{w64, bit_not, rotate_left}
use Rattle.keccak.specs.Constants.{offset}

-- lane (x, y) of a state
abbrev pub lane : List ℕ → ℕ → ℕ → ℕ
lane a x y = slice_index a (x + 5 * y)

-- the lanes f 0 y to f 4 y; and the state whose lane (x, y) is f x y
abbrev pub plane : (ℕ → ℕ → ℕ) → ℕ → List ℕ
plane f y = f 0 y ∷ f 1 y ∷ f 2 y ∷ f 3 y ∷ f 4 y ∷ []

abbrev pub state_of : (ℕ → ℕ → ℕ) → List ℕ
state_of f = plane f 0 ++ plane f 1 ++ plane f 2 ++ plane f 3 ++ plane f 4

-- the parities of the columns with this x: C[x]
unfoldable pub parity : List ℕ → ℕ → ℕ
parity a x =
    bit_xor (bit_xor (bit_xor (bit_xor (lane a x 0) (lane a x 1)) (lane a x 2)) (lane a x 3)) (lane a x 4)

-- what theta adds to the lanes with this x: D[x], the xor of C[x - 1] and of C[x + 1] rotated by one
unfoldable pub effect : List ℕ → ℕ → ℕ
effect a x = bit_xor (parity a ((x + 4) % 5)) (rotate_left w64 (parity a ((x + 1) % 5)) 1)

-- each lane, xored with its effect
unfoldable pub theta : List ℕ → List ℕ
theta a = state_of (λ x y. bit_xor (lane a x y) (effect a x))

-- each lane other than (0, 0), rotated by its offset
unfoldable pub rho : List ℕ → List ℕ
rho a = state_of (λ x y. if x + y == 0 then lane a x y else rotate_left w64 (lane a x y) (offset x y))

-- lane (x, y) comes from (x + 3 y, x)
unfoldable pub pi : List ℕ → List ℕ
pi a = state_of (λ x y. lane a ((x + 3 * y) % 5) x)

-- each lane, xored with the conjunction of the complement of (x + 1, y) and of (x + 2, y)
unfoldable pub chi : List ℕ → List ℕ
chi a = state_of (λ x y. bit_xor (lane a x y) (bit_and (bit_not w64 (lane a ((x + 1) % 5) y)) (lane a ((x + 2) % 5) y)))

-- lane (0, 0), xored with a constant; the others stay
unfoldable pub iota : List ℕ → ℕ → List ℕ
iota a constant = slice_set a 0 (bit_xor (lane a 0 0) constant)

-- the code's lists of the five parities, and of the five effects
abbrev pub parities : List ℕ → List ℕ
parities a = parity a 0 ∷ parity a 1 ∷ parity a 2 ∷ parity a 3 ∷ parity a 4 ∷ []

abbrev pub effects : List ℕ → List ℕ
effects a = effect a 0 ∷ effect a 1 ∷ effect a 2 ∷ effect a 3 ∷ effect a 4 ∷ []
