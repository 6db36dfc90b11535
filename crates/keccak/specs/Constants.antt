-- The constants of Keccak-f on 1,600 bits (FIPS 202): the offsets by which rho rotates, and the constants of iota.
use Rattle.std.specs.Prelude.{ℕ, zero, suc, ◌+◌, ◌-◌, ◌*◌, ◌/◌, ◌%◌, ◌^◌, ◌==◌, ◌&&◌, List, [], ◌∷◌, bit_xor, slice_index, if◌then◌else◌}

-- The walk over the 24 lanes (x, y) other than (0, 0): it begins at (1, 0), and goes from (x, y) to (y, 2 x + 3 y).
abbrev pub walk : ℕ → ℕ × ℕ
walk zero = (1, 0)
walk (suc t) = let at = walk t in (at.1, (2 * at.0 + 3 * at.1) % 5)

-- the offset of lane (x, y) from the first n lanes of the walk: lane t of the walk rotates by (t + 1) (t + 2) / 2
abbrev pub offset_within : ℕ → ℕ → ℕ → ℕ
offset_within zero x y = 0
offset_within (suc t) x y =
    if (walk t).0 == x && (walk t).1 == y then (t + 1) * (t + 2) / 2 else offset_within t x y

-- the offset of lane (x, y), which is 0 for (0, 0)
unfoldable pub offset : ℕ → ℕ → ℕ
offset x y = offset_within 24 x y

-- One step of the register of eight bits R[0] to R[7]: a zero is put in front, and the bit R[8], which is then the last,
-- is xored to R[0], R[4], R[5] and R[6] and left out.
abbrev pub stepped : List ℕ → List ℕ
stepped before =
    let r = slice_index (0 ∷ before) in
    bit_xor (r 0) (r 8) ∷ r 1 ∷ r 2 ∷ r 3 ∷ bit_xor (r 4) (r 8) ∷ bit_xor (r 5) (r 8) ∷ bit_xor (r 6) (r 8) ∷ r 7 ∷ []

-- the register after t steps from 10000000
abbrev pub register : ℕ → List ℕ
register zero = 1 ∷ 0 ∷ 0 ∷ 0 ∷ 0 ∷ 0 ∷ 0 ∷ 0 ∷ []
register (suc t) = stepped (register t)

-- the bit rc(t)
abbrev pub constant_bit : ℕ → ℕ
constant_bit t = slice_index (register (t % 255)) 0

-- the constant of round i from its first n bits: bit 2^j - 1 is rc(j + 7 i)
abbrev pub constant_within : ℕ → ℕ → ℕ
constant_within i zero = 0
constant_within i (suc j) = constant_within i j + constant_bit (j + 7 * i) * 2 ^ (2 ^ j - 1)

-- the constant of round i: bits 0, 1, 3, 7, 15, 31 and 63
unfoldable pub round_constant : ℕ → ℕ
round_constant i = constant_within i 7
