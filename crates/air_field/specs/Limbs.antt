-- Numbers in limbs of 32 and 64 bits.
use Rattle.std.specs.Prelude.{ℕ, ◌+◌, ◌*◌}

-- hi 2^96 + mid 2^64 + lo
abbrev pub from_limbs : ℕ → ℕ → ℕ → ℕ
from_limbs hi mid lo = hi * 79228162514264337593543950336 + mid * 18446744073709551616 + lo
