-- A certificate that w is no square modulo p: its power by (p - 1) / 4 is a square root of -1.
use Rattle.std.specs.Prelude.{◌≡◌, ℕ, zero, suc, ◌+◌, ◌*◌, ◌/◌, ◌%◌, ◌^◌}

-- b^e modulo p; computes fast for an e of this many hexadecimal digits
abbrev pub power_modulo : ℕ → ℕ → ℕ → ℕ → ℕ
power_modulo zero b e p = b ^ e
power_modulo (suc digits) b e p = (b ^ (e % 16) * power_modulo digits (b ^ 16 % p) (e / 16) p) % p

pub record IsNoSquare (p w : ℕ) : Type 0 where
  pub rest : p % 4 ≡ 1
  pub last : (power_modulo 16 w (p / 4) p * power_modulo 16 w (p / 4) p + 1) % p ≡ 0
