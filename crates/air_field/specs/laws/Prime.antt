-- Numbers below a prime.
use Rattle.std.specs.Prelude.{ℕ, ◌-◌, ◌<◌, ◌≤◌}
use Rattle.std.proofs.Common.{arith}
use Rattle.air_field.specs.Prime.{IsPrime}

pub zero_below : {p : ℕ} → IsPrime p → 0 < p
zero_below {p = p} prime = let least : 2 ≤ p = prime.least in omega (arith, least)

pub last_below : {p : ℕ} → IsPrime p → p - 1 < p
last_below {p = p} prime = let least : 2 ≤ p = prime.least in omega (arith, least)
