-- The permutation Keccak-f on 1,600 bits (FIPS 202): 24 rounds.
use Rattle.std.specs.Prelude.{ℕ, zero, suc, List}
use Rattle.keccak.specs.Constants.{round_constant}
use Rattle.keccak.specs.Steps.{theta, rho, pi, chi, iota}

-- round i
unfoldable pub round : List ℕ → ℕ → List ℕ
round a i = iota (chi (pi (rho (theta a)))) (round_constant i)

-- the state after the first n rounds
unfoldable pub after_rounds : List ℕ → ℕ → List ℕ
after_rounds a zero = a
after_rounds a (suc i) = round (after_rounds a i) i

unfoldable pub keccak_f : List ℕ → List ℕ
keccak_f a = after_rounds a 24
