-- A number with one set bit is a power of two.
use Rattle.std.proofs.Common.{◌≡◌, ℕ, ◌+◌, ◌*◌, ◌/◌, ◌%◌, ◌^◌, ◌<◌, ◌≤◌, zero, suc, count_ones, refl, sym, ap, ◌∙◌, arith}
use Rattle.std.proofs.lemmas.Nat.{zero_from_ones}
use Rattle.std.proofs.Math.Nat.{pow-suc}
use lib.Count.{ones, ones_step}
use Rattle.std.specs.Int.{IsPowerOfTwo}

-- n is its lowest bit r and twice its other bits q
from_halves : (fuel n r q : ℕ) → n ≡ r + 2 * q → r < 2 → r + count_ones q ≡ 1 → n ≤ suc fuel
    → (q ≤ fuel → count_ones q ≡ 1 → IsPowerOfTwo q) → IsPowerOfTwo n
from_halves fuel n zero q is lt one le rec =
    let half = rec (omega arith) (omega arith) in
    (suc half.0, omega (arith, pow-suc 2 half.0, half.1))
from_halves fuel n (suc zero) q is lt one le rec =
    let none : q ≡ 0 = zero_from_ones q (omega arith) in
    let small : n ≡ 1 = omega arith in
    (0, small)
from_halves fuel n (suc (suc r)) q is lt one le rec = absurd (omega arith)

power_below : (fuel n : ℕ) → n ≤ fuel → count_ones n ≡ 1 → IsPowerOfTwo n
unfolding ones
power_below zero n le one =
    let none : n ≡ 0 = omega arith in
    let no_bits : count_ones n ≡ 0 = ap count_ones none in
    absurd (omega arith)
power_below (suc fuel) n le one =
    from_halves fuel n (n % 2) (n / 2) (omega arith) (omega arith) (sym (ones_step n) ∙ one) le (power_below fuel (n / 2))

pub power_from_ones : (n : ℕ) → count_ones n ≡ 1 → IsPowerOfTwo n
power_from_ones n one = power_below n n (omega arith) one

pub ones-power : (k : ℕ) → count_ones (2 ^ k) ≡ 1
unfolding ones
ones-power zero = refl
ones-power (suc k) =
    let even : (2 ^ suc k) % 2 ≡ 0 = omega (arith, pow-suc 2 k) in
    let half : (2 ^ suc k) / 2 ≡ 2 ^ k = omega (arith, pow-suc 2 k) in
    ones_step (2 ^ suc k) ∙ rw (even, half) (omega (arith, ones-power k))
