-- A number is prime if no number from 2 to its root divides it: the test, by trial.
use Rattle.std.specs.Prelude.{◌≡◌, ℕ, zero, suc, refl, ◌+◌, ◌*◌, ◌%◌, ◌/◌, ◌<◌, ◌≤◌, Bool, true, false, eqb}
use Rattle.std.specs.Int.{◌∣◌}
use Rattle.std.proofs.Common.{sym, ◌∙◌, ap, subst, inl, inr, arith, eq-eqb, true≢false}
use Rattle.std.proofs.lemmas.Bool.{cases_lt}
use Rattle.std.proofs.Math.Nat.{dvd-mul_right, mod-eq-zero_of_dvd, div-mul_cancel, eq-or-lt_of_le, mul-le-mul}
use Rattle.air_field.specs.Prime.{IsPrime}
use Rattle.air_field.specs.laws.Primality.{HasNoDivisor, zero_or_pos, one_or_more, euclid}

-- no number from `from` on, `count` of them, divides n
abbrev pub none_divides : ℕ → ℕ → ℕ → Bool
none_divides zero from n = true
none_divides (suc count) from n = elim (eqb (n % from) 0) [ true ↦ false | false ↦ none_divides count (from + 1) n ]

found : (n from k : ℕ) → eqb (n % from) 0 ≡ false → from ≡ k → k ∣ n → ⊥
found n from k e same d = true≢false (sym (eq-eqb (n % from) 0 (ap (λ x. n % x) same ∙ mod-eq-zero_of_dvd k d)) ∙ e)

none_divides-step : (count from n k : ℕ) (b : Bool) → eqb (n % from) 0 ≡ b
    → elim b as (λ _. Bool) [ true ↦ false | false ↦ none_divides count (from + 1) n ] ≡ true
    → from ≤ k → k < from + suc count → k ∣ n
    → (none_divides count (from + 1) n ≡ true → from + 1 ≤ k → k < from + 1 + count → k ∣ n → ⊥) → ⊥
none_divides-step count from n k true e h low high d rest = true≢false (sym h)
none_divides-step count from n k false e h low high d rest =
    elim (eq-or-lt_of_le low) [
      | inl same ↦ found n from k e same d
      | inr more ↦ rest h (omega arith) (omega arith) d
    ]

none_divides-is : (count from n k : ℕ) → none_divides count from n ≡ true → from ≤ k → k < from + count → k ∣ n → ⊥
none_divides-is zero from n k h low high d = omega arith
none_divides-is (suc count) from n k h low high d =
    none_divides-step count from n k (eqb (n % from) 0) refl h low high d (none_divides-is count (from + 1) n k)

none_times : (n k q : ℕ) → 2 ≤ n → q * k ≡ n → q ≡ 0 → ⊥
none_times n k q least e z = let w : 0 * k ≡ n = ap (λ x. x * k) (sym z) ∙ e in omega (arith, w, least)

once_times : (n k q : ℕ) → q * k ≡ n → k < n → q ≡ 1 → ⊥
once_times n k q e h one = let w : 1 * k ≡ n = ap (λ x. x * k) (sym one) ∙ e in omega (arith, w, h)

pub low_cofactor : (n k q : ℕ) → 2 ≤ n → q * k ≡ n → k < n → 2 ≤ q
low_cofactor n k q least e high =
    elim (zero_or_pos q) [
      | inl none ↦ absurd (none_times n k q least e none)
      | inr some ↦ elim (one_or_more q some) [
        | inl one ↦ absurd (once_times n k q e high one)
        | inr more ↦ more
      ]
    ]

too_much : (n m s : ℕ) → m ≤ s → s ≡ n → n < m → ⊥
too_much n m s le e lt = omega arith

high_cofactor : (n root k q : ℕ) → n < root * root → q * k ≡ n → root ≤ k → q < root
high_cofactor n root k q less e low =
    elim (cases_lt q root) [
      | inl small ↦ small
      | inr large ↦ absurd (too_much n (root * root) (q * k) (mul-le-mul large low) e less)
    ]

-- count + 2 is above the root
pub no_divisor_by_trial : (n count : ℕ) → 2 ≤ n → n < (2 + count) * (2 + count) → none_divides count 2 n ≡ true → HasNoDivisor n
no_divisor_by_trial n count least less tried k low high d =
    elim (cases_lt k (2 + count)) [
      | inl small ↦ none_divides-is count 2 n k tried low small d
      | inr large ↦
          none_divides-is count 2 n (n / k) tried
          (low_cofactor n k (n / k) least (div-mul_cancel k d) high)
          (high_cofactor n (2 + count) k (n / k) less (div-mul_cancel k d) large)
          (subst (λ x. n / k ∣ x) (div-mul_cancel k d) (dvd-mul_right (n / k) k))
    ]

pub prime_by_trial : (n count : ℕ) → 2 ≤ n → n < (2 + count) * (2 + count) → none_divides count 2 n ≡ true → IsPrime n
prime_by_trial n count least less tried =
    record {
      least = least;
      divides = λ a b. euclid n a b (no_divisor_by_trial n count least less tried) (omega arith);
    }
