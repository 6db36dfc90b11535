-- Fermat's little theorem: x^p is x modulo a prime p, since (x + 1)^p is x^p + 1.
use Rattle.std.specs.Prelude.{◌≡◌, ℕ, zero, suc, refl, ◌+◌, ◌*◌, ◌^◌, ◌<◌, ◌≤◌}
use Rattle.std.specs.Int.{◌∣◌}
use Rattle.std.proofs.Common.{sym, ◌∙◌, ap, subst, inl, inr, arith}
use Rattle.std.proofs.lemmas.Nat.Gcd.{le_of_dvd}
use Rattle.std.proofs.Math.Nat.{pow-suc, pow-zero, zero-mod, dvd-mul_right, mod-eq-zero_of_dvd, dvd-mul_right_of_dvd}
use Rattle.air_field.specs.Prime.{IsPrime}
use Rattle.air_field.specs.laws.Order.{SameModulo, same_add, same_if}

-- the number of ways to choose k of n
abbrev choose : ℕ → ℕ → ℕ
choose n zero = 1
choose zero (suc k) = 0
choose (suc n) (suc k) = choose n k + choose n (suc k)

absorb_step : (n k a b c : ℕ) → suc (suc k) * c ≡ suc n * b → suc k * (a + b) ≡ suc n * a → suc (suc k) * ((a + b) + c) ≡ suc (suc n) * (a + b)
absorb_step n k a b c h g = omega (arith, h, g)

absorb : (n k : ℕ) → suc k * choose (suc n) (suc k) ≡ suc n * choose n k
absorb zero zero = refl
absorb zero (suc k) = omega arith
absorb (suc n) zero = let h : 1 * choose (suc n) 1 ≡ suc n * 1 = absorb n zero in omega (arith, h)
absorb (suc n) (suc k) = absorb_step n k (choose n k) (choose n (suc k)) (choose (suc n) (suc (suc k))) (absorb n (suc k)) (absorb n k)

choose-above : (n k : ℕ) → n < k → choose n k ≡ 0
choose-above n zero h = absurd (omega (arith, h))
choose-above zero (suc k) h = refl
choose-above (suc n) (suc k) h =
    let left : choose n k ≡ 0 = choose-above n k (omega (arith, h)) in
    let right : choose n (suc k) ≡ 0 = choose-above n (suc k) (omega (arith, h)) in
    omega (arith, left, right)

choose-all : (n : ℕ) → choose n n ≡ 1
choose-all zero = refl
choose-all (suc n) =
    let left : choose n n ≡ 1 = choose-all n in
    let right : choose n (suc n) ≡ 0 = choose-above n (suc n) (omega arith) in
    omega (arith, left, right)

-- the first k terms of (x + 1)^n
abbrev terms : ℕ → ℕ → ℕ → ℕ
terms n x zero = 0
terms n x (suc k) = terms n x k + choose n k * x ^ k

terms_step : (a b s t x u v : ℕ) → v ≡ u * x → s * x + t + (a + b) * v ≡ (s + a * u) * x + (t + b * v)
terms_step a b s t x u v h = ap (λ y. s * x + t + (a + b) * y) h ∙ (omega arith ∙ ap (λ y. (s + a * u) * x + (t + b * y)) (sym h))

terms-next : (n x k : ℕ) → terms (suc n) x (suc k) ≡ terms n x k * x + terms n x (suc k)
terms-next n x zero = omega arith
terms-next n x (suc k) =
    ap (λ s. s + choose (suc n) (suc k) * x ^ suc k) (terms-next n x k)
    ∙ terms_step (choose n k) (choose n (suc k)) (terms n x k) (terms n x (suc k)) x (x ^ k) (x ^ suc k) (pow-suc x k)

last_term : (s t x c u : ℕ) → s ≡ t → c ≡ 0 → s * x + (s + c * u) ≡ t * (x + 1)
last_term s t x c u h e = ap (λ y. s * x + (s + y * u)) e ∙ (omega arith ∙ ap (λ y. y * (x + 1)) h)

-- all of them
terms-all : (n x : ℕ) → terms n x (suc n) ≡ (x + 1) ^ n
terms-all zero x = ap (λ y. 0 + 1 * y) (pow-zero x) ∙ sym (pow-zero (x + 1))
terms-all (suc n) x =
    terms-next n x (suc n)
    ∙ (last_term (terms n x (suc n)) ((x + 1) ^ n) x (choose n (suc n)) (x ^ suc n) (terms-all n x) (choose-above n (suc n) (omega arith))
    ∙ sym (pow-suc (x + 1) n))

too_small : (p k : ℕ) → suc k < p → p ≤ suc k → ⊥
too_small p k low high = omega (arith, low, high)

-- a prime divides the terms between the first and the last
divides_choose : (n k : ℕ) → IsPrime (suc n) → suc k < suc n → suc n ∣ choose (suc n) (suc k)
divides_choose n k prime low =
    elim (prime.divides (suc k) (choose (suc n) (suc k)) (subst (λ x. suc n ∣ x) (sym (absorb n k)) (dvd-mul_right (suc n) (choose n k)))) [
      | inl d ↦ absurd (too_small (suc n) k low (le_of_dvd (omega arith) d))
      | inr d ↦ d
    ]

first_terms : (n x k : ℕ) → IsPrime (suc n) → k < suc n → SameModulo (suc n) (terms (suc n) x (suc k)) 1
first_terms n x zero prime low = same_if (suc n) _ 1 (ap (λ y. 0 + 1 * y) (pow-zero x))
first_terms n x (suc k) prime low =
    same_add (suc n) (terms (suc n) x (suc k)) 1 (choose (suc n) (suc k) * x ^ suc k) 0
    (first_terms n x k prime (omega (arith, low)))
    (mod-eq-zero_of_dvd (suc n) (dvd-mul_right_of_dvd (suc n) (divides_choose n k prime low) (x ^ suc k)) ∙ sym (zero-mod (suc n)))

next_power : (n x : ℕ) → IsPrime (suc n) → SameModulo (suc n) ((x + 1) ^ suc n) (1 + x ^ suc n)
next_power n x prime =
    same_if (suc n) _ _ (sym (terms-all (suc n) x) ∙ ap (λ c. terms (suc n) x (suc n) + c * x ^ suc n) (choose-all (suc n)))
    ∙ same_add (suc n) (terms (suc n) x (suc n)) 1 (1 * x ^ suc n) (x ^ suc n) (first_terms n x n prime (omega arith)) (same_if (suc n) _ _ (omega arith))

fermat_at : (n x : ℕ) → IsPrime (suc n) → SameModulo (suc n) (x ^ suc n) x
fermat_at n zero prime = same_if (suc n) _ _ (pow-suc 0 n ∙ omega arith)
fermat_at n (suc x) prime =
    same_if (suc n) _ _ (ap (λ y. y ^ suc n) (omega arith))
    ∙ (next_power n x prime
    ∙ (same_add (suc n) 1 1 (x ^ suc n) x refl (fermat_at n x prime)
    ∙ same_if (suc n) _ _ (omega arith)))

pub fermat : (p x : ℕ) → IsPrime p → SameModulo p (x ^ p) x
fermat zero x prime = absurd (let least : 2 ≤ 0 = prime.least in omega (arith, least))
fermat (suc n) x prime = fermat_at n x prime
