-- An odd number p is prime if some b has b ^ 2 ^ k + 1 as a multiple of p, and p is below 2 ^ (k + 1) squared: modulo
-- any divisor of p the first 2 ^ (k + 1) powers of b are then different numbers, so each divisor is at least that
-- great.
use Rattle.std.specs.Prelude.{◌≡◌, ℕ, zero, suc, refl, ◌+◌, ◌-◌, ◌*◌, ◌%◌, ◌/◌, ◌^◌, ◌<◌, ◌≤◌, ◌⊎◌, Bool, true, false, eqb, List, [], ◌∷◌, length, ◌||◌}
use Rattle.std.specs.Int.{◌∣◌}
use Rattle.std.specs.List.{IsDistinct, AllByRecursion, list_any}
use Rattle.std.proofs.Common.{sym, ◌∙◌, ap, subst, inl, inr, arith, eqb-true, true≢false, mod-eq_of_lt, mod-lt}
use Rattle.std.proofs.lemmas.Bool.{cases_lt}
use Rattle.std.proofs.lemmas.Nat.{mul-mod_first, mul-mod_second, pow-mod, pow-add, mul-pow}
use Rattle.std.proofs.lemmas.Nat.Gcd.{dvd_trans, le_of_dvd}
use Rattle.std.proofs.lemmas.Map.Steps.{length-le_from_distinct_below}
use Rattle.std.proofs.Math.Nat.{pow-suc, pow-zero, two-pow-succ, zero-mul, zero-mod, mod-add-mod, add-mod-mod, dvd-mul_right, dvd_of_mod-eq-zero, mod-eq-zero_of_dvd, div-mul_cancel, mul-le-mul}
use Rattle.air_field.specs.Prime.{IsPrime}
use Rattle.air_field.specs.laws.Primality.{HasNoDivisor, euclid}
use Rattle.air_field.specs.laws.Trial.{low_cofactor}

-- ---- numbers that are equal modulo d

abbrev pub SameModulo : ℕ → ℕ → ℕ → Type 0
SameModulo d x y = x % d ≡ y % d

pub same_mul : (d x u y v : ℕ) → SameModulo d x u → SameModulo d y v → SameModulo d (x * y) (u * v)
same_mul d x u y v p q =
    sym (mul-mod_first x y d)
    ∙ (ap (λ s. (s * y) % d) p
    ∙ (mul-mod_first u y d
    ∙ (sym (mul-mod_second u y d)
    ∙ (ap (λ s. (u * s) % d) q
    ∙ mul-mod_second u v d))))

pub same_add : (d x u y v : ℕ) → SameModulo d x u → SameModulo d y v → SameModulo d (x + y) (u + v)
same_add d x u y v p q =
    sym (mod-add-mod x d y)
    ∙ (ap (λ s. (s + y) % d) p
    ∙ (mod-add-mod u d y
    ∙ (sym (add-mod-mod u y d)
    ∙ (ap (λ s. (u + s) % d) q
    ∙ add-mod-mod u v d))))

pub same_if : (d x y : ℕ) → x ≡ y → SameModulo d x y
same_if d x y e = ap (λ s. s % d) e

-- ---- powers of a number that is one below a multiple of d

-- x c + (c + 1) is (x + 1) c + 1
last_times : (d c x : ℕ) → SameModulo d (c + 1) 0 → SameModulo d (x + 1) 0 → SameModulo d (x * c) 1
last_times d c x last low =
    let left : SameModulo d (x * c + 0) (x * c + (c + 1)) = same_add d (x * c) (x * c) 0 (c + 1) refl (sym last) in
    let middle : SameModulo d (x * c + (c + 1)) ((x + 1) * c + 1) = same_if d _ _ (omega arith) in
    let right : SameModulo d ((x + 1) * c + 1) (0 * c + 1) = same_add d ((x + 1) * c) (0 * c) 1 1 (same_mul d (x + 1) 0 c c low refl) refl in
    same_if d (x * c) (x * c + 0) (omega arith) ∙ (left ∙ (middle ∙ (right ∙ same_if d (0 * c + 1) 1 (omega arith))))

-- c^s is 1 at an even s, and c at an odd one
abbrev pub Turn : ℕ → ℕ → ℕ → Type 0
Turn d c s = ((s % 2 ≡ 0) × SameModulo d (c ^ s) 1) ⊎ ((s % 2 ≡ 1) × SameModulo d (c ^ s + 1) 0)

then_odd : (s : ℕ) → s % 2 ≡ 0 → suc s % 2 ≡ 1
then_odd s e = omega (arith, e)

then_even : (s : ℕ) → s % 2 ≡ 1 → suc s % 2 ≡ 0
then_even s e = omega (arith, e)

turns : (d c s : ℕ) → SameModulo d (c + 1) 0 → Turn d c s
turns d c zero last = inl (refl, same_if d (c ^ zero) 1 (pow-zero c))
turns d c (suc s) last =
    elim (turns d c s last) [
      | inl w ↦ inr (
        then_odd s w.0,
        same_if d (c ^ suc s + 1) (c ^ s * c + 1) (ap (λ x. x + 1) (pow-suc c s))
            ∙ (same_add d (c ^ s * c) (1 * c) 1 1 (same_mul d (c ^ s) 1 c c w.1 refl) refl
            ∙ (same_if d (1 * c + 1) (c + 1) (omega arith)
            ∙ last)),
      )
      | inr w ↦ inl (then_even s w.0, same_if d (c ^ suc s) (c ^ s * c) (pow-suc c s) ∙ last_times d c (c ^ s) last w.1)
    ]

pub two_is_not_zero : (d : ℕ) → 2 < d → SameModulo d (1 + 1) 0 → ⊥
two_is_not_zero d big e =
    let same : 2 ≡ 0 = sym (mod-eq_of_lt big) ∙ (e ∙ zero-mod d) in
    omega (arith, same)

even_if_one : (d c s : ℕ) → 2 < d → SameModulo d (c + 1) 0 → SameModulo d (c ^ s) 1 → s % 2 ≡ 0
even_if_one d c s big last one =
    elim (turns d c s last) [
      | inl w ↦ w.0
      | inr w ↦ absurd (two_is_not_zero d big (sym (same_add d (c ^ s) 1 1 1 one refl) ∙ w.1))
    ]

-- ---- the order of b

pub pow_times : (b m q : ℕ) → (b ^ m) ^ q ≡ b ^ (q * m)
pow_times b m zero = pow-zero (b ^ m) ∙ (sym (pow-zero b) ∙ ap (λ e. b ^ e) (sym (zero-mul m)))
pow_times b m (suc q) =
    pow-suc (b ^ m) q
    ∙ (ap (λ x. x * b ^ m) (pow_times b m q)
    ∙ (sym (pow-add b (q * m) m)
    ∙ ap (λ e. b ^ e) (omega arith)))

-- b^(2 x) is (b^x)^2
twice : (b k : ℕ) → b ^ 2 ^ suc k ≡ b ^ 2 ^ k * b ^ 2 ^ k
twice b k = ap (λ e. b ^ e) (two-pow-succ k) ∙ pow-add b (2 ^ k) (2 ^ k)

square_of : (b k : ℕ) → (b * b) ^ 2 ^ k ≡ b ^ 2 ^ suc k
square_of b k = mul-pow b b (2 ^ k) ∙ sym (twice b k)

first_power : (b : ℕ) → b ^ 1 ≡ b
first_power b = pow-suc b 0 ∙ (ap (λ x. x * b) (pow-zero b) ∙ omega arith)

pub order : (k b d t : ℕ) → 2 < d → SameModulo d (b ^ 2 ^ k + 1) 0 → SameModulo d (b ^ t) 1 → 2 ^ suc k ∣ t
order zero b d t big last one =
    dvd_of_mod-eq-zero 2 (even_if_one d b t big (ap (λ x. (x + 1) % d) (sym (first_power b)) ∙ last) one)
order (suc k) b d t big last one =
    let below : 2 ^ suc k ∣ t =
    order k (b * b) d t big (ap (λ x. (x + 1) % d) (square_of b k) ∙ last)
    (same_if d ((b * b) ^ t) (b ^ t * b ^ t) (mul-pow b b t) ∙ same_mul d (b ^ t) 1 (b ^ t) 1 one one) in
    let q = t / 2 ^ suc k in
    let whole : q * 2 ^ suc k ≡ t = div-mul_cancel (2 ^ suc k) below in
    let turned : SameModulo d ((b ^ 2 ^ suc k) ^ q) 1 = same_if d _ (b ^ t) (pow_times b (2 ^ suc k) q ∙ ap (λ e. b ^ e) whole) ∙ one in
    let half : q / 2 * 2 ≡ q = div-mul_cancel 2 (dvd_of_mod-eq-zero 2 (even_if_one d (b ^ 2 ^ suc k) q big last turned)) in
    subst (λ x. 2 ^ suc (suc k) ∣ x) (ap (λ x. x * (q / 2)) (two-pow-succ (suc k)) ∙ (regroup (2 ^ suc k) (q / 2) q half ∙ whole))
    (dvd-mul_right (2 ^ suc (suc k)) (q / 2))
  where
    regroup : (m h q : ℕ) → h * 2 ≡ q → (m + m) * h ≡ q * m
    regroup m h q e = sym (ap (λ x. x * m) (sym e) ∙ omega arith)

one_at_order : (k b d : ℕ) → SameModulo d (b ^ 2 ^ k + 1) 0 → SameModulo d (b ^ 2 ^ suc k) 1
one_at_order k b d last = same_if d _ _ (twice b k) ∙ last_times d (b ^ 2 ^ k) (b ^ 2 ^ k) last last

-- b^n and b^i are different
cancelled : (n b d i top : ℕ) → i < n → n < top → SameModulo d (b ^ top) 1 → SameModulo d (b ^ n) (b ^ i) → SameModulo d (b ^ (n - i)) 1
cancelled n b d i top low high one e =
    let left : SameModulo d (b ^ n * b ^ (top - i)) (b ^ i * b ^ (top - i)) = same_mul d (b ^ n) (b ^ i) (b ^ (top - i)) (b ^ (top - i)) e refl in
    let right : b ^ i * b ^ (top - i) ≡ b ^ top = sym (pow-add b i (top - i)) ∙ ap (λ x. b ^ x) (omega (arith, low, high)) in
    let moved : b ^ n * b ^ (top - i) ≡ b ^ top * b ^ (n - i) =
    sym (pow-add b n (top - i)) ∙ (ap (λ x. b ^ x) (omega (arith, low, high)) ∙ pow-add b top (n - i)) in
    same_if d (b ^ (n - i)) (1 * b ^ (n - i)) (omega arith)
    ∙ (sym (same_mul d (b ^ top) 1 (b ^ (n - i)) (b ^ (n - i)) one refl)
    ∙ (same_if d _ _ (sym moved)
    ∙ (left
    ∙ (same_if d _ _ right
    ∙ one))))

too_short : (top n i : ℕ) → i < n → n < top → top ≤ n - i → ⊥
too_short top n i low high long = omega (arith, low, high, long)

different : (k b d n i : ℕ) → 2 < d → SameModulo d (b ^ 2 ^ k + 1) 0 → i < n → n < 2 ^ suc k → SameModulo d (b ^ n) (b ^ i) → ⊥
different k b d n i big last low high e =
    let some : 0 < n - i = omega (arith, low) in
    too_short (2 ^ suc k) n i low high
    (le_of_dvd some (order k b d (n - i) big last (cancelled n b d i (2 ^ suc k) low high (one_at_order k b d last) e)))

-- ---- the powers of b modulo d, n of them

abbrev pub powers_modulo : ℕ → ℕ → ℕ → List ℕ
powers_modulo b d zero = []
powers_modulo b d (suc n) = (b ^ n) % d ∷ powers_modulo b d n

length-powers : (b d n : ℕ) → length (powers_modulo b d n) ≡ n
length-powers b d zero = refl
length-powers b d (suc n) = ap suc (length-powers b d n)

eqb_false : (b : Bool) (x y : ℕ) → eqb x y ≡ b → (x ≡ y → ⊥) → b ≡ false
eqb_false true x y e never = absurd (never (eqb-true x y e))
eqb_false false x y e never = refl

apart : (b d m n : ℕ) → ((i : ℕ) → i < n → SameModulo d (b ^ m) (b ^ i) → ⊥) → AllByRecursion (λ y. eqb ((b ^ m) % d) y ≡ false) (powers_modulo b d n)
apart b d m zero never = tt
apart b d m (suc n) never = (eqb_false _ _ _ refl (never n (omega arith)), apart b d m n (λ i low. never i (omega (arith, low))))

distinct : (k b d n : ℕ) → 2 < d → SameModulo d (b ^ 2 ^ k + 1) 0 → n ≤ 2 ^ suc k → IsDistinct eqb (powers_modulo b d n)
unfolding IsDistinct
distinct k b d zero big last high = tt
distinct k b d (suc n) big last high =
    (apart b d n n (λ i low. different k b d n i big last low (omega (arith, high))), distinct k b d n big last (omega (arith, high)))

in_range : (b d n q : ℕ) (t : Bool) → 0 < d → eqb q ((b ^ n) % d) ≡ t → (t || list_any (eqb q) (powers_modulo b d n)) ≡ true
    → (list_any (eqb q) (powers_modulo b d n) ≡ true → q < d) → q < d
in_range b d n q true some e h rest = subst (λ x. x < d) (sym (eqb-true q _ e)) (mod-lt (b ^ n) some)
in_range b d n q false some e h rest = rest h

all_below : (b d n q : ℕ) → 0 < d → list_any (eqb q) (powers_modulo b d n) ≡ true → q < d
all_below b d zero q some h = absurd (true≢false (sym h))
all_below b d (suc n) q some h = in_range b d n q (eqb q ((b ^ n) % d)) some refl h (all_below b d n q some)

pub divisor_is_great : (k b d : ℕ) → 2 < d → SameModulo d (b ^ 2 ^ k + 1) 0 → 2 ^ suc k ≤ d
divisor_is_great k b d big last =
    subst (λ x. x ≤ d) (length-powers b d (2 ^ suc k))
    (length-le_from_distinct_below (powers_modulo b d (2 ^ suc k)) d (distinct k b d (2 ^ suc k) big last (omega arith))
    (λ q h. all_below b d (2 ^ suc k) q (omega (arith, big)) h))

-- ---- the test

-- b^(2^k) modulo p
abbrev pub squares : ℕ → ℕ → ℕ → ℕ
squares zero b p = b
squares (suc k) b p = squares k (b * b % p) p

squares-is : (k b p : ℕ) → SameModulo p (squares k b p) (b ^ 2 ^ k)
squares-is zero b p = same_if p b (b ^ 1) (sym (first_power b))
squares-is (suc k) b p =
    squares-is k (b * b % p) p
    ∙ (pow-mod (b * b) (2 ^ k) p
    ∙ same_if p _ _ (square_of b k))

odd_divisor : (p d : ℕ) → p % 2 ≡ 1 → 2 ≤ d → d ∣ p → 2 < d
odd_divisor p d odd least div =
    elim (cases_lt 2 d) [
      | inl more ↦ more
      | inr less ↦
          let two : d ≡ 2 = omega (arith, least, less) in
          let even : p % 2 ≡ 0 = mod-eq-zero_of_dvd 2 (subst (λ x. x ∣ p) two div) in
          absurd (omega (arith, odd, even))
    ]

too_great : (p m s : ℕ) → m ≤ s → s ≡ p → p < m → ⊥
too_great p m s le e lt = omega (arith, le, e, lt)

pub prime_by_order : (p b k : ℕ) → 2 ≤ p → p % 2 ≡ 1 → p < 2 ^ suc k * 2 ^ suc k → (squares k b p + 1) % p ≡ 0 → IsPrime p
prime_by_order p b k least odd less test =
    let multiple : p ∣ b ^ 2 ^ k + 1 =
    dvd_of_mod-eq-zero p (sym (same_add p (squares k b p) (b ^ 2 ^ k) 1 1 (squares-is k b p) refl) ∙ test) in
    let great : (d : ℕ) → 2 ≤ d → d ∣ p → 2 ^ suc k ≤ d =
    λ d low div. divisor_is_great k b d (odd_divisor p d odd low div) (mod-eq-zero_of_dvd d (dvd_trans d div multiple) ∙ sym (zero-mod d)) in
    let none : HasNoDivisor p =
    λ d low high div.
    let e : p / d * d ≡ p = div-mul_cancel d div in
    let other : p / d ∣ p = subst (λ x. p / d ∣ x) e (dvd-mul_right (p / d) d) in
    too_great p (2 ^ suc k * 2 ^ suc k) (p / d * d) (mul-le-mul (great (p / d) (low_cofactor p d (p / d) least e high) other) (great d low div)) e less in
    record { least = least; divides = λ x y. euclid p x y none (omega (arith, least)) }
