-- The addition of words of two limbs, by two terms of a field: both are zero exactly if the sum is right.
use Rattle.std.specs.Prelude.{◌≡◌, ℕ, zero, suc, refl, ◌+◌, ◌*◌, ◌/◌, ◌%◌, ◌<◌, ◌⊎◌, ◌↔◌, [], ◌∷◌}
use Rattle.std.proofs.Common.{sym, ◌∙◌, ap, ap₂, subst, inl, inr, arith}
use Rattle.std.proofs.lemmas.Bool.{cases_lt}
use Rattle.air_field.specs.Ring.{CommRing, image, minus}
use Rattle.air_field.specs.laws.Ring.{mul_zero, zero_add, zero_mul}
use Rattle.air_field.specs.laws.RingSolver.{var, nought, plus, times, less, ring}
use Rattle.air_field.specs.Domain.{IsDomain}
use Rattle.air_field.specs.laws.Images.{HasCharacteristic, image-add, image-mul, image-zero, same_of_image, zero_of_image}

-- ---- a difference of images
difference_to : {A : Type 0} (R : CommRing A) (a s n : A) → R.add (minus R a s) n ≡ R.zero → R.add a n ≡ s
difference_to R a s n h =
    ring R (a ∷ s ∷ n ∷ []) (plus (var 0) (var 2)) (plus (plus (less (var 0) (var 1)) (var 2)) (var 1)) refl
    ∙ (ap (λ x. R.add x s) h ∙ zero_add R s)

difference_from : {A : Type 0} (R : CommRing A) (a s n : A) → R.add a n ≡ s → R.add (minus R a s) n ≡ R.zero
difference_from R a s n e =
    ap (λ x. R.add (minus R a x) n) (sym e)
    ∙ ring R (a ∷ n ∷ []) (plus (less (var 0) (plus (var 0) (var 1))) (var 1)) nought refl

-- a - s + n is zero exactly if a + n is s
difference_zero : {A : Type 0} (R : CommRing A) (p a s n : ℕ) → HasCharacteristic R p → a + n < p → s < p
    → (R.add (minus R (image R a) (image R s)) (image R n) ≡ R.zero) ↔ (a + n ≡ s)
difference_zero R p a s n has ha hs = (
  (λ h. same_of_image R p has (a + n) s ha hs (image-add R a n ∙ difference_to R (image R a) (image R s) (image R n) h)),
  (λ e. difference_from R (image R a) (image R s) (image R n) (sym (image-add R a n) ∙ ap (image R) e)),
)

-- ---- one product of two factors
product_zero : {A : Type 0} (R : CommRing A) → IsDomain R → (x y : A) → (R.mul x y ≡ R.zero) ↔ ((x ≡ R.zero) ⊎ (y ≡ R.zero))
product_zero R domain x y =
    (domain x y, elim [ inl h ↦ ap (λ z. R.mul z y) h ∙ zero_mul R y | inr h ↦ ap (R.mul x) h ∙ mul_zero R x ])

then_so : {P Q S : Type 0} → P ↔ Q → Q ↔ S → P ↔ S
then_so f g = ((λ h. g.0 (f.0 h)), (λ h. f.1 (g.1 h)))

-- an equivalence for each number below a bound
each_so : {n : ℕ} {P Q : ℕ → Type 0} → ((k : ℕ) → k < n → P k ↔ Q k) → ((k : ℕ) × (k < n) × P k) ↔ ((k : ℕ) × (k < n) × Q k)
each_so f = ((λ h. (h.0, h.1, (f h.0 h.1).0 h.2)), (λ h. (h.0, h.1, (f h.0 h.1).1 h.2)))

-- ---- a product with n carries: x (x + q) (x + 2 q) .. (x + n q)
abbrev pub carry_out : {A : Type 0} → CommRing A → A → ℕ → ℕ → A
carry_out R x q zero = x
carry_out R x q (suc n) = R.mul (carry_out R x q n) (R.add x (image R (q * suc n)))

-- with nothing added
plain : {A : Type 0} (R : CommRing A) (x : A) (q : ℕ) → R.add x (image R (q * 0)) ≡ x
plain R x q =
    let none : q * 0 ≡ 0 = omega arith in
    ap (λ n. R.add x (image R n)) none ∙ (ap (R.add x) (image-zero R) ∙ R.add_zero x)

lone : {A : Type 0} (R : CommRing A) (x : A) (q k : ℕ) → k < 1 → R.add x (image R (q * k)) ≡ R.zero → x ≡ R.zero
lone R x q zero lt h = sym (plain R x q) ∙ h
lone R x q (suc k) lt h = absurd (omega (arith, lt))

-- it is zero exactly if one of the factors is
carried_zero : {A : Type 0} (R : CommRing A) → IsDomain R → (x : A) (q n : ℕ)
    → (carry_out R x q n ≡ R.zero) ↔ ((k : ℕ) × (k < suc n) × (R.add x (image R (q * k)) ≡ R.zero))
carried_zero R domain x q zero = ((λ h. (0, omega arith, plain R x q ∙ h)), (λ r. lone R x q r.0 r.1 r.2))
carried_zero R domain x q (suc n) =
    let before = carried_zero R domain x q n in
    then_so (product_zero R domain (carry_out R x q n) (R.add x (image R (q * suc n)))) (
      elim [ inl h ↦ (let r = before.0 h in (r.0, omega (arith, r.1), r.2)) | inr h ↦ (suc n, omega arith, h) ],
      (λ r.
          elim (cases_lt r.0 (suc n)) [
            | inl l ↦ inl (before.1 (r.0, l, r.2))
            | inr l ↦ (let last : r.0 ≡ suc n = omega (arith, l, r.1) in inr (subst (λ k. R.add x (image R (q * k)) ≡ R.zero) last r.2))
          ]),
    )

-- ---- the two differences, for a first number of limbs a and b, and a sum of limbs s and t

-- the low difference
abbrev low : {A : Type 0} → CommRing A → ℕ → ℕ → A
low R a s = minus R (image R a) (image R s)

-- the difference of the whole words, q being the base
abbrev whole : {A : Type 0} → CommRing A → ℕ → ℕ → ℕ → ℕ → ℕ → A
whole R q a s b t = R.add (low R a s) (R.mul (image R q) (low R b t))

carry_step : {A : Type 0} (R : CommRing A) (a q k b t n : A)
    → R.add (R.add (minus R a (R.add a (R.mul q k))) (R.mul q (minus R b t))) (R.mul q n) ≡ R.mul q (R.add (minus R b (R.add t k)) n)
carry_step R a q k b t n =
    ring R (a ∷ q ∷ k ∷ b ∷ t ∷ n ∷ [])
    (plus (plus (less (var 0) (plus (var 0) (times (var 1) (var 2)))) (times (var 1) (less (var 3) (var 4)))) (times (var 1) (var 5)))
    (times (var 1) (plus (less (var 3) (plus (var 4) (var 2))) (var 5)))
    refl

-- with the carry k of the low limbs the whole difference is a multiple of the base
whole-carry : {A : Type 0} (R : CommRing A) (q a s b t k n : ℕ) → a + q * k ≡ s
    → R.add (whole R q a s b t) (image R (q * n)) ≡ R.mul (image R q) (R.add (low R b (t + k)) (image R n))
whole-carry R q a s b t k n e =
    let sum_is : image R s ≡ R.add (image R a) (R.mul (image R q) (image R k)) =
    ap (image R) (sym e) ∙ (image-add R a (q * k) ∙ ap (R.add (image R a)) (image-mul R q k)) in
    ap₂ (λ x y. R.add (R.add (minus R (image R a) x) (R.mul (image R q) (low R b t))) y) sum_is (image-mul R q n)
    ∙ (carry_step R (image R a) (image R q) (image R k) (image R b) (image R t) (image R n)
    ∙ ap (λ x. R.mul (image R q) (R.add (minus R (image R b) x) (image R n))) (sym (image-add R t k)))

not_both : (q : ℕ) → q ≡ 0 → 0 < q → ⊥
not_both q e h = omega arith

-- the whole difference with n times the base's square is zero exactly if the high limbs are right
whole_zero : {A : Type 0} (R : CommRing A) (p q a s b t k n : ℕ) → IsDomain R → HasCharacteristic R p → 0 < q → q < p → a + q * k ≡ s → b + n < p → t + k < p
    → (R.add (whole R q a s b t) (image R (q * n)) ≡ R.zero) ↔ (b + n ≡ t + k)
whole_zero R p q a s b t k n domain has pos small e hb ht = (
  (λ h.
      elim (domain (image R q) (R.add (low R b (t + k)) (image R n)) (sym (whole-carry R q a s b t k n e) ∙ h)) [
        | inl none ↦ absurd (not_both q (zero_of_image R p has q small none) pos)
        | inr so ↦ (difference_zero R p b (t + k) n has hb ht).0 so
      ]),
  (λ h. whole-carry R q a s b t k n e ∙ (ap (R.mul (image R q)) ((difference_zero R p b (t + k) n has hb ht).1 h) ∙ mul_zero R (image R q))),
)

-- ---- the terms of a sum of two words, over limbs below 65536

abbrev pub low_term : {A : Type 0} → CommRing A → ℕ → ℕ → ℕ → A
low_term R a0 b0 c0 = minus R (minus R (image R a0) (image R b0)) (image R c0)

abbrev pub whole_value : {A : Type 0} → CommRing A → ℕ → ℕ → ℕ → ℕ → ℕ → ℕ → A
whole_value R a0 a1 b0 b1 c0 c1 = R.add (low_term R a0 b0 c0) (R.mul (image R 65536) (low_term R a1 b1 c1))

regroup : {A : Type 0} (R : CommRing A) (a b c : A) → minus R (minus R a b) c ≡ minus R a (R.add b c)
regroup R a b c = ring R (a ∷ b ∷ c ∷ []) (less (less (var 0) (var 1)) (var 2)) (less (var 0) (plus (var 1) (var 2))) refl

low_term-is : {A : Type 0} (R : CommRing A) (a b c : ℕ) → low_term R a b c ≡ low R a (b + c)
low_term-is R a b c = regroup R (image R a) (image R b) (image R c) ∙ ap (minus R (image R a)) (sym (image-add R b c))

whole_term-is : {A : Type 0} (R : CommRing A) (a0 a1 b0 b1 c0 c1 : ℕ) → whole_value R a0 a1 b0 b1 c0 c1 ≡ whole R 65536 a0 (b0 + c0) a1 (b1 + c1)
whole_term-is R a0 a1 b0 b1 c0 c1 = ap₂ (λ x y. R.add x (R.mul (image R 65536) y)) (low_term-is R a0 b0 c0) (low_term-is R a1 b1 c1)

-- ---- whole numbers: the carries of the low and of the high limbs
sum_of_carries : (a0 a1 s0 s1 k m : ℕ) → a0 < 65536 → a1 < 65536 → a0 + 65536 * k ≡ s0 → a1 + 65536 * m ≡ s1 + k
    → a0 + 65536 * a1 ≡ (s0 + 65536 * s1) % 4294967296
sum_of_carries a0 a1 s0 s1 k m h0 h1 e0 e1 = omega arith

low_carry : (a0 a1 s0 s1 : ℕ) → a0 < 65536 → a1 < 65536 → a0 + 65536 * a1 ≡ (s0 + 65536 * s1) % 4294967296 → a0 + 65536 * (s0 / 65536) ≡ s0
low_carry a0 a1 s0 s1 h0 h1 e = omega arith

high_carry : (a0 a1 s0 s1 k : ℕ) → a0 < 65536 → a1 < 65536 → a0 + 65536 * a1 ≡ (s0 + 65536 * s1) % 4294967296 → a0 + 65536 * k ≡ s0 → a1 + 65536 * ((s1 + k) / 65536) ≡ s1 + k
high_carry a0 a1 s0 s1 k h0 h1 e e0 = omega arith

-- ---- the two products, zero exactly if a carry is right
low_tells : {A : Type 0} (R : CommRing A) (p n a s : ℕ) → IsDomain R → HasCharacteristic R p → 65536 * suc n < p → a < 65536 → s < p
    → (carry_out R (low R a s) 65536 n ≡ R.zero) ↔ ((k : ℕ) × (k < suc n) × (a + 65536 * k ≡ s))
low_tells R p n a s domain has big ha hs =
    then_so (carried_zero R domain (low R a s) 65536 n) (each_so (λ k lt. difference_zero R p a s (65536 * k) has (omega (arith, lt, ha, big)) hs))

-- with the carry k of the low limbs
whole_tells : {A : Type 0} (R : CommRing A) (p n a s b t k : ℕ) → IsDomain R → HasCharacteristic R p → 65536 * suc n < p → a + 65536 * k ≡ s → b < 65536 → t + k < p
    → (carry_out R (whole R 65536 a s b t) 4294967296 n ≡ R.zero) ↔ ((m : ℕ) × (m < suc n) × (b + 65536 * m ≡ t + k))
whole_tells R p n a s b t k domain has big e hb ht =
    then_so (carried_zero R domain (whole R 65536 a s b t) 4294967296 n)
    (each_so (λ m lt.
    let square : 65536 * (65536 * m) ≡ 4294967296 * m = omega arith in
    subst (λ v. (R.add (whole R 65536 a s b t) (image R v) ≡ R.zero) ↔ (b + 65536 * m ≡ t + k)) square
    (whole_zero R p 65536 a s b t k (65536 * m) domain has (omega arith) (omega (arith, big)) e (omega (arith, lt, hb, big)) ht)))

-- both are zero exactly if the sum of the words is right
sum_tells : {A : Type 0} (R : CommRing A) (p n a0 a1 s0 s1 : ℕ) → IsDomain R → HasCharacteristic R p → 65536 * suc n < p → a0 < 65536 → a1 < 65536 → s0 < 65536 * suc n → s1 + n < 65536 * suc n
    → ((carry_out R (whole R 65536 a0 s0 a1 s1) 4294967296 n ≡ R.zero) × (carry_out R (low R a0 s0) 65536 n ≡ R.zero))
    ↔ (a0 + 65536 * a1 ≡ (s0 + 65536 * s1) % 4294967296)
sum_tells R p n a0 a1 s0 s1 domain has big h0 h1 k0 k1 =
    let low_so = low_tells R p n a0 s0 domain has big h0 (omega (arith, k0, big)) in (
      (λ h.
          let k = low_so.0 h.1 in
          let m = (whole_tells R p n a0 s0 a1 s1 k.0 domain has big k.2 h1 (omega (arith, k.1, k1, big))).0 h.0 in
          sum_of_carries a0 a1 s0 s1 k.0 m.0 h0 h1 k.2 m.2),
      (λ e.
          let carry : a0 + 65536 * (s0 / 65536) ≡ s0 = low_carry a0 a1 s0 s1 h0 h1 e in
          let small : s0 / 65536 < suc n = omega (arith, k0) in
          let next : a1 + 65536 * ((s1 + s0 / 65536) / 65536) ≡ s1 + s0 / 65536 = high_carry a0 a1 s0 s1 (s0 / 65536) h0 h1 e carry in (
            (whole_tells R p n a0 s0 a1 s1 (s0 / 65536) domain has big carry h1 (omega (arith, small, k1, big))).1 ((s1 + s0 / 65536) / 65536, omega (arith, small, k1), next),
            low_so.1 (s0 / 65536, small, carry),
          )),
    )

regrouped : (b0 b1 c0 c1 : ℕ) → (b0 + 65536 * b1) + (c0 + 65536 * c1) ≡ (b0 + c0) + 65536 * (b1 + c1)
regrouped b0 b1 c0 c1 = omega arith

-- `a = b + c` modulo 2^32, over limbs of 16 bits, in a domain of a characteristic above 2^17
pub add2_exact : {A : Type 0} (R : CommRing A) (p a0 a1 b0 b1 c0 c1 : ℕ) → IsDomain R → HasCharacteristic R p → 131072 < p
    → a0 < 65536 → a1 < 65536 → b0 < 65536 → b1 < 65536 → c0 < 65536 → c1 < 65536
    → ((R.mul (whole_value R a0 a1 b0 b1 c0 c1) (R.add (whole_value R a0 a1 b0 b1 c0 c1) (image R 4294967296)) ≡ R.zero)
    × (R.mul (low_term R a0 b0 c0) (R.add (low_term R a0 b0 c0) (image R 65536)) ≡ R.zero))
    ↔ (a0 + 65536 * a1 ≡ ((b0 + 65536 * b1) + (c0 + 65536 * c1)) % 4294967296)
add2_exact R p a0 a1 b0 b1 c0 c1 domain has big ha0 ha1 hb0 hb1 hc0 hc1 =
    simp (whole_term-is R a0 a1 b0 b1 c0 c1, low_term-is R a0 b0 c0, regrouped b0 b1 c0 c1)
    (sum_tells R p 1 a0 a1 (b0 + c0) (b1 + c1) domain has big ha0 ha1 (omega arith) (omega arith))

-- ---- three summands

abbrev pub low_term_3 : {A : Type 0} → CommRing A → ℕ → ℕ → ℕ → ℕ → A
low_term_3 R a b c d = minus R (low_term R a b c) (image R d)

abbrev pub whole_term_3 : {A : Type 0} → CommRing A → ℕ → ℕ → ℕ → ℕ → ℕ → ℕ → ℕ → ℕ → A
whole_term_3 R a0 a1 b0 b1 c0 c1 d0 d1 = R.add (low_term_3 R a0 b0 c0 d0) (R.mul (image R 65536) (low_term_3 R a1 b1 c1 d1))

low_term_3-is : {A : Type 0} (R : CommRing A) (a b c d : ℕ) → low_term_3 R a b c d ≡ low R a (b + c + d)
low_term_3-is R a b c d =
    ap (λ x. minus R x (image R d)) (low_term-is R a b c)
    ∙ (regroup R (image R a) (image R (b + c)) (image R d) ∙ ap (minus R (image R a)) (sym (image-add R (b + c) d)))

whole_term_3-is : {A : Type 0} (R : CommRing A) (a0 a1 b0 b1 c0 c1 d0 d1 : ℕ) → whole_term_3 R a0 a1 b0 b1 c0 c1 d0 d1 ≡ whole R 65536 a0 (b0 + c0 + d0) a1 (b1 + c1 + d1)
whole_term_3-is R a0 a1 b0 b1 c0 c1 d0 d1 = ap₂ (λ x y. R.add x (R.mul (image R 65536) y)) (low_term_3-is R a0 b0 c0 d0) (low_term_3-is R a1 b1 c1 d1)

regrouped_3 : (b0 b1 c0 c1 d0 d1 : ℕ) → (b0 + 65536 * b1) + (c0 + 65536 * c1) + (d0 + 65536 * d1) ≡ (b0 + c0 + d0) + 65536 * (b1 + c1 + d1)
regrouped_3 b0 b1 c0 c1 d0 d1 = omega arith

-- `a = b + c + d` modulo 2^32, over limbs of 16 bits, in a domain of a characteristic above 3 * 2^16
pub add3_exact : {A : Type 0} (R : CommRing A) (p a0 a1 b0 b1 c0 c1 d0 d1 : ℕ) → IsDomain R → HasCharacteristic R p → 196608 < p
    → a0 < 65536 → a1 < 65536 → b0 < 65536 → b1 < 65536 → c0 < 65536 → c1 < 65536 → d0 < 65536 → d1 < 65536
    → ((R.mul (R.mul (whole_term_3 R a0 a1 b0 b1 c0 c1 d0 d1) (R.add (whole_term_3 R a0 a1 b0 b1 c0 c1 d0 d1) (image R 4294967296))) (R.add (whole_term_3 R a0 a1 b0 b1 c0 c1 d0 d1) (image R 8589934592)) ≡ R.zero)
    × (R.mul (R.mul (low_term_3 R a0 b0 c0 d0) (R.add (low_term_3 R a0 b0 c0 d0) (image R 65536))) (R.add (low_term_3 R a0 b0 c0 d0) (image R 131072)) ≡ R.zero))
    ↔ (a0 + 65536 * a1 ≡ ((b0 + 65536 * b1) + (c0 + 65536 * c1) + (d0 + 65536 * d1)) % 4294967296)
add3_exact R p a0 a1 b0 b1 c0 c1 d0 d1 domain has big ha0 ha1 hb0 hb1 hc0 hc1 hd0 hd1 =
    simp (whole_term_3-is R a0 a1 b0 b1 c0 c1 d0 d1, low_term_3-is R a0 b0 c0 d0, regrouped_3 b0 b1 c0 c1 d0 d1)
    (sum_tells R p 2 a0 a1 (b0 + c0 + d0) (b1 + c1 + d1) domain has big ha0 ha1 (omega arith) (omega arith))
