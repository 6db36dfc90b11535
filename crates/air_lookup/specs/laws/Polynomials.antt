-- Polynomials by their coefficients: k + (X - f) p, p + m q and (X - v)^n p.
use Rattle.std.specs.Prelude.{◌≡◌, ℕ, zero, suc, ◌+◌, ◌≤◌, List, [], ◌∷◌, length, refl}
use Rattle.std.proofs.Common.{sym, ◌∙◌, ap, ap₂, inl, inr, arith}
use Rattle.air_field.specs.Domain.{IsDomain}
use Rattle.air_field.specs.Powers.{power}
use Rattle.air_field.specs.Ring.{CommRing, AllZero, minus}
use Rattle.air_field.specs.laws.Ring.{zero_add, mul_zero, one_mul, ring_rules}
use Rattle.air_field.specs.laws.RingSolver.{var, plus, times, less, ring}
use Rattle.air_field.specs.laws.Roots.{poly_value}

module _ {A : Type 0} (r : CommRing A) where
  pub power-add : (x : A) (m n : ℕ) → power r x (m + n) ≡ r.mul (power r x m) (power r x n)
  power-add x m zero = ap (power r x) (omega arith) ∙ sym (r.mul_one (power r x m))
  power-add x m (suc n) =
      let e : m + suc n ≡ suc (m + n) = omega arith in
      ap (power r x) e ∙ (ap (λ y. r.mul y x) (power-add x m n) ∙ r.mul_assoc (power r x m) (power r x n) x)

  pub power_zero : IsDomain r → (r.one ≡ r.zero → ⊥) → (x : A) (n : ℕ) → power r x n ≡ r.zero → x ≡ r.zero
  power_zero domain some x zero h = absurd (some h)
  power_zero domain some x (suc n) h = elim (domain (power r x n) x h) [ inl e ↦ power_zero domain some x n e | inr e ↦ e ]

  -- one factor more of a power
  pub one_more : (d q p : A) → r.mul d (r.mul q p) ≡ r.mul (r.mul q d) p
  one_more d q p = ring r (d ∷ q ∷ p ∷ []) (times (var 0) (times (var 1) (var 2))) (times (times (var 1) (var 0)) (var 2)) refl

  -- the polynomial k + (X - f) p
  abbrev pub linear : A → A → List A → List A
  linear f k [] = k ∷ []
  linear f k (c ∷ cs) = minus r k (r.mul f c) ∷ linear f c cs

  pub linear-length : (f k : A) (cs : List A) → length (linear f k cs) ≡ suc (length cs)
  linear-length f k [] = refl
  linear-length f k (c ∷ cs) = ap suc (linear-length f c cs)

  linear_step : (f k c x p : A) → r.add (minus r k (r.mul f c)) (r.mul x (r.add c (r.mul (minus r x f) p)))
      ≡ r.add k (r.mul (minus r x f) (r.add c (r.mul x p)))
  linear_step f k c x p =
      ring r (f ∷ k ∷ c ∷ x ∷ p ∷ [])
      (plus (less (var 1) (times (var 0) (var 2))) (times (var 3) (plus (var 2) (times (less (var 3) (var 0)) (var 4)))))
      (plus (var 1) (times (less (var 3) (var 0)) (plus (var 2) (times (var 3) (var 4)))))
      refl

  linear_none : (k x y : A) → r.add k (r.mul x r.zero) ≡ r.add k (r.mul y r.zero)
  linear_none k x y = simp ring_rules

  pub linear-value : (f k : A) (cs : List A) (x : A) → poly_value r (linear f k cs) x ≡ r.add k (r.mul (minus r x f) (poly_value r cs x))
  linear-value f k [] x = linear_none k x (minus r x f)
  linear-value f k (c ∷ cs) x =
      ap (λ y. r.add (minus r k (r.mul f c)) (r.mul x y)) (linear-value f c cs x) ∙ linear_step f k c x (poly_value r cs x)

  -- the polynomial (X - f) p
  pub shifted-value : (f : A) (cs : List A) (x : A) → poly_value r (linear f r.zero cs) x ≡ r.mul (minus r x f) (poly_value r cs x)
  shifted-value f cs x = linear-value f r.zero cs x ∙ zero_add r (r.mul (minus r x f) (poly_value r cs x))

  linear_zero_step : (f c k : A) → minus r k (r.mul f c) ≡ r.zero → c ≡ r.zero → k ≡ r.zero
  linear_zero_step f c k h e =
      ring r (k ∷ f ∷ c ∷ []) (var 0) (plus (less (var 0) (times (var 1) (var 2))) (times (var 1) (var 2))) refl
      ∙ (ap₂ r.add h (ap (r.mul f) e ∙ mul_zero r f) ∙ r.add_zero r.zero)

  linear_zero : (f k : A) (cs : List A) → AllZero r (linear f k cs) → AllZero r cs × (k ≡ r.zero)
  linear_zero f k [] h = (tt, h.0)
  linear_zero f k (c ∷ cs) h =
      let rest : AllZero r cs × (c ≡ r.zero) = linear_zero f c cs h.1 in
      ((rest.1, rest.0), linear_zero_step f c k h.0 rest.1)

  -- the polynomial p + m q
  abbrev pub add_scaled : A → List A → List A → List A
  add_scaled m [] [] = []
  add_scaled m [] (d ∷ ds) = r.mul m d ∷ add_scaled m [] ds
  add_scaled m (c ∷ cs) [] = c ∷ cs
  add_scaled m (c ∷ cs) (d ∷ ds) = r.add c (r.mul m d) ∷ add_scaled m cs ds

  pub add_scaled-length : (m : A) (cs ds : List A) (n : ℕ) → length cs ≡ n → length ds ≡ n → length (add_scaled m cs ds) ≡ n
  add_scaled-length m [] [] n h k = h
  add_scaled-length m [] (d ∷ ds) n h k = absurd (omega (arith, h, k))
  add_scaled-length m (c ∷ cs) [] n h k = h
  add_scaled-length m (c ∷ cs) (d ∷ ds) zero h k = absurd (omega (arith, h, k))
  add_scaled-length m (c ∷ cs) (d ∷ ds) (suc n) h k = ap suc (add_scaled-length m cs ds n (omega (arith, h)) (omega (arith, k)))

  pub add_scaled-most : (m : A) (cs ds : List A) (n : ℕ) → length cs ≤ n → length ds ≤ n → length (add_scaled m cs ds) ≤ n
  add_scaled-most m [] [] n h k = h
  add_scaled-most m [] (d ∷ ds) zero h k = absurd (omega (arith, k))
  add_scaled-most m [] (d ∷ ds) (suc n) h k = let rest = add_scaled-most m [] ds n (omega arith) (omega (arith, k)) in omega (arith, rest)
  add_scaled-most m (c ∷ cs) [] n h k = h
  add_scaled-most m (c ∷ cs) (d ∷ ds) zero h k = absurd (omega (arith, k))
  add_scaled-most m (c ∷ cs) (d ∷ ds) (suc n) h k = let rest = add_scaled-most m cs ds n (omega (arith, h)) (omega (arith, k)) in omega (arith, rest)

  scaled_none : (m : A) → r.zero ≡ r.add r.zero (r.mul m r.zero)
  scaled_none m = simp ring_rules

  scaled_first : (m d x q : A) → r.add (r.mul m d) (r.mul x (r.add r.zero (r.mul m q))) ≡ r.add r.zero (r.mul m (r.add d (r.mul x q)))
  scaled_first m d x q = simp ring_rules

  scaled_last : (m p : A) → p ≡ r.add p (r.mul m r.zero)
  scaled_last m p = simp ring_rules

  scaled_step : (m c d x p q : A) → r.add (r.add c (r.mul m d)) (r.mul x (r.add p (r.mul m q))) ≡ r.add (r.add c (r.mul x p)) (r.mul m (r.add d (r.mul x q)))
  scaled_step m c d x p q =
      ring r (m ∷ c ∷ d ∷ x ∷ p ∷ q ∷ [])
      (plus (plus (var 1) (times (var 0) (var 2))) (times (var 3) (plus (var 4) (times (var 0) (var 5)))))
      (plus (plus (var 1) (times (var 3) (var 4))) (times (var 0) (plus (var 2) (times (var 3) (var 5)))))
      refl

  pub add_scaled-value : (m : A) (cs ds : List A) (x : A) → poly_value r (add_scaled m cs ds) x ≡ r.add (poly_value r cs x) (r.mul m (poly_value r ds x))
  add_scaled-value m [] [] x = scaled_none m
  add_scaled-value m [] (d ∷ ds) x =
      ap (λ y. r.add (r.mul m d) (r.mul x y)) (add_scaled-value m [] ds x) ∙ scaled_first m d x (poly_value r ds x)
  add_scaled-value m (c ∷ cs) [] x = scaled_last m (poly_value r (c ∷ cs) x)
  add_scaled-value m (c ∷ cs) (d ∷ ds) x =
      ap (λ y. r.add (r.add c (r.mul m d)) (r.mul x y)) (add_scaled-value m cs ds x) ∙ scaled_step m c d x (poly_value r cs x) (poly_value r ds x)

  minus_one : (x y : A) → r.add x (r.mul (r.neg r.one) y) ≡ minus r x y
  minus_one x y = simp ring_rules

  -- the polynomial p - q
  abbrev pub difference : List A → List A → List A
  difference cs ds = add_scaled (r.neg r.one) cs ds

  pub difference-value : (cs ds : List A) (x : A) → poly_value r (difference cs ds) x ≡ minus r (poly_value r cs x) (poly_value r ds x)
  difference-value cs ds x = add_scaled-value (r.neg r.one) cs ds x ∙ minus_one (poly_value r cs x) (poly_value r ds x)

  pub difference_first : (x y : A) → r.add x (r.mul (r.neg r.one) y) ≡ r.zero → x ≡ y
  difference_first x y h =
      ring r (x ∷ y ∷ []) (var 0) (plus (less (var 0) (var 1)) (var 1)) refl ∙ (ap (λ z. r.add z y) (sym (minus_one x y) ∙ h) ∙ zero_add r y)

  -- a polynomial with no coefficient but zeros
  pub value_of_none : (cs : List A) (x : A) → AllZero r cs → poly_value r cs x ≡ r.zero
  value_of_none [] x h = refl
  value_of_none (c ∷ cs) x h =
      ap₂ (λ y z. r.add y (r.mul x z)) h.0 (value_of_none cs x h.1) ∙ zero_add r (r.mul x r.zero) ∙ mul_zero r x

  module _ (v : A) where
    -- the polynomial (X - v)^n p
    abbrev pub raise : ℕ → List A → List A
    raise zero cs = cs
    raise (suc n) cs = linear v r.zero (raise n cs)

    pub raise-length : (n : ℕ) (cs : List A) → length (raise n cs) ≡ n + length cs
    raise-length zero cs = omega arith
    raise-length (suc n) cs = omega (arith, linear-length v r.zero (raise n cs), raise-length n cs)

    pub raise-value : (n : ℕ) (cs : List A) (x : A) → poly_value r (raise n cs) x ≡ r.mul (power r (minus r x v) n) (poly_value r cs x)
    raise-value zero cs x = sym (one_mul r (poly_value r cs x))
    raise-value (suc n) cs x =
        shifted-value v (raise n cs) x
        ∙ (ap (r.mul (minus r x v)) (raise-value n cs x) ∙ one_more (minus r x v) (power r (minus r x v) n) (poly_value r cs x))

    pub raise_zero : (n : ℕ) (cs : List A) → AllZero r (raise n cs) → AllZero r cs
    raise_zero zero cs h = h
    raise_zero (suc n) cs h = raise_zero n cs (linear_zero v r.zero (raise n cs) h).0
