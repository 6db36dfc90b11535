-- The whole numbers modulo p, however a type stores them: a commutative ring.
use Rattle.std.specs.Prelude.{◌≡◌, ℕ, ◌+◌, ◌*◌, ◌-◌, ◌%◌, ◌<◌}
use Rattle.std.proofs.Common.{sym, ◌∙◌, ap}
use Rattle.air_field.specs.Ring.{CommRing}
use Rattle.air_field.specs.laws.Residues.{add_assoc_at, add_comm_at, add_nil_at, add_neg_at, mul_assoc_at, mul_comm_at, mul_one_at, mul_add_at}

-- each number below p is the value of exactly one element of A
pub record Modular (A : Type 0) (p : ℕ) : Type 0 where
  pub value : A → ℕ
  pub class : ℕ → A
  pub value_class : (n : ℕ) → value (class n) ≡ n % p
  pub bound : (a : A) → value a < p
  pub same : (a b : A) → value a ≡ value b → a ≡ b

abbrev pub modular_add : {A : Type 0} {p : ℕ} → Modular A p → A → A → A
modular_add m a b = m.class (m.value a + m.value b)

abbrev pub modular_mul : {A : Type 0} {p : ℕ} → Modular A p → A → A → A
modular_mul m a b = m.class (m.value a * m.value b)

abbrev pub modular_neg : {A : Type 0} {p : ℕ} → Modular A p → A → A
modular_neg {p = p} m a = m.class (p - m.value a)

abbrev pub modular_ring : {A : Type 0} {p : ℕ} → Modular A p → CommRing A
modular_ring {p = p} m =
    record {
      zero = m.class 0;
      one = m.class 1;
      add = modular_add m;
      mul = modular_mul m;
      neg = modular_neg m;
      add_assoc = λ a b c. m.same _ _ (m.value_class _
          ∙ (ap (λ s. (s + m.value c) % p) (m.value_class (m.value a + m.value b))
          ∙ (add_assoc_at p (m.value a) (m.value b) (m.value c)
          ∙ sym (m.value_class _ ∙ ap (λ s. (m.value a + s) % p) (m.value_class (m.value b + m.value c))))));
      add_comm = λ a b. m.same _ _ (m.value_class _ ∙ (add_comm_at p (m.value a) (m.value b) ∙ sym (m.value_class _)));
      add_zero = λ a. m.same _ _ (m.value_class _ ∙ (ap (λ s. (m.value a + s) % p) (m.value_class 0) ∙ add_nil_at p (m.value a) (m.bound a)));
      add_neg = λ a. m.same _ _ (m.value_class _
          ∙ (ap (λ s. (m.value a + s) % p) (m.value_class (p - m.value a)) ∙ (add_neg_at p (m.value a) (m.bound a) ∙ sym (m.value_class 0))));
      mul_assoc = λ a b c. m.same _ _ (m.value_class _
          ∙ (ap (λ s. (s * m.value c) % p) (m.value_class (m.value a * m.value b))
          ∙ (mul_assoc_at p (m.value a) (m.value b) (m.value c)
          ∙ sym (m.value_class _ ∙ ap (λ s. (m.value a * s) % p) (m.value_class (m.value b * m.value c))))));
      mul_comm = λ a b. m.same _ _ (m.value_class _ ∙ (mul_comm_at p (m.value a) (m.value b) ∙ sym (m.value_class _)));
      mul_one = λ a. m.same _ _ (m.value_class _ ∙ (ap (λ s. (m.value a * s) % p) (m.value_class 1) ∙ mul_one_at p (m.value a) (m.bound a)));
      mul_add = λ a b c. m.same _ _ (m.value_class _
          ∙ (ap (λ s. (m.value a * s) % p) (m.value_class (m.value b + m.value c))
          ∙ (mul_add_at p (m.value a) (m.value b) (m.value c)
          ∙ sym (m.value_class _
          ∙ (ap (λ s. (s + m.value (m.class (m.value a * m.value c))) % p) (m.value_class (m.value a * m.value b))
          ∙ ap (λ s. ((m.value a * m.value b) % p + s) % p) (m.value_class (m.value a * m.value c)))))));
    }
