-- Consequences of the laws of extensions: padded lists, and the ring with its coefficients.
use Rattle.std.specs.Prelude.{◌≡◌, ℕ, zero, suc, ◌-◌, ◌<◌, List, [], ◌∷◌, length, replicate, refl}
use Rattle.std.proofs.Common.{sym, ◌∙◌, ap, ap₂, arith}
use Rattle.air_field.specs.Ring.{CommRing, AllZero, AlgebraOver, AlgebraOverLaws}
use Rattle.air_field.specs.RingOps.{ops}
use Rattle.air_field.specs.laws.Ring.{mul_zero, add_cancel}
use Rattle.air_field.specs.Coefficients.{poly_add, poly_scale, pad_to}
use Rattle.air_field.specs.Extension.{Basis, ExtensionLaws}

-- ---- lists of coefficients

pub length-padded : {A : Type 0} (d : A) (n : ℕ) (p : List A) → length (pad_to d n p) ≡ n
length-padded d zero p = refl
length-padded d (suc n) [] = ap suc (length-padded d n [])
length-padded d (suc n) (x ∷ p) = ap suc (length-padded d n p)

-- padding to n leaves a list of n coefficients as it is
pub padded-whole : {A : Type 0} (d : A) (n : ℕ) (p : List A) → length p ≡ n → pad_to d n p ≡ p
padded-whole d zero [] h = refl
padded-whole d zero (x ∷ p) h = absurd (omega arith)
padded-whole d (suc n) [] h = absurd (omega arith)
padded-whole d (suc n) (x ∷ p) h = ap (λ l. x ∷ l) (padded-whole d n p (omega arith))

pub padded-nil : {A : Type 0} (d : A) (n : ℕ) → pad_to d n [] ≡ replicate n d
padded-nil d zero = refl
padded-nil d (suc n) = ap (λ l. d ∷ l) (padded-nil d n)

module _ {F : Type 0} (R : CommRing F) where
  pub AllZero-replicate : (n : ℕ) → AllZero R (replicate n R.zero)
  AllZero-replicate zero = tt
  AllZero-replicate (suc n) = (refl, AllZero-replicate n)

  pub padded-zeros : (n : ℕ) (p : List F) → AllZero R p → pad_to R.zero n p ≡ replicate n R.zero
  padded-zeros zero p h = refl
  padded-zeros (suc n) [] h = ap (λ l. R.zero ∷ l) (padded-nil R.zero n)
  padded-zeros (suc n) (x ∷ p) h = ap₂ (λ c l. c ∷ l) h.0 (padded-zeros n p h.1)

  add-zeros : (n : ℕ) → poly_add (ops R) (replicate n R.zero) (replicate n R.zero) ≡ replicate n R.zero
  add-zeros zero = refl
  add-zeros (suc n) = ap₂ (λ c l. c ∷ l) (R.add_zero R.zero) (add-zeros n)

  scale-zeros : (c : F) (n : ℕ) → poly_scale (ops R) c (replicate n R.zero) ≡ replicate n R.zero
  scale-zeros c zero = refl
  scale-zeros c (suc n) = ap₂ (λ x l. x ∷ l) (mul_zero R c) (scale-zeros c n)

  -- the coefficients past the first
  padded-first : (n : ℕ) (x : F) (p : List F) → 0 < n → AllZero R p → pad_to R.zero n (x ∷ p) ≡ x ∷ replicate (n - 1) R.zero
  padded-first zero x p pos h = absurd (omega arith)
  padded-first (suc n) x p pos h = ap (λ l. x ∷ l) (padded-zeros n p h ∙ ap (λ k. replicate k R.zero) (less_one n))
    where
      less_one : (k : ℕ) → k ≡ suc k - 1
      less_one k = omega arith

-- An extension is an algebra over the base ring.
module _ {F E : Type 0} (R : CommRing F) (a : AlgebraOver F E) (basis : Basis F E) (n : ℕ) (laws : ExtensionLaws R a basis n) where
  extension-add : (x y : F) → a.embed (R.add x y) ≡ a.ring.add (a.embed x) (a.embed y)
  extension-add x y =
      laws.same (a.embed (R.add x y)) (a.ring.add (a.embed x) (a.embed y))
      (laws.embed_is (R.add x y)
      ∙ sym (laws.add_is (a.embed x) (a.embed y)
      ∙ (ap₂ (poly_add (ops R)) (laws.embed_is x) (laws.embed_is y) ∙ ap (λ l. R.add x y ∷ l) (add-zeros R (n - 1)))))

  extension-mul : (x y : F) → a.embed (R.mul x y) ≡ a.ring.mul (a.embed x) (a.embed y)
  extension-mul x y =
      laws.same (a.embed (R.mul x y)) (a.ring.mul (a.embed x) (a.embed y))
      (laws.embed_is (R.mul x y)
      ∙ sym (laws.scale_is x (a.embed y)
      ∙ (ap (poly_scale (ops R) x) (laws.embed_is y) ∙ ap (λ l. R.mul x y ∷ l) (scale-zeros R x (n - 1)))))

  extension-nil : a.embed R.zero ≡ a.ring.zero
  extension-nil =
      add_cancel a.ring (a.embed R.zero) (a.embed R.zero) a.ring.zero
      (sym (extension-add R.zero R.zero) ∙ (ap a.embed (R.add_zero R.zero) ∙ sym (a.ring.add_zero (a.embed R.zero))))

  extension-base : (x : F) (xs : List F) → AllZero R xs → a.extend (x ∷ xs) ≡ a.embed x
  extension-base x xs h =
      laws.same (a.extend (x ∷ xs)) (a.embed x)
      (laws.extend_is (x ∷ xs) ∙ (padded-first R n x xs laws.positive h ∙ sym (laws.embed_is x)))

  pub extension_over_laws : AlgebraOverLaws R a
  extension_over_laws =
      record {
        embed_zero = extension-nil;
        embed_one = laws.embed_one;
        embed_add = extension-add;
        embed_mul = extension-mul;
        extend_base = extension-base;
      }

  -- the element of an element's own coefficients
  pub extend-coefficients : (x : E) → a.extend (basis.coefficients x) ≡ x
  extend-coefficients x =
      laws.same (a.extend (basis.coefficients x)) x (laws.extend_is (basis.coefficients x) ∙ padded-whole R.zero n (basis.coefficients x) (laws.count x))
