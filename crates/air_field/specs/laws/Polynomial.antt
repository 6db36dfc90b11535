-- Polynomials of terms.
use Rattle.std.proofs.Common.{◌≡◌, ℕ, zero, suc, List, [], ◌∷◌, slice_index_or, refl, sym, ap, ◌∙◌}
use Rattle.air_field.specs.Ring.{CommRing, AlgebraOver, AlgebraOverLaws}
use Rattle.air_field.specs.laws.Ring.{mul_zero}
use Rattle.air_field.specs.Term.{Leaf, Term, leaf_term, const_term, ext_const_term, add_term, sub_term, neg_term, mul_term}
use Rattle.air_field.specs.Value.{value}
use Rattle.air_field.specs.Polynomial.{polynomial}
use Rattle.air_field.specs.Same.{Same, same_refl, same_sym, same_trans, same_add, same_neg, same_mul}
use Rattle.air_field.specs.Same.{const_add, const_mul, add_zero, mul_one, assoc_add, comm_add, add_opposite, sub_is}
use Rattle.air_field.specs.Same.{assoc_mul, comm_mul, mul_sum, ext_base}
use Rattle.air_field.specs.laws.Sums.{constant_coefficients}
use Rattle.air_field.specs.laws.Sums as sums

-- The constant coefficient is the value.
pub polynomial-zero : {F E : Type 0} (a : AlgebraOver F E) (s : Leaf → List E) (t : Term F) → polynomial a s t 0 ≡ value a (λ l. slice_index_or (s l) 0 a.ring.zero) t
polynomial-zero a s (leaf_term l) = refl
polynomial-zero a s (const_term c) = refl
polynomial-zero a s (ext_const_term c) = refl
polynomial-zero a s (add_term t u) = cc (polynomial-zero a s t, polynomial-zero a s u)
polynomial-zero a s (sub_term t u) = cc (polynomial-zero a s t, polynomial-zero a s u)
polynomial-zero a s (neg_term t) = cc (polynomial-zero a s t)
polynomial-zero a s (mul_term t u) = cc (polynomial-zero a s t, polynomial-zero a s u)

-- If each leaf's list has one element, a polynomial's constant coefficient is the value.
pub polynomial-lists_of_one : {F E : Type 0} (a : AlgebraOver F E) (v : Leaf → E) (t : Term F) → polynomial a (λ l. v l ∷ []) t 0 ≡ value a v t
polynomial-lists_of_one a v t = polynomial-zero a (λ l. v l ∷ []) t

-- Terms that the laws make equal have one polynomial, in every algebra.
module _ {F E : Type 0} (r : CommRing F) (a : AlgebraOver F E) (m : AlgebraOverLaws r a) (s : Leaf → List E) where
  pub Same-poly : {t u : Term F} → Same r t u → (n : ℕ) → polynomial a s t n ≡ polynomial a s u n
  Same-poly same_refl n = refl
  Same-poly (same_sym h) n = sym (Same-poly h n)
  Same-poly (same_trans h k) n = Same-poly h n ∙ Same-poly k n
  Same-poly (same_add h k) n = cc (Same-poly h n, Same-poly k n)
  Same-poly (same_neg h) n = cc (Same-poly h n)
  Same-poly (same_mul {t = t} {u = u} {v = v} {w = w} h k) n =
      sums.convolve-ext a.ring (polynomial a s t) (polynomial a s u) (polynomial a s v) (polynomial a s w) n (Same-poly h) (Same-poly k)
  Same-poly (const_add {x = x} {y = y}) zero = m.embed_add x y
  Same-poly (const_add {x = x} {y = y}) (suc n) = sym (a.ring.add_zero a.ring.zero)
  Same-poly (const_mul {x = x} {y = y}) zero = m.embed_mul x y
  Same-poly (const_mul {x = x} {y = y}) (suc n) =
      sym (sums.convolve-only_left a.ring (a.embed x) (constant_coefficients a.ring (a.embed y)) (suc n) ∙ mul_zero a.ring (a.embed x))
  Same-poly (add_zero {t = t}) n =
      cc (m.embed_zero, sums.only-nil a.ring n, a.ring.add_zero (polynomial a s t n))
  Same-poly (mul_one {t = t}) n =
      cc (m.embed_one, sums.convolve-only_right a.ring (polynomial a s t) (a.embed r.one) n, a.ring.mul_one (polynomial a s t n))
  Same-poly (assoc_add {t = t} {u = u} {v = v}) n = a.ring.add_assoc (polynomial a s t n) (polynomial a s u n) (polynomial a s v n)
  Same-poly (comm_add {t = t} {u = u}) n = a.ring.add_comm (polynomial a s t n) (polynomial a s u n)
  Same-poly (add_opposite {t = t}) n = cc (a.ring.add_neg (polynomial a s t n), m.embed_zero, sums.only-nil a.ring n)
  Same-poly (sub_is {t = t} {u = u}) n = refl
  Same-poly (assoc_mul {t = t} {u = u} {v = v}) n = sums.convolve-assoc a.ring (polynomial a s t) (polynomial a s u) (polynomial a s v) n
  Same-poly (comm_mul {t = t} {u = u}) n = sums.convolve-comm a.ring (polynomial a s t) (polynomial a s u) n
  Same-poly (mul_sum {t = t} {u = u} {v = v}) n = sums.convolve-add a.ring (polynomial a s t) (polynomial a s u) (polynomial a s v) n
  Same-poly (ext_base {x = x} {xs = xs} z) n = ap (λ c. constant_coefficients a.ring c n) (sym (m.extend_base x xs z))

  -- so they have one value under every assignment
  pub Same-value : {t u : Term F} → Same r t u → value a (λ l. slice_index_or (s l) 0 a.ring.zero) t ≡ value a (λ l. slice_index_or (s l) 0 a.ring.zero) u
  Same-value {t = t} {u = u} h = sym (polynomial-zero a s t) ∙ (Same-poly h 0 ∙ polynomial-zero a s u)
