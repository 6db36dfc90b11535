-- Consequences of the laws that make two terms equal.
use Rattle.std.proofs.Common.{subst}
use Rattle.air_field.specs.Ring.{CommRing, minus}
use Rattle.air_field.specs.Term.{Term, const_term, add_term, sub_term, neg_term, mul_term}
use Rattle.air_field.specs.Same.{Same, same_refl, same_sym, same_trans, same_add, same_neg, const_add, add_zero, mul_one}
use Rattle.air_field.specs.Same.{assoc_add, comm_add, add_opposite, sub_is, comm_mul, mul_sum, same_mul}

module _ {F : Type 0} {r : CommRing F} where
  pub same_sub : {t u v w : Term F} → Same r t v → Same r u w → Same r (sub_term t u) (sub_term v w)
  same_sub h k = same_trans sub_is (same_trans (same_add h (same_neg k)) (same_sym sub_is))

  pub zero_add : {t : Term F} → Same r t (add_term (const_term r.zero) t)
  zero_add = same_trans add_zero comm_add

  pub one_mul : {t : Term F} → Same r t (mul_term (const_term r.one) t)
  one_mul = same_trans mul_one comm_mul

  -- only the negative of u gives zero when added to u
  opposite_is : {u v : Term F} → Same r (add_term u v) (const_term r.zero) → Same r v (neg_term u)
  opposite_is {u = u} {v = v} h =
      same_trans (zero_add {t = v}) (same_trans (same_add (same_sym (add_opposite {t = u})) same_refl)
      (same_trans (same_add comm_add same_refl) (same_trans assoc_add
      (same_trans (same_add same_refl h) (same_sym add_zero)))))

  pub const_neg : {x : F} → Same r (const_term (r.neg x)) (neg_term (const_term x))
  const_neg {x = x} =
      opposite_is (same_trans (same_sym const_add)
      (subst (λ c. Same r (const_term (r.add x (r.neg x))) (const_term c)) (r.add_neg x) same_refl))

  pub const_sub : {x y : F} → Same r (const_term (minus r x y)) (sub_term (const_term x) (const_term y))
  const_sub = same_trans const_add (same_trans (same_add same_refl const_neg) (same_sym sub_is))

  neg_zero : Same r (neg_term (const_term r.zero)) (const_term r.zero)
  neg_zero = same_trans zero_add add_opposite

  pub zero_sub : {t : Term F} → Same r (neg_term t) (sub_term (const_term r.zero) t)
  zero_sub = same_trans zero_add (same_sym sub_is)

  pub sub_zero : {t : Term F} → Same r t (sub_term t (const_term r.zero))
  sub_zero = same_trans add_zero (same_trans (same_add same_refl (same_sym neg_zero)) (same_sym sub_is))

  -- only zero is unchanged when added to itself
  doubled_is_zero : {t : Term F} → Same r t (add_term t t) → Same r (const_term r.zero) t
  doubled_is_zero {t = t} h =
      same_trans (same_sym (add_opposite {t = t})) (same_trans (same_add h same_refl)
      (same_trans assoc_add (same_trans (same_add same_refl add_opposite) (same_sym add_zero))))

  pub mul_zero : {t : Term F} → Same r (const_term r.zero) (mul_term t (const_term r.zero))
  mul_zero = doubled_is_zero (same_trans (same_mul same_refl add_zero) mul_sum)

  pub zero_mul : {t : Term F} → Same r (const_term r.zero) (mul_term (const_term r.zero) t)
  zero_mul = same_trans mul_zero comm_mul
