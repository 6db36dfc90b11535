-- Terms with one polynomial in every algebra, and terms that simplify others.
use Rattle.std.specs.Prelude.{ℕ, ◌≤◌, List, ◌∷◌}
use Rattle.air_field.specs.Ring.{CommRing, AllZero}
use Rattle.air_field.specs.Term.{Leaf, Term, const_term, ext_const_term, add_term, sub_term, neg_term, mul_term}
use Rattle.air_field.specs.Degree.{degree_by}

-- Two terms that the laws of a commutative algebra over F make equal: they are one element of the free algebra over the
-- leaves. So they have one polynomial under every assignment, in every such algebra. Further equalities that follow, as
-- of t and 0 + t, are in laws/Same.
pub data Same {F : Type 0} (r : CommRing F) : Term F → Term F → Type 0 where
  same_refl : {t : Term F} → Same r t t
  same_sym : {t u : Term F} → Same r t u → Same r u t
  same_trans : {t u v : Term F} → Same r t u → Same r u v → Same r t v
  same_add : {t u v w : Term F} → Same r t v → Same r u w → Same r (add_term t u) (add_term v w)
  same_neg : {t v : Term F} → Same r t v → Same r (neg_term t) (neg_term v)
  same_mul : {t u v w : Term F} → Same r t v → Same r u w → Same r (mul_term t u) (mul_term v w)
  const_add : {x y : F} → Same r (const_term (r.add x y)) (add_term (const_term x) (const_term y))
  const_mul : {x y : F} → Same r (const_term (r.mul x y)) (mul_term (const_term x) (const_term y))
  add_zero : {t : Term F} → Same r t (add_term t (const_term r.zero))
  mul_one : {t : Term F} → Same r t (mul_term t (const_term r.one))
  assoc_add : {t u v : Term F} → Same r (add_term (add_term t u) v) (add_term t (add_term u v))
  comm_add : {t u : Term F} → Same r (add_term t u) (add_term u t)
  add_opposite : {t : Term F} → Same r (add_term t (neg_term t)) (const_term r.zero)
  sub_is : {t u : Term F} → Same r (sub_term t u) (add_term t (neg_term u))
  assoc_mul : {t u v : Term F} → Same r (mul_term (mul_term t u) v) (mul_term t (mul_term u v))
  comm_mul : {t u : Term F} → Same r (mul_term t u) (mul_term u t)
  mul_sum : {t u v : Term F} → Same r (mul_term t (add_term u v)) (add_term (mul_term t u) (mul_term t v))
  ext_base : {x : F} {xs : List F} → AllZero r xs → Same r (const_term x) (ext_const_term (x ∷ xs))

-- u simplifies t: the same polynomial everywhere, and no greater degree under any weights of the leaves
pub record Simplifies {F : Type 0} (r : CommRing F) (u t : Term F) : Type 0 where
  pub same : Same r u t
  pub degree_le : (w : Leaf → ℕ) → degree_by w u ≤ degree_by w t
