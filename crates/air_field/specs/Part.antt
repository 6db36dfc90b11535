-- Parts of terms.
use Rattle.air_field.specs.Term.{Term, add_term, sub_term, neg_term, mul_term}

-- the first term is a part of the second
pub data Part {F : Type 0} : Term F → Term F → Type 0 where
  whole : {t : Term F} → Part t t
  in_add_left : {t u v : Term F} → Part t u → Part t (add_term u v)
  in_add_right : {t u v : Term F} → Part t v → Part t (add_term u v)
  in_sub_left : {t u v : Term F} → Part t u → Part t (sub_term u v)
  in_sub_right : {t u v : Term F} → Part t v → Part t (sub_term u v)
  in_neg : {t u : Term F} → Part t u → Part t (neg_term u)
  in_mul_left : {t u v : Term F} → Part t u → Part t (mul_term u v)
  in_mul_right : {t u v : Term F} → Part t v → Part t (mul_term u v)
