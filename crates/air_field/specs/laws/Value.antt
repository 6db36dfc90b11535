-- Values of terms.
use Rattle.std.proofs.Common.{◌≡◌, refl, sym, ap, ap₂, ◌∙◌}
use Rattle.air_field.specs.Ring.{CommRing, minus, AlgebraOver, AlgebraOverLaws, self_algebra}
use Rattle.air_field.specs.Term.{Leaf, Term, leaf_term, const_term, ext_const_term, add_term, sub_term, neg_term, mul_term, with_leaves, IsBase}
use Rattle.air_field.specs.Value.{value}
use Rattle.air_field.specs.Algebra.{closed_value_in, closed_value}
use Rattle.air_field.specs.laws.Sums.{embed_neg, embed_minus}

-- Terms that replace the leaves contribute their values.
module _ {F E : Type 0} (a : AlgebraOver F E) (at : Leaf → E) (s : Leaf → Term F) where
  pub value-leaves : (t : Term F) → value a at (with_leaves s t) ≡ value a (λ l. value a at (s l)) t
  value-leaves (leaf_term l) = refl
  value-leaves (const_term c) = refl
  value-leaves (ext_const_term c) = refl
  value-leaves (add_term t u) = ap₂ a.ring.add (value-leaves t) (value-leaves u)
  value-leaves (sub_term t u) = ap₂ (minus a.ring) (value-leaves t) (value-leaves u)
  value-leaves (neg_term t) = ap a.ring.neg (value-leaves t)
  value-leaves (mul_term t u) = ap₂ a.ring.mul (value-leaves t) (value-leaves u)

-- The value of a base term in an algebra is the image of its value.
module _ {F E : Type 0} (r : CommRing F) (a : AlgebraOver F E) (m : AlgebraOverLaws r a) where
  pub value-embed : (at : Leaf → F) (t : Term F) → IsBase t → value a (λ l. a.embed (at l)) t ≡ a.embed (value (self_algebra r) at t)
  value-embed at (leaf_term l) h = refl
  value-embed at (const_term c) h = refl
  value-embed at (ext_const_term c) h = absurd h
  value-embed at (add_term t u) h =
      ap₂ a.ring.add (value-embed at t h.0) (value-embed at u h.1) ∙ sym (m.embed_add (value (self_algebra r) at t) (value (self_algebra r) at u))
  value-embed at (sub_term t u) h =
      ap₂ (minus a.ring) (value-embed at t h.0) (value-embed at u h.1) ∙ sym (embed_minus r a m (value (self_algebra r) at t) (value (self_algebra r) at u))
  value-embed at (neg_term t) h = ap a.ring.neg (value-embed at t h) ∙ sym (embed_neg r a m (value (self_algebra r) at t))
  value-embed at (mul_term t u) h =
      ap₂ a.ring.mul (value-embed at t h.0) (value-embed at u h.1) ∙ sym (m.embed_mul (value (self_algebra r) at t) (value (self_algebra r) at u))

  pub closed_value-embed : (t : Term F) → IsBase t → closed_value_in a t ≡ a.embed (closed_value r t)
  closed_value-embed t h = ap (λ z. value a (λ _. z) t) (sym m.embed_zero) ∙ value-embed (λ _. r.zero) t h
