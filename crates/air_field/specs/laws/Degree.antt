-- Degrees of terms.
use Rattle.std.proofs.Common.{ℕ, zero, suc, ◌+◌, ◌-◌, ◌<◌, ◌≤◌, List, slice_index_or, refl, ap, ◌∙◌, arith, ⊎_elim}
use Rattle.std.proofs.Math.Nat.{le-max_left, le-max_right}
use Rattle.std.proofs.lemmas.Bool.{cases_lt}
use Rattle.air_field.specs.Ring.{CommRing, AlgebraOver}
use Rattle.air_field.specs.laws.Ring.{zero_mul, mul_zero, neg_zero}
use Rattle.air_field.specs.Term.{Leaf, Term, leaf_term, const_term, ext_const_term, add_term, sub_term, neg_term, mul_term}
use Rattle.air_field.specs.Polynomial.{convolve, polynomial, HasDegreeAtMost}
use Rattle.air_field.specs.Degree.{degree_by}
use Rattle.air_field.specs.Same.{same_refl, same_trans, same_add, same_neg, same_mul, Simplifies}
use Rattle.air_field.specs.laws.Same.{same_sub}
use Rattle.air_field.specs.laws.Sums.{constant_coefficients}
use Rattle.air_field.specs.laws.Sums as sums

module _ {E : Type 0} (r : CommRing E) where
  only-degree : (c : E) (d : ℕ) → HasDegreeAtMost r (constant_coefficients r c) d
  only-degree c d zero b = absurd (omega arith)
  only-degree c d (suc k) b = refl

  convolve-degree : (f g : ℕ → E) (d e : ℕ) → HasDegreeAtMost r f d → HasDegreeAtMost r g e → HasDegreeAtMost r (convolve r f g) (d + e)
  convolve-degree f g d e hf hg k b =
      sums.sum_to-nil r (λ i. r.mul (f i) (g (k - i))) k
      (λ i c. ⊎_elim
      (λ (lt : d < i). ap (λ x. r.mul x (g (k - i))) (hf i lt) ∙ zero_mul r (g (k - i)))
      (λ (ge : i ≤ d). ap (λ x. r.mul (f i) x) (hg (k - i) (omega arith)) ∙ mul_zero r (f i))
      (cases_lt d i))

-- If each leaf's polynomial is within its weight, a term's polynomial is within its degree.
pub polynomial-degree : {F E : Type 0} (a : AlgebraOver F E) (s : Leaf → List E) (w : Leaf → ℕ)
    → ((x : Leaf) → HasDegreeAtMost a.ring (λ n. slice_index_or (s x) n a.ring.zero) (w x)) → (t : Term F)
    → HasDegreeAtMost a.ring (polynomial a s t) (degree_by w t)
polynomial-degree a s w h (leaf_term x) k b = h x k b
polynomial-degree a s w h (const_term c) k b = only-degree a.ring (a.embed c) 0 k b
polynomial-degree a s w h (ext_const_term c) k b = only-degree a.ring (a.extend c) 0 k b
polynomial-degree a s w h (add_term t u) k b =
    let x : degree_by w t < k = omega (arith, le-max_left (degree_by w t) (degree_by w u)) in
    let y : degree_by w u < k = omega (arith, le-max_right (degree_by w t) (degree_by w u)) in
    cc (polynomial-degree a s w h t k x, polynomial-degree a s w h u k y, a.ring.add_zero a.ring.zero)
polynomial-degree a s w h (sub_term t u) k b =
    let x : degree_by w t < k = omega (arith, le-max_left (degree_by w t) (degree_by w u)) in
    let y : degree_by w u < k = omega (arith, le-max_right (degree_by w t) (degree_by w u)) in
    cc (polynomial-degree a s w h t k x, polynomial-degree a s w h u k y, neg_zero a.ring, a.ring.add_zero a.ring.zero)
polynomial-degree a s w h (neg_term t) k b = cc (polynomial-degree a s w h t k b, neg_zero a.ring)
polynomial-degree a s w h (mul_term t u) k b =
    convolve-degree a.ring (polynomial a s t) (polynomial a s u) (degree_by w t) (degree_by w u) (polynomial-degree a s w h t) (polynomial-degree a s w h u) k b

-- Each operation preserves `Simplifies`.
module _ {F : Type 0} (r : CommRing F) where
  pub Simplifies-refl : (t : Term F) → Simplifies r t t
  Simplifies-refl t = record { same = same_refl; degree_le = λ w. omega arith }

  pub Simplifies-trans : (t u v : Term F) → Simplifies r t u → Simplifies r u v → Simplifies r t v
  Simplifies-trans t u v h k = record { same = same_trans h.same k.same; degree_le = λ w. omega (arith, h.degree_le w, k.degree_le w) }

  pub Simplifies-add : (t u v w : Term F) → Simplifies r t v → Simplifies r u w → Simplifies r (add_term t u) (add_term v w)
  Simplifies-add t u v w h k = record { same = same_add h.same k.same; degree_le = λ x. omega (arith, h.degree_le x, k.degree_le x) }

  pub Simplifies-sub : (t u v w : Term F) → Simplifies r t v → Simplifies r u w → Simplifies r (sub_term t u) (sub_term v w)
  Simplifies-sub t u v w h k = record { same = same_sub h.same k.same; degree_le = λ x. omega (arith, h.degree_le x, k.degree_le x) }

  pub Simplifies-neg : (t v : Term F) → Simplifies r t v → Simplifies r (neg_term t) (neg_term v)
  Simplifies-neg t v h = record { same = same_neg h.same; degree_le = h.degree_le }

  pub Simplifies-mul : (t u v w : Term F) → Simplifies r t v → Simplifies r u w → Simplifies r (mul_term t u) (mul_term v w)
  Simplifies-mul t u v w h k = record { same = same_mul h.same k.same; degree_le = λ x. omega (arith, h.degree_le x, k.degree_le x) }
