-- What the default bodies of a ring's calls make, step by step.
use Rattle.std.proofs.Common.{Result, IfOk, IfErr}
use Rattle.std.proofs.lemmas.Result.{IfOk-weaker, IfErr-weaker}
use Rattle.air_field.specs.Term.{Term, const_term, add_term, sub_term, mul_term}
use Rattle.air_field.specs.Part.{whole, in_add_left, in_sub_left, in_sub_right, in_mul_left}
use Rattle.air_field.specs.Algebra.{AlgebraLaws, Made, MadeOf, MadeOfBoth, RefusedOf, RefusedOfBoth, double_term, xor_term, andn_term}

module _ {R E F X : Type 0} {valid : R → Type 0} {has : R → E → Type 0} {means : R → E → Term F → Type 0} {extends : R → R → Type 0} {refuses : X → Term F → Type 0} (laws : AlgebraLaws valid has means extends refuses) where
  -- through the ring at p, q, s, u, v: the sum, the product, twice the product, the difference
  module _ (p q s u v : R) (x y sum product twice : E) (added : extends p q) (multiplied : extends q s) (doubled : extends s u) where
    -- the answer of the difference is the exclusive or, or an error that it allows
    pub xor_answers : (r : Result E X) → MadeOfBoth has means add_term p q x y sum → MadeOfBoth has means mul_term q s x y product → MadeOf has means double_term s u product twice
        → IfOk r (MadeOfBoth has means sub_term u v sum twice) → IfErr r (RefusedOfBoth means refuses sub_term u sum twice)
        → IfOk r (MadeOfBoth has means xor_term p v x y) × IfErr r (RefusedOfBoth means refuses xor_term p x y)
    xor_answers r summed product_made twice_made made refused =
        let sum_means = λ (t w : Term F) (m : means p x t) (n : means p y w).
        laws.means_stays s u sum _ doubled (laws.means_stays q s sum _ multiplied (summed.1 t w m n)) in
        let twice_means = λ (t w : Term F) (m : means p x t) (n : means p y w).
        twice_made.1 (mul_term t w) (product_made.1 t w (laws.means_stays p q x t added m) (laws.means_stays p q y w added n)) in (
          IfOk-weaker r _ _ (λ z h. (h.0, λ t w m n. h.1 (add_term t w) (double_term (mul_term t w)) (sum_means t w m n) (twice_means t w m n))) made,
          IfErr-weaker r _ _ (λ e h t w m n. h (add_term t w) (double_term (mul_term t w)) (sum_means t w m n) (twice_means t w m n)) refused,
        )

    pub xor_refused_twice : (e : X) → MadeOfBoth has means mul_term q s x y product → RefusedOf means refuses double_term s product e → RefusedOfBoth means refuses xor_term p x y e
    xor_refused_twice e product_made refused t w m n =
        laws.refuses_whole e (double_term (mul_term t w)) (xor_term t w) (in_sub_right whole)
        (refused (mul_term t w) (product_made.1 t w (laws.means_stays p q x t added m) (laws.means_stays p q y w added n)))

  pub xor_refused_product : (p q : R) (x y : E) (e : X) → extends p q → RefusedOfBoth means refuses mul_term q x y e → RefusedOfBoth means refuses xor_term p x y e
  xor_refused_product p q x y e added refused t w m n =
      laws.refuses_whole e (mul_term t w) (xor_term t w) (in_sub_right (in_add_left whole))
      (refused t w (laws.means_stays p q x t added m) (laws.means_stays p q y w added n))

  pub xor_refused_sum : (p : R) (x y : E) (e : X) → RefusedOfBoth means refuses add_term p x y e → RefusedOfBoth means refuses xor_term p x y e
  xor_refused_sum p x y e refused t w m n = laws.refuses_whole e (add_term t w) (xor_term t w) (in_sub_left whole) (refused t w m n)

  -- through the ring at p, q, s, u: one, one less x, the product
  module _ (one : F) (p q s u : R) (x y unit rest : E) (begun : extends p q) (made_unit : Made has means (const_term one) q unit) where
    -- the answer of the product is the term, or an error that it allows
    pub andn_answers : (r : Result E X) → extends q s → MadeOfBoth has means sub_term q s unit x rest
        → IfOk r (MadeOfBoth has means mul_term s u rest y) → IfErr r (RefusedOfBoth means refuses mul_term s rest y)
        → IfOk r (MadeOfBoth has means (andn_term one) p u x y) × IfErr r (RefusedOfBoth means refuses (andn_term one) p x y)
    andn_answers r less rest_made made refused =
        let rest_means = λ (t : Term F) (m : means p x t). rest_made.1 (const_term one) t made_unit.1 (laws.means_stays p q x t begun m) in
        let y_means = λ (w : Term F) (n : means p y w). laws.means_stays q s y w less (laws.means_stays p q y w begun n) in (
          IfOk-weaker r _ _ (λ z h. (h.0, λ t w m n. h.1 (sub_term (const_term one) t) w (rest_means t m) (y_means w n))) made,
          IfErr-weaker r _ _ (λ e h t w m n. h (sub_term (const_term one) t) w (rest_means t m) (y_means w n)) refused,
        )

    pub andn_refused_rest : (e : X) → RefusedOfBoth means refuses sub_term q unit x e → RefusedOfBoth means refuses (andn_term one) p x y e
    andn_refused_rest e refused t w m n =
        laws.refuses_whole e (sub_term (const_term one) t) (andn_term one t w) (in_mul_left whole)
        (refused (const_term one) t made_unit.1 (laws.means_stays p q x t begun m))

  pub andn_refused_one : (one : F) (p : R) (x y : E) (e : X) → refuses e (const_term one) → RefusedOfBoth means refuses (andn_term one) p x y e
  andn_refused_one one p x y e refused t w m n = laws.refuses_whole e (const_term one) (andn_term one t w) (in_mul_left (in_sub_left whole)) refused
