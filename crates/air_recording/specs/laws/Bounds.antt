-- A bound on the degrees of terms bounds the degrees of their polynomials over n rows.
use Rattle.std.proofs.Common.{◌≡◌, ℕ, zero, suc, ◌+◌, ◌-◌, ◌*◌, add-mul, ◌<◌, ◌≤◌, max, List, slice_index_or, sym, subst, arith}
use Rattle.std.proofs.Math.Nat.{max-le, le-max_left, le-max_right, lt_of_mul-lt-mul_right, mul-le-mul_left, mul-le-mul_right, suc-mul}
use Rattle.std.proofs.lemmas.Grind.{div_ceil_times}
use Rattle.std.specs.Int.{div_ceil}
use Rattle.air_field.specs.Ring.{AlgebraOver}
use Rattle.air_field.specs.Term.{Leaf, Term, leaf_term, const_term, ext_const_term, add_term, sub_term, neg_term, mul_term}
use Rattle.air_field.specs.Degree.{degree_by, transition_weight, quotient_degree}
use Rattle.air_field.specs.laws.Degree.{polynomial-degree}
use Rattle.air_recording.specs.Bounds.{leaf_degree, polynomial_bound, DegreesWithin, PolynomialsWithin, IsDegreeFor}

-- ---- The quotient degree

quotient_of : (k n : ℕ) → quotient_degree (suc k) n ≡ div_ceil k (max (n - 1) 1)
quotient_of k n = Prim.grind arith

-- for the quotient degree d of p: p ≤ d (n - 1) + 1
pub quotient_reaches : (p n : ℕ) → p ≤ quotient_degree p n * max (n - 1) 1 + 1
quotient_reaches zero n = omega arith
quotient_reaches (suc k) n =
    let m = max (n - 1) 1 in
    subst (λ x. suc k ≤ x * m + 1) (sym (quotient_of k n)) (one_more (div_ceil k m) m (div_ceil_times k m (omega arith)).0)
  where
    one_more : (q m : ℕ) → k ≤ q * m → suc k ≤ q * m + 1
    one_more q m h = omega (arith, h)

-- no smaller number is one
pub quotient_least : (p n e : ℕ) → p ≤ e * max (n - 1) 1 + 1 → quotient_degree p n ≤ e
quotient_least zero n e b = omega arith
quotient_least (suc k) n e b =
    let m = max (n - 1) 1 in
    subst (λ x. x ≤ e) (sym (quotient_of k n)) (at_most (div_ceil k m) m (div_ceil_times k m (omega arith)).1 b)
  where
    at_most : (q m : ℕ) → q * m < k + m → suc k ≤ e * m + 1 → q ≤ e
    at_most q m h b = let lt : q < suc e = lt_of_mul-lt-mul_right m (omega (arith, h, b, suc-mul e m)) in omega (arith, lt)

-- a greater degree has no smaller quotient
pub quotient_mono : (p q n : ℕ) → p ≤ q → quotient_degree p n ≤ quotient_degree q n
quotient_mono p q n h = quotient_least p n (quotient_degree q n) (up (quotient_degree q n * max (n - 1) 1 + 1) (quotient_reaches q n))
  where
    up : (r : ℕ) → q ≤ r → p ≤ r
    up r k = omega (arith, h, k)

pub quotient_within : (p n : ℕ) → quotient_degree p n ≤ p
quotient_within p n = quotient_least p n p (times (max (n - 1) 1) (omega arith))
  where
    times : (m : ℕ) → 1 ≤ m → p ≤ p * m + 1
    times m h = omega (arith, mul-le-mul_left {m = 1} {n = m} p h)

-- ---- Bounds

greater_scaled : {x y : ℕ} (a b k : ℕ) → x ≤ a * k → y ≤ b * k → max x y ≤ max a b * k
greater_scaled a b k h i =
    max-le (omega (arith, h, mul-le-mul_right {m = a} {n = max a b} k (le-max_left a b))) (omega (arith, i, mul-le-mul_right {m = b} {n = max a b} k (le-max_right a b)))

-- If each weight is multiplied by k, a degree is at most k times as great.
scaled_within : {F : Type 0} (w : Leaf → ℕ) (k : ℕ) (t : Term F) → degree_by (λ l. w l * k) t ≤ degree_by w t * k
scaled_within w k (leaf_term l) = omega arith
scaled_within w k (const_term c) = omega arith
scaled_within w k (ext_const_term c) = omega arith
scaled_within w k (add_term t u) = greater_scaled (degree_by w t) (degree_by w u) k (scaled_within w k t) (scaled_within w k u)
scaled_within w k (sub_term t u) = greater_scaled (degree_by w t) (degree_by w u) k (scaled_within w k t) (scaled_within w k u)
scaled_within w k (neg_term t) = scaled_within w k t
scaled_within w k (mul_term t u) =
    omega (arith, scaled_within w k t, scaled_within w k u, add-mul (degree_by w t) (degree_by w u) k)

-- The degree for n rows bounds the degrees by the degrees of the leaves' polynomials.
pub degrees_within : {F : Type 0} (w n : ℕ) (periods : List ℕ) (ts : List (Term F)) (d : ℕ) → IsDegreeFor w n periods ts d → 2 ≤ n → DegreesWithin (leaf_degree w n periods) (polynomial_bound w d n) ts
degrees_within zero n periods ts d h two = h.within two
degrees_within (suc w) n periods ts d h two = λ k t b.
    let v = transition_weight (suc w) in
    let u = slice_index_or ts k t in
    omega (arith, scaled_within v (n - 1) u, mul-le-mul_right {m = degree_by v u} {n = d} (n - 1) (h.within k t b))

-- Terms with degrees within a bound have polynomials with degrees within it.
pub polynomials_within : {F E : Type 0} (a : AlgebraOver F E) (w : Leaf → ℕ) (bound : ℕ) (ts : List (Term F)) → DegreesWithin w bound ts → PolynomialsWithin a w bound ts
polynomials_within a w bound ts h s leaves k d b m past = polynomial-degree a s w leaves (slice_index_or ts k d) m (omega (arith, past, h k d b))
