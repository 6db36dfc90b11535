-- The inferred degree bounds the degrees of terms, and is the least bound; for weight 0 the latter holds for three rows or
-- more.
use Rattle.std.proofs.Common.{◌≡◌, ℕ, zero, suc, ◌+◌, ◌-◌, ◌*◌, add-mul, ◌<◌, ◌≤◌, ◌^◌, min, max, List, [], ◌∷◌, sym, subst, arith, ⊎_elim}
use Rattle.std.proofs.Math.Nat.{max-eq_left, max-eq_right, max-le, le-max_left, le-max_right, mul-le-mul_right, suc-mul, div_self}
use Rattle.std.proofs.lemmas.Bool.{cases_lt}
use Rattle.air_recording.specs.laws.Bounds.{quotient_reaches, quotient_least}
use Rattle.air_field.specs.Term.{Leaf, preprocessed, main, periodic, public, first_row, last_row, transition, permutation, challenge, permutation_value, Term, leaf_term, const_term, ext_const_term, add_term, sub_term, neg_term, mul_term}
use Rattle.air_recording.specs.Bounds.{bound_of, DegreesWithin, IsTraceDegree, IsGreatestDegree}
use Rattle.air_field.specs.Degree.{degree_by, cached_weight, trace_weight, periodic_degree, greatest_degree, quotient_degree, inferred_degree}

greater_of : (P : ℕ → Type 0) (a b : ℕ) → P a → P b → P (max a b)
greater_of P a b x y =
    ⊎_elim
    (λ (lt : a < b). subst P (sym (max-eq_right (omega (arith, lt)))) y)
    (λ (ge : b ≤ a). subst P (sym (max-eq_left ge)) x)
    (cases_lt a b)

-- Over n rows, n at least 1, if no column is periodic, a term's degree is at least n - 1 times its cached degree.
module _ (n : ℕ) (some : 1 ≤ n) where
  leaf_within : (l : Leaf) → cached_weight l * (n - 1) ≤ trace_weight n [] l
  leaf_within (preprocessed o i) = omega arith
  leaf_within (main o i) = omega arith
  leaf_within (periodic i) =
      let whole : min n n ≡ n = omega arith in
      subst (λ p. 1 * (n - 1) ≤ periodic_degree n p) (sym whole) (periodic_within n some)
    where
      periodic_within : (n : ℕ) → 1 ≤ n → 1 * (n - 1) ≤ periodic_degree n n
      periodic_within zero h = omega arith
      periodic_within (suc k) h = omega (arith, div_self {n = suc k} (omega arith))
  leaf_within (public i) = omega arith
  leaf_within first_row = omega arith
  leaf_within last_row = omega arith
  leaf_within transition = omega arith
  leaf_within (permutation o i) = omega arith
  leaf_within (challenge i) = omega arith
  leaf_within (permutation_value i) = omega arith

  greater_within : (a b c d : ℕ) → a * (n - 1) ≤ c → b * (n - 1) ≤ d → max a b * (n - 1) ≤ max c d
  greater_within a b c d h k =
      greater_of (λ x. x * (n - 1) ≤ max c d) a b (omega (arith, h, le-max_left c d)) (omega (arith, k, le-max_right c d))

  pub cached_within : {F : Type 0} (t : Term F) → degree_by cached_weight t * (n - 1) ≤ degree_by (trace_weight n []) t
  cached_within (leaf_term l) = leaf_within l
  cached_within (const_term c) = omega arith
  cached_within (ext_const_term c) = omega arith
  cached_within (add_term t u) = greater_within (degree_by cached_weight t) (degree_by cached_weight u) (degree_by (trace_weight n []) t) (degree_by (trace_weight n []) u) (cached_within t) (cached_within u)
  cached_within (sub_term t u) = greater_within (degree_by cached_weight t) (degree_by cached_weight u) (degree_by (trace_weight n []) t) (degree_by (trace_weight n []) u) (cached_within t) (cached_within u)
  cached_within (neg_term t) = cached_within t
  cached_within (mul_term t u) =
      omega (arith, cached_within t, cached_within u, add-mul (degree_by cached_weight t) (degree_by cached_weight u) (n - 1))

  greatest_within : {F : Type 0} (ts : List (Term F)) → greatest_degree cached_weight ts * (n - 1) ≤ greatest_degree (trace_weight n []) ts
  greatest_within [] = omega arith
  greatest_within (t ∷ ts) = greater_within (degree_by cached_weight t) (greatest_degree cached_weight ts) (degree_by (trace_weight n []) t) (greatest_degree (trace_weight n []) ts) (cached_within t) (greatest_within ts)

greater : (p a b m : ℕ) → p ≤ a * m + 1 → a ≤ b → p ≤ b * m + 1
greater p a b m h le = omega (arith, h, mul-le-mul_right {m = a} {n = b} m le)

-- from two rows on the divisor is n - 1
by_rows : (n e p : ℕ) → 3 ≤ n → p ≤ e * (n - 1) + 1 → p ≤ e * max (n - 1) 1 + 1
by_rows n e p h b =
    let rows : max (n - 1) 1 ≡ n - 1 = max-eq_left (omega (arith, h)) in
    subst (λ m. p ≤ e * m + 1) (sym rows) b

-- The inferred degree is a bound.
pub inferred_bounds : {F : Type 0} (n : ℕ) (periods : List ℕ) (ts : List (Term F)) → 2 ≤ n → greatest_degree (trace_weight n periods) ts ≤ inferred_degree n periods ts * (n - 1) + 1
inferred_bounds n periods ts h =
    let rows : max (n - 1) 1 ≡ n - 1 = max-eq_left (omega (arith, h)) in
    subst (λ m. greatest_degree (trace_weight n periods) ts ≤ inferred_degree n periods ts * m + 1) rows (reached n periods ts)
  where
    reached : {F : Type 0} (n : ℕ) (periods : List ℕ) (ts : List (Term F)) → greatest_degree (trace_weight n periods) ts ≤ inferred_degree n periods ts * max (n - 1) 1 + 1
    reached n [] ts =
        let p = greatest_degree (trace_weight n []) ts in
        let q = quotient_degree p n in
        greater p q (max q (greatest_degree cached_weight ts)) (max (n - 1) 1) (quotient_reaches p n) (le-max_left q (greatest_degree cached_weight ts))
    reached n (x ∷ periods) ts = quotient_reaches (greatest_degree (trace_weight n (x ∷ periods)) ts) n

-- For three rows or more it is the least bound.
pub inferred_least : {F : Type 0} (n : ℕ) (periods : List ℕ) (ts : List (Term F)) (e : ℕ) → 3 ≤ n → greatest_degree (trace_weight n periods) ts ≤ e * (n - 1) + 1 → inferred_degree n periods ts ≤ e
inferred_least n [] ts e h b =
    let p = greatest_degree (trace_weight n []) ts in
    let c = greatest_degree cached_weight ts in
    max-le (quotient_least p n e (by_rows n e p h b))
    (⊎_elim
    (λ (over : e < c). absurd (omega (arith, over, h, b, greatest_within n (omega (arith, h)) ts, suc-mul e (n - 1), mul-le-mul_right {m = suc e} {n = c} (n - 1) (omega (arith, over)))))
    (λ (within : c ≤ e). within)
    (cases_lt e c))
inferred_least n (x ∷ periods) ts e h b = let p = greatest_degree (trace_weight n (x ∷ periods)) ts in quotient_least p n e (by_rows n e p h b)

-- the greatest degree bounds each, and is the least that does
pub each_within : {F : Type 0} (w : Leaf → ℕ) (n : ℕ) (ts : List (Term F)) → greatest_degree w ts ≤ n → DegreesWithin w n ts
each_within w n [] h k d b = absurd (omega arith)
each_within w n (t ∷ ts) h zero d b = omega (arith, le-max_left (degree_by w t) (greatest_degree w ts))
each_within w n (t ∷ ts) h (suc k) d b = each_within w n ts (omega (arith, h, le-max_right (degree_by w t) (greatest_degree w ts))) k d (omega arith)

pub greatest_within_all : {F : Type 0} (w : Leaf → ℕ) (n : ℕ) (ts : List (Term F)) → DegreesWithin w n ts → greatest_degree w ts ≤ n
greatest_within_all w n [] h = omega arith
greatest_within_all w n (t ∷ ts) h = max-le (h 0 t (omega arith)) (greatest_within_all w n ts (λ k d b. h (suc k) d (omega arith)))

-- The inferred degree, if it fits, is the degree for the terms over a trace.
pub degree_for : {F : Type 0} (n : ℕ) (periods : List ℕ) (ts : List (Term F)) (d : ℕ) → d ≡ inferred_degree n periods ts → d < 2 ^ 64 → IsTraceDegree n periods ts d
degree_for n periods ts d value fits =
    let w = trace_weight n periods in
    record {
      value = value;
      fits = subst (λ e. e < 2 ^ 64) value fits;
      within = λ h. each_within w (bound_of d n) ts (subst (λ e. greatest_degree w ts ≤ bound_of e n) (sym value) (inferred_bounds n periods ts h));
      least = λ h e within. subst (λ k. k ≤ e) (sym value) (inferred_least n periods ts e h (greatest_within_all w (bound_of e n) ts within));
    }

-- The greatest degree, if it fits, is a bound, and the least one.
pub greatest_for : {F : Type 0} (w : Leaf → ℕ) (ts : List (Term F)) (d : ℕ) → d ≡ greatest_degree w ts → greatest_degree w ts < 2 ^ 64 → IsGreatestDegree w ts d
greatest_for w ts d value fits = record {
  value = value;
  fits = fits;
  within = each_within w d ts (omega (arith, value));
  least = λ e within. subst (λ k. k ≤ e) (sym value) (greatest_within_all w e ts within);
}
