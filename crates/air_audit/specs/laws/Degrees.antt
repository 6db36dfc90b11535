-- The degree of an audit is the one that air_recording infers for the trace: its clauses give `IsDegreeFor`.
use Rattle.std.proofs.Common.{◌≡◌, ℕ, zero, suc, ◌+◌, ◌-◌, ◌*◌, ◌<◌, ◌≤◌, ◌^◌, max, List, [], ◌∷◌, sym, subst, arith}
use Rattle.std.proofs.Math.Nat.{max-eq_left, max-le, le-max_left, le-max_right, mul-le-mul_right}
use Rattle.air_field.specs.Term.{Leaf, Term}
use Rattle.air_field.specs.Degree.{degree_by, cached_weight, transition_weight, trace_weight, greatest_degree, quotient_degree, inferred_degree}
use Rattle.air_recording.specs.Bounds.{bound_of, DegreesWithin, IsDegreeFor}
use Rattle.air_recording.specs.Inferred.{periods_of}
use Rattle.air_recording.specs.laws.Bounds.{quotient_reaches}
use Rattle.air_audit.specs.Theorem.{Instance, row_count, domain, degree_in, BoundsDegrees, IsLeast}

inferred_bounds : {F : Type 0} (n : ℕ) (periods : List ℕ) (ts : List (Term F)) → 2 ≤ n → greatest_degree (trace_weight n periods) ts ≤ inferred_degree n periods ts * (n - 1) + 1
inferred_bounds n [] ts h =
    let p = greatest_degree (trace_weight n []) ts in
    let q = quotient_degree p n in
    let rows : max (n - 1) 1 ≡ n - 1 = max-eq_left (omega (arith, h)) in
    let reached : p ≤ q * (n - 1) + 1 = subst (λ m. p ≤ q * m + 1) rows (quotient_reaches p n) in
    omega (arith, reached, mul-le-mul_right (n - 1) (le-max_left q (greatest_degree cached_weight ts)))
inferred_bounds n (x ∷ periods) ts h =
    let p = greatest_degree (trace_weight n (x ∷ periods)) ts in
    let rows : max (n - 1) 1 ≡ n - 1 = max-eq_left (omega (arith, h)) in
    subst (λ m. p ≤ quotient_degree p n * m + 1) rows (quotient_reaches p n)

-- the greatest degree bounds each degree, and is the least bound
each_within : {F : Type 0} (w : Leaf → ℕ) (n : ℕ) (ts : List (Term F)) → greatest_degree w ts ≤ n → DegreesWithin w n ts
each_within w n [] h k d b = absurd (omega arith)
each_within w n (t ∷ ts) h zero d b = omega (arith, le-max_left (degree_by w t) (greatest_degree w ts))
each_within w n (t ∷ ts) h (suc k) d b = each_within w n ts (omega (arith, h, le-max_right (degree_by w t) (greatest_degree w ts))) k d (omega arith)

greatest_within_all : {F : Type 0} (w : Leaf → ℕ) (n : ℕ) (ts : List (Term F)) → DegreesWithin w n ts → greatest_degree w ts ≤ n
greatest_within_all w n [] h = omega arith
greatest_within_all w n (t ∷ ts) h = max-le (h 0 t (omega arith)) (greatest_within_all w n ts (λ k d b. h (suc k) d (omega arith)))

module _ {F : Type 0} (x : Instance F) (ts : List (Term F)) (d : ℕ) where
  -- the degree in the clauses `degree` and `least` of `audit_air`
  pub is_degree_for : (w : ℕ) → d ≡ degree_in w x ts → degree_in w x ts < 2 ^ 64
      → (3 ≤ row_count x → IsLeast (BoundsDegrees (domain w x) ts) d)
      → IsDegreeFor w (row_count x) (periods_of x.air.periodic) ts d
  is_degree_for zero value fits least =
      let n = row_count x in
      let weight = trace_weight n (periods_of x.air.periodic) in
      record {
        value = value;
        fits = fits;
        within = λ two. each_within weight (bound_of d n) ts (subst (λ e. greatest_degree weight ts ≤ bound_of e n) (sym value) (inferred_bounds n (periods_of x.air.periodic) ts two));
        least = λ three. (least three).least;
      }
  is_degree_for (suc w) value fits least =
      let weight = transition_weight (suc w) in
      record {
        value = value;
        fits = fits;
        within = each_within weight d ts (omega (arith, value));
        least = λ e within. subst (λ k. k ≤ e) (sym value) (greatest_within_all weight e ts within);
      }
