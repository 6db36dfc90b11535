-- The degree of a term by leaf weights, and the degree inferred from it.
use Rattle.std.specs.Prelude.{ℕ, zero, suc, ◌+◌, ◌-◌, ◌/◌, ◌==◌, max, min, List, [], ◌∷◌, slice_index_or, if◌then◌else◌}
use Rattle.std.specs.Int.{div_ceil}
use Rattle.air_field.specs.Term.{Leaf, preprocessed, main, periodic, public, first_row, last_row, transition}
use Rattle.air_field.specs.Term.{permutation, challenge, permutation_value, Term, leaf_term, const_term}
use Rattle.air_field.specs.Term.{ext_const_term, add_term, sub_term, neg_term, mul_term}

-- the degree by leaf weights
abbrev pub degree_by : {F : Type 0} → (Leaf → ℕ) → Term F → ℕ
degree_by w (leaf_term l) = w l
degree_by w (const_term c) = 0
degree_by w (ext_const_term c) = 0
degree_by w (add_term t u) = max (degree_by w t) (degree_by w u)
degree_by w (sub_term t u) = max (degree_by w t) (degree_by w u)
degree_by w (neg_term t) = degree_by w t
degree_by w (mul_term t u) = degree_by w t + degree_by w u

abbrev pub cached_weight : Leaf → ℕ
cached_weight (preprocessed o i) = 1
cached_weight (main o i) = 1
cached_weight (periodic i) = 1
cached_weight (public i) = 0
cached_weight first_row = 1
cached_weight last_row = 1
cached_weight transition = 0
cached_weight (permutation o i) = 1
cached_weight (challenge i) = 0
cached_weight (permutation_value i) = 0

-- the cached weights, and w for the transition selector
abbrev pub transition_weight : ℕ → Leaf → ℕ
transition_weight w transition = w
transition_weight w l = cached_weight l

-- The degree of a periodic column of period p over n rows: n - 1 for p = 0, else n - n / p, with n / p rounded down.
abbrev pub periodic_degree : ℕ → ℕ → ℕ
periodic_degree n zero = n - 1
periodic_degree n (suc p) = n - n / suc p

-- The degrees of the leaves' polynomials over n rows, where `periods` lists the lengths of the periodic columns. A
-- length above n counts as n, and a column that isn't listed has period n.
abbrev pub trace_weight : ℕ → List ℕ → Leaf → ℕ
trace_weight n periods (preprocessed o i) = n - 1
trace_weight n periods (main o i) = n - 1
trace_weight n periods (periodic i) = periodic_degree n (min (slice_index_or periods i n) n)
trace_weight n periods (public i) = 0
trace_weight n periods first_row = n - 1
trace_weight n periods last_row = n - 1
trace_weight n periods transition = 1
trace_weight n periods (permutation o i) = n - 1
trace_weight n periods (challenge i) = 0
trace_weight n periods (permutation_value i) = 0

-- the greatest of the degrees, 0 for the empty list
abbrev pub greatest_degree : {F : Type 0} → (Leaf → ℕ) → List (Term F) → ℕ
greatest_degree w [] = 0
greatest_degree w (t ∷ ts) = max (degree_by w t) (greatest_degree w ts)

-- the constraint degree of a polynomial of degree p over n rows: 0 for p = 0, else (p - 1) / (n - 1), rounded up
abbrev pub quotient_degree : ℕ → ℕ → ℕ
quotient_degree p n = if p == 0 then 0 else div_ceil (p - 1) (max (n - 1) 1)

-- The degree inferred for n rows: that of the greatest polynomial. If there are no periodic columns, it is at least the
-- greatest cached degree.
abbrev pub inferred_degree : {F : Type 0} → ℕ → List ℕ → List (Term F) → ℕ
inferred_degree n [] ts = max (quotient_degree (greatest_degree (trace_weight n []) ts) n) (greatest_degree cached_weight ts)
inferred_degree n (p ∷ periods) ts = quotient_degree (greatest_degree (trace_weight n (p ∷ periods)) ts) n
