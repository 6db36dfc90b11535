-- The degree inferred for a domain, and the bound that it sets on polynomials over n rows.
--
-- In some domains the transition selector is a linear polynomial, in others one of about the trace's degree. A domain says
-- which by a weight w: with 0 it is linear, from 1 on it counts as w columns.
use Rattle.std.specs.Prelude.{◌≡◌, ℕ, zero, suc, ◌+◌, ◌-◌, ◌*◌, ◌≤◌, ◌<◌, ◌^◌, List, All, slice_index_or}
use Rattle.air_field.specs.Ring.{CommRing, AlgebraOver}
use Rattle.air_field.specs.Term.{Leaf, Term}
use Rattle.air_field.specs.Polynomial.{polynomial, HasDegreeAtMost}
use Rattle.air_field.specs.Degree.{degree_by, transition_weight, trace_weight, greatest_degree, inferred_degree}

-- the bound of a quotient of degree d: d (n - 1) + 1
abbrev pub bound_of : ℕ → ℕ → ℕ
bound_of d n = d * (n - 1) + 1

-- the terms' degrees by these weights are at most this
abbrev pub DegreesWithin : {F : Type 0} → (Leaf → ℕ) → ℕ → List (Term F) → Type 0
DegreesWithin w bound ts = All (λ t. degree_by w t ≤ bound) ts

-- each leaf's polynomial is within its weight
abbrev pub LeavesWithin : {E : Type 0} → CommRing E → (Leaf → ℕ) → (Leaf → List E) → Type 0
LeavesWithin r w s = (l : Leaf) → HasDegreeAtMost r (λ n. slice_index_or (s l) n r.zero) (w l)

-- the terms' polynomials have at most this degree if the leaves' polynomials are within their weights
abbrev pub PolynomialsWithin : {F E : Type 0} → AlgebraOver F E → (Leaf → ℕ) → ℕ → List (Term F) → Type 0
PolynomialsWithin {E = E} a w bound ts = (s : Leaf → List E) → LeavesWithin a.ring w s → All (λ t. HasDegreeAtMost a.ring (polynomial a s t) bound) ts

-- The degree inferred for n rows of these terms, in a domain of this weight for the transition selector: for weight 0 that
-- of the greatest polynomial; for a weight from 1 the greatest degree by the cached weights with it, whatever n is.
abbrev pub domain_degree : {F : Type 0} → ℕ → ℕ → List ℕ → List (Term F) → ℕ
domain_degree zero n periods ts = inferred_degree n periods ts
domain_degree (suc w) n periods ts = greatest_degree (transition_weight (suc w)) ts

-- The greatest degree over n rows that a leaf's polynomial has in the domain: for weight 0 its degree over a trace; for a
-- weight from 1 n - 1 times its weight.
abbrev pub leaf_degree : ℕ → ℕ → List ℕ → Leaf → ℕ
leaf_degree zero n periods = trace_weight n periods
leaf_degree (suc w) n periods = λ l. transition_weight (suc w) l * (n - 1)

-- The bound that degree d sets over n rows on polynomials in the domain: for weight 0 that of a quotient of degree d; for a
-- weight from 1 d (n - 1).
abbrev pub polynomial_bound : ℕ → ℕ → ℕ → ℕ
polynomial_bound zero d n = bound_of d n
polynomial_bound (suc w) d n = d * (n - 1)

-- d is the degree inferred for n rows of these terms, and fits `usize`. For two rows or more it bounds their degrees; for
-- three or more it is the least such bound.
pub record IsTraceDegree {F : Type 0} (n : ℕ) (periods : List ℕ) (ts : List (Term F)) (d : ℕ) : Type 0 where
  pub value : d ≡ inferred_degree n periods ts
  pub fits : inferred_degree n periods ts < 2 ^ 64
  pub within : 2 ≤ n → DegreesWithin (trace_weight n periods) (bound_of d n) ts
  pub least : 3 ≤ n → (e : ℕ) → DegreesWithin (trace_weight n periods) (bound_of e n) ts → d ≤ e

-- d is the greatest degree of these terms by these weights, and fits `usize`: it bounds their degrees, and is the least such
-- bound.
pub record IsGreatestDegree {F : Type 0} (w : Leaf → ℕ) (ts : List (Term F)) (d : ℕ) : Type 0 where
  pub value : d ≡ greatest_degree w ts
  pub fits : greatest_degree w ts < 2 ^ 64
  pub within : DegreesWithin w d ts
  pub least : (e : ℕ) → DegreesWithin w e ts → d ≤ e

-- d is the degree inferred for n rows of these terms, in a domain of this weight for the transition selector
abbrev pub IsDegreeFor : {F : Type 0} → ℕ → ℕ → List ℕ → List (Term F) → ℕ → Type 0
IsDegreeFor zero n periods ts d = IsTraceDegree n periods ts d
IsDegreeFor (suc w) n periods ts d = IsGreatestDegree (transition_weight (suc w)) ts d
