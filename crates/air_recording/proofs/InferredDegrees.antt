-- The inferred degree of two lists of terms, from their greatest degrees.
use Rattle.std.proofs.Common.{◌≡◌, ◌≢◌, ◌==◌, true, false, ℕ, ◌≤◌, ◌^◌, max, List, [], ◌∷◌, ◌++◌, ◌*◌, ◌+◌, refl, sym, ap, subst, ◌∙◌, arith, Result, Ok, Err, length, zero, suc, ◌<◌, ◌-◌, map, All, inl, inr, ⊎_elim}
use Rattle.std.proofs.lemmas.Bool.{false≢true, cases_lt}
use Rattle.std.proofs.Math.Nat.{max-eq_right, max-le, le-max_left, le-max_right, mul-le-mul_right}
use Rattle.air_field.specs.Term.{Leaf, Term}
use Rattle.air_field.specs.declared.errors.RingError.{RingError}
use Rattle.air_field.specs.declared.errors.RingError.TheVariants.{Memory, DegreeOverflow}
use Rattle.air_symbolic.specs.DegreeTables.{capped, AreDegrees}
use Rattle.air_symbolic.specs.PoolRefusals.{IsChecked}
use Rattle.air_symbolic.specs.Leaves.{Leaves}
use Rattle.air_symbolic.specs.Pools.{Pool, IsPool, term_at}
use Rattle.air_symbolic.specs.laws.Sharing.{cached_in_range}
use Rattle.air_field.specs.Ring.{CommRing, AlgebraOver, self_algebra}
use Rattle.air_builder.specs.Declaration.{Declaration}
use Rattle.air_core.specs.Errors.{air_error}
use Rattle.air_recording.specs.Inferred.{periods_of, greatest_in, AnswersInferred, DegreeRefuses}
use Rattle.air_recording.specs.Kinds.{base_terms, ext_terms}
use Rattle.air_recording.specs.Recorded.{EachRecords, RecordingAnswers, terms_of}
use Rattle.air_recording.specs.declared.layouts.air_layout.AirLayout.{AirLayout}
use Rattle.air_recording.specs.Bounds.{DegreesWithin}
use Rattle.air_recording.specs.laws.Bounds.{quotient_reaches, quotient_mono}
use Rattle.air_recording.proofs.Least.{each_within, greatest_within_all, degree_for, greatest_for}
use Rattle.air_field.specs.Degree.{degree_by, cached_weight, transition_weight, trace_weight, greatest_degree, quotient_degree, inferred_degree}

max_assoc : (a b c : ℕ) → max a (max b c) ≡ max (max a b) c
max_assoc a b c =
    let left : max a (max b c) ≤ max (max a b) c = max-le (omega (arith, le-max_left a b, le-max_left (max a b) c)) (max-le (omega (arith, le-max_right a b, le-max_left (max a b) c)) (le-max_right (max a b) c)) in
    let right : max (max a b) c ≤ max a (max b c) = max-le (max-le (le-max_left a (max b c)) (omega (arith, le-max_left b c, le-max_right a (max b c)))) (omega (arith, le-max_right b c, le-max_right a (max b c))) in
    omega (arith, left, right)

pub greatest-append : {F : Type 0} (w : Leaf → ℕ) (us vs : List (Term F)) → greatest_degree w (us ++ vs) ≡ max (greatest_degree w us) (greatest_degree w vs)
greatest-append w [] vs = sym (max-eq_right (omega arith))
greatest-append w (u ∷ us) vs = ap (λ x. max (degree_by w u) x) (greatest-append w us vs) ∙ max_assoc (degree_by w u) (greatest_degree w us) (greatest_degree w vs)

-- if some column is periodic
inferred_periodic : {F : Type 0} (n : ℕ) (periods : List ℕ) (us : List (Term F)) → periods ≢ [] → quotient_degree (greatest_degree (trace_weight n periods) us) n ≡ inferred_degree n periods us
inferred_periodic n [] us h = absurd (h refl)
inferred_periodic n (p ∷ periods) us h = refl

-- if no column is periodic
inferred_plain : {F : Type 0} (n : ℕ) (periods : List ℕ) (us vs : List (Term F)) → periods ≡ [] → max (quotient_degree (greatest_degree (trace_weight n periods) (us ++ vs)) n) (max (greatest_degree cached_weight us) (greatest_degree cached_weight vs)) ≡ inferred_degree n periods (us ++ vs)
inferred_plain n [] us vs h =
    ap (max (quotient_degree (greatest_degree (trace_weight n []) (us ++ vs)) n)) (sym (greatest-append cached_weight us vs))
inferred_plain n (p ∷ periods) us vs h = cc

-- ---- The quotient of a degree in 128 bits

-- that of a degree past 128 bits exceeds `usize`
quotient_past : (p n : ℕ) → n < 2 ^ 64 → 2 ^ 128 - 1 ≤ p → 2 ^ 64 ≤ quotient_degree p n
quotient_past p n rows past =
    ⊎_elim
    (λ (lt : quotient_degree p n < 2 ^ 64).
    absurd (too_small (quotient_degree p n) (max (n - 1) 1) lt (omega (arith, rows)) (quotient_reaches p n)))
    (λ (ge : 2 ^ 64 ≤ quotient_degree p n). ge)
    (cases_lt (quotient_degree p n) (2 ^ 64))
  where
    too_small : (q m : ℕ) → q < 2 ^ 64 → m < 2 ^ 64 → p ≤ q * m + 1 → ⊥
    too_small q m h k b = omega (arith, past, h, k, b, mul-le-mul_right {m = q} {n = 2 ^ 64 - 1} m (omega (arith, h)))

-- one that fits is the degree's own
quotient_fits : (p n : ℕ) → n < 2 ^ 64 → quotient_degree (capped p) n < 2 ^ 64 → quotient_degree (capped p) n ≡ quotient_degree p n
quotient_fits p n rows fits =
    ⊎_elim
    (λ (lt : p < 2 ^ 128 - 1). ap (λ q. quotient_degree q n) (omega (arith, lt)))
    (λ (ge : 2 ^ 128 - 1 ≤ p). absurd (omega (arith, fits, quotient_past (capped p) n rows (omega (arith, ge)))))
    (cases_lt p (2 ^ 128 - 1))

-- ---- The answer

-- an error
pub trace_refused : {F : Type 0} (n : ℕ) (periods : List ℕ) (us : List (Term F)) (q : ℕ) (e : RingError) → q ≡ quotient_degree (capped (greatest_degree (trace_weight n periods) us)) n → IsChecked q (Err e) → AnswersInferred 0 n periods us (Err e)
trace_refused n [] us q e is h =
    let p = greatest_degree (trace_weight n []) us in
    subst (λ x. AnswersInferred 0 n [] us (Err x)) (sym h.0)
    (omega (arith, is, h.1, quotient_mono (capped p) p n (omega arith), le-max_left (quotient_degree p n) (greatest_degree cached_weight us)))
trace_refused n (x ∷ periods) us q e is h =
    let p = greatest_degree (trace_weight n (x ∷ periods)) us in
    subst (λ y. AnswersInferred 0 n (x ∷ periods) us (Err y)) (sym h.0) (omega (arith, is, h.1, quotient_mono (capped p) p n (omega arith)))

-- if some column is periodic
pub answered_periodic : {F : Type 0} (n : ℕ) (periods : List ℕ) (us : List (Term F)) (q d : ℕ) → n < 2 ^ 64 → q ≡ quotient_degree (capped (greatest_degree (trace_weight n periods) us)) n → IsChecked q (Ok d) → false ≡ (length periods == 0) → AnswersInferred 0 n periods us (Ok d)
answered_periodic n periods us q d rows is h some =
    let fits = quotient_fits (greatest_degree (trace_weight n periods) us) n rows (subst (λ x. x < 2 ^ 64) is h.1) in
    degree_for n periods us d (h.0 ∙ is ∙ fits ∙ inferred_periodic n periods us (λ none. false≢true (some ∙ ap (λ k. length k == 0) none))) (omega (arith, h.0, h.1))

-- if no column is periodic
pub answered_plain : {F : Type 0} (n : ℕ) (periods : List ℕ) (us vs : List (Term F)) (q d answer : ℕ) → n < 2 ^ 64 → q ≡ quotient_degree (capped (greatest_degree (trace_weight n periods) (us ++ vs))) n → IsChecked q (Ok d) → true ≡ (length periods == 0) → answer ≡ max d (max (greatest_degree cached_weight us) (greatest_degree cached_weight vs)) → answer < 2 ^ 64 → AnswersInferred 0 n periods (us ++ vs) (Ok answer)
answered_plain n periods us vs q d answer rows is h none greatest within =
    let fits = quotient_fits (greatest_degree (trace_weight n periods) (us ++ vs)) n rows (subst (λ x. x < 2 ^ 64) is h.1) in
    degree_for n periods (us ++ vs) answer
    (greatest ∙ ap (λ k. max k (max (greatest_degree cached_weight us) (greatest_degree cached_weight vs))) (h.0 ∙ is ∙ fits) ∙ inferred_plain n periods us vs (no_periods periods none))
    within
  where
    no_periods : (l : List ℕ) → true ≡ (length l == 0) → l ≡ []
    no_periods [] h = refl
    no_periods (x ∷ xs) h = Prim.grind arith

-- for a weight from 1 the inferred degree is the greatest degree
pub weighted_answer : {F : Type 0} (w n : ℕ) (periods : List ℕ) (us : List (Term F)) (q : ℕ) (answer : Result ℕ RingError) → w ≢ 0 → q ≡ capped (greatest_degree (transition_weight w) us) → IsChecked q answer → AnswersInferred w n periods us answer
weighted_answer zero n periods us q answer some is h = absurd (some refl)
weighted_answer (suc w) n periods us q (Ok d) some is h =
    let value : d ≡ greatest_degree (transition_weight (suc w)) us = omega (arith, is, h.0, h.1) in
    greatest_for (transition_weight (suc w)) us d value (omega (arith, value, h.0, h.1))
weighted_answer (suc w) n periods us q (Err e) some is h =
    subst (λ x. AnswersInferred (suc w) n periods us (Err x)) (sym h.0) (omega (arith, is, h.1))

-- an error of the degree of the recorded terms is one of the inferred degree
pub inferred_refused : {F E : Type 0} (r : CommRing F) (over : AlgebraOver F E) (w n : ℕ) (layout : AirLayout) (d : Declaration F) (us vs : List (Term F)) (e : RingError)
    → EachRecords (self_algebra r) us (base_terms d.constraints) → EachRecords over vs (ext_terms d.constraints) → RecordingAnswers r over layout d
    → AnswersInferred w n (periods_of d.periodic) (us ++ vs) (Err e) → DegreeRefuses r over w n layout d (air_error e)
inferred_refused r over w n layout d us vs Memory b x f h = inl (inr (f.suits.fits, tt))
inferred_refused r over w n layout d us vs DegreeOverflow b x f h =
    inr (f, (refl, record { base = us; ext = vs; base_recorded = b; ext_recorded = x; past = h }))

-- A degree that bounds the recorded terms bounds the base terms.
pub base_within : {F : Type 0} (w : Leaf → ℕ) (bound : ℕ) (us vs : List (Term F)) → DegreesWithin w bound (us ++ vs) → DegreesWithin w bound us
base_within w bound us vs h =
    each_within w bound us (omega (arith, greatest_within_all w bound (us ++ vs) h, greatest-append w us vs, le-max_left (greatest_degree w us) (greatest_degree w vs)))

-- The greatest of the degrees of these numbers' terms is their greatest degree.
pub greatest_in-degrees : {U A F : Type 0} (reads : U → Leaves A F) (pool : Pool U A) (w : Leaf → ℕ) (numbers : List ℕ) → greatest_in (map (λ x. degree_by w (term_at reads pool x)) numbers) ≡ greatest_degree w (terms_of reads pool numbers)
greatest_in-degrees reads pool w [] = refl
greatest_in-degrees reads pool w (x ∷ numbers) = ap (max (degree_by w (term_at reads pool x))) (greatest_in-degrees reads pool w numbers)

-- The greatest degree of a pool's numbers, from the table of its degrees.
module _ {U A F : Type 0} (reads : U → Leaves A F) (pool : Pool U A) (w : Leaf → ℕ) (table numbers lent : List ℕ)
    (known : AreDegrees (λ i. degree_by w (term_at reads pool i)) (length pool.nodes) table) (same : lent ≡ numbers) where
  pub table_here : All (λ i. i < length pool.nodes) numbers → All (λ i. i < length table) lent
  table_here h = subst (λ n. All (λ i. i < n) lent) (sym known.places) (subst (All (λ i. i < length pool.nodes)) (sym same) h)

  pub table_greatest : (greatest : ℕ) → ((degree : ℕ → ℕ) → AreDegrees degree (length table) table → greatest ≡ capped (greatest_in (map degree lent)))
      → greatest ≡ capped (greatest_degree w (terms_of reads pool numbers))
  table_greatest greatest h =
      let degree = λ (i : ℕ). degree_by w (term_at reads pool i) in
      h degree (subst (λ n. AreDegrees degree n table) (sym known.places) known)
      ∙ ap (λ l. capped (greatest_in (map degree l))) same
      ∙ ap capped (greatest_in-degrees reads pool w numbers)

pub capped-max : (a b : ℕ) → max (capped a) (capped b) ≡ capped (max a b)
capped-max a b = omega arith

-- The numbers of a pool have degrees within `usize`.
pub greatest_in_range : {U A F : Type 0} (reads : U → Leaves A F) (pool : Pool U A) (numbers : List ℕ) → IsPool reads pool → All (λ i. i < length pool.nodes) numbers → greatest_degree cached_weight (terms_of reads pool numbers) < 2 ^ 64
greatest_in_range reads pool [] w h = omega arith
greatest_in_range reads pool (x ∷ numbers) w h =
    max-lt (cached_in_range (reads pool.base) pool.nodes w.nodes x (h 0 x (omega arith))) (greatest_in_range reads pool numbers w (λ k d b. h (suc k) d (omega arith)))
  where
    max-lt : {a b : ℕ} → a < 2 ^ 64 → b < 2 ^ 64 → max a b < 2 ^ 64
    max-lt h k = omega (arith, h, k)

-- the degrees of both lists
pub both_in_range : {F : Type 0} (w : Leaf → ℕ) (us vs : List (Term F)) → greatest_degree w us < 2 ^ 64 → greatest_degree w vs < 2 ^ 64 → greatest_degree w (us ++ vs) < 2 ^ 64
both_in_range w us vs h k = omega (arith, h, k, greatest-append w us vs)
