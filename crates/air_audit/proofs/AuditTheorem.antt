-- The audit theorem, from what the recording, the check and the inferred degree answer.
use Rattle.std.proofs.Common.{Err, ◌≡◌, ℕ, zero, suc, ◌-◌, ◌*◌, ◌≤◌, ◌<◌, ◌^◌, max, List, [], ◌∷◌, ◌++◌, length, map, All, Bool, Option, slice_index_or, refl, sym, ◌∙◌, subst, arith, inl, inr, add-mul}
use Rattle.std.specs.List.{AllZip}
use Rattle.std.proofs.Math.Nat.{le-max_left, le-max_right, le_of_mul-le-mul_right}
use Rattle.air_field.specs.Ring.{CommRing, self_algebra}
use Rattle.air_field.specs.Extension.{Basis}
use Rattle.air_field.specs.Term.{Leaf, Term, leaf_term, const_term, ext_const_term, add_term, sub_term, neg_term, mul_term}
use Rattle.air_field.specs.Degree.{degree_by, transition_weight}
use Rattle.air_field.specs.Same.{Simplifies}
use Rattle.air_field.specs.declared.errors.RingError.{RingError}
use Rattle.air_field.specs.declared.errors.RingError.TheVariants.{Memory, DegreeOverflow}
use Rattle.air_symbolic.specs.BaseLeaves.{base_reads}
use Rattle.air_symbolic.specs.ExtLeaves.{ext_reads}
use Rattle.air_symbolic.specs.Leaves.{Leaves}
use Rattle.air_symbolic.specs.Pools.{Pool, PoolMeans}
use Rattle.air_builder.specs.Declaration.{Declaration}
use Rattle.air_core.specs.Errors.{air_error}
use Rattle.air_core.specs.declared.errors.AirError.{AirError}
use Rattle.air_core.specs.declared.errors.AirError.TheVariants.{LayoutMainWidth, LayoutPublicValues, LayoutPeriodicColumns}
use Rattle.air_recording.specs.Bounds.{IsDegreeFor, domain_degree}
use Rattle.air_recording.specs.Folds.{ArePlacesOf}
use Rattle.air_recording.specs.Inferred.{AnswersInferred, periods_of, recorded_terms}
use Rattle.air_recording.specs.Kinds.{kind_of, base_terms, ext_terms}
use Rattle.air_recording.specs.Layouts.{air_layout, LayoutRefuses}
use Rattle.air_recording.specs.Recorded.{EachRecords, RecordsTerm, RecordsBase, RecordsExt, RecordRefuses, RecordingAnswers, terms_of}
use Rattle.air_recording.specs.declared.layouts.air_layout.AirLayout.{AirLayout}
use Rattle.air_recording.specs.laws.Bounds.{degrees_within, polynomials_within}
use Rattle.air_report.specs.Checks.{IsReport}
use Rattle.air_report.specs.declared.checks.report.ConstraintReport.{ConstraintReport}
use Rattle.air_audit.specs.Theorem.{Instance, row_count, recorded_base, terms_in, RecordConstraints, domain, degree_in, BoundsDegrees, IsLeast, DegreeOverflows}
use Rattle.air_audit.specs.Audits.{IsAuditUnder, AuditRefusesUnder}
use Rattle.air_audit.specs.declared.audit.Audit.{Audit}
use Rattle.air_audit.specs.laws.Theorem.{base_places_are, ext_places_are, each_base, each_ext, recordable, recorded_ext_are, recording_refuses, terms_in_are}

-- ---- the degree

greater_less : {x y : ℕ} (a b k : ℕ) → a * k ≤ x → b * k ≤ y → max a b * k ≤ max x y
greater_less {x = x} {y = y} a b k h i = grind (arith, h, i, le-max_left x y, le-max_right x y)

-- a degree so many times is no greater than the degree where each weight is taken so many times
scaled_least : {F : Type 0} (w : Leaf → ℕ) (k : ℕ) (t : Term F) → degree_by w t * k ≤ degree_by (λ l. w l * k) t
scaled_least w k (leaf_term l) = omega arith
scaled_least w k (const_term c) = omega arith
scaled_least w k (ext_const_term c) = omega arith
scaled_least w k (add_term t u) = greater_less (degree_by w t) (degree_by w u) k (scaled_least w k t) (scaled_least w k u)
scaled_least w k (sub_term t u) = greater_less (degree_by w t) (degree_by w u) k (scaled_least w k t) (scaled_least w k u)
scaled_least w k (neg_term t) = scaled_least w k t
scaled_least w k (mul_term t u) =
    omega (arith, scaled_least w k t, scaled_least w k u, add-mul (degree_by w t) (degree_by w u) k)

-- the degree that air_recording infers
inferred_is : {F : Type 0} (x : Instance F) (ts : List (Term F)) (w : ℕ) → domain_degree w (row_count x) (periods_of x.air.periodic) ts ≡ degree_in w x ts
inferred_is x ts zero = refl
inferred_is x ts (suc w) = refl

module _ {F : Type 0} (r : CommRing F) (x : Instance F) (ts : List (Term F)) (d : ℕ) where
  abbrev IsInferredDegree : ℕ → Type 0
  IsInferredDegree w = IsDegreeFor w (row_count x) (periods_of x.air.periodic) ts d

  degree_is : (w : ℕ) → IsInferredDegree w → d ≡ degree_in w x ts
  degree_is zero h = h.value
  degree_is (suc w) h = h.value

  degree_in_range : (w : ℕ) → IsInferredDegree w → degree_in w x ts < 2 ^ 64
  degree_in_range zero h = h.fits
  degree_in_range (suc w) h = h.fits

  degree_bounds : (w : ℕ) → IsInferredDegree w → 2 ≤ row_count x → BoundsDegrees (domain w x) ts d
  degree_bounds zero h two = degrees_within 0 (row_count x) (periods_of x.air.periodic) ts d h two
  degree_bounds (suc w) h two = degrees_within (suc w) (row_count x) (periods_of x.air.periodic) ts d h two

  degree_least : (w : ℕ) → IsInferredDegree w → 3 ≤ row_count x → IsLeast (BoundsDegrees (domain w x) ts) d
  degree_least zero h three = record { meets = degree_bounds zero h (omega (arith, three)); least = h.least three }
  degree_least (suc w) h three =
      let v = transition_weight (suc w) in
      record {
        meets = degree_bounds (suc w) h (omega (arith, three));
        least = λ e within. h.least e (λ k t b.
            let u = slice_index_or ts k t in
            le_of_mul-le-mul_right {m = degree_by v u} {n = e} {k = row_count x - 1} (omega (arith, scaled_least v (row_count x - 1) u, within k t b)) (omega (arith, three)));
      }

-- ---- what is recorded

-- what numbers mean, their terms stand for
simplified : {U A F : Type 0} (reads : U → Leaves A F) (r : CommRing F) (p : Pool U A) (is : List ℕ) (ts : List (Term F)) → AllZip (PoolMeans reads r p) is ts → AllZip (Simplifies r) (terms_of reads p is) ts
simplified reads r p [] [] h = tt
simplified reads r p [] (t ∷ ts) h = absurd h
simplified reads r p (i ∷ is) [] h = absurd h
simplified reads r p (i ∷ is) (t ∷ ts) h = (h.0.simplifies, simplified reads r p is ts h.1)

-- ---- the theorem under a cap

module _ {F : Type 0} (r : CommRing F) (eq : F → F → Bool) (basis : Basis F F) (x : Instance F) (cap : Option ℕ) (w : ℕ) (audit : Audit F) where
  pub audited : RecordingAnswers r (self_algebra r) (air_layout x.air) x.air
      → RecordsBase r (self_algebra r) base_reads audit.recorded.pool.base audit.recorded.base x.air.constraints
      → RecordsExt r (self_algebra r) (ext_reads basis) audit.recorded.pool audit.recorded.ext x.air.constraints
      → All (λ i. i < length audit.recorded.pool.base.nodes) audit.recorded.base
      → All (λ i. i < length audit.recorded.pool.nodes) audit.recorded.ext
      → ArePlacesOf (map kind_of x.air.constraints) audit.layout.base_indices.items audit.layout.ext_indices.items
      → IsReport r eq x cap audit.report
      → IsDegreeFor w (row_count x) (periods_of x.air.periodic) (recorded_terms basis audit.recorded) audit.degree
      → IsAuditUnder r eq basis x cap w audit
  audited answers base ext base_here ext_here places report inferred =
      let ts = x.air.constraints in
      let us = terms_in basis audit.recorded in
      let degree = subst (λ vs. IsDegreeFor w (row_count x) (periods_of x.air.periodic) vs audit.degree) (sym (terms_in_are basis audit.recorded)) inferred in
      record {
        there = (recordable r x.air answers).there;
        recorded = record {
          base_places = places.base ∙ sym (base_places_are 0 ts);
          ext_places = places.extension ∙ sym (ext_places_are 0 ts);
          terms = record {
            each_base = each_base (RecordsTerm (self_algebra r)) (recorded_base audit.recorded) ts base.terms;
            each_ext = each_ext (RecordsTerm (self_algebra r)) _ ts (subst (λ vs. EachRecords (self_algebra r) vs (ext_terms ts)) (sym (recorded_ext_are basis audit.recorded)) ext.terms);
          };
        };
        pool = record {
          base_here = base_here;
          ext_here = ext_here;
          base = each_base (Simplifies r) (recorded_base audit.recorded) ts (simplified base_reads r _ _ _ base.means);
          ext = each_ext (Simplifies r) _ ts (subst (λ vs. AllZip (Simplifies r) vs (ext_terms ts)) (sym (recorded_ext_are basis audit.recorded)) (simplified (ext_reads basis) r _ _ _ ext.means));
        };
        report = report;
        degree = degree_is r x us audit.degree w degree;
        in_range = degree_in_range r x us audit.degree w degree;
        bounded = λ two. polynomials_within (self_algebra r) _ _ us (degree_bounds r x us audit.degree w degree two);
        least = degree_least r x us audit.degree w degree;
      }

-- ---- what is refused

-- an AIR's own layout fits it
own_layout_fits : {F : Type 0} (air : Declaration F) (e : AirError) → LayoutRefuses (air_layout air) air e → ⊥
own_layout_fits air (LayoutMainWidth layout declared) h = h.2 (h.0 ∙ sym h.1)
own_layout_fits air (LayoutPublicValues layout declared) h = h.3 (h.1 ∙ sym h.2)
own_layout_fits air (LayoutPeriodicColumns layout declared) h = h.4 (h.2 ∙ sym h.3)
own_layout_fits air _ h = h

module _ {F : Type 0} (r : CommRing F) (eq : F → F → Bool) (x : Instance F) (cap : Option ℕ) (w : ℕ) where
  pub recording_refused : (l : AirLayout) (e : AirError) → l ≡ air_layout x.air → RecordRefuses l x.air e → AuditRefusesUnder r eq x cap w e
  recording_refused l e q h = step (subst (λ m. RecordRefuses m x.air e) q h)
    where
      step : RecordRefuses (air_layout x.air) x.air e → AuditRefusesUnder r eq x cap w e
      step (inl other) = absurd (own_layout_fits x.air e other)
      step (inr refused) = inl (recording_refuses x.air e refused.1)

  pub degree_refused : (report : ConstraintReport) (us vs : List (Term F)) (e : RingError) → IsReport r eq x cap report
      → RecordingAnswers r (self_algebra r) (air_layout x.air) x.air
      → EachRecords (self_algebra r) us (base_terms x.air.constraints) → EachRecords (self_algebra r) vs (ext_terms x.air.constraints)
      → AnswersInferred w (row_count x) (periods_of x.air.periodic) (us ++ vs) (Err e) → AuditRefusesUnder r eq x cap w (air_error e)
  degree_refused report us vs Memory checked answers m n h = inl tt
  degree_refused report us vs DegreeOverflow checked answers m n h = inr (recordable r x.air answers, inr (refl, record { report = report; checked = checked; passes = passes }))
    where
      recorded : RecordConstraints r x.air us vs
      recorded = record { each_base = each_base (RecordsTerm (self_algebra r)) us x.air.constraints m; each_ext = each_ext (RecordsTerm (self_algebra r)) vs x.air.constraints n }

      passes : DegreeOverflows r w x
      passes = record { base = us; ext = vs; recorded = recorded; past = subst (λ d. 2 ^ 64 ≤ d) (inferred_is x (us ++ vs) w) h }
