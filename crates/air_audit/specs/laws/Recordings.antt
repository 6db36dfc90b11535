-- The recorded constraints as one list, in the order of the declared constraints: its places, its values on each row,
-- and its report.
use Rattle.std.proofs.Common.{◌≡◌, ℕ, zero, suc, ◌+◌, List, [], ◌∷◌, ◌++◌, map, Bool, true, false, not, Option, Some, slice_get, refl, sym, ap, ap₂, ◌∙◌, arith, cond}
use Rattle.std.specs.List.{AllZip, filter, enumerate_from}
use Rattle.air_field.specs.Ring.{CommRing, self_algebra}
use Rattle.air_field.specs.Extension.{Basis}
use Rattle.air_field.specs.Term.{Leaf, Term}
use Rattle.air_field.specs.Assignment.{Trace, row_assignment}
use Rattle.air_builder.specs.Assertion.{Assertion, Base, Extension}
use Rattle.air_recording.specs.Recorded.{RecordsTerm}
use Rattle.air_report.specs.Debug.{nonzero_from}
use Rattle.air_report.specs.Instances.{instance_trace}
use Rattle.air_report.specs.Report.{assertion_value, report_of}
use Rattle.air_report.specs.laws.Report.{report_of-more}
use Rattle.air_audit.specs.Theorem.{Instance, read_at, value_on, RecordsEach, recorded_base, recorded_ext, base_constraints, ext_constraints}
use Rattle.air_audit.specs.declared.audit.Audit.{Audit}

-- the recorded terms of both kinds, at the places of the declared list
abbrev pub at_places : {F : Type 0} → List (Assertion F) → List (Term F) → List (Term F) → List (Assertion F)
at_places [] us vs = []
at_places (Base t ∷ ts) [] vs = []
at_places (Base t ∷ ts) (u ∷ us) vs = Base u ∷ at_places ts us vs
at_places (Extension t ∷ ts) us [] = []
at_places (Extension t ∷ ts) us (v ∷ vs) = Extension v ∷ at_places ts us vs

module _ {F : Type 0} (r : CommRing F) where
  -- a constraint of the declared one's kind, whose term records the declared term
  abbrev pub RecordsConstraint : Assertion F → Assertion F → Type 0
  RecordsConstraint (Base u) (Base t) = RecordsTerm (self_algebra r) u t
  RecordsConstraint (Base u) (Extension t) = ⊥
  RecordsConstraint (Extension u) (Base t) = ⊥
  RecordsConstraint (Extension u) (Extension t) = RecordsTerm (self_algebra r) u t

  abbrev Records : Term F → ℕ × Term F → Type 0
  Records u c = RecordsTerm (self_algebra r) u c.1

  placed_records : (n : ℕ) (ts : List (Assertion F)) (us vs : List (Term F)) → AllZip Records us (base_constraints n ts) → AllZip Records vs (ext_constraints n ts) → AllZip RecordsConstraint (at_places ts us vs) ts
  placed_records n [] us vs l m = tt
  placed_records n (Base t ∷ ts) [] vs l m = absurd l
  placed_records n (Base t ∷ ts) (u ∷ us) vs l m = (l.0, placed_records (n + 1) ts us vs l.1 m)
  placed_records n (Extension t ∷ ts) us [] l m = absurd m
  placed_records n (Extension t ∷ ts) us (v ∷ vs) l m = (m.0, placed_records (n + 1) ts us vs l m.1)

  -- the places of base constraints have the base terms, in order
  at_base_places : (at : ℕ → Option (Assertion F)) (n : ℕ) (ts : List (Assertion F)) (us vs : List (Term F)) → AllZip Records us (base_constraints n ts) → AllZip Records vs (ext_constraints n ts)
      → ((k : ℕ) → at (n + k) ≡ slice_get (at_places ts us vs) k) → map at (map (λ c. c.0) (base_constraints n ts)) ≡ map (λ u. Some (Base u)) us
  at_base_places at n [] [] vs l m h = refl
  at_base_places at n [] (u ∷ us) vs l m h = absurd l
  at_base_places at n (Base t ∷ ts) [] vs l m h = absurd l
  at_base_places at n (Base t ∷ ts) (u ∷ us) vs l m h =
      ap₂ (λ x xs. x ∷ xs) (ap at (omega arith) ∙ h 0) (at_base_places at (n + 1) ts us vs l.1 m (λ k. ap at (omega arith) ∙ h (suc k)))
  at_base_places at n (Extension t ∷ ts) us [] l m h = absurd m
  at_base_places at n (Extension t ∷ ts) us (v ∷ vs) l m h = at_base_places at (n + 1) ts us vs l m.1 (λ k. ap at (omega arith) ∙ h (suc k))

  -- the places of extension constraints have the extension terms, in order
  at_ext_places : (at : ℕ → Option (Assertion F)) (n : ℕ) (ts : List (Assertion F)) (us vs : List (Term F)) → AllZip Records us (base_constraints n ts) → AllZip Records vs (ext_constraints n ts)
      → ((k : ℕ) → at (n + k) ≡ slice_get (at_places ts us vs) k) → map at (map (λ c. c.0) (ext_constraints n ts)) ≡ map (λ v. Some (Extension v)) vs
  at_ext_places at n [] us [] l m h = refl
  at_ext_places at n [] us (v ∷ vs) l m h = absurd m
  at_ext_places at n (Base t ∷ ts) [] vs l m h = absurd l
  at_ext_places at n (Base t ∷ ts) (u ∷ us) vs l m h = at_ext_places at (n + 1) ts us vs l.1 m (λ k. ap at (omega arith) ∙ h (suc k))
  at_ext_places at n (Extension t ∷ ts) us [] l m h = absurd m
  at_ext_places at n (Extension t ∷ ts) us (v ∷ vs) l m h =
      ap₂ (λ x xs. x ∷ xs) (ap at (omega arith) ∙ h 0) (at_ext_places at (n + 1) ts us vs l m.1 (λ k. ap at (omega arith) ∙ h (suc k)))

  -- a recorded constraint has the value of the declared one, so the reports agree
  same_value : (s : Leaf → F) (u t : Assertion F) → RecordsConstraint u t → assertion_value r s u ≡ assertion_value r s t
  same_value s (Base u) (Base t) h = h.same_value s
  same_value s (Base u) (Extension t) h = absurd h
  same_value s (Extension u) (Base t) h = absurd h
  same_value s (Extension u) (Extension t) h = h.same_value s

  same_values : (s : Leaf → F) (us ts : List (Assertion F)) → AllZip RecordsConstraint us ts → map (assertion_value r s) us ≡ map (assertion_value r s) ts
  same_values s [] [] h = refl
  same_values s [] (t ∷ ts) h = absurd h
  same_values s (u ∷ us) [] h = absurd h
  same_values s (u ∷ us) (t ∷ ts) h = ap₂ (λ x xs. x ∷ xs) (same_value s u t h.0) (same_values s us ts h.1)

  abbrev numbers_of : List (ℕ × Assertion F) → List ℕ
  numbers_of ps = map (λ (p : ℕ × Assertion F). p.0) ps

  kept_same : (b : Bool) (n : ℕ) (u t : Assertion F) (xs ys : List (ℕ × Assertion F)) → numbers_of xs ≡ numbers_of ys → numbers_of (cond b ((n, u) ∷ xs) xs) ≡ numbers_of (cond b ((n, t) ∷ ys) ys)
  kept_same true n u t xs ys h = ap (λ l. n ∷ l) h
  kept_same false n u t xs ys h = h

  same_nonzero : (eq : F → F → Bool) (s : Leaf → F) (n : ℕ) (us ts : List (Assertion F)) → AllZip RecordsConstraint us ts → nonzero_from r eq s n us ≡ nonzero_from r eq s n ts
  same_nonzero eq s n [] [] h = refl
  same_nonzero eq s n [] (t ∷ ts) h = absurd h
  same_nonzero eq s n (u ∷ us) [] h = absurd h
  same_nonzero eq s n (u ∷ us) (t ∷ ts) h =
      let test : ℕ × Assertion F → Bool = λ p. not (eq (assertion_value r s p.1) r.zero) in
      let xs = filter test (enumerate_from (n + 1) us) in
      let ys = filter test (enumerate_from (n + 1) ts) in
      ap (λ v. numbers_of (cond (not (eq v r.zero)) ((n, u) ∷ xs) xs)) (same_value s u t h.0)
      ∙ kept_same (not (eq (assertion_value r s t) r.zero)) n u t xs ys (same_nonzero eq s (n + 1) us ts h.1)

  same_report : (eq : F → F → Bool) (trace : Trace F) (us ts : List (Assertion F)) → AllZip RecordsConstraint us ts → (h : ℕ) → report_of r eq trace us h ≡ report_of r eq trace ts h
  same_report eq trace us ts m zero = refl
  same_report eq trace us ts m (suc h) =
      let s : suc h ≡ h + 1 = omega arith in
      ap (report_of r eq trace us) s
      ∙ (report_of-more r eq trace us h
      ∙ (ap₂ (λ xs ys. xs ++ map (λ k. (h, k)) ys) (same_report eq trace us ts m h) (same_nonzero eq (row_assignment r trace h) 0 us ts m)
      ∙ (sym (report_of-more r eq trace ts h) ∙ ap (report_of r eq trace ts) (sym s))))

module _ {F : Type 0} (r : CommRing F) (eq : F → F → Bool) (basis : Basis F F) (x : Instance F) (audit : Audit F) (h : RecordsEach r basis x.air audit) where
  -- the recorded constraints, place by place
  abbrev pub recorded_list : List (Assertion F)
  recorded_list = at_places x.air.constraints (recorded_base audit.recorded) (recorded_ext basis audit.recorded)

  -- each records the declared one at its place
  pub list_records : AllZip (RecordsConstraint r) recorded_list x.air.constraints
  list_records = placed_records r 0 x.air.constraints (recorded_base audit.recorded) (recorded_ext basis audit.recorded) h.terms.each_base h.terms.each_ext

  -- the layout's places have the terms of the recorded numbers
  pub list_at_base : map (λ p. slice_get recorded_list p) audit.layout.base_indices.items ≡ map (λ u. Some (Base u)) (recorded_base audit.recorded)
  list_at_base = ap (map (λ p. slice_get recorded_list p)) h.base_places
      ∙ at_base_places r (λ p. slice_get recorded_list p) 0 x.air.constraints (recorded_base audit.recorded) (recorded_ext basis audit.recorded) h.terms.each_base h.terms.each_ext (λ k. ap (slice_get recorded_list) (omega arith))

  pub list_at_ext : map (λ p. slice_get recorded_list p) audit.layout.ext_indices.items ≡ map (λ v. Some (Extension v)) (recorded_ext basis audit.recorded)
  list_at_ext = ap (map (λ p. slice_get recorded_list p)) h.ext_places
      ∙ at_ext_places r (λ p. slice_get recorded_list p) 0 x.air.constraints (recorded_base audit.recorded) (recorded_ext basis audit.recorded) h.terms.each_base h.terms.each_ext (λ k. ap (slice_get recorded_list) (omega arith))

  -- on every row their values are those of the declared constraints
  pub list_values : (i : ℕ) → map (value_on r x i) recorded_list ≡ map (value_on r x i) x.air.constraints
  list_values i = same_values r (read_at r x i) recorded_list x.air.constraints list_records

  -- so on any number of rows their report is that of the declared constraints
  pub list_report : (n : ℕ) → report_of r eq (instance_trace x) recorded_list n ≡ report_of r eq (instance_trace x) x.air.constraints n
  list_report n = same_report r eq (instance_trace x) recorded_list x.air.constraints list_records n
