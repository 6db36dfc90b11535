-- On a trace of two columns with three public values, Fibonacci fails only with `Memory`, or with `DegreeOverflow` in a domain of large weight.
use Rattle.std.proofs.Common.{◌≡◌, ◌⊎◌, ℕ, zero, suc, ◌+◌, ◌<◌, ◌≤◌, ◌^◌, List, [], ◌∷◌, ◌++◌, length, refl, arith, Bool, Option, inl, inr}
use Rattle.std.proofs.Math.Nat.{max-le, le-max_left, le-max_right}
use Rattle.air_field.specs.Ring.{CommRing, AlgebraOver, self_algebra}
use Rattle.air_field.specs.Term.{Leaf, permutation, Term}
use Rattle.air_field.specs.Part.{Part, whole, in_add_left, in_add_right, in_sub_left, in_sub_right, in_neg, in_mul_left, in_mul_right}
use Rattle.air_field.specs.Degree.{degree_by, cached_weight, trace_weight, greatest_degree, inferred_degree}
use Rattle.air_field.specs.Grid.{Grid}
use Rattle.air_field.specs.Assignment.{Shape, IsMissing, trace_shape}
use Rattle.air_builder.specs.Assertion.{Assertion, Base, Extension}
use Rattle.air_builder.specs.Refusals.{PartOf, NoneMissing}
use Rattle.air_builder.specs.laws.Refusals.{none_missing}
use Rattle.air_core.specs.declared.errors.AirError.{AirError}
use Rattle.air_core.specs.declared.errors.AirError.TheVariants.{Memory, DegreeOverflow, CountOverflow, MissingEntry, RowOffset, MissingExtEntry, NoPermutation}
use Rattle.air_core.specs.Entries.{entry_leaf}
use Rattle.air_core.specs.ExtEntries.{ext_entry_leaf}
use Rattle.air_report.specs.Report.{plain_trace}
use Rattle.air_report.specs.RowRefusals.{IsFull}
use Rattle.air_report.specs.laws.Plain.{plain_refusal}
use Rattle.air_builder.specs.Refused.{Refused}
use Rattle.air_recording.specs.Kinds.{base_terms, ext_terms}
use Rattle.air_recording.specs.Recorded.{EachRecords, RecordsTerm}
use Rattle.air_recording.specs.laws.Bounds.{quotient_within}
use Rattle.air_audit.specs.Theorem.{DegreeOverflows, RecordingRefuses, instance, shape_with}
use Rattle.air_audit.specs.Audits.{AuditRefusesUnder, IsDegreePast}
use Rattle.air_audit.specs.laws.Theorem.{each_base_back, each_ext_back}
use Rattle.example_fibonacci.specs.Fibonacci.{fibonacci, fibonacci_declaration}

part_degree : {F : Type 0} (w : Leaf → ℕ) {t u : Term F} → Part t u → degree_by w t ≤ degree_by w u
part_degree w whole = omega arith
part_degree w (in_add_left {u = u} {v = v} p) = omega (arith, part_degree w p, le-max_left (degree_by w u) (degree_by w v))
part_degree w (in_add_right {u = u} {v = v} p) = omega (arith, part_degree w p, le-max_right (degree_by w u) (degree_by w v))
part_degree w (in_sub_left {u = u} {v = v} p) = omega (arith, part_degree w p, le-max_left (degree_by w u) (degree_by w v))
part_degree w (in_sub_right {u = u} {v = v} p) = omega (arith, part_degree w p, le-max_right (degree_by w u) (degree_by w v))
part_degree w (in_neg p) = part_degree w p
part_degree w (in_mul_left {u = u} {v = v} p) = omega (arith, part_degree w p)
part_degree w (in_mul_right {u = u} {v = v} p) = omega (arith, part_degree w p)

-- if no term has a degree above b, no part of a term has
AllBelow : {F : Type 0} → (Leaf → ℕ) → ℕ → List (Assertion F) → Type 0
AllBelow w b [] = Unit {0}
AllBelow w b (Base t ∷ ts) = (degree_by w t ≤ b) × AllBelow w b ts
AllBelow w b (Extension t ∷ ts) = (degree_by w t ≤ b) × AllBelow w b ts

parts_below : {F : Type 0} (w : Leaf → ℕ) (b : ℕ) (ts : List (Assertion F)) → AllBelow w b ts → (t : Term F) → PartOf t ts → degree_by w t ≤ b
unfolding AllBelow
parts_below w b [] h t p = absurd p
parts_below w b (Base u ∷ ts) h t (inl p) = omega (arith, part_degree w p, h.0)
parts_below w b (Extension u ∷ ts) h t (inl p) = omega (arith, part_degree w p, h.0)
parts_below w b (Base u ∷ ts) h t (inr p) = parts_below w b ts h.1 t p
parts_below w b (Extension u ∷ ts) h t (inr p) = parts_below w b ts h.1 t p

-- each of these terms has at most degree b
TermsBelow : {F : Type 0} → (Leaf → ℕ) → ℕ → List (Term F) → Type 0
TermsBelow w b [] = Unit {0}
TermsBelow w b (t ∷ ts) = (degree_by w t ≤ b) × TermsBelow w b ts

-- recorded versions of such terms have no greater degree
recorded_below : {F E : Type 0} (a : AlgebraOver F E) (w : Leaf → ℕ) (b : ℕ) (us ts : List (Term F)) → EachRecords a us ts → TermsBelow w b ts → greatest_degree w us ≤ b
unfolding TermsBelow
recorded_below a w b [] [] m h = omega arith
recorded_below a w b [] (t ∷ ts) m h = absurd m
recorded_below a w b (u ∷ us) [] m h = absurd m
recorded_below a w b (u ∷ us) (t ∷ ts) m h = max-le (omega (arith, m.0.degree_le w, h.0)) (recorded_below a w b us ts m.1 h.1)

both_below : {F E : Type 0} (a : AlgebraOver F E) (w : Leaf → ℕ) (b : ℕ) (us ts vs ss : List (Term F)) → EachRecords a us ts → EachRecords a vs ss → TermsBelow w b ts → TermsBelow w b ss → greatest_degree w (us ++ vs) ≤ b
unfolding TermsBelow
both_below a w b [] [] vs ss m n h k = recorded_below a w b vs ss n k
both_below a w b [] (t ∷ ts) vs ss m n h k = absurd m
both_below a w b (u ∷ us) [] vs ss m n h k = absurd m
both_below a w b (u ∷ us) (t ∷ ts) vs ss m n h k = max-le (omega (arith, m.0.degree_le w, h.0)) (both_below a w b us ts vs ss m.1 n h.1 k)

module _ (F : Type 0) where
  -- a trace with two columns and three public values has all entries that the constraints name
  none_missing_in : (s : Shape) → s.main_width ≡ 2 → s.public_values ≡ 3 → NoneMissing {F = F} (IsMissing s) fibonacci
  none_missing_in s w p =
      let column : (i : ℕ) → i < 2 → s.main_width ≤ i → ⊥ = λ i b h. absurd (omega arith) in
      let value : (i : ℕ) → i < 3 → s.public_values ≤ i → ⊥ = λ i b h. absurd (omega arith) in
      let a = column 0 (omega arith) in
      let b = column 1 (omega arith) in
      let none : ⊥ → ⊥ = λ h. h in
      none_missing (IsMissing s) fibonacci
      ((none, (a, value 0 (omega arith))), ((none, (b, value 1 (omega arith))), ((none, (a, b)), ((none, (b, (a, b))), ((none, (b, value 2 (omega arith))), tt)))))

  cached_below : AllBelow {F = F} cached_weight 2 fibonacci
  unfolding AllBelow
  cached_below = (omega arith, (omega arith, (omega arith, (omega arith, (omega arith, tt)))))

  trace_below : (n : ℕ) → TermsBelow {F = F} (trace_weight n []) (n + n + 1) (base_terms fibonacci)
  unfolding TermsBelow
  trace_below n = (omega arith, (omega arith, (omega arith, (omega arith, (omega arith, tt)))))

  counted_below : TermsBelow {F = F} cached_weight 2 (base_terms fibonacci)
  unfolding TermsBelow
  counted_below = (omega arith, (omega arith, (omega arith, (omega arith, (omega arith, tt)))))

  none_below : (w : Leaf → ℕ) (b : ℕ) → TermsBelow {F = F} w b (ext_terms fibonacci)
  unfolding TermsBelow
  none_below w b = tt

  -- a check fails only with `Memory`
  check_refuses : (g : Grid F) (public : List F) (e : AirError) → g.width ≡ 2 → length public ≡ 3 → Refused {F = F} (IsMissing (trace_shape (plain_trace g public))) (λ _. ⊥) (IsFull 0) e fibonacci → e ≡ Memory
  check_refuses g public Memory w p h = refl
  check_refuses g public DegreeOverflow w p h = absurd h.1.0
  check_refuses g public CountOverflow w p h = absurd (omega arith)
  check_refuses g public (MissingEntry e i) w p h = absurd (none_missing_in (trace_shape (plain_trace g public)) w p (entry_leaf e i) h.0 h.1)
  check_refuses g public (RowOffset o) w p h = absurd (none_missing_in (trace_shape (plain_trace g public)) w p h.0 h.2 h.3)
  check_refuses g public (MissingExtEntry e i) w p h = absurd (none_missing_in (trace_shape (plain_trace g public)) w p (ext_entry_leaf e i) h.0 h.1)
  check_refuses g public NoPermutation w p h = absurd (none_missing_in (trace_shape (plain_trace g public)) w p (permutation h.0 h.1) h.2 h.3)
  check_refuses g public _ w p h = absurd h

  -- so does the recording
  abbrev own_shape : Shape
  own_shape = shape_with (fibonacci_declaration {F = F}) 2 3

  recording_refuses : (e : AirError) → RecordingRefuses (fibonacci_declaration {F = F}) e → e ≡ Memory
  recording_refuses Memory h = refl
  recording_refuses CountOverflow h = absurd h
  recording_refuses (MissingEntry e i) h = absurd (none_missing_in own_shape refl refl (entry_leaf e i) h.0 h.1)
  recording_refuses (RowOffset o) h = absurd (none_missing_in own_shape refl refl h.0 h.2 h.3)
  recording_refuses (MissingExtEntry e i) h = absurd (none_missing_in own_shape refl refl (ext_entry_leaf e i) h.0 h.1)
  recording_refuses NoPermutation h = absurd (none_missing_in own_shape refl refl (permutation h.0 h.1) h.2 h.3)
  recording_refuses DegreeOverflow h = absurd (omega (arith, h.1, parts_below cached_weight 2 fibonacci cached_below h.0 h.2))
  recording_refuses _ h = absurd h

  -- no degree passes `usize`
  degree_fits : (r : CommRing F) (n : ℕ) (us vs : List (Term F)) → n < 2 ^ 63 → EachRecords (self_algebra r) us (base_terms fibonacci) → EachRecords (self_algebra r) vs (ext_terms fibonacci) → 2 ^ 64 ≤ inferred_degree n [] (us ++ vs) → ⊥
  degree_fits r n us vs b m k past =
      let over_rows = both_below (self_algebra r) (trace_weight n []) (n + n + 1) us (base_terms fibonacci) vs (ext_terms fibonacci) m k (trace_below n) (none_below (trace_weight n []) (n + n + 1)) in
      let cached = both_below (self_algebra r) cached_weight 2 us (base_terms fibonacci) vs (ext_terms fibonacci) m k counted_below (none_below cached_weight 2) in
      let within = quotient_within (greatest_degree (trace_weight n []) (us ++ vs)) n in
      absurd (omega (arith, b, past, over_rows, cached, within))

  -- only in a domain whose weight isn't 0 may the degree pass `usize`
  some_weight : (r : CommRing F) (eq : F → F → Bool) (main : Grid F) (public : List F) (cap : Option ℕ) (w : ℕ) → length main.rows < 2 ^ 63
      → IsDegreePast r eq (instance fibonacci_declaration main public) cap w → 0 < w
  some_weight r eq main public cap zero b past =
      let p : DegreeOverflows r 0 (instance fibonacci_declaration main public) = past.passes in
      absurd (degree_fits r (length main.rows) p.base p.ext b (each_base_back (RecordsTerm (self_algebra r)) p.base fibonacci p.recorded.each_base) (each_ext_back (RecordsTerm (self_algebra r)) p.ext fibonacci p.recorded.each_ext) p.past)
  some_weight r eq main public cap (suc w) b past = omega arith

  -- so an audit fails only with `Memory`, or with such a degree
  pub audit_refuses : (r : CommRing F) (eq : F → F → Bool) (main : Grid F) (public : List F) (cap : Option ℕ) (w : ℕ) (e : AirError) → main.width ≡ 2 → length public ≡ 3 → length main.rows < 2 ^ 63
      → AuditRefusesUnder r eq (instance fibonacci_declaration main public) cap w e
      → (e ≡ Memory) ⊎ ((e ≡ DegreeOverflow) × ((0 < w) × IsDegreePast r eq (instance fibonacci_declaration main public) cap w))
  audit_refuses r eq main public cap w e wide three b (inl recording) = inl (recording_refuses e recording)
  audit_refuses r eq main public cap w e wide three b (inr (there, inl check)) = inl (check_refuses main public e wide three (plain_refusal r eq fibonacci 2 3 main public cap e check))
  audit_refuses r eq main public cap w e wide three b (inr (there, inr past)) =
      inr (past.0, (some_weight r eq main public cap w b past.1, past.1))
