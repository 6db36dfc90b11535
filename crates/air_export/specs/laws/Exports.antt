-- An exported AIR is audited as the AIR is.
use Rattle.std.proofs.Common.{◌≡◌, ℕ, zero, suc, ◌+◌, Bool, true, false, List, [], ◌∷◌, ◌++◌, length, map, cond, refl, sym, ap, ap₂, ◌∙◌, arith}
use Rattle.std.specs.Prelude.{slice_index_or, Vec, not, ◌==◌, ◌%◌, if◌then◌else◌}
use Rattle.std.specs.List.{AllZip, filter, enumerate_from}
use Rattle.std.specs.Global.{Global}
use Rattle.air_core.specs.Boundary.{row_of}
use Rattle.air_core.specs.declared.boundary.BoundaryPublic.{BoundaryPublic}
use Rattle.air_field.specs.Ring.{CommRing, AlgebraOver, self_algebra}
use Rattle.air_field.specs.Grid.{Grid, table_grid}
use Rattle.air_field.specs.Term.{Leaf, preprocessed, main, periodic, public, first_row, last_row, transition, permutation, challenge, permutation_value, Term, leaf_term, const_term, ext_const_term, add_term, sub_term, neg_term, mul_term}
use Rattle.air_field.specs.Value.{value}
use Rattle.air_builder.specs.Assertion.{Assertion, Base, Extension}
use Rattle.air_builder.specs.Declaration.{Declaration}
use Rattle.air_recording.specs.Recorded.{RecordsTerm}
use Rattle.air_report.specs.Report.{report_by}
use Rattle.air_report.specs.laws.Report.{report_by-more}
use Rattle.air_report.specs.Debug.{nonzero_by}
use Rattle.air_audit.specs.Theorem.{Instance, instance, entry_at, read_at, value_on, nonzero_places, violated_places, base_constraints, ext_constraints, RecordConstraints}
use Rattle.air_export.specs.Exports.{RecordsConstraint, IsExportOf}

-- ---- the values of leaves and terms

value_same : {F E : Type 0} (a : AlgebraOver F E) (s q : Leaf → E) → ((l : Leaf) → s l ≡ q l) → (t : Term F) → value a s t ≡ value a q t
value_same a s q same (leaf_term l) = same l
value_same a s q same (const_term c) = refl
value_same a s q same (ext_const_term c) = refl
value_same a s q same (add_term t u) = cc (value_same a s q same t, value_same a s q same u)
value_same a s q same (sub_term t u) = cc (value_same a s q same t, value_same a s q same u)
value_same a s q same (neg_term t) = cc (value_same a s q same t)
value_same a s q same (mul_term t u) = cc (value_same a s q same t, value_same a s q same u)

map_items : {X Y Z : Type 0} (f : X → Y) (g : Y → Z) (xs : List X) → map (λ x. g (f x)) xs ≡ map g (map f xs)
map_items f g [] = refl
map_items f g (x ∷ xs) = ap (λ ys. g (f x) ∷ ys) (map_items f g xs)

length_zip : {X Y : Type 0} (R : X → Y → Type 0) (xs : List X) (ys : List Y) → AllZip R xs ys → length xs ≡ length ys
length_zip R [] [] h = refl
length_zip R [] (y ∷ ys) h = absurd h
length_zip R (x ∷ xs) [] h = absurd h
length_zip R (x ∷ xs) (y ∷ ys) h = ap suc (length_zip R xs ys h.1)

records_through : {F E : Type 0} (a : AlgebraOver F E) (u v t : Term F) → RecordsTerm a u v → RecordsTerm a v t → RecordsTerm a u t
records_through a u v t h k = record {
  same = λ s n. h.same s n ∙ k.same s n;
  same_value = λ s. h.same_value s ∙ k.same_value s;
  degree_le = λ w. omega (arith, h.degree_le w, k.degree_le w);
}

module _ {F : Type 0} (r : CommRing F) where
  abbrev Recorded : Term F → ℕ × Term F → Type 0
  Recorded u c = RecordsTerm (self_algebra r) u c.1

  -- what records the written constraints records the AIR's
  base_through : (k : ℕ) (us ts : List (Assertion F)) (base : List (Term F)) → AllZip (RecordsConstraint r) us ts → AllZip Recorded base (base_constraints k us) → AllZip Recorded base (base_constraints k ts)
  base_through k [] [] base z h = h
  base_through k [] (t ∷ ts) base z h = absurd z
  base_through k (u ∷ us) [] base z h = absurd z
  base_through k (Base u ∷ us) (Base t ∷ ts) [] z h = absurd h
  base_through k (Base u ∷ us) (Base t ∷ ts) (b ∷ base) z h = (records_through (self_algebra r) b u t h.0 z.0, base_through (k + 1) us ts base z.1 h.1)
  base_through k (Base u ∷ us) (Extension t ∷ ts) base z h = absurd z.0
  base_through k (Extension u ∷ us) (Base t ∷ ts) base z h = absurd z.0
  base_through k (Extension u ∷ us) (Extension t ∷ ts) base z h = absurd z.0

  ext_through : (k : ℕ) (us ts : List (Assertion F)) (ext : List (Term F)) → AllZip (RecordsConstraint r) us ts → AllZip Recorded ext (ext_constraints k us) → AllZip Recorded ext (ext_constraints k ts)
  ext_through k [] [] ext z h = h
  ext_through k [] (t ∷ ts) ext z h = absurd z
  ext_through k (u ∷ us) [] ext z h = absurd z
  ext_through k (Base u ∷ us) (Base t ∷ ts) ext z h = ext_through (k + 1) us ts ext z.1 h
  ext_through k (Base u ∷ us) (Extension t ∷ ts) ext z h = absurd z.0
  ext_through k (Extension u ∷ us) (Base t ∷ ts) ext z h = absurd z.0
  ext_through k (Extension u ∷ us) (Extension t ∷ ts) ext z h = absurd z.0

  pub recorded_alike : (written air : Declaration F) (base ext : List (Term F)) → IsExportOf r written air → RecordConstraints r written base ext → RecordConstraints r air base ext
  recorded_alike written air base ext h k = record {
    each_base = base_through 0 written.constraints air.constraints base h.constraints k.each_base;
    each_ext = ext_through 0 written.constraints air.constraints ext h.constraints k.each_ext;
  }

  module _ (written air : Declaration F) (trace : Grid F) (given : List F) (h : IsExportOf r written air) where
    abbrev one : Instance F
    one = instance written trace given

    abbrev other : Instance F
    other = instance air trace given

    read_same : (i : ℕ) (l : Leaf) → read_at r one i l ≡ read_at r other i l
    read_same i (main zero c) = refl
    read_same i (main (suc zero) c) = refl
    read_same i (main (suc (suc o)) c) = refl
    read_same i (preprocessed zero c) = ap (λ p. entry_at r.zero (table_grid p) i c) h.beside.preprocessed
    read_same i (preprocessed (suc zero) c) = ap (λ p. entry_at r.zero (table_grid p) ((i + 1) % length trace.rows) c) h.beside.preprocessed
    read_same i (preprocessed (suc (suc o)) c) = refl
    read_same i (periodic c) =
        let at : List F → F = λ column. slice_index_or column (i % length column) r.zero in
        let items : Vec F Global → List F = λ column. column.items in
        ap (λ values. slice_index_or values c r.zero) (map_items items at written.periodic ∙ ap (map at) h.beside.periodic ∙ sym (map_items items at air.periodic))
    read_same i (public k) = refl
    read_same i first_row = refl
    read_same i last_row = refl
    read_same i transition = refl
    read_same i (permutation o c) = refl
    read_same i (challenge k) = refl
    read_same i (permutation_value k) = refl

    pub values_alike : (i : ℕ) (u t : Assertion F) → RecordsConstraint r u t → value_on r one i u ≡ value_on r other i t
    values_alike i (Base u) (Base t) k = value_same (self_algebra r) (read_at r one i) (read_at r other i) (read_same i) u ∙ k.same_value (read_at r other i)
    values_alike i (Base u) (Extension t) k = absurd k
    values_alike i (Extension u) (Base t) k = absurd k
    values_alike i (Extension u) (Extension t) k = absurd k

    module _ (eq : F → F → Bool) where
      zero_same : (i : ℕ) (u t : Assertion F) → RecordsConstraint r u t → eq (value_on r one i u) r.zero ≡ eq (value_on r other i t) r.zero
      zero_same i u t k = ap (λ v. eq v r.zero) (values_alike i u t k)

      step : (b c : Bool) (n : ℕ) (u t : Assertion F) (us ts : List (ℕ × Assertion F)) → b ≡ c → map (λ p. p.0) us ≡ map (λ p. p.0) ts → map (λ p. p.0) (cond (not b) ((n, u) ∷ us) us) ≡ map (λ p. p.0) (cond (not c) ((n, t) ∷ ts) ts)
      step true true n u t us ts e q = q
      step true false n u t us ts e q = absurd cc
      step false true n u t us ts e q = absurd cc
      step false false n u t us ts e q = ap (λ ns. n ∷ ns) q

      row_same : (i n : ℕ) (us ts : List (Assertion F)) → AllZip (RecordsConstraint r) us ts
          → nonzero_by (λ t. eq (value_on r one i t) r.zero) n us ≡ nonzero_by (λ t. eq (value_on r other i t) r.zero) n ts
      row_same i n [] [] z = refl
      row_same i n [] (t ∷ ts) z = absurd z
      row_same i n (u ∷ us) [] z = absurd z
      row_same i n (u ∷ us) (t ∷ ts) z = step _ _ n u t _ _ (zero_same i u t z.0) (row_same i (n + 1) us ts z.1)

      rows_same : (h : ℕ) (us ts : List (Assertion F)) → AllZip (RecordsConstraint r) us ts
          → report_by (λ i t. eq (value_on r one i t) r.zero) us h ≡ report_by (λ i t. eq (value_on r other i t) r.zero) ts h
      rows_same zero us ts z = refl
      rows_same (suc n) us ts z =
          let left : ℕ → Assertion F → Bool = λ i t. eq (value_on r one i t) r.zero in
          let right : ℕ → Assertion F → Bool = λ i t. eq (value_on r other i t) r.zero in
          let s : n + 1 ≡ suc n = omega arith in
          ap (report_by left us) (sym s)
          ∙ (report_by-more left us n
          ∙ (ap₂ (λ xs ys. xs ++ map (λ k. (n, k)) ys) (rows_same n us ts z) (row_same n 0 us ts z)
          ∙ (sym (report_by-more right ts n) ∙ ap (report_by right ts) s)))

      pub failures_alike : nonzero_places r eq one ≡ nonzero_places r eq other
      failures_alike = rows_same (length trace.rows) written.constraints air.constraints h.constraints

      -- the places of violated cells among these, after n constraints
      cells_at : List BoundaryPublic → ℕ → List (ℕ × ℕ)
      cells_at cells n =
          map (λ c. (row_of c.1.end (length trace.rows), (if length trace.rows == 0 then 0 else n) + c.0)) (filter (λ c. not (eq (entry_at r.zero trace (row_of c.1.end (length trace.rows)) c.1.column) (slice_index_or given c.1.public_value r.zero))) (enumerate_from 0 cells))

      cells_as : (x : Declaration F) → violated_places r eq (instance x trace given) ≡ cells_at x.cells (length x.constraints)
      unfolding cells_at
      cells_as x = refl

      pub cells_alike : violated_places r eq one ≡ violated_places r eq other
      cells_alike =
          cells_as written ∙ ap₂ cells_at h.beside.cells (length_zip (RecordsConstraint r) written.constraints air.constraints h.constraints) ∙ sym (cells_as air)
