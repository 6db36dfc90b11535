-- The words of the audit theorem say the same as those of the crates below.
use Rattle.std.proofs.Common.{◌≡◌, ◌⊎◌, ℕ, zero, suc, ◌+◌, ◌++◌, ◌%◌, ◌<◌, ◌≤◌, List, [], ◌∷◌, map, length, take, not, Bool, All, Option, Some, None, IfSome, unwrap_or, slice_get, slice_index_or, refl, sym, ap, ◌∙◌, subst, arith, inl, inr}
use Rattle.std.specs.Prelude.{String, string_bytes, Vec}
use Rattle.std.specs.Global.{Global}
use Rattle.std.specs.Option.{option_map}
use Rattle.std.specs.List.{AllZip, filter, enumerate_from}
use Rattle.std.proofs.lemmas.List.{length-map, length-take, get_or-map, get_or-take, take_all}
use Rattle.std.proofs.lemmas.Option.{slice_get-map, slice_get_cases, slice_get_within, slice_get-get_or, get_or_from_slice_get}
use Rattle.std.proofs.lemmas.Simd.{map-map}
use Rattle.air_field.specs.Ring.{CommRing, self_algebra}
use Rattle.air_field.specs.Extension.{Basis}
use Rattle.air_field.specs.Grid.{Grid, table_grid}
use Rattle.air_field.specs.Term.{Leaf, preprocessed, main, periodic, public, first_row, last_row, transition, permutation, challenge, permutation_value, Term}
use Rattle.air_field.specs.Degree.{cached_weight}
use Rattle.air_field.specs.Assignment.{IsMissing, row_or_none, row_assignment, trace_shape}
use Rattle.air_core.specs.Boundary.{row_of, AreSoundBelow, IsFaultOf, IsFirstFault, IsSoundCell}
use Rattle.air_core.specs.declared.boundary.BoundaryPublic.{BoundaryPublic}
use Rattle.air_core.specs.declared.boundary.BoundaryIoError.{BoundaryIoError}
use Rattle.air_core.specs.declared.boundary.BoundaryIoError.TheVariants.{ColumnOutOfRange, PublicValueOutOfRange, DuplicateCell}
use Rattle.air_core.specs.declared.errors.AirError.{AirError}
use Rattle.air_core.specs.declared.errors.AirError.TheVariants.{Memory, DegreeOverflow, CountOverflow, MissingEntry, RowOffset, MissingExtEntry, NoPermutation, PreprocessedHeight, PeriodNotPowerOfTwo, PeriodDoesNotDivide, Boundary, EmptyTrace}
use Rattle.air_symbolic.specs.Nodes.{tree_of}
use Rattle.air_symbolic.specs.Trees.{term_of}
use Rattle.air_symbolic.specs.ExtLeaves.{BaseNodes, ext_reads, ext_term}
use Rattle.air_symbolic.specs.declared.leaves.ext_leaf.ExtLeaf.{ExtLeaf}
use Rattle.air_symbolic.specs.declared.leaves.ext_leaf.ExtLeaf.TheVariants as leaf
use Rattle.air_builder.specs.Assertion.{Assertion, Base, Extension}
use Rattle.air_builder.specs.Declaration.{Declaration, table_width}
use Rattle.air_builder.specs.Refusals.{NoneMissing}
use Rattle.air_builder.specs.Refused.{Refused}
use Rattle.air_recording.specs.Inferred.{periods_of, recorded_terms}
use Rattle.air_recording.specs.Kinds.{kind_of, base_terms, ext_terms, is_base, is_extension, places_from}
use Rattle.air_recording.specs.Layouts.{air_layout, layout_shape}
use Rattle.air_recording.specs.Recorded.{RecordsTerm, RecordingAnswers, terms_of}
use Rattle.air_recording.specs.Recording.{OverflowsDegree}
use Rattle.air_recording.specs.Recordings.{Recording}
use Rattle.air_report.specs.Cells.{violated_cells as reported_cells, label_text, bytes_of_text, IsCellFault}
use Rattle.air_report.specs.Checks.{Fits, RowRefuses}
use Rattle.air_report.specs.Instances.{instance_trace}
use Rattle.air_report.specs.Report.{all_places, assertion_value, place, report_of}
use Rattle.air_report.specs.RowRefusals.{IsFull}
use Rattle.air_report.specs.Shapes.{FitsHeight, IsShapeFault, PeriodsFitBelow, table_height}
use Rattle.air_report.specs.declared.debug.failure.ConstraintFailure.{ConstraintFailure}
use Rattle.air_audit.specs.Theorem.{Instance, row_count, entry_at, read_at, shape_with, IsPeriodOf, FixedColumnsFit, AreProperBelow, ext_leaf_term, recorded_base, recorded_ext, terms_in, base_constraints, ext_constraints, nonzero_places, violated_cells, RecordingRefuses, IsRecordable, FixedColumnsRefuse, EvaluationRefuses, IsFaultOfCell, CellsRefuse}

-- ---- reading a row

row_is : {F : Type 0} (o : Option (List F)) → unwrap_or o [] ≡ row_or_none o
row_is None = refl
row_is (Some row) = refl

module _ {F : Type 0} (r : CommRing F) (x : Instance F) where
  entry_is : (table : Grid F) (i c : ℕ) → entry_at r.zero table i c ≡ slice_index_or (row_or_none (slice_get table.rows i)) c r.zero
  entry_is table i c = ap (λ row. slice_index_or row c r.zero) (row_is (slice_get table.rows i))

  -- `read_at` is the assignment of a row
  pub read_at_is : (i : ℕ) (l : Leaf) → read_at r x i l ≡ row_assignment r (instance_trace x) i l
  read_at_is i (main zero c) = entry_is x.main i c
  read_at_is i (main (suc zero) c) = entry_is x.main ((i + 1) % row_count x) c
  read_at_is i (main (suc (suc o)) c) = refl
  read_at_is i (preprocessed zero c) = entry_is (table_grid x.air.preprocessed) i c
  read_at_is i (preprocessed (suc zero) c) = entry_is (table_grid x.air.preprocessed) ((i + 1) % row_count x) c
  read_at_is i (preprocessed (suc (suc o)) c) = refl
  read_at_is i (periodic c) = ap (λ row. slice_index_or row c r.zero) (sym (map-map (λ (column : List F). slice_index_or column (i % length column) r.zero) (λ column. column.items) x.air.periodic))
  read_at_is i (public k) = refl
  read_at_is i first_row = refl
  read_at_is i last_row = refl
  read_at_is i transition = refl
  read_at_is i (permutation o c) = refl
  read_at_is i (challenge k) = refl
  read_at_is i (permutation_value k) = refl

  -- `nonzero_places` is the report on all rows
  pub nonzero_places_are : (eq : F → F → Bool) → nonzero_places r eq x ≡ report_of r eq (instance_trace x) x.air.constraints (row_count x)
  nonzero_places_are eq =
      ap (λ (s : ℕ → Leaf → F). map place (filter (λ p. not (eq (assertion_value r (s p.0) p.1.1) r.zero)) (all_places (row_count x) x.air.constraints))) (λ j i l. read_at_is i l j)

  -- `violated_cells` are those that a check reports
  pub violated_cells_are : (eq : F → F → Bool) → violated_cells r eq x ≡ reported_cells r eq x.main x.public x.air.cells
  violated_cells_are eq =
      ap (λ (f : BoundaryPublic → F). filter (λ c. not (eq (f c.1) (slice_index_or x.public c.1.public_value r.zero))) (enumerate_from 0 x.air.cells)) (λ j cell. entry_is x.main (row_of cell.end (row_count x)) cell.column j)

text_is : (o : Option (String Global)) → option_map (λ s. string_bytes s) o ≡ bytes_of_text o
text_is None = refl
text_is (Some s) = refl

-- a failure's label
pub labels_are : (fs : List ConstraintFailure) → map (λ f. option_map (λ s. string_bytes s) f.label) fs ≡ map label_text fs
labels_are fs = ap (λ (f : ConstraintFailure → Option (List ℕ)). map f fs) (λ j f. text_is f.label j)

-- ---- which entries there are

-- an AIR's own entries are those of its layout
pub own_shape_is : {F : Type 0} (air : Declaration F) → shape_with air air.width air.num_public_values ≡ layout_shape (air_layout air)
own_shape_is {F} air =
    ap (λ w. record {
      main_width = air.width;
      preprocessed_width = w;
      periodic_columns = length air.periodic;
      public_values = air.num_public_values;
      permutation_width = 0;
      challenges = 0;
      permutation_values = 0;
    })
    (width_is air.preprocessed)
  where
    width_is : (o : Option (Grid F)) → (table_grid o).width ≡ table_width o
    width_is None = refl
    width_is (Some table) = refl

-- an instance's entries are those of its trace
pub shape_is : {F : Type 0} (x : Instance F) → shape_with x.air x.main.width (length x.public) ≡ trace_shape (instance_trace x)
shape_is x =
    ap (λ n. record {
      main_width = x.main.width;
      preprocessed_width = (table_grid x.air.preprocessed).width;
      periodic_columns = n;
      public_values = length x.public;
      permutation_width = 0;
      challenges = 0;
      permutation_values = 0;
    })
    (sym (length-map x.air.periodic (λ column. column.items)))

-- the recording's errors
recording_refused_as : {F : Type 0} (air : Declaration F) (e : AirError) → Refused (IsMissing (shape_with air air.width air.num_public_values)) (OverflowsDegree cached_weight) (λ _. ⊥) e air.constraints → RecordingRefuses air e
recording_refused_as air Memory h = tt
recording_refused_as air DegreeOverflow h = (h.0, h.1.0, h.1.1)
recording_refused_as air CountOverflow h = absurd h
recording_refused_as air (MissingEntry e i) h = h
recording_refused_as air (RowOffset o) h = h
recording_refused_as air (MissingExtEntry e i) h = h
recording_refused_as air NoPermutation h = h
recording_refused_as air _ h = h

pub recording_refuses : {F : Type 0} (air : Declaration F) (e : AirError) → Refused (IsMissing (layout_shape (air_layout air))) (OverflowsDegree cached_weight) (λ _. ⊥) e air.constraints → RecordingRefuses air e
recording_refuses air e h = recording_refused_as air e (subst (λ s. Refused (IsMissing s) (OverflowsDegree cached_weight) (λ _. ⊥) e air.constraints) (sym (own_shape_is air)) h)

as_recording_refused : {F : Type 0} (air : Declaration F) (e : AirError) → RecordingRefuses air e → Refused (IsMissing (shape_with air air.width air.num_public_values)) (OverflowsDegree cached_weight) (λ _. ⊥) e air.constraints
as_recording_refused air Memory h = tt
as_recording_refused air DegreeOverflow h = (h.0, (h.1, h.2))
as_recording_refused air CountOverflow h = absurd h
as_recording_refused air (MissingEntry e i) h = h
as_recording_refused air (RowOffset o) h = h
as_recording_refused air (MissingExtEntry e i) h = h
as_recording_refused air NoPermutation h = h
as_recording_refused air _ h = h

pub recording_refuses_back : {F : Type 0} (air : Declaration F) (e : AirError) → RecordingRefuses air e → Refused (IsMissing (layout_shape (air_layout air))) (OverflowsDegree cached_weight) (λ _. ⊥) e air.constraints
recording_refuses_back air e h = subst (λ s. Refused (IsMissing s) (OverflowsDegree cached_weight) (λ _. ⊥) e air.constraints) (own_shape_is air) (as_recording_refused air e h)

-- the rows' errors, without `Memory`
module _ {F : Type 0} (x : Instance F) where
  rows_refused_as : (e : AirError) → 0 < row_count x → Refused (IsMissing (shape_with x.air x.main.width (length x.public))) (λ _. ⊥) (IsFull 0) e x.air.constraints → (e ≡ Memory) ⊎ EvaluationRefuses x e
  rows_refused_as Memory some h = inl refl
  rows_refused_as DegreeOverflow some h = absurd h.1.0
  rows_refused_as CountOverflow some h = inr (some, omega (arith, h))
  rows_refused_as (MissingEntry e i) some h = inr (some, h)
  rows_refused_as (RowOffset o) some h = inr (some, h)
  rows_refused_as (MissingExtEntry e i) some h = inr (some, h)
  rows_refused_as NoPermutation some h = inr (some, h)
  rows_refused_as _ some h = absurd h

  pub rows_refuse : (e : AirError) → 0 < row_count x → RowRefuses x e → (e ≡ Memory) ⊎ EvaluationRefuses x e
  rows_refuse e some h = rows_refused_as e some (subst (λ s. Refused (IsMissing s) (λ _. ⊥) (IsFull 0) e x.air.constraints) (sym (shape_is x)) h)

  as_rows_refused : (e : AirError) → EvaluationRefuses x e → Refused (IsMissing (shape_with x.air x.main.width (length x.public))) (λ _. ⊥) (IsFull 0) e x.air.constraints
  as_rows_refused CountOverflow h = omega (arith, h.1)
  as_rows_refused (MissingEntry e i) h = h.1
  as_rows_refused (RowOffset o) h = h.1
  as_rows_refused (MissingExtEntry e i) h = h.1
  as_rows_refused NoPermutation h = h.1
  as_rows_refused _ h = absurd h.1

  pub rows_refuse_back : (e : AirError) → EvaluationRefuses x e → RowRefuses x e
  rows_refuse_back e h = subst (λ s. Refused (IsMissing s) (λ _. ⊥) (IsFull 0) e x.air.constraints) (shape_is x) (as_rows_refused e h)

-- ---- which fixed columns fit

module _ {F : Type 0} where
  table_fits : (o : Option (Grid F)) (n : ℕ) → FitsHeight (table_height o) n → IfSome o (λ table. length table.rows ≡ n)
  table_fits None n h = tt
  table_fits (Some table) n h = h

  table_fits_back : (o : Option (Grid F)) (n : ℕ) → IfSome o (λ table. length table.rows ≡ n) → FitsHeight (table_height o) n
  table_fits_back None n h = tt
  table_fits_back (Some table) n h = h

  abbrev period_of : Vec F Global → ℕ
  period_of column = length column.items

  periods_below : (columns : List (Vec F Global)) (h n : ℕ) → n ≤ length columns → PeriodsFitBelow columns h n → All (IsPeriodOf h) (take n (periods_of columns))
  periods_below columns h n within fit k d b =
      let below : k < n = omega (arith, b, length-take n (periods_of columns)) in
      let inside : k < length columns = omega (arith, below, within) in
      elim (slice_get_cases columns k).1 [
        | inl found ↦
            let v = found.0 in
            subst (IsPeriodOf h) (sym (get_or-take n (periods_of columns) k d below ∙ get_or-map period_of columns k v d inside)) (fit k below v)
        | inr past ↦ absurd (omega (arith, inside, past.0))
      ]

  periods_back : (columns : List (Vec F Global)) (h n : ℕ) → n ≤ length columns → All (IsPeriodOf h) (take n (periods_of columns)) → PeriodsFitBelow columns h n
  periods_back columns h n within fit k below v =
      let inside : k < length columns = omega (arith, below, within) in
      subst (IsPeriodOf h) (get_or-take n (periods_of columns) k (period_of v) below ∙ get_or-map period_of columns k v (period_of v) inside)
      (fit k (period_of v) (omega (arith, below, within, length-take n (periods_of columns), length-map columns period_of)))

  whole : (columns : List (Vec F Global)) → take (length columns) (periods_of columns) ≡ periods_of columns
  whole columns = take_all (length columns) (periods_of columns) (omega (arith, length-map columns period_of))

  -- the period that an error names
  period_is : (columns : List (Vec F Global)) (i n : ℕ) → i < length columns → ((v : Vec F Global) → n ≡ length (slice_index_or columns i v).items) → slice_get (periods_of columns) i ≡ Some n
  period_is columns i n inside h = elim (slice_get_cases columns i).1 [
    | inl found ↦ slice_get-map period_of columns i ∙ (ap (option_map period_of) found.2 ∙ ap (λ k. Some k) (sym (h found.0 ∙ ap period_of found.3)))
    | inr past ↦ absurd (omega (arith, inside, past.0))
  ]

  named_inside : (columns : List (Vec F Global)) (i n : ℕ) → slice_get (periods_of columns) i ≡ Some n → i < length columns
  named_inside columns i n h = omega (arith, slice_get_within (periods_of columns) i n h, length-map columns period_of)

  period_named : (columns : List (Vec F Global)) (i n : ℕ) → i < length columns → slice_get (periods_of columns) i ≡ Some n → (v : Vec F Global) → n ≡ length (slice_index_or columns i v).items
  period_named columns i n inside h v = sym (get_or_from_slice_get (periods_of columns) i n (period_of v) h) ∙ get_or-map period_of columns i v (period_of v) inside

module _ {F : Type 0} (x : Instance F) where
  pub fixed_columns_fit : Fits x → FixedColumnsFit x
  fixed_columns_fit h = record {
    table_fits = table_fits x.air.preprocessed (row_count x) h.table_fits;
    periods_fit = subst (All (IsPeriodOf (row_count x))) (whole x.air.periodic) (periods_below x.air.periodic (row_count x) (length x.air.periodic) (omega arith) h.periods_fit);
  }

  pub fixed_columns_fit_back : FixedColumnsFit x → Fits x
  fixed_columns_fit_back h = record {
    table_fits = table_fits_back x.air.preprocessed (row_count x) h.table_fits;
    periods_fit = periods_back x.air.periodic (row_count x) (length x.air.periodic) (omega arith) (subst (All (IsPeriodOf (row_count x))) (sym (whole x.air.periodic)) h.periods_fit);
  }

  table_of : (o : Option (Grid F)) (n : ℕ) → table_height o ≡ Some n → (table : Grid F) × (o ≡ Some table) × (n ≡ length table.rows)
  table_of None n h = cc
  table_of (Some table) n h = (table, refl, let e : Some (length table.rows) ≡ Some n = h in cc)

  pub fixed_columns_refuse : (e : AirError) → IsShapeFault x.air.periodic (row_count x) (table_height x.air.preprocessed) e → FixedColumnsRefuse x e
  fixed_columns_refuse (PreprocessedHeight n h) f = (table_of x.air.preprocessed n f.0, f.1, λ same. f.2 (same ∙ f.1))
  fixed_columns_refuse (PeriodNotPowerOfTwo i n) f = (
    table_fits x.air.preprocessed (row_count x) f.0,
    periods_below x.air.periodic (row_count x) i (omega (arith, f.1)) f.2,
    period_is x.air.periodic i n f.1 f.3,
    f.4,
  )
  fixed_columns_refuse (PeriodDoesNotDivide i n h) f = (
    table_fits x.air.preprocessed (row_count x) f.0,
    periods_below x.air.periodic (row_count x) i (omega (arith, f.1)) f.2,
    period_is x.air.periodic i n f.1 f.3,
    f.4,
    f.5,
    λ divides. f.6 (ap (λ k. k % n) (sym f.5) ∙ divides),
  )
  fixed_columns_refuse _ f = f

  pub fixed_columns_refuse_back : (e : AirError) → FixedColumnsRefuse x e → IsShapeFault x.air.periodic (row_count x) (table_height x.air.preprocessed) e
  fixed_columns_refuse_back (PreprocessedHeight n h) f = (ap table_height f.0.1 ∙ ap (λ k. Some k) (sym f.0.2), f.1, λ same. f.2 (same ∙ sym f.1))
  fixed_columns_refuse_back (PeriodNotPowerOfTwo i n) f =
      let inside : i < length x.air.periodic = named_inside x.air.periodic i n f.2 in (
        table_fits_back x.air.preprocessed (row_count x) f.0,
        inside,
        periods_back x.air.periodic (row_count x) i (omega (arith, inside)) f.1,
        period_named x.air.periodic i n inside f.2,
        f.3,
      )
  fixed_columns_refuse_back (PeriodDoesNotDivide i n h) f =
      let inside : i < length x.air.periodic = named_inside x.air.periodic i n f.2 in (
        table_fits_back x.air.preprocessed (row_count x) f.0,
        inside,
        periods_back x.air.periodic (row_count x) i (omega (arith, inside)) f.1,
        period_named x.air.periodic i n inside f.2,
        f.3,
        f.4,
        λ divides. f.5 (ap (λ k. k % n) f.4 ∙ divides),
      )
  fixed_columns_refuse_back _ f = f

-- ---- which cells fit

module _ {F : Type 0} (x : Instance F) where
  pub proper_below : (n : ℕ) → AreSoundBelow x.main.width (length x.public) x.air.cells n → AreProperBelow x n
  proper_below n h k cell below is =
      let s : IsSoundCell x.main.width (length x.public) (take k x.air.cells) cell = subst (IsSoundCell x.main.width (length x.public) (take k x.air.cells)) (get_or_from_slice_get x.air.cells k cell cell is) (h k below cell) in
      record { column_in = s.column_in; value_in = s.value_in; is_new = s.new_cell }

  pub proper_back : (n : ℕ) → n ≤ length x.air.cells → AreProperBelow x n → AreSoundBelow x.main.width (length x.public) x.air.cells n
  proper_back n within h k below d =
      let s = h k (slice_index_or x.air.cells k d) below (slice_get-get_or x.air.cells k d (omega (arith, below, within))) in
      record { column_in = s.column_in; value_in = s.value_in; new_cell = s.is_new }

  cells_fault : (earlier : List BoundaryPublic) (cell : BoundaryPublic) (fault : BoundaryIoError) → IsFaultOf x.main.width (length x.public) earlier cell fault → IsFaultOfCell x earlier cell fault
  cells_fault earlier cell (ColumnOutOfRange column width) h = h
  cells_fault earlier cell (PublicValueOutOfRange index n) h = h
  cells_fault earlier cell (DuplicateCell column end) h = (
    h.0,
    h.1,
    (h.2.place, slice_index_or earlier h.2.place cell, slice_get-get_or earlier h.2.place cell h.2.within, h.2.column_is cell, h.2.end_is cell),
    h.3,
    h.4,
  )

  first_fault : (fault : BoundaryIoError) → IsFirstFault x.main.width (length x.public) x.air.cells fault → CellsRefuse x (Boundary fault)
  first_fault fault h = elim (slice_get_cases x.air.cells h.place).1 [
    | inl found ↦ (
      h.place,
      found.0,
      found.2,
      proper_below h.place h.before,
      cells_fault (take h.place x.air.cells) found.0 fault (subst (λ c. IsFaultOf x.main.width (length x.public) (take h.place x.air.cells) c fault) found.3 (h.fault found.0)),
    )
    | inr past ↦ absurd (omega (arith, h.within, past.0))
  ]

  pub cells_refuse : (e : AirError) → IsCellFault x.main x.public x.air.cells e → CellsRefuse x e
  cells_refuse (Boundary fault) h = first_fault fault h
  cells_refuse EmptyTrace h = (proper_below (length x.air.cells) h.0, h.1, h.2)
  cells_refuse _ h = h

  fault_back : (earlier : List BoundaryPublic) (cell : BoundaryPublic) (fault : BoundaryIoError) → IsFaultOfCell x earlier cell fault → IsFaultOf x.main.width (length x.public) earlier cell fault
  fault_back earlier cell (ColumnOutOfRange column width) h = h
  fault_back earlier cell (PublicValueOutOfRange index n) h = h
  fault_back earlier cell (DuplicateCell column end) h =
      let is : (d : BoundaryPublic) → slice_index_or earlier h.2.0 d ≡ h.2.1 = λ d. get_or_from_slice_get earlier h.2.0 h.2.1 d h.2.2 in (
        h.0,
        h.1,
        record {
          place = h.2.0;
          within = slice_get_within earlier h.2.0 h.2.1 h.2.2;
          column_is = λ d. ap (λ c. c.column) (is d) ∙ h.2.3;
          end_is = λ d. ap (λ c. c.end) (is d) ∙ h.2.4;
        },
        h.3,
        h.4,
      )

  pub cells_refuse_back : (e : AirError) → CellsRefuse x e → IsCellFault x.main x.public x.air.cells e
  cells_refuse_back (Boundary fault) h =
      let within : h.0 < length x.air.cells = slice_get_within x.air.cells h.0 h.1 h.2 in
      record {
        place = h.0;
        within = within;
        before = proper_back h.0 (omega (arith, within)) h.3;
        fault = λ d. subst (λ c. IsFaultOf x.main.width (length x.public) (take h.0 x.air.cells) c fault) (sym (get_or_from_slice_get x.air.cells h.0 h.1 d h.2)) (fault_back (take h.0 x.air.cells) h.1 fault h.4);
      }
  cells_refuse_back EmptyTrace h = (proper_back (length x.air.cells) (omega arith) h.0, h.1, h.2)
  cells_refuse_back _ h = h

-- ---- recordings

module _ {F E : Type 0} (basis : Basis F E) (u : BaseNodes F) where
  pub ext_leaf_term_is : (a : ExtLeaf F E) → ext_leaf_term basis u.nodes a ≡ ext_term basis u a
  ext_leaf_term_is (leaf.Base k) = refl
  ext_leaf_term_is (leaf.ExtVariable v) = refl
  ext_leaf_term_is (leaf.ExtConstant c) = refl

-- `recorded_ext` and `terms_in` are the terms of the recorded numbers
pub recorded_ext_are : {F E : Type 0} (basis : Basis F E) (recorded : Recording F E) → recorded_ext basis recorded ≡ terms_of (ext_reads basis) recorded.pool recorded.ext
recorded_ext_are {F} {E} basis recorded =
    ap (λ (f : ExtLeaf F E → Term F). map (λ i. term_of f (tree_of recorded.pool.nodes i)) recorded.ext) (λ j a. ext_leaf_term_is basis recorded.pool.base a j)

pub terms_in_are : {F E : Type 0} (basis : Basis F E) (recorded : Recording F E) → terms_in basis recorded ≡ recorded_terms basis recorded
terms_in_are basis recorded = ap (λ us. recorded_base recorded ++ us) (recorded_ext_are basis recorded)

-- the constraints of a kind are the terms of it, with their places
module _ {F : Type 0} where
  pub base_terms_are : (n : ℕ) (ts : List (Assertion F)) → map (λ c. c.1) (base_constraints n ts) ≡ base_terms ts
  base_terms_are n [] = refl
  base_terms_are n (Base t ∷ ts) = ap (λ us. t ∷ us) (base_terms_are (n + 1) ts)
  base_terms_are n (Extension t ∷ ts) = base_terms_are (n + 1) ts

  pub ext_terms_are : (n : ℕ) (ts : List (Assertion F)) → map (λ c. c.1) (ext_constraints n ts) ≡ ext_terms ts
  ext_terms_are n [] = refl
  ext_terms_are n (Base t ∷ ts) = ext_terms_are (n + 1) ts
  ext_terms_are n (Extension t ∷ ts) = ap (λ us. t ∷ us) (ext_terms_are (n + 1) ts)

  pub base_places_are : (n : ℕ) (ts : List (Assertion F)) → map (λ c. c.0) (base_constraints n ts) ≡ places_from is_base n (map kind_of ts)
  base_places_are n [] = refl
  base_places_are n (Base t ∷ ts) = ap (λ ks. n ∷ ks) (base_places_are (n + 1) ts)
  base_places_are n (Extension t ∷ ts) = base_places_are (n + 1) ts

  pub ext_places_are : (n : ℕ) (ts : List (Assertion F)) → map (λ c. c.0) (ext_constraints n ts) ≡ places_from is_extension n (map kind_of ts)
  ext_places_are n [] = refl
  ext_places_are n (Base t ∷ ts) = ext_places_are (n + 1) ts
  ext_places_are n (Extension t ∷ ts) = ap (λ ks. n ∷ ks) (ext_places_are (n + 1) ts)

-- a property of each term of a list of constraints holds for each constraint
module _ {F X : Type 0} (R : X → Term F → Type 0) where
  each_constraint : (xs : List X) (cs : List (ℕ × Term F)) → AllZip R xs (map (λ c. c.1) cs) → AllZip (λ x c. R x c.1) xs cs
  each_constraint [] [] h = tt
  each_constraint [] (c ∷ cs) h = absurd h
  each_constraint (x ∷ xs) [] h = absurd h
  each_constraint (x ∷ xs) (c ∷ cs) h = (h.0, each_constraint xs cs h.1)

  each_term : (xs : List X) (cs : List (ℕ × Term F)) → AllZip (λ x c. R x c.1) xs cs → AllZip R xs (map (λ c. c.1) cs)
  each_term [] [] h = tt
  each_term [] (c ∷ cs) h = absurd h
  each_term (x ∷ xs) [] h = absurd h
  each_term (x ∷ xs) (c ∷ cs) h = (h.0, each_term xs cs h.1)

  pub each_base : (xs : List X) (ts : List (Assertion F)) → AllZip R xs (base_terms ts) → AllZip (λ x c. R x c.1) xs (base_constraints 0 ts)
  each_base xs ts h = each_constraint xs (base_constraints 0 ts) (subst (AllZip R xs) (sym (base_terms_are 0 ts)) h)

  pub each_ext : (xs : List X) (ts : List (Assertion F)) → AllZip R xs (ext_terms ts) → AllZip (λ x c. R x c.1) xs (ext_constraints 0 ts)
  each_ext xs ts h = each_constraint xs (ext_constraints 0 ts) (subst (AllZip R xs) (sym (ext_terms_are 0 ts)) h)

  pub each_base_back : (xs : List X) (ts : List (Assertion F)) → AllZip (λ x c. R x c.1) xs (base_constraints 0 ts) → AllZip R xs (base_terms ts)
  each_base_back xs ts h = subst (AllZip R xs) (base_terms_are 0 ts) (each_term xs (base_constraints 0 ts) h)

  pub each_ext_back : (xs : List X) (ts : List (Assertion F)) → AllZip (λ x c. R x c.1) xs (ext_constraints 0 ts) → AllZip R xs (ext_terms ts)
  each_ext_back xs ts h = subst (AllZip R xs) (ext_terms_are 0 ts) (each_term xs (ext_constraints 0 ts) h)

-- if a recording succeeds, the declared constraints are recordable
pub recordable : {F : Type 0} (r : CommRing F) (air : Declaration F) → RecordingAnswers r (self_algebra r) (air_layout air) air → IsRecordable r air
recordable r air h = record {
  there = subst (λ s. NoneMissing (IsMissing s) air.constraints) (sym (own_shape_is air)) h.suits.there;
  base = h.base;
  ext = h.ext;
  recorded = record { each_base = each_base (RecordsTerm (self_algebra r)) h.base air.constraints h.base_recorded; each_ext = each_ext (RecordsTerm (self_algebra r)) h.ext air.constraints h.ext_recorded };
  within = h.within;
}

pub recordable_back : {F : Type 0} (r : CommRing F) (air : Declaration F) → IsRecordable r air → RecordingAnswers r (self_algebra r) (air_layout air) air
recordable_back r air h = record {
  suits = record { fits = record { width_is = refl; public_is = refl; periodic_is = refl }; there = subst (λ s. NoneMissing (IsMissing s) air.constraints) (own_shape_is air) h.there };
  base = h.base;
  ext = h.ext;
  base_recorded = each_base_back (RecordsTerm (self_algebra r)) h.base air.constraints h.recorded.each_base;
  ext_recorded = each_ext_back (RecordsTerm (self_algebra r)) h.ext air.constraints h.recorded.each_ext;
  within = h.within;
}
