-- The debug builder of a checked row holds the values of that row of the trace.
use Rattle.std.proofs.Common.{◌≡◌, ℕ, zero, suc, ◌+◌, ◌%◌, ◌^◌, ◌<◌, List, [], ◌∷◌, ◌++◌, map, length, Bool, Some, None, Option, Vec, Global, slice_get, slice_index_or, refl, sym, ap, ap₂, subst, ◌∙◌, arith}
use Rattle.std.specs.Prelude.{◌⊎◌, is_some}
use Rattle.std.proofs.Math.Nat.{pow-suc}
use Rattle.std.proofs.lemmas.List.{length-map}
use Rattle.std.proofs.lemmas.Option.{get_or_from_slice_get}
use Rattle.air_field.specs.Grid.{Grid, table_grid}
use Rattle.air_field.specs.Ring.{CommRing, AlgebraOver, self_algebra}
use Rattle.air_field.specs.Term.{Leaf}
use Rattle.air_field.specs.Assignment.{Shape, row_at, row_or_none, trace_shape, IsMissing}
use Rattle.air_field.specs.OneRow.{one_row_shape}
use Rattle.air_field.specs.declared.matrices.view.ViewPair.{ViewPair}
use Rattle.air_builder.specs.Assertion.{Assertion}
use Rattle.air_builder.specs.PermutationRows.{permutation_data, permutation_row}
use Rattle.air_builder.specs.Refused.{Refused}
use Rattle.air_core.specs.Periodic.{column_at, IsFirstEmpty, RefusesPeriodicRow}
use Rattle.air_core.specs.Selectors.{row_selectors}
use Rattle.air_core.specs.declared.selectors.Selectors.{Selectors}
use Rattle.air_core.specs.declared.errors.AirError.{AirError}
use Rattle.air_core.specs.declared.errors.AirError.TheVariants.{Memory, EmptyPeriodicColumn}
use Rattle.air_report.specs.Checks.{CheckedRow}
use Rattle.air_report.specs.Instances.{Instance, instance_trace}
use Rattle.air_report.specs.Debug.{RowData, row_data, is_zero_at, nonzero_by, GrewAtRow}
use Rattle.air_report.specs.DebugRow.{debug_row, IsMovedTo, IsRow, StandsAt}
use Rattle.air_report.specs.Report.{zero_at}
use Rattle.air_report.specs.ReportBy.{CheckedRowBy, Fits, RowRefusesBy}
use Rattle.air_report.specs.RowRefusals.{RefusedAtRow, IsFull}
use Rattle.air_report.specs.laws.Debug.{refused_anyway}
use Rattle.air_report.specs.Shapes.{FitsHeight, table_height}
use Rattle.air_report.specs.declared.debug.builder.DebugConstraintBuilder.{DebugConstraintBuilder}
use Rattle.air_report.specs.declared.debug.failure.ConstraintFailure.{ConstraintFailure}
use Rattle.air_report.specs.declared.debug.row.Row.{Row}
use Rattle.air_report.proofs.OwnExtension.{own_nonzero}

-- the periodic values, if each column has one
periodic_is : {F A : Type 0} (z : F) (i : ℕ) (ps : List F) (cs : List (Vec F A)) → map Some ps ≡ map (column_at i) cs → ps ≡ map (λ column. slice_index_or column (i % length column) z) (map (λ c. c.items) cs)
periodic_is z i [] [] e = refl
periodic_is z i [] (c ∷ cs) e = cc
periodic_is z i (p ∷ ps) [] e = cc
periodic_is z i (p ∷ ps) (c ∷ cs) e =
    let here : slice_get c.items (i % length c.items) ≡ Some p = cc in
    let rest : map Some ps ≡ map (column_at i) cs = cc in
    ap (λ v. v ∷ ps) (sym (get_or_from_slice_get c.items (i % length c.items) p z here))
    ∙ ap (λ l. slice_index_or c.items (i % length c.items) z ∷ l) (periodic_is z i ps cs rest)

-- a preprocessed trace that fits wraps around as the trace does
around_table : {F : Type 0} (t : Option (Grid F)) (h i : ℕ) → FitsHeight (table_height t) h
    → row_or_none (slice_get (table_grid t).rows ((i + 1) % length (table_grid t).rows)) ≡ row_or_none (slice_get (table_grid t).rows ((i + 1) % h))
around_table None h i f = refl
around_table (Some table) h i f = ap (λ n. row_or_none (slice_get table.rows ((i + 1) % n))) f

-- the values of a row of the trace, with the permutation data of a builder
abbrev pub row_beside : {F E : Type 0} → CommRing F → Instance F → ℕ → Option (ViewPair E) → List E → List E → RowData F E
row_beside r g i others challenges exposed =
    record { row = i; values = row_at r (instance_trace g) i; has_permutation = is_some others; permutation = permutation_data others challenges exposed }

abbrev pub shape_beside : {F E : Type 0} → Instance F → Option (ViewPair E) → List E → List E → Shape
shape_beside g others challenges exposed = record (trace_shape (instance_trace g)) {
  permutation_width = length (permutation_row others);
  challenges = length challenges;
  permutation_values = length exposed;
}

-- a builder at a row of a checked trace
module _ {F E : Type 0} (g : Instance F) {i : ℕ} {pair table : ViewPair F} {selected : Selectors F} {row : Row F} {periodic : Vec F Global}
    {others : Option (ViewPair E)} {challenges exposed : List E} {fs : List ConstraintFailure} {b : DebugConstraintBuilder F E}
    (made : IsRow i pair table g.public selected row) (at : IsMovedTo row periodic others challenges exposed fs b) where
  -- if the test at the builder's row finds zero what the test of the check does, the builder grows by the failures that
  -- the check of the row adds
  pub checked_by : (test : ℕ → Assertion F → Bool) (by : RowData F E → Assertion F → Bool) {d e : RowData F E} {n : ℕ} {gs hs : List ConstraintFailure}
      → debug_row b ≡ d → d.row ≡ i → nonzero_by (by d) 0 g.air.constraints ≡ nonzero_by (test i) 0 g.air.constraints → hs ≡ gs
      → GrewAtRow by (debug_row b) e b.constraint_index n b.failures.items gs g.air.constraints
      → CheckedRowBy test g.air.constraints i fs hs n
  checked_by test by there here same handed grew =
      let places_of : RowData F E → ℕ → List (ℕ × ℕ) = λ d n. map (λ k. (d.row, k)) (nonzero_by (by d) n g.air.constraints) in
      record {
        more = grew.more;
        failures = handed ∙ (grew.failures ∙ ap (λ l. l ++ grew.more) at.failures);
        places = grew.places ∙ (ap₂ places_of there at.constraint_index ∙ ap₂ (λ k ks. map (λ n. (k, n)) ks) here same);
        constraints = omega (arith, grew.count, at.constraint_index);
      }

  -- the preprocessed trace of its preprocessed rows, and its periodic row
  module _ {t : Option (Grid F)} (same : t ≡ g.air.preprocessed) (p : map Some periodic.items ≡ map (column_at i) g.air.periodic) where
    holds : debug_row b ≡ row_data i pair.top.values.now pair.bottom.values.now
        table.top.values.now table.bottom.values.now periodic.items g.public selected.is_first_row selected.is_last_row selected.is_transition
        (is_some others) (permutation_data others challenges exposed)
    holds = rw (
      at.row,
      made.index,
      made.main,
      made.preprocessed,
      made.preprocessed_next,
      made.public_values,
      made.selectors,
      at.periodic_row,
      at.permutation,
      at.permutation_challenges,
      at.permutation_values,
    )

    -- the builder holds the values of its row of the trace
    pub row_at-given : (r : CommRing F) → Fits g → slice_get g.main.rows i ≡ Some pair.top.values.now
        → slice_get g.main.rows ((i + 1) % length g.main.rows) ≡ Some pair.bottom.values.now
        → table.top.values.now ≡ row_or_none (slice_get (table_grid t).rows i)
        → table.bottom.values.now ≡ row_or_none (slice_get (table_grid t).rows ((i + 1) % length (table_grid t).rows))
        → selected ≡ row_selectors r i (length g.main.rows)
        → debug_row b ≡ row_beside r g i others challenges exposed
    row_at-given r fits c n before after selectors =
        let u : table.top.values.now ≡ row_or_none (slice_get (table_grid g.air.preprocessed).rows i) =
        before ∙ ap (λ x. row_or_none (slice_get (table_grid x).rows i)) same in
        let v : table.bottom.values.now ≡ row_or_none (slice_get (table_grid g.air.preprocessed).rows ((i + 1) % length g.main.rows)) =
        after ∙ (ap (λ x. row_or_none (slice_get (table_grid x).rows ((i + 1) % length (table_grid x).rows))) same
        ∙ around_table g.air.preprocessed (length g.main.rows) i fits.table_fits) in
        let q = periodic_is r.zero i periodic.items g.air.periodic p in
        holds ∙ rw (c, n, u, v, q, selectors)

    -- the builder has the shape of the trace, and of its permutation data
    pub shape-given : length pair.top.values.now ≡ g.main.width → length table.top.values.now ≡ (table_grid t).width
        → one_row_shape (debug_row b).values (debug_row b).permutation ≡ shape_beside g others challenges exposed
    shape-given c w =
        let u : length table.top.values.now ≡ (table_grid g.air.preprocessed).width = w ∙ ap (λ x. (table_grid x).width) same in
        let n : length periodic.items ≡ length (map (λ column. column.items) g.air.periodic) =
        sym (length-map periodic.items Some) ∙ (ap length p ∙ (length-map g.air.periodic (column_at i) ∙ sym (length-map g.air.periodic (λ column. column.items)))) in
        ap (λ d. one_row_shape d.values d.permutation) holds ∙ rw (c, u, n)

  -- the builder refuses as any row of this shape
  pub row_refusal : {s : Shape} → one_row_shape (debug_row b).values (debug_row b).permutation ≡ s → {zero : RowData F E → Assertion F → Bool} (e : AirError)
      → (e ≡ Memory) ⊎ RefusedAtRow zero (debug_row b) b.constraint_index e g.air.constraints → RowRefusesBy (λ l. IsMissing s l) g e
  row_refusal {s} shape e h =
      subst (λ n. Refused (IsMissing s) (λ _. ⊥) (IsFull n) e g.air.constraints) at.constraint_index
      (subst (λ s. Refused (IsMissing s) (λ _. ⊥) (IsFull b.constraint_index) e g.air.constraints) shape (refused_anyway e h))

-- without permutation data, where the field is its own extension
module _ {F : Type 0} (g : Instance F) {i : ℕ} {pair table : ViewPair F} {selected : Selectors F} {row : Row F} {periodic : Vec F Global}
    {fs : List ConstraintFailure} {b : DebugConstraintBuilder F F} (made : IsRow i pair table g.public selected row) (at : StandsAt row periodic fs b) where
  pub checked_row : {r : CommRing F} (eq : F → F → Bool) {over : AlgebraOver F F} {e : RowData F F} {n : ℕ} {gs hs : List ConstraintFailure}
      → over ≡ self_algebra r → debug_row b ≡ row_beside r g i None [] [] → hs ≡ gs
      → GrewAtRow (is_zero_at r over eq eq) (debug_row b) e b.constraint_index n b.failures.items gs g.air.constraints
      → CheckedRow r eq g i fs hs n
  checked_row {r} eq {over} own there handed grew =
      checked_by g made at (zero_at r eq (instance_trace g)) (is_zero_at r over eq eq) there refl
      (own_nonzero r eq over own i (row_at r (instance_trace g) i) 0 g.air.constraints) handed grew

no_empty_power : (k : ℕ) → 0 ≡ 2 ^ k → ⊥
no_empty_power zero e = omega (arith, e)
no_empty_power (suc k) e = no_empty_power k (omega (arith, pow-suc 2 k, e))

none_empty : {F : Type 0} (g : Instance F) (columns : List (Vec F Global)) → columns ≡ g.air.periodic → Fits g → (index : ℕ) → IsFirstEmpty columns index → ⊥
none_empty g [] e f index h = omega (arith, h.within)
none_empty g (c ∷ cs) e f index h =
    let lt : index < length g.air.periodic = subst (λ l. index < length l) e h.within in
    let fit = f.periods_fit index lt c in
    let zero_long : length (slice_index_or g.air.periodic index c).items ≡ 0 = subst (λ l. length (slice_index_or l index c).items ≡ 0) e (h.is_empty c) in
    no_empty_power fit.0.0 (sym zero_long ∙ fit.0.1)

-- columns that fit aren't empty, so filling a row of them fails only with `Memory`
pub periodic_refusal : {F : Type 0} (missing : Leaf → Type 0) (g : Instance F) (e : AirError)
    → Fits g → RefusesPeriodicRow g.air.periodic e → RowRefusesBy missing g e
periodic_refusal missing g Memory f h = tt
periodic_refusal missing g (EmptyPeriodicColumn index) f h = absurd (none_empty g g.air.periodic refl f index h)
periodic_refusal missing g _ f h = absurd h
