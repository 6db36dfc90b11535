use Rattle.std.proofs.Common.{◌≡◌, ◌<◌, [], length, All, ap, ap₂, sym, subst, ◌∙◌, inl, inr, arith}
use Rattle.std.specs.Option.{option_copied}
use Rattle.std.proofs.lemmas.Result.{err_from_is_err_and}
use Rattle.air_symbolic.specs.BaseLeaves.{base_reads}
use Rattle.air_symbolic.specs.ExtLeaves.{ext_reads}
use Rattle.air_symbolic.specs.Pools.{PoolMeans, size}
use Rattle.air_json.specs.Faults.{air_fault}
use Rattle.air_recording.specs.Recorded.{terms_of}
use Rattle.air_recording.specs.Kinds.{base_terms, ext_terms}
use Rattle.air_audit.specs.FlatAirs.{zero_at_roots}
use Rattle.air_export.specs.Exports.{flat_declaration}
use Rattle.air_export.proofs.Exporting.{no_ragged, beside_is, trial_is, zeros_are, roots_here, as_many, zero_by_test, some_by_test, none_of, exported}
use Rattle.air_export.proofs.export.export_air.Goals as goal

pub returns-in_err-recorded-clause-refused : goal.returns-in_err-recorded-clause-refused
returns-in_err-recorded-clause-refused g c =
    let p = err_from_is_err_and c.from_residual.result c.from_residual.ensures.1 in
    rw (p.1, p.2) (inr (rw c.layout_for-layout.ensures at c.in_err-recorded.ensures.refused))

pub returns-in_err-object-clause-refused : goal.returns-in_err-object-clause-refused
returns-in_err-object-clause-refused g c =
    let out = c.from_residual-in_err-object in
    let p = err_from_is_err_and out.result out.ensures.1 in
    rw (p.1, p.2) (inl (ap air_fault c.in_err-object.ensures.refused))

pub returns-then-not-is_empty-clause-refused : goal.returns-then-not-is_empty-clause-refused
returns-then-not-is_empty-clause-refused g c =
    let recorded = c.in_ok-recorded.recorded in
    let ts = ext_terms (g.A.BaseAir.declaration c.args.air.now).constraints in
    let inside = c.recorded.inside.ext.items in
    let here : length inside ≡ length recorded.ext = ap (λ v. length v.ext) c.recorded.view_is in
    let many : length recorded.ext ≡ length ts = as_many (PoolMeans (ext_reads g.F.ExtensionField.basis) g.F.Field.ring recorded.pool) recorded.ext ts c.in_ok-recorded.ensures.ext.means in
    let some : 0 < length inside = omega (arith, some_by_test _ c.if-not-is_empty.ensures) in
    let count : c.len-count.result ≡ length inside = omega arith in
    (omega arith, omega arith)

pub object_value-requires-clause-roots : goal.object_value-requires-clause-roots
object_value-requires-clause-roots g c =
    let recorded = c.in_ok-recorded.recorded in
    let here = roots_here base_reads g.F.Field.ring recorded.pool.base recorded.base (base_terms (g.A.BaseAir.declaration c.args.air.now).constraints) c.in_ok-recorded.ensures.base.means in
    rw (c.deref.ensures.value, c.base.ensures) (subst (λ v. All (λ i. i < size v.pool.base) v.base) (sym c.recorded.view_is) here)

pub returns-clause-air : goal.returns-clause-air
returns-clause-air g c = λ input s.
    let r = g.F.Field.ring in
    let d = g.A.BaseAir.declaration c.args.air.now in
    let ts = ext_terms d.constraints in
    let recorded = c.in_ok-recorded.recorded in
    let inside = c.recorded.inside.ext.items in
    let read = c.in_ok-object.ensures.read input s in
    let here : length inside ≡ length recorded.ext = ap (λ v. length v.ext) c.recorded.view_is in
    let many : length recorded.ext ≡ length ts = as_many (PoolMeans (ext_reads g.F.ExtensionField.basis) r recorded.pool) recorded.ext ts c.in_ok-recorded.ensures.ext.means in
    let empty : length inside ≡ 0 = omega (arith, zero_by_test _ c.if-not-is_empty.ensures) in
    let none : length ts ≡ 0 = omega arith in
    let same : zero_at_roots c.base.result.now c.deref.result.now ≡ zero_at_roots recorded.pool.base recorded.base =
    ap₂ zero_at_roots (c.base.ensures ∙ ap (λ v. v.pool.base) c.recorded.view_is) (c.deref.ensures.value ∙ ap (λ v. v.base) c.recorded.view_is) in
    let layout = sym c.layout_for-layout.ensures in
    let fits = c.in_ok-recorded.ensures.layout.fits in
    let beside = beside_is c.trace_view.result c.table_view.result c.args.public_values.now c.base.result.now c.deref.result.now [] c.periodic_columns.result.now c.public_boundary_io.result.now c.args.cap c.args.transition_weight c.args.main.now (option_copied c.preprocessed_trace.result) c.trace_view.ensures c.table_view.ensures input read d (ap (λ l. l.main_width) layout ∙ fits.width_is) (ap (λ l. l.num_public_values) layout ∙ fits.public_is) c.preprocessed_trace.ensures c.periodic_columns.ensures c.public_boundary_io.ensures in
    exported r (flat_declaration input) d (terms_of base_reads recorded.pool.base recorded.base) (zeros_are c.trace_view.result c.table_view.result c.args.public_values.now c.base.result.now c.deref.result.now [] c.periodic_columns.result.now c.public_boundary_io.result.now c.args.cap c.args.transition_weight c.args.main.now (option_copied c.preprocessed_trace.result) c.trace_view.ensures c.table_view.ensures input read ∙ same) (none_of ts none) c.in_ok-recorded.ensures.base.terms beside

pub returns-clause-trial : goal.returns-clause-trial
returns-clause-trial g c = λ input s. trial_is c.trace_view.result c.table_view.result c.args.public_values.now c.base.result.now c.deref.result.now [] c.periodic_columns.result.now c.public_boundary_io.result.now c.args.cap c.args.transition_weight c.args.main.now (option_copied c.preprocessed_trace.result) c.trace_view.ensures c.table_view.ensures input (c.in_ok-object.ensures.read input s)

pub returns-clause-is_read : goal.returns-clause-is_read
returns-clause-is_read g c = λ e h.
    let f = c.in_ok-object.ensures.fault e h in
    no_ragged c.trace_view.result c.table_view.result c.args.public_values.now c.base.result.now c.deref.result.now [] c.periodic_columns.result.now c.public_boundary_io.result.now c.args.cap c.args.transition_weight c.args.main.now (option_copied c.preprocessed_trace.result) c.trace_view.ensures c.table_view.ensures f.0 f.1
