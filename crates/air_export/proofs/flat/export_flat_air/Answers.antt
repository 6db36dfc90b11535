use Rattle.std.proofs.Common.{length, map, take, string_bytes, ap, sym, ◌∙◌, arith}
use Rattle.std.specs.Option.{option_copied}
use Rattle.air_audit.specs.FlatAirs.{zero_at_roots}
use Rattle.air_export.proofs.Exporting.{no_ragged, beside_is, trial_is, labels_are, zeros_are, take_least}
use Rattle.air_export.proofs.flat.export_flat_air.Goals as goal

pub returns-clause-air : goal.returns-clause-air
returns-clause-air g c = λ input s.
    let a = c.args.air.now in
    let read = c.in_ok-object.ensures.read input s in
    let layout = sym c.layout_for.ensures in
    let fits = c.in_ok-validate_against_air.ensures.fits in
    record {
      constraints = zeros_are c.trace_view.result c.table_view.result c.args.public_values.now c.args.air.now.pool c.deref.result.now _ c.deref-3.result.now c.deref-4.result.now c.args.cap c.args.transition_weight c.args.main.now (option_copied c.as_ref.result) c.trace_view.ensures c.table_view.ensures input read ∙ ap (zero_at_roots a.pool) c.deref.ensures.value;
      beside = beside_is c.trace_view.result c.table_view.result c.args.public_values.now c.args.air.now.pool c.deref.result.now _ c.deref-3.result.now c.deref-4.result.now c.args.cap c.args.transition_weight c.args.main.now (option_copied c.as_ref.result) c.trace_view.ensures c.table_view.ensures input read _ (ap (λ l. l.main_width) layout ∙ fits.width_is) (ap (λ l. l.num_public_values) layout ∙ fits.public_is) c.as_ref.ensures.value c.deref-3.ensures.value c.deref-4.ensures.value;
    }

pub returns-clause-labels : goal.returns-clause-labels
returns-clause-labels g c = λ input s.
    let a = c.args.air.now in
    labels_are c.trace_view.result c.table_view.result c.args.public_values.now c.args.air.now.pool c.deref.result.now _ c.deref-3.result.now c.deref-4.result.now c.args.cap c.args.transition_weight c.args.main.now (option_copied c.as_ref.result) c.trace_view.ensures c.table_view.ensures input (c.in_ok-object.ensures.read input s)
    ∙ (ap (λ ls. map string_bytes (take c.min-labelled.result ls)) c.deref-2.ensures.value
    ∙ ap (map string_bytes) (take_least c.min-labelled.result (length a.roots.items) a.labels.items (omega arith) (λ lt. omega arith)))

pub returns-clause-trial : goal.returns-clause-trial
returns-clause-trial g c = λ input s. trial_is c.trace_view.result c.table_view.result c.args.public_values.now c.args.air.now.pool c.deref.result.now _ c.deref-3.result.now c.deref-4.result.now c.args.cap c.args.transition_weight c.args.main.now (option_copied c.as_ref.result) c.trace_view.ensures c.table_view.ensures input (c.in_ok-object.ensures.read input s)

pub returns-clause-is_read : goal.returns-clause-is_read
returns-clause-is_read g c = λ e h.
    let f = c.in_ok-object.ensures.fault e h in
    no_ragged c.trace_view.result c.table_view.result c.args.public_values.now c.args.air.now.pool c.deref.result.now _ c.deref-3.result.now c.deref-4.result.now c.args.cap c.args.transition_weight c.args.main.now (option_copied c.as_ref.result) c.trace_view.ensures c.table_view.ensures f.0 f.1
