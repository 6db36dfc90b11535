use Rattle.std.proofs.Common.{◌+◌, drop, subst}
use Rattle.std.proofs.lemmas.List.{drop_all}
use Rattle.std.proofs.lemmas.Result.{err_from_is_err_and}
use Rattle.air_field.specs.Term.{const_term}
use Rattle.air_gadgets.proofs.Combining.{IsCombining, begin_combining, combine_one, end_combining, beginning_refused, scaling_refused, adding_refused, entry_in, stays_in, drop_item, columns_as_air}
use Rattle.air_gadgets.proofs.columns.virtual_pair_col.VirtualPairCol.apply.Goals as goal

pub returns-in_err-total-clause-refused : goal.returns-in_err-total-clause-refused
returns-in_err-total-clause-refused g c =
    let p = err_from_is_err_and c.from_residual.result c.from_residual.ensures.1 in
    rw (p.1, p.2)
    (columns_as_air g.R.Algebra.means g.R.Algebra.refuses c.args.ring.now c.args.self.now c.args.preprocessed.now c.args.main.now c.in_err-total.field-0.0
    (beginning_refused g.met.R.Algebra.laws c.args.self.now c.args.preprocessed.now c.args.main.now c.args.ring.now c.in_err-total.field-0.0
    (subst (λ v. g.R.Algebra.refuses c.in_err-total.field-0.0 (const_term v.constant)) c.self.view_is c.in_err-total.ensures.refused)))

pub loop-column-init : goal.loop-column-init
loop-column-init g c =
    rw (c.deref-column-items.ensures.value, ← c.self.view_is)
    (begin_combining g.met.R.Algebra.laws _ c.args.preprocessed.now c.args.main.now c.args.ring.now c.constant.new.self c.in_ok-total.total
    c.in_ok-total.ensures.extended c.in_ok-total.ensures.made)

pub times_weight-requires : goal.times_weight-requires
times_weight-requires g c =
    entry_in (g.R.Algebra.has c.loop-column.ring) c.loop-column-item.result.0 c.args.preprocessed.now c.args.main.now c.get-entry.result
    (stays_in g.met.R.Algebra.laws _ _ c.args.preprocessed.now c.loop-column.invariant.extended c.requires.preprocessed_in)
    (stays_in g.met.R.Algebra.laws _ _ c.args.main.now c.loop-column.invariant.extended c.requires.main_in)
    c.get-entry.ensures

pub returns-in_err-scaled-clause-refused : goal.returns-in_err-scaled-clause-refused
returns-in_err-scaled-clause-refused g c =
    let p = err_from_is_err_and c.from_residual-in_err-scaled.result c.from_residual-in_err-scaled.ensures.1 in
    rw (p.1, p.2)
    (columns_as_air g.R.Algebra.means g.R.Algebra.refuses c.args.ring.now c.args.self.now c.args.preprocessed.now c.args.main.now c.in_err-scaled.field-0.0
    (scaling_refused g.met.R.Algebra.laws c.args.self.now c.args.preprocessed.now c.args.main.now c.args.ring.now c.loop-column.ring c.in_err-scaled.field-0.0
    c.loop-column-item.result.0 c.loop-column-item.result.1 c.loop-column.total c.get-entry.result (drop (c.loop-column.column-index + 1) c.deref-column-items.result.now)
    c.get-entry.ensures c.in_err-scaled.ensures.refused
    (subst (IsCombining g.R.Algebra.has g.R.Algebra.means g.R.Algebra.extends c.args.ring.now c.loop-column.ring c.args.self.now c.args.preprocessed.now c.args.main.now c.loop-column.total)
    (drop_item c.deref-column-items.result.now c.loop-column.column-index c.loop-column-item.result c.loop-column-test.true c.loop-column-item.is)
    c.loop-column.invariant)))

pub returns-in_err-total-2-clause-extended : goal.returns-in_err-total-2-clause-extended
returns-in_err-total-2-clause-extended g c =
    g.met.R.Algebra.laws.joined _ _ _ c.loop-column.invariant.extended (g.met.R.Algebra.laws.joined _ _ _ c.times_weight.ensures.extended c.add.ensures.extended)

pub returns-in_err-total-2-clause-refused : goal.returns-in_err-total-2-clause-refused
returns-in_err-total-2-clause-refused g c =
    let p = err_from_is_err_and c.from_residual-in_err-total-2.result c.from_residual-in_err-total-2.ensures.1 in
    rw (p.1, p.2)
    (columns_as_air g.R.Algebra.means g.R.Algebra.refuses c.args.ring.now c.args.self.now c.args.preprocessed.now c.args.main.now c.in_err-total-2.field-0.0
    (adding_refused g.met.R.Algebra.laws c.args.self.now c.args.preprocessed.now c.args.main.now c.args.ring.now c.loop-column.ring c.times_weight.new.ring c.in_err-total-2.field-0.0
    c.loop-column-item.result.0 c.loop-column-item.result.1 c.loop-column.total c.get-entry.result c.in_ok-scaled.scaled (drop (c.loop-column.column-index + 1) c.deref-column-items.result.now)
    c.get-entry.ensures c.times_weight.ensures.extended c.in_ok-scaled.ensures.made c.in_err-total-2.ensures.refused
    (subst (IsCombining g.R.Algebra.has g.R.Algebra.means g.R.Algebra.extends c.args.ring.now c.loop-column.ring c.args.self.now c.args.preprocessed.now c.args.main.now c.loop-column.total)
    (drop_item c.deref-column-items.result.now c.loop-column.column-index c.loop-column-item.result c.loop-column-test.true c.loop-column-item.is)
    c.loop-column.invariant)))

pub loop-column-preserved : goal.loop-column-preserved
loop-column-preserved g c =
    combine_one g.met.R.Algebra.laws c.args.self.now c.args.preprocessed.now c.args.main.now c.args.ring.now c.loop-column.ring c.times_weight.new.ring c.add.new.self
    c.loop-column-item.result.0 c.loop-column-item.result.1 c.loop-column.total c.get-entry.result c.in_ok-scaled.scaled c.in_ok-total-2.total (drop (c.loop-column.column-index + 1) c.deref-column-items.result.now)
    c.get-entry.ensures c.times_weight.ensures.extended c.add.ensures.extended c.in_ok-scaled.ensures.made c.in_ok-total-2.ensures.made
    (subst (IsCombining g.R.Algebra.has g.R.Algebra.means g.R.Algebra.extends c.args.ring.now c.loop-column.ring c.args.self.now c.args.preprocessed.now c.args.main.now c.loop-column.total)
    (drop_item c.deref-column-items.result.now c.loop-column.column-index c.loop-column-item.result c.loop-column-test.true c.loop-column-item.is)
    c.loop-column.invariant)

pub add-requires : goal.add-requires
add-requires g c = record {
  x_in = g.met.R.Algebra.laws.has_stays _ _ _ c.times_weight.ensures.extended c.loop-column.invariant.total_in;
  y_in = c.in_ok-scaled.ensures.made.0;
}

pub returns-in_err-scaled-clause-extended : goal.returns-in_err-scaled-clause-extended
returns-in_err-scaled-clause-extended g c = g.met.R.Algebra.laws.joined _ _ _ c.loop-column.invariant.extended c.times_weight.ensures.extended

pub returns-clause-extended : goal.returns-clause-extended
returns-clause-extended g c = c.loop-column.invariant.extended

pub returns-clause-made : goal.returns-clause-made
returns-clause-made g c =
    end_combining g.met.R.Algebra.laws c.args.self.now c.args.preprocessed.now c.args.main.now c.args.ring.now c.loop-column.ring c.loop-column.total
    (subst (IsCombining g.R.Algebra.has g.R.Algebra.means g.R.Algebra.extends c.args.ring.now c.loop-column.ring c.args.self.now c.args.preprocessed.now c.args.main.now c.loop-column.total)
    (drop_all c.loop-column.column-index c.deref-column-items.result.now c.loop-column-test.false)
    c.loop-column.invariant)
