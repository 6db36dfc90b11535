use Rattle.std.proofs.Common.{◌%◌, List, length, slice_index_or, ap, ◌∙◌}
use Rattle.air_print.proofs.ExplainedPieces.{periodic-within}
use Rattle.air_print.proofs.rows.periodic_of.Goals as goal

pub returns-then-index-columns : goal.returns-then-index-columns
returns-then-index-columns g c =
    c.period_of.ensures
    ∙ ap (λ (v : List _). slice_index_or v (c.args.row % length v) g.F.Field.ring.zero) c.deref.ensures.value
    ∙ periodic-within c.args.columns.now c.args.row c.args.index g.F.Field.ring.zero c.index-columns-index.result c.if-index-columns.true c.index-columns-index.is
