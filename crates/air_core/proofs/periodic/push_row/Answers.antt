use Rattle.std.proofs.Common.{rules, arith, ℕ, ◌+◌, ◌<◌, length, refl, ◌%◌, slice_index_or, Vec, Global}
use Rattle.std.proofs.lemmas.Grind.{common_steps}
use Rattle.std.proofs.lemmas.Option.{slice_get_read}
use Rattle.air_core.specs.Periodic.{column_at}
use Rattle.air_core.proofs.PeriodicRows.{HasRows-more}
use Rattle.air_core.proofs.periodic.push_row.Goals as goal

pub loop-index-preserved : goal.loop-index-preserved
loop-index-preserved g c =
    let column = c.index-columns-index.result in
    let full : 0 < length column.items = search (rules, common_steps) in
    let rows = HasRows-more _ c.loop-index.values.items c.push.new.self.items c.args.columns.now c.loop-index.index (column_at c.args.row) column c.index.result.now
    (omega arith) c.index-columns-index.is
    (slice_get_read column.items (length column.items) (c.args.row % length column.items) c.index.result.now refl (omega arith) (search (rules, common_steps)))
    c.in_ok-push.ensures.items c.loop-index.invariant.0 in
    let all : (k : ℕ) (d : Vec g.row.T.Denot Global) → k < c.loop-index.index + 1 → 0 < length (slice_index_or c.args.columns.now k d).items = search (rules, common_steps) in
    (rows, all)
