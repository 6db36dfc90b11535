use Rattle.std.proofs.Common.{sym}
use Rattle.std.proofs.lemmas.Result.{err_from_is_err_and}
use Rattle.air_object.specs.Readers.{cell_read}
use Rattle.air_object.proofs.Loop.{goes_on, ends, is_done, fails_with}
use Rattle.air_object.proofs.cells.cells_of.Goals as goal

pub returns-in_err-cell : goal.returns-in_err-cell
returns-in_err-cell c =
    let p = err_from_is_err_and c.from_residual.result c.from_residual.ensures.1 in
    rw (p.1, p.2) (ends cell_read c.args.items.now c.loop-item.cells.items c.loop-item.item-index c.item-item.result c.in_err-cell.field-0.0 _ c.loop-item-test.true c.item-item.is (fails_with _ _ c.in_err-cell.ensures) c.loop-item.invariant)

pub loop-item-preserved : goal.loop-item-preserved
loop-item-preserved c =
    rw c.in_ok-push.ensures.items (goes_on cell_read c.args.items.now c.loop-item.cells.items c.loop-item.item-index c.item-item.result c.in_ok-cell.cell _ c.loop-item-test.true c.item-item.is (sym c.in_ok-cell.ensures) c.loop-item.invariant)

pub returns : goal.returns
returns c = is_done cell_read c.args.items.now c.loop-item.cells.items c.loop-item.item-index _ c.loop-item-test.false c.loop-item.invariant
