use Rattle.std.proofs.Common.{map, string_bytes}
use Rattle.std.proofs.lemmas.Result.{err_from_is_err_and}
use Rattle.std.proofs.lemmas.List.{map_push}
use Rattle.air_object.specs.Readers.{label_read}
use Rattle.air_object.proofs.Loop.{goes_on, ends, is_done}
use Rattle.air_object.proofs.labels.labels_of.Goals as goal

pub returns-in_err-label : goal.returns-in_err-label
returns-in_err-label c =
    let p = err_from_is_err_and c.from_residual.result c.from_residual.ensures.1 in
    rw (p.1, p.2) (ends label_read c.args.items.now (map string_bytes c.loop-item.labels.items) c.loop-item.item-index c.item-item.result c.in_err-label.field-0.0 _ c.loop-item-test.true c.item-item.is c.in_err-label.ensures c.loop-item.invariant)

pub loop-item-preserved : goal.loop-item-preserved
loop-item-preserved c =
    rw (c.in_ok-push.ensures.items, map_push) (goes_on label_read c.args.items.now (map string_bytes c.loop-item.labels.items) c.loop-item.item-index c.item-item.result (string_bytes c.in_ok-label.label) _ c.loop-item-test.true c.item-item.is c.in_ok-label.ensures c.loop-item.invariant)

pub returns : goal.returns
returns c = is_done label_read c.args.items.now (map string_bytes c.loop-item.labels.items) c.loop-item.item-index _ c.loop-item-test.false c.loop-item.invariant
