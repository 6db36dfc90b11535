use Rattle.std.proofs.Common.{map}
use Rattle.std.proofs.lemmas.Result.{err_from_is_err_and}
use Rattle.std.proofs.lemmas.List.{map_push}
use Rattle.air_object.specs.Readers.{elements}
use Rattle.air_object.proofs.Loop.{goes_on, ends, is_done}
use Rattle.air_object.proofs.elements.columns_of.Goals as goal

pub returns-in_err-column : goal.returns-in_err-column
returns-in_err-column g c =
    let p = err_from_is_err_and c.from_residual.result c.from_residual.ensures.1 in
    rw (p.1, p.2) (ends (elements g.F.PrimeField64.residues) c.args.items.now (map (λ v. v.items) c.loop-item.columns.items) c.loop-item.item-index c.item-item.result c.in_err-column.field-0.0 _ c.loop-item-test.true c.item-item.is c.in_err-column.ensures c.loop-item.invariant)

pub loop-item-preserved : goal.loop-item-preserved
loop-item-preserved g c =
    rw (c.in_ok-push.ensures.items, map_push) (goes_on (elements g.F.PrimeField64.residues) c.args.items.now (map (λ v. v.items) c.loop-item.columns.items) c.loop-item.item-index c.item-item.result c.in_ok-column.column.items _ c.loop-item-test.true c.item-item.is c.in_ok-column.ensures c.loop-item.invariant)

pub returns : goal.returns
returns g c = is_done (elements g.F.PrimeField64.residues) c.args.items.now (map (λ v. v.items) c.loop-item.columns.items) c.loop-item.item-index _ c.loop-item-test.false c.loop-item.invariant
