use Rattle.std.proofs.Common.{sym}
use Rattle.std.proofs.lemmas.Result.{err_from_is_err_and}
use Rattle.air_json.specs.BaseLeaves.{element_at}
use Rattle.air_object.proofs.Loop.{goes_on, ends, is_done, fails_with}
use Rattle.air_object.proofs.elements.elements_of.Goals as goal

pub returns-in_err-element : goal.returns-in_err-element
returns-in_err-element g c =
    let p = err_from_is_err_and c.from_residual.result c.from_residual.ensures.1 in
    rw (p.1, p.2) (ends (element_at g.F.PrimeField64.residues 0) c.args.items.now c.loop-item.elements.items c.loop-item.item-index c.item-item.result c.in_err-element.field-0.0 _ c.loop-item-test.true c.item-item.is (fails_with _ _ c.in_err-element.ensures) c.loop-item.invariant)

pub loop-item-preserved : goal.loop-item-preserved
loop-item-preserved g c =
    rw c.in_ok-push.ensures.items (goes_on (element_at g.F.PrimeField64.residues 0) c.args.items.now c.loop-item.elements.items c.loop-item.item-index c.item-item.result c.in_ok-element.element _ c.loop-item-test.true c.item-item.is (sym c.in_ok-element.ensures) c.loop-item.invariant)

pub returns : goal.returns
returns g c = is_done (element_at g.F.PrimeField64.residues 0) c.args.items.now c.loop-item.elements.items c.loop-item.item-index _ c.loop-item-test.false c.loop-item.invariant
