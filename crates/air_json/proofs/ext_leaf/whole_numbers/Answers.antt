use Rattle.std.proofs.Common.{sym, ◌∙◌}
use Rattle.air_json.proofs.Numbers.{number_goes_on, number_ends, number_done}
use Rattle.air_json.proofs.ext_leaf.whole_numbers.Goals as goal

pub returns-in_default : goal.returns-in_default
returns-in_default c = number_ends c.loop-item.numbers.items c.args.items.now c.loop-item.item-index c.item-item.result _ _ c.loop-item-test.true c.item-item.is (sym c.whole_number.ensures ∙ c.in_default.is) c.loop-item.invariant

pub loop-item-preserved : goal.loop-item-preserved
loop-item-preserved c = rw c.in_ok-push.ensures.items (number_goes_on c.loop-item.numbers.items c.args.items.now c.loop-item.item-index c.item-item.result c.in-Some.number _ c.loop-item-test.true c.item-item.is (sym c.whole_number.ensures ∙ c.in-Some.is) c.loop-item.invariant)

pub returns : goal.returns
returns c = number_done c.loop-item.numbers.items c.args.items.now c.loop-item.item-index _ _ c.loop-item-test.false c.loop-item.invariant
