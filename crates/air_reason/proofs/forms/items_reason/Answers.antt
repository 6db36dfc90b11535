use Rattle.std.proofs.Common.{string_bytes, ◌∙◌}
use Rattle.air_reason.proofs.Items.{placed, goes_on, ends, is_done}
use Rattle.air_reason.proofs.forms.items_reason.Goals as goal

pub loop-index-preserved : goal.loop-index-preserved
loop-index-preserved g c =
    goes_on g.T.Form.check c.args.items.now c.loop-index.index-counter c.index-items-index.result c.loop-index-test.true c.index-items-index.is c.loop-index.invariant
    (rw c.in_default.is at c.in_ok-behind.ensures)

pub returns-in-Some : goal.returns-in-Some
returns-in-Some g c =
    ends g.T.Form.check c.args.items.now c.loop-index.index-counter c.index-items-index.result c.loop-index-test.true c.index-items-index.is c.loop-index.invariant
    c.in-Some.behind c.in_ok-format.field-0 (rw c.in-Some.is at c.in_ok-behind.ensures)
    (c.in_ok-format.ensures.ok ∙ placed c.loop-index.index-counter (string_bytes c.in-Some.behind))

pub returns : goal.returns
returns g c = is_done g.T.Form.check c.args.items.now c.loop-index.index-counter c.loop-index-test.false c.loop-index.invariant
