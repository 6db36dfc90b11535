use Rattle.std.proofs.Common.{◌≡◌, drop}
use Rattle.serde_json.specs.View.{items_view}
use Rattle.air_reason.specs.Reasons.{in_items}
use Rattle.air_reason.proofs.forms.items_reason.Given as goal

-- the remaining items have the first reason of all
abbrev pub invariant-loop-index : goal.invariant-loop-index
invariant-loop-index g l = in_items g.T.Form.check l.index-counter (items_view (drop l.index-counter l.items)) ≡ in_items g.T.Form.check 0 (items_view l.items)
