use Rattle.std.proofs.Common.{◌≡◌, ◌++◌, drop, option_map}
use Rattle.serde_json.specs.View.{items_view}
use Rattle.air_json.specs.Coefficients.{wholes}
use Rattle.air_json.proofs.ext_leaf.whole_numbers.Given as goal

abbrev pub invariant-loop-item : goal.invariant-loop-item
invariant-loop-item l = option_map (λ ns. l.numbers.items ++ ns) (wholes (items_view (drop l.item-index l.items))) ≡ wholes (items_view l.items)
