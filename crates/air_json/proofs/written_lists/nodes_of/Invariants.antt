use Rattle.std.proofs.Common.{◌≡◌, ◌<◌, length, map, All}
use Rattle.serde_json.specs.View.{view}
use Rattle.air_symbolic.specs.Trees.{Tree}
use Rattle.air_json.specs.Writing.{without_places}
use Rattle.air_json.proofs.Left.{work}
use Rattle.air_json.proofs.PoolNodes.{tree_or, form_at}
use Rattle.air_json.proofs.Progress.{Progress}
use Rattle.air_json.proofs.written_lists.nodes_of.Given as goal

-- z is any tree
abbrev pub invariant-loop-step : goal.invariant-loop-step
invariant-loop-step g l =
    let A = g.A.WireLeaf in
    let size = length l.initial.places.items in
    (z : Tree A.View)
    × Progress A.kind (tree_or A.seen z l.pool) size (tree_or A.seen z l.pool l.fn.root) l.steps.items l.places.items (map view l.items.items)
    × (without_places l.written.items l.places.items ≡ l.initial.places.items)
    × All (λ n. n < size) l.written.items

abbrev pub decreases-loop-step : goal.decreases-loop-step
decreases-loop-step g l = work (form_at l.pool) l.steps.items
