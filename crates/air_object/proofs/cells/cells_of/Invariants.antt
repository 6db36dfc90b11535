use Rattle.std.proofs.Common.{◌≡◌, [], drop}
use Rattle.serde_json.specs.View.{items_view}
use Rattle.air_object.specs.Readers.{each_from, cell_read}
use Rattle.air_object.proofs.cells.cells_of.Given as goal

abbrev pub invariant-loop-item : goal.invariant-loop-item
invariant-loop-item l = each_from cell_read l.cells.items (items_view (drop l.item-index l.items)) ≡ each_from cell_read [] (items_view l.items)
