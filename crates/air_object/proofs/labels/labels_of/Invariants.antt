use Rattle.std.proofs.Common.{◌≡◌, [], drop, map, string_bytes}
use Rattle.serde_json.specs.View.{items_view}
use Rattle.air_object.specs.Readers.{each_from, label_read}
use Rattle.air_object.proofs.labels.labels_of.Given as goal

abbrev pub invariant-loop-item : goal.invariant-loop-item
invariant-loop-item l = each_from label_read (map string_bytes l.labels.items) (items_view (drop l.item-index l.items)) ≡ each_from label_read [] (items_view l.items)
