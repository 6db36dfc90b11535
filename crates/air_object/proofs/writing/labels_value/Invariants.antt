use Rattle.std.proofs.Common.{◌≡◌, string_bytes, take, map}
use Rattle.serde_json.specs.Data.{string}
use Rattle.serde_json.specs.View.{view}
use Rattle.air_object.proofs.writing.labels_value.Given as goal

abbrev pub invariant-loop-label : goal.invariant-loop-label
invariant-loop-label l = map view l.items.items ≡ map (λ t. string (string_bytes t)) (take l.label-index l.labels)
