use Rattle.std.proofs.Common.{map, take, string_bytes}
use Rattle.std.specs.List.{AllZip}
use Rattle.air_print.specs.Labels.{StandsBehind}
use Rattle.air_print.proofs.labels.shown_labels.Given as goal

abbrev pub invariant-loop-label : goal.invariant-loop-label
invariant-loop-label l = AllZip StandsBehind (map string_bytes (take l.label-index l.labels)) (map string_bytes l.shown.items)
