use Rattle.std.proofs.Common.{◌≡◌, replicate}
use Rattle.air_export.proofs.parts.zeros.Given as goal

abbrev pub invariant-loop-made : goal.invariant-loop-made
invariant-loop-made g l = l.values.items ≡ replicate l.made g.F.Field.ring.zero
