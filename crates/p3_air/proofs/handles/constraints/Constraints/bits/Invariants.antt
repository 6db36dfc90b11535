use Rattle.std.proofs.Common.{map, take}
use Rattle.air_draft.specs.declared.claim.Claimed.TheVariants.{Bool}
use Rattle.p3_air.specs.HandleLists.{ClaimsOfEach}
use Rattle.p3_air.proofs.handles.constraints.Constraints.bits.Given as goal

abbrev pub invariant-loop-i : goal.invariant-loop-i
invariant-loop-i l = ClaimsOfEach Bool (map (λ x. x.now) (take l.i l.xs)) l.condition l.outer l.initial.self l.self
