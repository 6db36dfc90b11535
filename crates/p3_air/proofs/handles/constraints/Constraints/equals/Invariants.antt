use Rattle.std.proofs.Common.{map, take}
use Rattle.air_draft.specs.declared.claim.Claimed.TheVariants.{Equal}
use Rattle.p3_air.specs.HandleLists.{ClaimsOfPairs}
use Rattle.p3_air.proofs.handles.constraints.Constraints.equals.Given as goal

abbrev pub invariant-loop-i : goal.invariant-loop-i
invariant-loop-i l = ClaimsOfPairs Equal (map (λ x. x.now) (take l.i l.xs)) (map (λ y. y.now) (take l.i l.ys)) l.condition l.outer l.initial.self l.self
