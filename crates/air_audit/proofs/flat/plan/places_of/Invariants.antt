use Rattle.std.specs.List.{AllZip}
use Rattle.std.proofs.Common.{◌≡◌, get_or, take}
use Rattle.air_audit.proofs.flat.plan.places_of.Given as goal

abbrev pub invariant-loop-root : goal.invariant-loop-root
invariant-loop-root g l = AllZip (λ p i. p ≡ get_or l.places i 0) l.found.items (take l.root-index l.roots)
