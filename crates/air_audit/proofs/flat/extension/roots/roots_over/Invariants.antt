use Rattle.std.proofs.Common.{◌≡◌, take}
use Rattle.air_audit.specs.ExtPlans.{ext_ids}
use Rattle.air_audit.proofs.flat.extension.roots.roots_over.Given as goal

-- those of the first roots
abbrev pub invariant-loop-root : goal.invariant-loop-root
invariant-loop-root g l = l.ids.items ≡ ext_ids (take l.root-index l.roots)
