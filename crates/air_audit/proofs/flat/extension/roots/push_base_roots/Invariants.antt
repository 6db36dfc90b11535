use Rattle.std.proofs.Common.{◌≡◌, ◌++◌, take}
use Rattle.air_audit.specs.ExtPlans.{base_ids}
use Rattle.air_audit.proofs.flat.extension.roots.push_base_roots.Given as goal

-- those of the first roots are behind what was there
abbrev pub invariant-loop-root : goal.invariant-loop-root
invariant-loop-root g l = l.ids.items ≡ l.initial.ids.items ++ base_ids (take l.root-index l.roots)
