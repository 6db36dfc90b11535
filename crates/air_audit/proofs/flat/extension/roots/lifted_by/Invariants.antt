use Rattle.std.proofs.Common.{◌≡◌, All, slice_get, take}
use Rattle.air_audit.specs.ExtPlans.{lifted_ids, InWindow}
use Rattle.air_audit.proofs.flat.extension.roots.lifted_by.Given as goal

-- those of the first numbers, whose entries a window has
abbrev pub invariant-loop-id : goal.invariant-loop-id
invariant-loop-id g l = record {
  ids : l.ids.items ≡ lifted_ids l.pool.nodes (take l.id-index l.numbers);
  window : All (λ i. InWindow (slice_get l.pool.nodes i)) (take l.id-index l.numbers);
}
