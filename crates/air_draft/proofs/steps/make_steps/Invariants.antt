use Rattle.std.proofs.Common.{◌≡◌, length, take}
use Rattle.std.specs.List.{AllZip}
use Rattle.air_symbolic.specs.BaseLeaves.{base_reads, base_grows}
use Rattle.air_symbolic.specs.Pools.{IsPool, PoolMeans, Grown}
use Rattle.air_draft.specs.DraftTerms.{step_terms}
use Rattle.air_draft.proofs.steps.make_steps.Given as goal

-- the steps so far are made
abbrev pub invariant-loop-step : goal.invariant-loop-step
invariant-loop-step g l = record {
  grown : Grown base_grows base_reads l.initial.pool l.pool;
  pool : IsPool base_reads l.pool;
  long : length l.made.items ≡ l.step-index;
  made : AllZip (PoolMeans base_reads g.F.Field.ring l.pool) l.made.items (step_terms g.F.Field.ring g.F.Field.ONE l.constants (take l.step-index l.steps));
}
