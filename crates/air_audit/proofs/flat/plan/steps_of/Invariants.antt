use Rattle.std.proofs.Common.{◌≡◌, ◌<◌, ◌≤◌, ℕ, length, get_or}
use Rattle.air_symbolic.specs.BaseLeaves.{base_leaves}
use Rattle.air_audit.specs.Plans.{MakesPlace}
use Rattle.air_audit.specs.declared.flat.step.Step.TheVariants as step
use Rattle.air_audit.proofs.flat.plan.steps_of.Given as goal

-- the steps so far make the first numbers
abbrev pub invariant-loop-id : goal.invariant-loop-id
invariant-loop-id g l = record {
  within : l.id-index ≤ length l.numbers;
  long : length l.steps.items ≡ l.id-index;
  makes : (k : ℕ) → k < l.id-index → MakesPlace base_leaves l.pool.nodes l.numbers k (get_or l.steps.items k step.Leaf);
}
