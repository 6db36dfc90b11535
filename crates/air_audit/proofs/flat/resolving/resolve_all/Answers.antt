use Rattle.std.proofs.Common.{subst}
use Rattle.air_symbolic.specs.BaseLeaves.{base_leaves, base_reads}
use Rattle.air_symbolic.specs.Pools.{term_at}
use Rattle.air_builder.specs.Builders.{Means}
use Rattle.air_builder.specs.Batches.{OrMemory}
use Rattle.air_audit.specs.Tables.{MakesAll}
use Rattle.air_audit.proofs.Needed.{planned_terms, plan_of_places}
use Rattle.air_audit.proofs.flat.resolving.resolve_all.Goals as goal

pub make_planned-requires-clause-planned : goal.make_planned-requires-clause-planned
make_planned-requires-clause-planned g c =
    let plan = c.in_ok-plan.plan in
    plan_of_places base_leaves c.args.pool.now.nodes c.args.roots.now plan.numbers.items plan.steps.items plan.places.items c.in_ok-plan.ensures.planned

pub returns : goal.returns
returns g c =
    let A = g.AB.AirBuilder in
    let plan = c.in_ok-plan.plan in
    let same = planned_terms (term_at base_reads c.args.pool.now) plan.numbers.items plan.places.items c.args.roots.now c.in_ok-plan.ensures.planned.stand in
    subst (λ ts. MakesAll (Means g.AB.Ring.Algebra.means A.ring_of A.reads_as) A.grew A.missing (OrMemory A.refuses) c.args.builder.now c.make_planned.new.builder c.make_planned.result ts) same c.make_planned.ensures
