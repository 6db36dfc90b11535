use Rattle.std.specs.List.{AllZip}
use Rattle.std.proofs.Common.{◌≡◌, ◌<◌, length, get_or, All, subst, sym}
use Rattle.air_symbolic.specs.BaseLeaves.{base_leaves}
use Rattle.air_audit.specs.Plans.{AreSteps}
use Rattle.air_audit.proofs.Planning.{order_here, is_plan}
use Rattle.air_audit.proofs.flat.plan.plan_with_places.Goals as goal

pub steps_of-requires-clause-here : goal.steps_of-requires-clause-here
steps_of-requires-clause-here g c =
    let ns = c.args.pool.now.nodes in
    let both = c.in_ok-numbers in
    subst (λ v. All (λ i. i < length ns) v) (sym c.deref.ensures.value)
    (order_here base_leaves ns c.args.roots.now both.numbers.items both.table.items both.ensures.ordered)

pub returns-clause-planned : goal.returns-clause-planned
returns-clause-planned g c =
    let ns = c.args.pool.now.nodes in
    let both = c.in_ok-numbers in
    let steps = c.in_ok-steps.steps.items in
    let places = c.in_ok-places.places.items in
    let made = subst (λ v. AreSteps base_leaves ns v steps) c.deref.ensures.value c.in_ok-steps.ensures.made in
    let placed = subst (λ v. AllZip (λ p i. p ≡ get_or v i 0) places c.args.roots.now) c.deref-3.ensures.value c.in_ok-places.ensures.placed in
    is_plan base_leaves ns c.args.roots.now both.numbers.items both.table.items both.ensures.ordered steps places made placed
