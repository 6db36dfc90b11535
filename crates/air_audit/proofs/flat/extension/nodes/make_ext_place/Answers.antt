use Rattle.std.proofs.Common.{slice_get, Some, subst, sym, ap, ◌∙◌, arith}
use Rattle.std.proofs.lemmas.List.{get_or_default}
use Rattle.air_builder.specs.Builders.{Means}
use Rattle.air_builder.specs.laws.Extensions.{over_extension}
use Rattle.air_symbolic.specs.ExtLeaves.{ext_reads}
use Rattle.air_symbolic.specs.Nodes.{IsNode}
use Rattle.air_symbolic.specs.Pools.{term_at}
use Rattle.air_symbolic.specs.Reach.{EachOperand}
use Rattle.air_audit.specs.ExtPlans.{ext_ids}
use Rattle.air_audit.specs.Tables.{IsMade, HasNumber}
use Rattle.air_audit.proofs.ExtRoots.{made_here}
use Rattle.air_audit.proofs.Making.{number_lasts, numbers_last}
use Rattle.air_audit.proofs.OverMaking.{operands_made, planned_leaf}
use Rattle.air_audit.proofs.Planning.{order_here}
use Rattle.air_audit.proofs.flat.extension.nodes.make_ext_place.Goals as goal

pub make_ext_leaf-requires-clause-planned : goal.make_ext_leaf-requires-clause-planned
make_ext_leaf-requires-clause-planned g c =
    let air = c.args.air.now in
    let p = air.pool in
    let plan = air.plan in
    let numbers = plan.numbers.items in
    let k = c.args.place in
    let basis = g.AB.EF.ExtensionField.basis in
    let same = get_or_default numbers k 0 c.index.result.now c.requires.within ∙ sym c.index.ensures in
    let order = order_here (ext_reads basis p.base) p.nodes (ext_ids air.roots.items) numbers plan.table.items air.planned.order in
    planned_leaf basis p air.roots.items plan.base.numbers.items plan.base.steps.items plan.base.places.items plan.base_table.items numbers plan.table.items
    air.planned
    (made_here basis p air.roots_in.pool air.roots.items numbers air.roots_in.here order) k c.in-Leaf.leaf c.requires.within
    (ap (λ i. slice_get p.nodes i) same ∙ c.node.ensures.node ∙ ap (λ n. Some n) c.in-Leaf.is)

pub make_ext-requires-clause-usable : goal.make_ext-requires-clause-usable
make_ext-requires-clause-usable g c =
    let A = g.AB.AirBuilder in
    let air = c.args.air.now in
    let p = air.pool in
    let plan = air.plan in
    let numbers = plan.numbers.items in
    let places = plan.table.items in
    let table = c.args.table.now in
    let k = c.args.place in
    let basis = g.AB.EF.ExtensionField.basis in
    let l = ext_reads basis p.base in
    let term = term_at (ext_reads basis) p in
    let a = c.args.builder.now in
    let made = IsMade (Means g.AB.ExtRing.Algebra.means g.AB.ExtensionBuilder.ext_ring_of A.reads_as) A.missing a in
    let same = get_or_default numbers k 0 c.index.result.now c.requires.within ∙ sym c.index.ensures in
    let is = subst (λ i. IsNode l p.nodes i c.node.result.now) (sym same) c.node.ensures in
    let all = operands_made l p.nodes (ext_ids air.roots.items) numbers places made term table k c.node.result.now air.planned.order c.requires.within
    c.requires.table is in
    let h = subst (λ n. EachOperand (λ i. HasNumber (made (term i)) places table i) n) c.in-Add.is all in
    numbers_last g.met.AB.ExtRing.Algebra.laws (over_extension g.met.AB.AirBuilder.laws g.met.AB.ExtensionBuilder.ext_laws) places table c.in-Add.x c.in-Add.y
    (term c.in-Add.x) (term c.in-Add.y) a (h 0 0 (omega arith)) (h 1 0 (omega arith))

pub make_ext-requires-in-Sub-clause-usable : goal.make_ext-requires-in-Sub-clause-usable
make_ext-requires-in-Sub-clause-usable g c =
    let A = g.AB.AirBuilder in
    let air = c.args.air.now in
    let p = air.pool in
    let plan = air.plan in
    let numbers = plan.numbers.items in
    let places = plan.table.items in
    let table = c.args.table.now in
    let k = c.args.place in
    let basis = g.AB.EF.ExtensionField.basis in
    let l = ext_reads basis p.base in
    let term = term_at (ext_reads basis) p in
    let a = c.args.builder.now in
    let made = IsMade (Means g.AB.ExtRing.Algebra.means g.AB.ExtensionBuilder.ext_ring_of A.reads_as) A.missing a in
    let same = get_or_default numbers k 0 c.index.result.now c.requires.within ∙ sym c.index.ensures in
    let is = subst (λ i. IsNode l p.nodes i c.node.result.now) (sym same) c.node.ensures in
    let all = operands_made l p.nodes (ext_ids air.roots.items) numbers places made term table k c.node.result.now air.planned.order c.requires.within
    c.requires.table is in
    let h = subst (λ n. EachOperand (λ i. HasNumber (made (term i)) places table i) n) c.in-Sub.is all in
    numbers_last g.met.AB.ExtRing.Algebra.laws (over_extension g.met.AB.AirBuilder.laws g.met.AB.ExtensionBuilder.ext_laws) places table c.in-Sub.x c.in-Sub.y
    (term c.in-Sub.x) (term c.in-Sub.y) a (h 0 0 (omega arith)) (h 1 0 (omega arith))

pub make_ext-requires-in-Neg-clause-usable : goal.make_ext-requires-in-Neg-clause-usable
make_ext-requires-in-Neg-clause-usable g c =
    let A = g.AB.AirBuilder in
    let air = c.args.air.now in
    let p = air.pool in
    let plan = air.plan in
    let numbers = plan.numbers.items in
    let places = plan.table.items in
    let table = c.args.table.now in
    let k = c.args.place in
    let basis = g.AB.EF.ExtensionField.basis in
    let l = ext_reads basis p.base in
    let term = term_at (ext_reads basis) p in
    let a = c.args.builder.now in
    let made = IsMade (Means g.AB.ExtRing.Algebra.means g.AB.ExtensionBuilder.ext_ring_of A.reads_as) A.missing a in
    let same = get_or_default numbers k 0 c.index.result.now c.requires.within ∙ sym c.index.ensures in
    let is = subst (λ i. IsNode l p.nodes i c.node.result.now) (sym same) c.node.ensures in
    let all = operands_made l p.nodes (ext_ids air.roots.items) numbers places made term table k c.node.result.now air.planned.order c.requires.within
    c.requires.table is in
    let h = subst (λ n. EachOperand (λ i. HasNumber (made (term i)) places table i) n) c.in-Neg.is all in
    number_lasts g.met.AB.ExtRing.Algebra.laws (over_extension g.met.AB.AirBuilder.laws g.met.AB.ExtensionBuilder.ext_laws) places table c.in-Neg.x
    (term c.in-Neg.x) a (h 0 0 (omega arith))

pub make_ext-requires-in-Mul-clause-usable : goal.make_ext-requires-in-Mul-clause-usable
make_ext-requires-in-Mul-clause-usable g c =
    let A = g.AB.AirBuilder in
    let air = c.args.air.now in
    let p = air.pool in
    let plan = air.plan in
    let numbers = plan.numbers.items in
    let places = plan.table.items in
    let table = c.args.table.now in
    let k = c.args.place in
    let basis = g.AB.EF.ExtensionField.basis in
    let l = ext_reads basis p.base in
    let term = term_at (ext_reads basis) p in
    let a = c.args.builder.now in
    let made = IsMade (Means g.AB.ExtRing.Algebra.means g.AB.ExtensionBuilder.ext_ring_of A.reads_as) A.missing a in
    let same = get_or_default numbers k 0 c.index.result.now c.requires.within ∙ sym c.index.ensures in
    let is = subst (λ i. IsNode l p.nodes i c.node.result.now) (sym same) c.node.ensures in
    let all = operands_made l p.nodes (ext_ids air.roots.items) numbers places made term table k c.node.result.now air.planned.order c.requires.within
    c.requires.table is in
    let h = subst (λ n. EachOperand (λ i. HasNumber (made (term i)) places table i) n) c.in-Mul.is all in
    numbers_last g.met.AB.ExtRing.Algebra.laws (over_extension g.met.AB.AirBuilder.laws g.met.AB.ExtensionBuilder.ext_laws) places table c.in-Mul.x c.in-Mul.y
    (term c.in-Mul.x) (term c.in-Mul.y) a (h 0 0 (omega arith)) (h 1 0 (omega arith))
