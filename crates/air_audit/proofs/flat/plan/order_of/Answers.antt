use Rattle.std.proofs.Common.{subst}
use Rattle.std.proofs.lemmas.Result.{IfOk-weaker}
use Rattle.air_audit.specs.Plans.{HavePlaces}
use Rattle.air_audit.proofs.Planning.{is_order}
use Rattle.air_audit.proofs.flat.plan.order_of.Goals as goal

pub returns-clause-ordered : goal.returns-clause-ordered
returns-clause-ordered g c =
    IfOk-weaker c.number_marked.result _ _
    (λ both h. is_order _ c.args.pool.now.nodes c.args.roots.now c.in_ok-marks.marks.items c.in_ok-marks.ensures.marked both.0.items both.1.items
    (subst (λ m. HavePlaces m both.0.items both.1.items) c.deref.ensures.value h))
    c.number_marked.ensures.numbered
