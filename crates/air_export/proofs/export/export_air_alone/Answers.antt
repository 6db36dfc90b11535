use Rattle.std.proofs.Common.{replicate, sym, ap, ◌∙◌}
use Rattle.std.proofs.lemmas.Result.{IfOk-weaker}
use Rattle.air_export.proofs.Exporting.{empty_is, alone_is}
use Rattle.air_export.proofs.export.export_air_alone.Goals as goal

pub returns-clause-trial : goal.returns-clause-trial
returns-clause-trial g c =
    let z = g.F.Field.ring.zero in
    let d = g.A.BaseAir.declaration c.args.air.now in
    let empty = empty_is c.width.result d.width c.new.result.items c.in-Ok.main c.width.ensures c.new.ensures.items (sym c.new-2.ensures ∙ c.in-Ok.is) in
    let none = c.deref.ensures.value ∙ (c.in_ok-public_values.ensures ∙ ap (λ n. replicate n z) c.num_public_values.ensures) in
    IfOk-weaker c.export_air.result _ _ (λ v h input s. alone_is z d c.in-Ok.main c.deref.result.now input.trial empty none (h input s)) c.export_air.ensures.trial
