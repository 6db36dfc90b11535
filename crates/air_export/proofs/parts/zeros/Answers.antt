use Rattle.std.proofs.Common.{◌++◌, ◌∷◌, [], ap₂, ◌∙◌}
use Rattle.std.proofs.lemmas.List.{replicate_more}
use Rattle.air_export.proofs.parts.zeros.Goals as goal

pub loop-made-preserved : goal.loop-made-preserved
loop-made-preserved g c =
    let z = g.F.Field.ring.zero in
    c.in_ok-push.ensures.items
    ∙ (ap₂ (λ xs x. xs ++ x ∷ []) c.loop-made.invariant (c.ZERO.ensures ∙ g.met.F.Field.zero_is)
    ∙ replicate_more c.loop-made.made z)
