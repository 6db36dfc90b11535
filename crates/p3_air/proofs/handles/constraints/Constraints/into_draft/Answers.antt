use Rattle.std.proofs.Common.{ap, refl, subst, ◌∙◌}
use Rattle.p3_air.specs.HandleDrafts.{ListsTape}
use Rattle.p3_air.specs.declared.handles.constraints.Constraints.{Constraints}
use Rattle.p3_air.proofs.handles.constraints.Constraints.into_draft.Goals as goal

pub returns : goal.returns
returns g c = let n = c.list-steps.new.self.notes in let steps = c.list-steps.result.items in (
  refl,
  ap (λ (a : Constraints). a.notes) c.list-steps.ensures.others ∙ ap (λ (a : Constraints). record a.notes { fault = n.fault }) c.settle.ensures.others,
  λ none. let l = c.list-steps.ensures.listed none in (c.settle.ensures.kept l.0, subst (λ (a : Constraints). ListsTape a.expressions.now.steps steps) c.settle.ensures.others l.1),
)
