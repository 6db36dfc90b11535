use Rattle.std.proofs.Common.{sym, ◌∙◌}
use Rattle.serde_json.specs.View.{view}
use Rattle.air_recording.specs.laws.Spellings.{layout_found, layout_again}
use Rattle.air_json.specs.laws.Answering.{read_is, nothing_is}
use Rattle.air_recording.proofs.layouts.spellings.AirLayoutSpelled.from_value.Goals as goal

pub returns-clause-read : goal.returns-clause-read
returns-clause-read c = read_is _ _ _ _ c.ok_or.ensures.value (λ x h. layout_found (view c.args.value.now) x (sym c.layout_from.ensures ∙ h))

pub returns-clause-nothing : goal.returns-clause-nothing
returns-clause-nothing c = nothing_is _ _ _ _ c.ok_or.ensures.value (λ x h. c.layout_from.ensures ∙ layout_again (view c.args.value.now) x h)
