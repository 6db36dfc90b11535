use Rattle.std.proofs.Common.{sym, ◌∙◌}
use Rattle.serde_json.specs.View.{view}
use Rattle.air_json.specs.laws.Answering.{read_is, nothing_is}
use Rattle.air_json.proofs.plain.AnySpelled.from_value.Goals as goal

pub returns-clause-read : goal.returns-clause-read
returns-clause-read g c = read_is _ _ _ _ c.ok_or.ensures.value (λ x h. g.met.T.Plain.plain_laws.found (view c.args.value.now) x (sym c.read.ensures ∙ h))

pub returns-clause-nothing : goal.returns-clause-nothing
returns-clause-nothing g c = nothing_is _ _ _ _ c.ok_or.ensures.value (λ x h. c.read.ensures ∙ g.met.T.Plain.plain_laws.again (view c.args.value.now) x h)
