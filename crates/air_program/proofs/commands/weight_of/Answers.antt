use Rattle.std.proofs.Common.{◌∙◌}
use Rattle.air_program.proofs.Caps.{weight_found, no_weight}
use Rattle.air_program.proofs.commands.weight_of.Goals as goal

pub returns-in-Some : goal.returns-in-Some
returns-in-Some c = c.cap_of.ensures ∙ weight_found c.args.word.now c.in-Some.digits.now c.in-Some.ensures.cases

pub returns-in-None : goal.returns-in-None
returns-in-None c = no_weight c.args.word.now c.in-None.ensures.cases
