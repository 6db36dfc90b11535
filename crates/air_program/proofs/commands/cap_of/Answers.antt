use Rattle.std.proofs.Common.{rules, tests}
use Rattle.air_program.proofs.Caps.{cap_parsed, no_cap_parsed}
use Rattle.air_program.proofs.commands.cap_of.Goals as goal

pub returns-in-Ok : goal.returns-in-Ok
returns-in-Ok c = cap_parsed c.args.word.now c.parse.result c.parse.ensures.value.0 (search (rules, tests)) c.in-Ok.cap c.in-Ok.is

pub returns-in-Err : goal.returns-in-Err
returns-in-Err c = no_cap_parsed c.args.word.now c.parse.result c.parse.ensures.value.0 (search (rules, tests)) c.in-Err.field-0 c.in-Err.is
