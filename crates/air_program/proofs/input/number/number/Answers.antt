use Rattle.std.proofs.Common.{◌+◌, drop, arith}
use Rattle.std.proofs.lemmas.Grind.{common_steps}
use Rattle.air_program.specs.Grammar.{element_number}
use Rattle.air_program.proofs.Digits.{too_great}
use Rattle.air_program.proofs.input.number.number.Goals as goal

pub returns-then-value-gt-GREATEST-clause-value : goal.returns-then-value-gt-GREATEST-clause-value
unfolding element_number
returns-then-value-gt-GREATEST-clause-value c =
    grind (arith, common_steps, too_great (drop (c.loop-digit.digit-index + 1) c.args.field.now) _ c.if-value-gt-GREATEST.true)
