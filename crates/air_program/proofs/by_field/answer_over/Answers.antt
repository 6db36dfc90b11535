use Rattle.air_program.specs.Wanted.{AnswersIn}
use Rattle.air_program.proofs.NamedAnswers.{value_answered, text_refused}
use Rattle.air_program.proofs.by_field.answer_over.Goals as goal

pub returns-in-Ok : goal.returns-in-Ok
returns-in-Ok g c = value_answered c.args.wanted (AnswersIn c.args.wanted) c.args.bytes.now g.F.PrimeField64.residues c.in-Ok.parts c.in-Ok.ensures.parts c.answer_parts.result c.answer_parts.ensures

pub returns-in-Err : goal.returns-in-Err
returns-in-Err g c = text_refused c.args.wanted (AnswersIn c.args.wanted) c.args.bytes.now _ c.refused_text.result c.refused_text.ensures
