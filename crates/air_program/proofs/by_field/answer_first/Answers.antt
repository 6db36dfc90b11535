use Rattle.std.proofs.Common.{◌≡◌, Some, sym, ap, ◌∙◌, rules}
use Rattle.air_program.specs.Wanted.{AnswersIn}
use Rattle.air_program.proofs.NamedAnswers.{text_refused, parts_answered, named_answered, none_named}
use Rattle.air_program.proofs.by_field.answer_first.Goals as goal

pub returns-in-Err : goal.returns-in-Err
returns-in-Err g c = text_refused c.args.wanted (AnswersIn c.args.wanted) c.args.bytes.now _ c.refused_text.result c.refused_text.ensures

pub returns-in_default : goal.returns-in_default
returns-in_default g c = none_named c.args.wanted (AnswersIn c.args.wanted) c.args.bytes.now g.F.PrimeField64.residues c.in-Ok.parts c.in-Ok.ensures.parts c.refused_field.result c.in_default.ensures c.refused_field.ensures

pub returns-then-eq : goal.returns-then-eq
returns-then-eq g c =
    let same : c.in-Some.named ≡ c.args.field = search rules in
    parts_answered c.args.wanted (AnswersIn c.args.wanted) c.args.bytes.now g.F.PrimeField64.residues c.in-Ok.parts c.in-Ok.ensures.parts c.args.field c.answer_parts.result c.requires (ap (λ f. Some f) (sym same) ∙ c.in-Some.ensures) c.answer_parts.ensures

pub returns : goal.returns
returns g c =
    named_answered c.args.wanted (AnswersIn c.args.wanted) c.args.bytes.now g.F.PrimeField64.residues c.in-Ok.parts c.in-Ok.ensures.parts c.in-Some.named c.answer_named.result c.in-Some.ensures c.answer_named.ensures
