use Rattle.std.proofs.Common.{◌≡◌, ◌++◌, get_or, None, codes, decimal, string_bytes, ap, ◌∙◌}
use Rattle.air_print.specs.Infix.{shown_at, infix_text}
use Rattle.air_print.specs.Lines.{lines_text, number_lines, definition_line}
use Rattle.air_print.specs.declared.binding.Binding.TheVariants.{Loose}
use Rattle.air_print.proofs.LineLemmas.{line-more, line-all, definition-pieces}
use Rattle.air_print.proofs.lines.push_definitions.Goals as goal

pub loop-name-preserved : goal.loop-name-preserved
loop-name-preserved g c =
    let m = g.F.PrimeField64.residues in
    let line = definition_line m c.args.pool.now c.args.names.now.1 in
    let k = c.loop-name.name-counter in
    let old = string_bytes c.loop-name.text in
    let text = infix_text m Loose (shown_at (λ i. get_or c.args.names.now.1 i None) c.args.pool.now.nodes c.id-item.result) in
    let written : string_bytes c.push_str.new.self ≡ old ++ (line k c.id-item.result ++ codes "\n") =
    c.in_ok-push_str.ensures.bytes
    ∙ ap (λ t. t ++ codes "\n") (c.in_ok-push_definition.ensures ∙ ap (λ t. t ++ text) c.in_ok-write.ensures.bytes)
    ∙ definition-pieces old (codes "%") (decimal k) (codes " = ") text (codes "\n") in
    line-more line c.named_expressions-id-items.result.now k c.id-item.result old (string_bytes c.push_str.new.self) _ c.loop-name-test.true c.id-item.is c.loop-name.invariant written

pub returns : goal.returns
returns g c =
    let line = definition_line g.F.PrimeField64.residues c.args.pool.now c.args.names.now.1 in
    line-all line c.named_expressions-id-items.result.now c.loop-name.name-counter (string_bytes c.loop-name.text) _ c.loop-name-test.false c.loop-name.invariant
    ∙ ap (λ xs. string_bytes c.args.text.now ++ lines_text (number_lines line xs)) c.named_expressions-id-items.ensures
