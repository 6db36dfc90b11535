use Rattle.std.proofs.Common.{◌++◌, string_bytes, ap, ◌∙◌}
use Rattle.air_print.specs.Lines.{lines_text}
use Rattle.air_print.specs.Explained.{reached_definitions}
use Rattle.air_print.proofs.Definitions.{definition-more, definition-all}
use Rattle.air_print.proofs.explained.push_reached_definitions.Goals as goal

pub loop-name-preserved : goal.loop-name-preserved
loop-name-preserved g c =
    definition-more g.F.PrimeField64.residues c.args.pool.now c.args.names.now.1 c.args.marks.now c.named_expressions-id-items.result.now c.loop-name.name c.id-item.result (string_bytes c.loop-name.text) (string_bytes c.push_name.new.text) _ c.loop-name-test.true c.id-item.is c.loop-name.invariant c.in_ok-push_name.ensures

pub returns : goal.returns
returns g c =
    let m = g.F.PrimeField64.residues in
    definition-all m c.args.pool.now c.args.names.now.1 c.args.marks.now c.named_expressions-id-items.result.now c.loop-name.name (string_bytes c.loop-name.text) _ c.loop-name-test.false c.loop-name.invariant
    ∙ ap (λ xs. string_bytes c.args.text.now ++ lines_text (reached_definitions m c.args.pool.now (xs, c.args.names.now.1) c.args.marks.now)) c.named_expressions-id-items.ensures
