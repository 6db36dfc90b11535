use Rattle.std.proofs.Common.{[], refl, sym, ap, ◌∙◌, arith}
use Rattle.std.proofs.lemmas.List.{append-nil}
use Rattle.std.specs.Str.Lines.{lines}
use Rattle.air_program.specs.Grammar.{rows_of_lines}
use Rattle.air_program.specs.Parsing.{element_values}
use Rattle.air_program.proofs.Rows.{row_taken, no_line}
use Rattle.air_program.proofs.input.parser.push_row.Goals as goal

pub returns-then-count-gt0-clause-ok : goal.returns-then-count-gt0-clause-ok
returns-then-count-gt0-clause-ok c =
    let row = row_taken c.lines.numbers.items c.push_numbers.new.numbers.items c.in-Some.line.now (lines c.in-Some.after.now) c.in_ok-count.count c.in_ok-count.ensures.numbers (omega (arith, c.in_ok-count.ensures.count)) c.if-count-gt0.true in
    (row.0, rw c.lines.invariant.kept at row.1, row.2, sym c.lines.invariant.same ∙ ap rows_of_lines c.in-Some.ensures.some ∙ row.3)

pub returns-clause-ok : goal.returns-clause-ok
returns-clause-ok c = ([], c.lines.invariant.kept ∙ sym (append-nil (element_values c.args.numbers.now.items)), refl, sym c.lines.invariant.same ∙ ap rows_of_lines c.in_default.ensures.none ∙ no_line)
