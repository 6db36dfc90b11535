use Rattle.std.proofs.Common.{◌++◌, codes, string_bytes, ap, ap₂, ◌∙◌}
use Rattle.air_core.specs.declared.variables.entry.BaseEntry.TheVariants.{Main, Public}
use Rattle.air_print.specs.Cells.{variable_text}
use Rattle.air_print.proofs.ExplainedPieces.{cell-pieces}
use Rattle.air_print.proofs.cells.push_cell.Goals as goal

pub returns : goal.returns
returns g c =
    let m = g.F.PrimeField64.residues in
    let old = string_bytes c.args.text.now in
    c.in_ok-push_str-3.ensures.bytes
    ∙ ap (λ t. t ++ codes "\n") (c.in_ok-push_value-2.ensures
    ∙ ap₂ (λ t x. t ++ variable_text m Public c.args.public_value x) (c.in_ok-push_str-2.ensures.bytes
    ∙ ap (λ t. t ++ codes ", ") (c.in_ok-push_value.ensures
    ∙ ap₂ (λ t x. t ++ variable_text m (Main 0) c.args.column x) c.in_ok-push_str.ensures.bytes c.entry_of.ensures)) c.public_of-public.ensures)
    ∙ cell-pieces old (codes "  ") _ (codes ", ") _ (codes "\n")
