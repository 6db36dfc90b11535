use Rattle.std.proofs.Common.{List, ℕ, ◌-◌, sym, ap₂, ◌∙◌, string_bytes}
use Rattle.std.specs.Prelude.{slice_get}
use Rattle.air_field.specs.Assignment.{row_assignment}
use Rattle.air_core.specs.declared.boundary.BoundaryPublic.{BoundaryPublic}
use Rattle.air_print.specs.Rows.{trace_of}
use Rattle.air_program.proofs.ExplainedLemmas.{item_past, no_cell}
use Rattle.air_program.proofs.explain.push_cell_below.Goals as goal

pub returns-in-None : goal.returns-in-None
returns-in-None g c =
    let k = c.args.failure.now.constraint in
    no_cell g.F.PrimeField64.residues (row_assignment g.F.Field.ring (trace_of c.args.trace.now) c.args.failure.now.row) _ (string_bytes c.args.text.now)
    (ap₂ (λ (xs : List BoundaryPublic) (n : ℕ). slice_get xs (k - n)) (sym c.deref.ensures.value) (sym (c.len.ensures ∙ c.args.air.now.roots.ok.0))
    ∙ item_past c.deref.result.now (k - c.len.result) c.in-None.ensures.lookup)
