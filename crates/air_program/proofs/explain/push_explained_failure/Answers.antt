use Rattle.std.proofs.Common.{◌≡◌, ◌<◌, ◌++◌, List, ℕ, Some, length, get_or, string_bytes, arith, sym, ap, subst, ◌∙◌}
use Rattle.std.specs.Prelude.{slice_get}
use Rattle.std.specs.Slice.{IsItemAt}
use Rattle.air_symbolic.specs.Reach.{Marked}
use Rattle.air_print.specs.Explained.{explained_lines}
use Rattle.air_print.specs.Rows.{trace_of}
use Rattle.air_report.specs.FailureTexts.{seen_failure}
use Rattle.air_print.specs.Lines.{lines_text}
use Rattle.air_program.proofs.ExplainedLemmas.{item_there, item_past, item_has, root_explained, past_explained, cell_explained}
use Rattle.air_program.proofs.explain.push_explained_failure.Goals as goal

pub returns-in_default-clause-pushes : goal.returns-in_default-clause-pushes
returns-in_default-clause-pushes g c =
    let air = c.args.air.now in
    let k = c.args.failure.now.constraint in
    cell_explained g.F.PrimeField64.residues g.F.Field.ring g.met.F.PrimeField64.ring_is air.pool air.roots.items air.beside.cells.items (trace_of c.args.trace.now) c.args.names.now.1 (seen_failure c.args.failure.now) (string_bytes c.args.text.now) (string_bytes c.push_failure.new.text) (string_bytes c.push_cell_below.new.text)
    (ap (λ (xs : List ℕ). slice_get xs k) (sym c.deref.ensures.value) ∙ item_past c.deref.result.now k c.in_default.ensures.lookup)
    c.in_ok-push_failure.ensures c.in_ok-push_cell_below.ensures

pub returns-then-failure-height-clause-pushes : goal.returns-then-failure-height-clause-pushes
returns-then-failure-height-clause-pushes g c =
    let air = c.args.air.now in
    let k = c.args.failure.now.constraint in
    past_explained g.F.PrimeField64.residues g.F.Field.ring g.met.F.PrimeField64.ring_is air.pool air.roots.items air.beside.cells.items (trace_of c.args.trace.now) c.args.names.now.1 (seen_failure c.args.failure.now) c.in-Some.root.now (string_bytes c.args.text.now) (string_bytes c.push_failure.new.text)
    (ap (λ (xs : List ℕ). slice_get xs k) (sym c.deref.ensures.value) ∙ item_there c.deref.result.now k c.in-Some.root c.in-Some.ensures.lookup)
    (omega (arith, c.if-failure-height.true, c.height.ensures))
    c.in_ok-push_failure.ensures

pub returns-clause-pushes : goal.returns-clause-pushes
returns-clause-pushes g c =
    let m = g.F.PrimeField64.residues in
    let r = g.F.Field.ring in
    let air = c.args.air.now in
    let ns = air.pool.nodes in
    let k = c.args.failure.now.constraint in
    let root = c.in-Some.root.now in
    let below = c.in_ok-push_root_below.ensures.pushes in
    let there : IsItemAt air.roots.items k (Some c.in-Some.root) =
    subst (λ (xs : List ℕ). IsItemAt xs k (Some c.in-Some.root)) c.deref.ensures.value c.in-Some.ensures.lookup in
    root_explained m r g.met.F.PrimeField64.ring_is air.pool air.roots.items air.beside.cells.items (trace_of c.args.trace.now) c.args.names.now.1 (seen_failure c.args.failure.now) root c.args.marks.now c.in_ok-at.at below.0 (string_bytes c.args.text.now) (string_bytes c.push_failure.new.text) (string_bytes c.push_root_below.new.text)
    (item_there air.roots.items k c.in-Some.root there)
    c.requires.marks c.in_ok-at.ensures.known c.in_ok-at.ensures.row
    (item_has (λ i. i < length ns) air.roots.items k c.in-Some.root there air.roots_in.here)
    (item_has (λ i. Marked c.args.marks.now i) air.roots.items k c.in-Some.root there c.requires.roots)
    below.1
    c.in_ok-push_failure.ensures
    (subst (λ (values : List _). string_bytes c.push_root_below.new.text ≡ string_bytes c.push_failure.new.text ++ lines_text (explained_lines m air.pool c.args.names.now.1 (λ i. get_or values i r.zero) root below.0)) c.deref-2.ensures.value below.2)
