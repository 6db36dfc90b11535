use Rattle.std.proofs.Common.{◌≡◌, ◌++◌, get_or, map, None, codes, decimal, string_bytes, ap, ◌∙◌}
use Rattle.air_field.specs.Degree.{degree_by, cached_weight}
use Rattle.air_symbolic.specs.BaseLeaves.{base_reads}
use Rattle.air_symbolic.specs.Pools.{term_at}
use Rattle.air_print.specs.Infix.{shown_number, infix_text}
use Rattle.air_print.specs.Labels.{text_at}
use Rattle.air_print.specs.Lines.{constraint_line}
use Rattle.air_print.specs.declared.binding.Binding.TheVariants.{Loose}
use Rattle.air_print.proofs.LineLemmas.{line-more, line-all, constraint-pieces}
use Rattle.air_print.proofs.lines.push_constraints.Goals as goal

pub loop-place-preserved : goal.loop-place-preserved
loop-place-preserved g c =
    let m = g.F.PrimeField64.residues in
    let shown = map string_bytes c.args.shown.now in
    let line = constraint_line m c.args.pool.now c.args.names.now.1 shown in
    let k = c.loop-place.place-counter in
    let root = c.index-roots-place.result in
    let old = string_bytes c.loop-place.text in
    let text = infix_text m Loose (shown_number (λ i. get_or c.args.names.now.1 i None) c.args.pool.now.nodes root) in
    let degree = degree_by cached_weight (term_at base_reads c.args.pool.now root) in
    let written : string_bytes c.push_str.new.self ≡ old ++ (line k root ++ codes "\n") =
    c.in_ok-push_str.ensures.bytes
    ∙ ap (λ t. t ++ codes "\n") (c.in_ok-push_infix.ensures ∙ ap (λ t. t ++ text) (c.in_ok-write.ensures.bytes
    ∙ (ap (λ s. old ++ (codes "#" ++ (decimal k ++ (s ++ (codes " degree " ++ (decimal c.degree_multiple-degree.result ++ codes ": ")))))) c.text_at-label.ensures
    ∙ ap (λ d. old ++ (codes "#" ++ (decimal k ++ (text_at shown k ++ (codes " degree " ++ (decimal d ++ codes ": ")))))) c.degree_multiple-degree.ensures)))
    ∙ constraint-pieces old (codes "#") (decimal k) (text_at shown k) (codes " degree ") (decimal degree) (codes ": ") text (codes "\n") in
    line-more line c.args.roots.now k root old (string_bytes c.push_str.new.self) _ c.loop-place-test.true c.index-roots-place.is c.loop-place.invariant written

pub returns : goal.returns
returns g c =
    let line = constraint_line g.F.PrimeField64.residues c.args.pool.now c.args.names.now.1 (map string_bytes c.args.shown.now) in
    line-all line c.args.roots.now c.loop-place.place-counter (string_bytes c.loop-place.text) _ c.loop-place-test.false c.loop-place.invariant
