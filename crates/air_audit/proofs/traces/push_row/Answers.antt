use Rattle.std.proofs.Common.{◌++◌, ◌∷◌, [], map, take, get_or, ap, ◌∙◌, append_assoc, arith}
use Rattle.air_field.specs.Ring.{image}
use Rattle.air_audit.proofs.Rows.{map_one_more, map_all}
use Rattle.air_audit.proofs.traces.push_row.Goals as goal

pub loop-number-preserved : goal.loop-number-preserved
loop-number-preserved g c =
    let f = image g.F.Field.ring in
    let row = c.args.row.now in
    let i = c.loop-number.number-index in
    let old = c.args.values.now.items in
    c.in_ok-push.ensures.items
    ∙ ap (λ x. c.loop-number.values.items ++ x ∷ []) c.from_u64.ensures
    ∙ ap (λ ys. ys ++ f (get_or row i 0) ∷ []) c.loop-number.invariant
    ∙ append_assoc old (map f (take i row)) (f (get_or row i 0) ∷ [])
    ∙ ap (λ ys. old ++ ys) (map_one_more f row i 0 (omega (arith, c.told-row, c.loop-number-test.true)))

pub returns-clause-pushed : goal.returns-clause-pushed
returns-clause-pushed g c =
    let old = c.args.values.now.items in
    c.loop-number.invariant
    ∙ ap (λ ys. old ++ ys) (map_all (image g.F.Field.ring) c.args.row.now c.loop-number.number-index (omega (arith, c.told-row, c.loop-number-test.false)))
