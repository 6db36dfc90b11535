use Rattle.std.proofs.Common.{◌++◌, get_or, string_bytes, refl, sym, ap, ◌∙◌, append-nil}
use Rattle.air_print.specs.Equations.{equation}
use Rattle.air_print.proofs.ExplainedPieces.{begun-nil, not-zero, begun-more, begun-none, begun-all}
use Rattle.air_print.proofs.equations.push_equations.Goals as goal

pub loop-id-init : goal.loop-id-init
loop-id-init g c =
    let f = equation g.F.PrimeField64.residues c.args.pool.now c.args.names.now.1 (λ j. get_or c.args.values.now j g.F.Field.ring.zero) in
    let old = string_bytes c.args.text.now in
    record { first = refl; text_is = sym (append-nil old) ∙ ap (λ t. old ++ t) (sym (begun-nil f)) }

pub loop-id-preserved : goal.loop-id-preserved
loop-id-preserved g c =
    let f = equation g.F.PrimeField64.residues c.args.pool.now c.args.names.now.1 (λ j. get_or c.args.values.now j g.F.Field.ring.zero) in
    let h = c.loop-id.invariant in
    record {
      first = sym (not-zero c.loop-id.id-index);
      text_is =
          begun-more f c.args.ids.now c.loop-id.id-index c.id-item.result c.loop-id.is_first (string_bytes c.args.text.now) (string_bytes c.loop-id.text) (string_bytes c.push_separator.new.text) (string_bytes c.push_equation.new.text) c.loop-id-test.true c.id-item.is h.first h.text_is c.in_ok-push_separator.ensures c.in_ok-push_equation.ensures;
    }

pub returns-then-is_empty : goal.returns-then-is_empty
returns-then-is_empty g c =
    let f = equation g.F.PrimeField64.residues c.args.pool.now c.args.names.now.1 (λ j. get_or c.args.values.now j g.F.Field.ring.zero) in
    begun-none f c.args.ids.now c.loop-id.id-index (string_bytes c.args.text.now) (string_bytes c.loop-id.text) c.loop-id-test.false (sym c.if-is_empty.true ∙ c.is_empty.ensures) c.loop-id.invariant.text_is

pub returns : goal.returns
returns g c =
    let f = equation g.F.PrimeField64.residues c.args.pool.now c.args.names.now.1 (λ j. get_or c.args.values.now j g.F.Field.ring.zero) in
    begun-all f c.args.ids.now c.loop-id.id-index (string_bytes c.args.text.now) (string_bytes c.loop-id.text) (string_bytes c.push_str.new.self) c.loop-id-test.false (sym c.if-is_empty.false ∙ c.is_empty.ensures) c.loop-id.invariant.text_is c.in_ok-push_str.ensures.bytes
