use Rattle.air_print.specs.Counts.{passes}
use Rattle.air_print.proofs.NameLemmas.{named-more, names-more, names-all}
use Rattle.air_print.proofs.naming.give_names.Goals as goal

pub loop-number-preserved : goal.loop-number-preserved
loop-number-preserved g c =
    let test = passes c.args.pool.now.nodes c.args.marks.now c.args.counts.now in
    let h = c.loop-number.invariant in
    let k = c.loop-number.number in
    let id = c.named_at-id.result in
    record {
      named = named-more test k id c.loop-number.named.items c.give_name.new.named.items c.named_at-id.ensures h.named c.in_ok-give_name.ensures.named;
      names = names-more test k id c.loop-number.named.items c.loop-number.names.items c.give_name.new.names.items c.named_at-id.ensures h.named h.names c.in_ok-give_name.ensures.names;
    }

pub returns-clause-each : goal.returns-clause-each
returns-clause-each g c =
    names-all c.args.pool.now.nodes c.args.marks.now c.args.counts.now c.loop-number.names.items c.loop-number.number c.loop-number-test.false c.loop-number.invariant.names
