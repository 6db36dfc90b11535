use Rattle.std.proofs.Common.{rules, arith, ◌+◌}
use Rattle.air_tape.proofs.Spans.{top_above, top_below, span_top}
use Rattle.air_tape.proofs.tape.locate.Goals as goal

pub overflow_sub-bucket : goal.overflow_sub-bucket
overflow_sub-bucket c = top_above (c.args.index + 32) c.ilog2.result c.ilog2.ensures.power_le c.ilog2.ensures.next_power_gt (omega arith)

pub bucket_len-requires : goal.bucket_len-requires
bucket_len-requires c = let below = top_below (c.args.index + 32) c.ilog2.result c.ilog2.ensures.power_le c.ilog2.ensures.next_power_gt (search rules) in omega arith

pub overflow_sub-result : goal.overflow_sub-result
overflow_sub-result c = let above = top_above (c.args.index + 32) c.ilog2.result c.ilog2.ensures.power_le c.ilog2.ensures.next_power_gt (omega arith) in
    let is = span_top c.ilog2.result above in let len = c.bucket_len.ensures.0 in let low = c.ilog2.ensures.power_le in omega arith

pub returns : goal.returns
returns c = let low = c.ilog2.ensures.power_le in let high = c.ilog2.ensures.next_power_gt in let above = top_above (c.args.index + 32) c.ilog2.result low high (omega arith) in
    let below = top_below (c.args.index + 32) c.ilog2.result low high (search rules) in let is = span_top c.ilog2.result above in let len = c.bucket_len.ensures.0 in (omega arith, omega arith, omega arith)
