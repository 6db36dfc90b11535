use Rattle.std.proofs.Common.{rules, arith}
use Rattle.air_tape.proofs.Spans.{span_small}
use Rattle.air_tape.proofs.tape.bucket_len.Goals as goal

pub returns : goal.returns
returns c = let small = span_small c.args.bucket (search rules) in omega arith
