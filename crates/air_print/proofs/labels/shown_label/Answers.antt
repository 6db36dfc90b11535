use Rattle.std.proofs.Common.{string_bytes, rules}
use Rattle.std.specs.List.{Contains}
use Rattle.air_print.proofs.LineEnds.{with_line_end}
use Rattle.air_print.proofs.labels.shown_label.Goals as goal

pub returns-then-contains : goal.returns-then-contains
returns-then-contains c =
    let found : Contains (string_bytes c.in_ok-shown.shown) 10 = search rules in
    record {
      shown_is = with_line_end c.args.label.now (string_bytes c.in_ok-shown.shown) (string_bytes c.new.result) found (search rules);
      one_line = search rules;
    }
