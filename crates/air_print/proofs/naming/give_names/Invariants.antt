use Rattle.std.proofs.Common.{◌≡◌, map}
use Rattle.std.specs.List.{range_with_len}
use Rattle.air_print.specs.Names.{passing_below, name_by}
use Rattle.air_print.specs.Counts.{passes}
use Rattle.air_print.proofs.naming.give_names.Given as goal

-- the visited expressions have their names
abbrev pub invariant-loop-number : goal.invariant-loop-number
invariant-loop-number g l =
    let test = passes l.pool.nodes l.marks l.counts in
    record {
      named : l.named.items ≡ passing_below test l.number;
      names : l.names.items ≡ map (name_by test) (range_with_len 0 l.number);
    }
