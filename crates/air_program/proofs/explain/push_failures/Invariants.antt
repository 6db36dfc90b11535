use Rattle.std.proofs.Common.{map, take, string_bytes}
use Rattle.std.specs.Prelude.{IfSome}
use Rattle.air_report.specs.FailureTexts.{seen_failure}
use Rattle.air_print.specs.Rows.{trace_of}
use Rattle.air_program.specs.AtHand.{KnownAt, AreKept}
use Rattle.air_program.specs.Explained.{PushesExplained}
use Rattle.air_program.proofs.explain.push_failures.Given as goal

-- the failures so far are explained, the cached values are those of their row, and what is kept is what roots read
abbrev pub invariant-loop-failure : goal.invariant-loop-failure
invariant-loop-failure g l =
    let trace = trace_of l.trace in
    record {
      pushes : PushesExplained g.F.PrimeField64.residues l.air.pool l.air.roots.items l.air.beside.cells.items trace l.names.1 (map seen_failure (take l.failure-index l.failures)) (string_bytes l.fn.text) (string_bytes l.text);
      known : IfSome l.at_hand (KnownAt g.F.Field.ring trace l.air.pool.nodes l.marks.items);
      kept : AreKept l.air.pool.nodes l.kept;
    }
