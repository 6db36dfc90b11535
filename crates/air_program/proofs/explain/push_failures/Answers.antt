use Rattle.std.proofs.Common.{[], append-nil, List, ℕ, Option, string_bytes, sym, subst}
use Rattle.std.specs.Prelude.{IfSome}
use Rattle.air_print.specs.Rows.{trace_of}
use Rattle.air_program.specs.AtHand.{KnownAt}
use Rattle.air_program.proofs.ExplainedLemmas.{explained-more}
use Rattle.air_program.proofs.Kept.{kept-none}
use Rattle.air_program.proofs.explain.push_failures.Goals as goal

pub loop-failure-init : goal.loop-failure-init
loop-failure-init g c = record {
  pushes = record { blocks = []; each = tt; pushed = sym (append-nil (string_bytes c.args.text.now)) };
  known = tt;
  kept = kept-none c.args.air.now.pool.nodes c.new-kept.result.entries c.new-kept.ensures.empty;
}

pub loop-failure-preserved : goal.loop-failure-preserved
loop-failure-preserved g c =
    let air = c.args.air.now in
    let trace = trace_of c.args.trace.now in
    record {
      pushes = explained-more g.F.PrimeField64.residues air.pool air.roots.items air.beside.cells.items trace c.args.names.now.1 c.args.failures.now c.loop-failure.failure-index c.failure-item.result (string_bytes c.args.text.now) (string_bytes c.loop-failure.text) (string_bytes c.push_explained_failure.new.text) c.loop-failure-test.true c.failure-item.is c.loop-failure.invariant.pushes c.in_ok-at_hand.ensures.pushes;
      known = subst (λ (marks : List (Option ℕ)). IfSome c.in_ok-at_hand.at_hand (KnownAt g.F.Field.ring trace air.pool.nodes marks)) c.deref-in-loop-failure.ensures.value c.in_ok-at_hand.ensures.known;
      kept = c.in_ok-at_hand.ensures.kept;
    }
