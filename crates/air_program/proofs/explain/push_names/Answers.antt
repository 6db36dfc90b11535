use Rattle.std.proofs.Common.{◌≡◌, ◌<◌, List, ℕ, Option, length, map, All, sym, ap, subst, ◌∙◌}
use Rattle.std.proofs.lemmas.Result.{on_ok_weaker}
use Rattle.air_symbolic.specs.BaseLeaves.{base_leaves}
use Rattle.air_symbolic.specs.Reach.{Reached}
use Rattle.air_report.specs.FailureTexts.{seen_failure}
use Rattle.air_program.specs.Explained.{failing_roots}
use Rattle.air_program.proofs.ExplainedLemmas.{names_here, failing_here}
use Rattle.air_program.proofs.explain.push_names.Goals as goal

pub reached_nodes-requires-clause-here : goal.reached_nodes-requires-clause-here
reached_nodes-requires-clause-here g c =
    let ns = c.args.air.now.pool.nodes in
    let fs = map seen_failure c.args.failures.now in
    let same : c.deref-2.result.now ≡ failing_roots c.args.air.now.roots.items fs =
    c.deref-2.ensures.value ∙ c.in_ok-failing.ensures ∙ ap (λ (rs : List ℕ). failing_roots rs fs) c.deref.ensures.value in
    subst (λ (rs : List ℕ). All (λ i. i < length ns) rs) (sym same)
    (failing_here (λ i. i < length ns) c.args.air.now.roots.items fs c.args.air.now.roots_in.here)

pub push_reached_definitions-requires : goal.push_reached_definitions-requires
push_reached_definitions-requires g c =
    record { here = names_here base_leaves c.args.air.now.pool.nodes c.args.air.now.roots.items c.args.names.now c.requires }

pub returns : goal.returns
returns g c =
    let ns = c.args.air.now.pool.nodes in
    let fs = map seen_failure c.args.failures.now in
    let same : c.deref-2.result.now ≡ failing_roots c.args.air.now.roots.items fs =
    c.deref-2.ensures.value ∙ c.in_ok-failing.ensures ∙ ap (λ (rs : List ℕ). failing_roots rs fs) c.deref.ensures.value in
    on_ok_weaker c.push_reached_definitions.result
    (λ h. record {
      marks = c.deref-3.result.now;
      failing = subst (λ (rs : List ℕ). Reached base_leaves ns rs c.deref-3.result.now) same
          (subst (λ (ms : List (Option ℕ)). Reached base_leaves ns c.deref-2.result.now ms) (sym c.deref-3.ensures.value) c.in-Ok.ensures.marked);
      pushed = h;
    })
    c.push_reached_definitions.ensures
