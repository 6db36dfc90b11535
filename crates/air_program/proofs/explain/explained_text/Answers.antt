use Rattle.std.proofs.Common.{List, ℕ, ◌++◌, map, string_bytes, ap, subst, ◌∙◌}
use Rattle.air_symbolic.specs.BaseLeaves.{base_leaves}
use Rattle.air_print.specs.Lines.{lines_text}
use Rattle.air_print.specs.Names.{AreNames}
use Rattle.air_report.specs.FailureTexts.{seen_failure}
use Rattle.air_report.specs.declared.debug.failure.ConstraintFailure.{ConstraintFailure}
use Rattle.air_program.specs.Explained.{PushesExplained, PushesNames, input_trace}
use Rattle.air_program.specs.FlatAnswer.{input_of}
use Rattle.air_program.specs.Texts.{count_lines, found_in}
use Rattle.air_program.proofs.ExplainedLemmas.{text_explained}
use Rattle.air_program.proofs.explain.explained_text.Goals as goal

pub push_names-requires : goal.push_names-requires
push_names-requires g c = subst (λ (rs : List ℕ). AreNames base_leaves c.args.audited.now.air.pool.nodes rs c.in_ok-names.names) c.deref-3.ensures.value c.in_ok-names.ensures

pub returns : goal.returns
returns g c =
    let m = g.F.PrimeField64.residues in
    let a = c.args.audited.now in
    let air = a.air in
    let trace = input_trace (input_of air.pool air.roots air.labels air.beside a.trial) in
    let names = c.in_ok-names.names in
    let f = found_in a.audit in
    let counts = string_bytes c.push_counts.new.text in
    let front = string_bytes c.push_names.new.text in
    let text = string_bytes c.push_failures.new.text in
    text_explained m air.pool air.roots.items air.beside.cells.items trace names f counts front text
    (subst (λ (rs : List ℕ). AreNames base_leaves air.pool.nodes rs names) c.deref-3.ensures.value c.in_ok-names.ensures)
    (c.in_ok-push_counts.ensures ∙ ap (λ (t : List ℕ). t ++ lines_text (count_lines f)) c.new-text.ensures.bytes)
    (subst (λ (fs : List ConstraintFailure). PushesNames m air.pool air.roots.items names (map seen_failure fs) counts front) c.deref-4.ensures.value c.in_ok-push_names.ensures)
    (subst (λ (fs : List ConstraintFailure). PushesExplained m air.pool air.roots.items air.beside.cells.items trace names.1 (map seen_failure fs) front text) c.deref-5.ensures.value
    (rw (c.deref.ensures.value, c.deref-2.ensures.value) at c.in_ok-push_failures.ensures))
