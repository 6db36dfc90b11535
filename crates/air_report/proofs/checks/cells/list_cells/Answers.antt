use Rattle.std.proofs.Common.{rules, ◌≡◌, [], ◌∷◌, ◌++◌, length, true, false, ◌+◌, sym, ◌∙◌, inl, inr, arith}
use Rattle.std.proofs.lemmas.Grind.{common_steps}
use Rattle.std.proofs.lemmas.Result.{err_from_is_err_and}
use Rattle.air_report.specs.Report.{IsReached, failure_place}
use Rattle.air_report.proofs.CellsListed.{lists_none, lists_same, lists_new, lists_full, listed_past}
use Rattle.air_report.proofs.checks.cells.list_cells.Goals as goal

pub cells-init : goal.cells-init
cells-init g c = lists_none (length c.args.main.now.rows) c.args.count c.args.max_failures (length c.args.failures.now.items) c.args.failures.now.items

pub returns-then-is_reached-clause-listed : goal.returns-then-is_reached-clause-listed
returns-then-is_reached-clause-listed g c =
    let full : IsReached c.args.max_failures (length c.cells.failures.items) = search rules in
    lists_full g.F.Field.ring g.F.PartialEq.eq c.args.main.now c.args.public_values.now (length c.args.main.now.rows) c.args.count c.args.max_failures c.args.cells.now c.cells.place c.args.failures.now.items c.cells.failures.items c.cells.invariant full

pub returns-in_err-failure-clause-refused : goal.returns-in_err-failure-clause-refused
returns-in_err-failure-clause-refused g c =
    let p = err_from_is_err_and c.from_residual.result c.from_residual.ensures.1 in
    let r = g.F.Field.ring in
    let eq = g.F.PartialEq.eq in
    let few : IsReached c.args.max_failures (length c.cells.failures.items) → ⊥ = search rules in
    let set : c.is_violated.result ≡ true = search rules in
    rw (p.1, p.2)
    (elim c.in_err-failure.ensures.refused [
      | inl h ↦ inl h
      | inr h ↦ inr (h.0, listed_past r eq c.args.main.now c.args.public_values.now (length c.args.main.now.rows) c.args.count c.args.max_failures c.args.cells.now c.cells.place c.args.failures.now.items c.cells.failures.items c.cells.invariant _ c.cells-test.true (sym c.is_violated.ensures ∙ set) few h.1)
    ])

pub cells-preserved-then-not-is_violated : goal.cells-preserved-then-not-is_violated
cells-preserved-then-not-is_violated g c =
    let unset : c.is_violated.result ≡ false = search rules in
    lists_same g.F.Field.ring g.F.PartialEq.eq c.args.main.now c.args.public_values.now (length c.args.main.now.rows) c.args.count c.args.max_failures c.args.cells.now c.cells.place c.args.failures.now.items c.cells.failures.items c.cells.invariant _ c.cells-test.true (sym c.is_violated.ensures ∙ unset)

pub cells-preserved : goal.cells-preserved
cells-preserved g c =
    let few : IsReached c.args.max_failures (length c.cells.failures.items) → ⊥ = search rules in
    let set : c.is_violated.result ≡ true = search rules in
    let push : c.push.new.self.items ≡ c.cells.failures.items ++ c.in_ok-failure.failure ∷ [] = grind (arith, common_steps) in
    let place : failure_place c.in_ok-failure.failure ≡ (c.row.result, c.args.count + c.cells.place) = c.in_ok-failure.ensures.place in
    lists_new g.F.Field.ring g.F.PartialEq.eq c.args.main.now c.args.public_values.now (length c.args.main.now.rows) c.args.count c.args.max_failures c.args.cells.now c.cells.place c.args.failures.now.items c.cells.failures.items c.cells.invariant _ c.in_ok-failure.failure c.push.new.self.items c.cells-test.true (sym c.is_violated.ensures ∙ set) few push (place ∙ search rules) c.in_ok-failure.ensures.label
