use Rattle.std.proofs.Common.{◌≤◌}
use Rattle.air_field.specs.Term.{Term}
use Rattle.air_draft.specs.DraftTerms.{power_term}
use Rattle.air_draft.proofs.elements.power_from.Given as goal

-- the power so far is made
abbrev pub invariant-loop : goal.invariant-loop
invariant-loop g l =
    let A = g.R.Algebra in
    let first = l.initial.ring in
    record {
      begun : 1 ≤ l.counter;
      within : l.counter ≤ l.k;
      extended : A.extends first l.ring;
      power_in : A.has l.ring l.power;
      made : (t : Term g.row.F.Denot) → A.means first l.x t → A.means l.ring l.power (power_term g.F.Field.ONE t l.counter);
    }
