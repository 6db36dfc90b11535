use Rattle.std.proofs.Common.{ap, sym}
use Rattle.air_audit.proofs.permutation_rows.check_row_with_permutation.Goals as goal

pub returns-clause-labels : goal.returns-clause-labels
returns-clause-labels g c = record {
  before = c.new_with_permutation-builder.result;
  after = c.eval.new.builder;
  at = c.new_with_permutation-builder.ensures.row_index;
  start = c.new_with_permutation-builder.ensures.constraint_index;
  had = c.new_with_permutation-builder.ensures.failures;
  has = ap (λ v. v.items) (sym c.into_failures.ensures);
  said = c.in_ok-eval.ensures.labelled;
}
