use Rattle.std.proofs.Common.{ap, ◌∙◌, count_ones, eq-eqb}
use borrow.Author.Tests.{eqb-true}
use Rattle.air_report.proofs.Powers.{power_from_ones, ones-power}
use Rattle.air_report.proofs.checks.shapes.is_power.Goals as goal

pub returns : goal.returns
returns c = rw c.is_power_of_two.ensures (
  λ set. power_from_ones c.args.n (eqb-true (count_ones c.args.n) 1 set),
  λ power. eq-eqb (count_ones c.args.n) 1 (ap count_ones power.1 ∙ ones-power power.0),
)
