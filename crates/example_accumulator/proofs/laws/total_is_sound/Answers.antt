use Rattle.p3_air.specs.Instances.{instance_trace}
use Rattle.example_accumulator.specs.Totals.{accumulator_instance}
use Rattle.example_accumulator.proofs.Sums.{total_is_sum}
use Rattle.example_accumulator.proofs.laws.total_is_sound.Goals as goal

pub returns : goal.returns
returns g c trace public report exact none some =
    let instance = accumulator_instance trace public in
    total_is_sum g.F.Field.ring (instance_trace instance) (c.empty_reports_hold.ensures.rows instance report exact none) some
