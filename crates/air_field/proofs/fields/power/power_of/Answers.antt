use Rattle.std.proofs.Common.{◌≡◌, ◌∙◌, ◌%◌, arith}
use Rattle.air_field.specs.Powers.{power}
use Rattle.air_field.specs.laws.Powers.{power-even_step, power-odd_step}
use Rattle.air_field.proofs.fields.power.power_of.Goals.{then-left-eq1, else-left-eq1}
use Rattle.air_field.proofs.fields.power.power_of.Goals as goal

pub loop-left-preserved : goal.loop-left-preserved
loop-left-preserved g c =
    elim c.if-left-eq1.branch [
      | then-left-eq1 w ↦
          power-odd_step g.F.Field.ring c.loop-left.power c.loop-left.square c.if-left-eq1.power c.mul-square.result c.loop-left.left
          (power g.F.Field.ring c.args.a c.args.k) (w.power-is ∙ w.mul-power.ensures) c.mul-square.ensures w.if-left-eq1.true c.loop-left.invariant
      | else-left-eq1 w ↦
          let even : c.loop-left.left % 2 ≡ 0 = omega (arith, w.if-left-eq1.false) in
          power-even_step g.F.Field.ring c.loop-left.power c.loop-left.square c.if-left-eq1.power c.mul-square.result c.loop-left.left
          (power g.F.Field.ring c.args.a c.args.k) w.power-is c.mul-square.ensures even c.loop-left.invariant
    ]
