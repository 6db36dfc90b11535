use Rattle.std.proofs.Common.{true, arith}
use Rattle.air_field.specs.Part.{whole, in_add_left, in_add_right, in_mul_left}
use Rattle.air_gadgets.specs.Gadgets.{less_three_term}
use Rattle.air_gadgets.proofs.LimbLaws.{carried_refused, low_of_four, high_of_four}
use Rattle.air_gadgets.proofs.Making.{gives_up, makes_from}
use Rattle.air_gadgets.proofs.words.sums.sum_of_three.Goals as goal

pub returns-in_err-low-clause-makes : goal.returns-in_err-low-clause-makes
returns-in_err-low-clause-makes g c =
    let laws = g.met.R.Algebra.laws in
    gives_up c.in_err-low.field-0.0 c.from_residual.ensures.1
    (λ t u v w i j k l. carried_refused laws g.F.Field.ring true _ _ _ _ (in_add_left whole)
    (low_of_four laws g.R.FromVar.var_means c.less_three.ensures.extended c.args.a.now c.args.b.now c.args.c.now c.args.d.now _ _ _ _ c.in_err-low.ensures.makes.refused t u v w i j k l))

pub returns-in_err-high-clause-makes : goal.returns-in_err-high-clause-makes
returns-in_err-high-clause-makes g c =
    let laws = g.met.R.Algebra.laws in
    gives_up c.in_err-high.field-0.0 c.from_residual-in_err-high.ensures.1
    (λ t u v w i j k l. carried_refused laws g.F.Field.ring true _ _ _ _ (in_add_right (in_mul_left whole))
    (high_of_four laws g.R.FromVar.var_means c.less_three.ensures.extended c.args.a.now c.args.b.now c.args.c.now c.args.d.now _ _ _ _ c.in_err-high.ensures.makes.refused t u v w i j k l))

pub returns-clause-makes : goal.returns-clause-makes
returns-clause-makes g c =
    let laws = g.met.R.Algebra.laws in
    makes_from c.with_carries.result
    (λ M h t u v w i j k l. h (less_three_term t.low u.low v.low w.low) (less_three_term t.high u.high v.high w.high)
    (laws.means_stays c.less_three.new.ring c.less_three-2.new.ring c.in_ok-low.low (less_three_term t.low u.low v.low w.low) c.less_three-2.ensures.extended
    (low_of_four laws g.R.FromVar.var_means c.less_three.ensures.extended c.args.a.now c.args.b.now c.args.c.now c.args.d.now _ _ _ _ c.in_ok-low.ensures.makes.made.1 t u v w i j k l))
    (high_of_four laws g.R.FromVar.var_means c.less_three.ensures.extended c.args.a.now c.args.b.now c.args.c.now c.args.d.now _ _ _ _ c.in_ok-high.ensures.makes.made.1 t u v w i j k l))
    c.with_carries.ensures.makes

pub less_three-requires-clause-valid : goal.less_three-requires-clause-valid
less_three-requires-clause-valid g c = c.requires.valid

pub less_three-requires-clause-z_in : goal.less_three-requires-clause-z_in
less_three-requires-clause-z_in g c = c.requires.c_in 0 _ (omega arith)

pub less_three-requires-clause-w_in : goal.less_three-requires-clause-w_in
less_three-requires-clause-w_in g c = c.requires.d_in 0 _ (omega arith)

pub returns-in_err-low-clause-extended : goal.returns-in_err-low-clause-extended
returns-in_err-low-clause-extended g c = c.less_three.ensures.extended

pub less_three-requires-2-clause-valid : goal.less_three-requires-2-clause-valid
less_three-requires-2-clause-valid g c = g.met.R.Algebra.laws.valid_stays c.args.ring.now c.less_three.new.ring c.less_three.ensures.extended c.requires.valid

pub less_three-requires-2-clause-z_in : goal.less_three-requires-2-clause-z_in
less_three-requires-2-clause-z_in g c = g.met.R.Algebra.laws.has_stays c.args.ring.now c.less_three.new.ring _ c.less_three.ensures.extended (c.requires.c_in 1 _ (omega arith))

pub less_three-requires-2-clause-w_in : goal.less_three-requires-2-clause-w_in
less_three-requires-2-clause-w_in g c = g.met.R.Algebra.laws.has_stays c.args.ring.now c.less_three.new.ring _ c.less_three.ensures.extended (c.requires.d_in 1 _ (omega arith))

pub returns-in_err-high-clause-extended : goal.returns-in_err-high-clause-extended
returns-in_err-high-clause-extended g c = g.met.R.Algebra.laws.joined c.args.ring.now c.less_three.new.ring c.less_three-2.new.ring c.less_three.ensures.extended c.less_three-2.ensures.extended

pub returns-clause-extended : goal.returns-clause-extended
returns-clause-extended g c =
    let laws = g.met.R.Algebra.laws in
    laws.joined c.args.ring.now c.less_three.new.ring c.with_carries.new.ring c.less_three.ensures.extended
    (laws.joined c.less_three.new.ring c.less_three-2.new.ring c.with_carries.new.ring c.less_three-2.ensures.extended c.with_carries.ensures.extended)
