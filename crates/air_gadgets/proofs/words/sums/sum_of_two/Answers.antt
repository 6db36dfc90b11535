use Rattle.std.proofs.Common.{false, arith}
use Rattle.air_field.specs.Part.{whole, in_add_left, in_add_right, in_mul_left}
use Rattle.air_gadgets.specs.Gadgets.{less_two_term}
use Rattle.air_gadgets.proofs.LimbLaws.{carried_refused, low_of_three, high_of_three}
use Rattle.air_gadgets.proofs.Making.{gives_up, makes_from}
use Rattle.air_gadgets.proofs.words.sums.sum_of_two.Goals as goal

pub returns-in_err-low-clause-makes : goal.returns-in_err-low-clause-makes
returns-in_err-low-clause-makes g c =
    let laws = g.met.R.Algebra.laws in
    gives_up c.in_err-low.field-0.0 c.from_residual.ensures.1
    (λ t u v i j k. carried_refused laws g.F.Field.ring false _ _ _ _ (in_add_left whole)
    (low_of_three laws g.R.FromVar.var_means c.less_two.ensures.extended c.args.a.now c.args.b.now c.args.c.now _ _ _ c.in_err-low.ensures.makes.refused t u v i j k))

pub returns-in_err-high-clause-makes : goal.returns-in_err-high-clause-makes
returns-in_err-high-clause-makes g c =
    let laws = g.met.R.Algebra.laws in
    gives_up c.in_err-high.field-0.0 c.from_residual-in_err-high.ensures.1
    (λ t u v i j k. carried_refused laws g.F.Field.ring false _ _ _ _ (in_add_right (in_mul_left whole))
    (high_of_three laws g.R.FromVar.var_means c.less_two.ensures.extended c.args.a.now c.args.b.now c.args.c.now _ _ _ c.in_err-high.ensures.makes.refused t u v i j k))

pub returns-clause-makes : goal.returns-clause-makes
returns-clause-makes g c =
    let laws = g.met.R.Algebra.laws in
    makes_from c.with_carries.result
    (λ M h t u v i j k. h (less_two_term t.low u.low v.low) (less_two_term t.high u.high v.high)
    (laws.means_stays c.less_two.new.ring c.less_two-2.new.ring c.in_ok-low.low (less_two_term t.low u.low v.low) c.less_two-2.ensures.extended
    (low_of_three laws g.R.FromVar.var_means c.less_two.ensures.extended c.args.a.now c.args.b.now c.args.c.now _ _ _ c.in_ok-low.ensures.makes.made.1 t u v i j k))
    (high_of_three laws g.R.FromVar.var_means c.less_two.ensures.extended c.args.a.now c.args.b.now c.args.c.now _ _ _ c.in_ok-high.ensures.makes.made.1 t u v i j k))
    c.with_carries.ensures.makes

pub less_two-requires-clause-valid : goal.less_two-requires-clause-valid
less_two-requires-clause-valid g c = c.requires.valid

pub less_two-requires-clause-z_in : goal.less_two-requires-clause-z_in
less_two-requires-clause-z_in g c = c.requires.c_in 0 _ (omega arith)

pub returns-in_err-low-clause-extended : goal.returns-in_err-low-clause-extended
returns-in_err-low-clause-extended g c = c.less_two.ensures.extended

pub less_two-requires-2-clause-valid : goal.less_two-requires-2-clause-valid
less_two-requires-2-clause-valid g c = g.met.R.Algebra.laws.valid_stays c.args.ring.now c.less_two.new.ring c.less_two.ensures.extended c.requires.valid

pub less_two-requires-2-clause-z_in : goal.less_two-requires-2-clause-z_in
less_two-requires-2-clause-z_in g c = g.met.R.Algebra.laws.has_stays c.args.ring.now c.less_two.new.ring _ c.less_two.ensures.extended (c.requires.c_in 1 _ (omega arith))

pub returns-in_err-high-clause-extended : goal.returns-in_err-high-clause-extended
returns-in_err-high-clause-extended g c = g.met.R.Algebra.laws.joined c.args.ring.now c.less_two.new.ring c.less_two-2.new.ring c.less_two.ensures.extended c.less_two-2.ensures.extended

pub returns-clause-extended : goal.returns-clause-extended
returns-clause-extended g c =
    let laws = g.met.R.Algebra.laws in
    laws.joined c.args.ring.now c.less_two.new.ring c.with_carries.new.ring c.less_two.ensures.extended
    (laws.joined c.less_two.new.ring c.less_two-2.new.ring c.with_carries.new.ring c.less_two-2.ensures.extended c.with_carries.ensures.extended)
