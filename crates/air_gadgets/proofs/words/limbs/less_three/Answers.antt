use Rattle.air_field.specs.Part.{whole, in_sub_left}
use Rattle.air_gadgets.specs.Gadgets.{less_two_term, less_three_term}
use Rattle.air_gadgets.proofs.Making.{gives_up, makes_by}
use Rattle.air_gadgets.proofs.words.limbs.less_three.Goals as goal

pub returns-in_err-difference-clause-makes : goal.returns-in_err-difference-clause-makes
returns-in_err-difference-clause-makes g c =
    gives_up c.in_err-difference.field-0.0 c.from_residual.ensures.1
    (λ t u v w m n k l. g.met.R.Algebra.laws.refuses_whole _ (less_two_term t u v) (less_three_term t u v w) (in_sub_left whole) (c.in_err-difference.ensures.makes.refused t u v m n k))

pub returns-clause-makes : goal.returns-clause-makes
returns-clause-makes g c =
    let laws = g.met.R.Algebra.laws in
    makes_by laws c.sub.result c.sub.ensures.made c.sub.ensures.refused
    (λ M h t u v w m n k l. h (less_two_term t u v) w (c.in_ok-difference.ensures.makes.made.1 t u v m n k)
    (laws.means_stays c.args.ring.now c.less_two.new.ring c.args.w w c.less_two.ensures.extended l))

pub less_two-requires : goal.less_two-requires
less_two-requires g c = record {
  valid = c.requires.valid;
  z_in = c.requires.z_in;
}

pub returns-in_err-difference-clause-extended : goal.returns-in_err-difference-clause-extended
returns-in_err-difference-clause-extended g c = c.less_two.ensures.extended

pub sub-requires : goal.sub-requires
sub-requires g c = record {
  x_in = c.in_ok-difference.ensures.makes.made.0;
  y_in = g.met.R.Algebra.laws.has_stays c.args.ring.now c.less_two.new.ring c.args.w c.less_two.ensures.extended c.requires.w_in;
}

pub returns-clause-extended : goal.returns-clause-extended
returns-clause-extended g c = g.met.R.Algebra.laws.joined c.args.ring.now c.less_two.new.ring c.sub.new.self c.less_two.ensures.extended c.sub.ensures.extended
