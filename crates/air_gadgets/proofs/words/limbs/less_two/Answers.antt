use Rattle.air_field.specs.Term.{sub_term}
use Rattle.air_field.specs.Part.{whole, in_sub_left, in_sub_right}
use Rattle.air_gadgets.specs.Gadgets.{less_two_term}
use Rattle.air_gadgets.proofs.Making.{gives_up, makes_by, one_by_one}
use Rattle.air_gadgets.proofs.words.limbs.less_two.Goals as goal

pub returns-in_err-minuend-clause-makes : goal.returns-in_err-minuend-clause-makes
returns-in_err-minuend-clause-makes g c =
    gives_up c.in_err-minuend.field-0.0 c.from_residual.ensures.1
    (λ t u v m n k. g.met.R.Algebra.laws.refuses_whole _ t (less_two_term t u v) (in_sub_left (in_sub_left whole)) (c.in_err-minuend.ensures.refused t m))

pub returns-in_err-subtrahend-clause-makes : goal.returns-in_err-subtrahend-clause-makes
returns-in_err-subtrahend-clause-makes g c =
    gives_up c.in_err-subtrahend.field-0.0 c.from_residual-in_err-subtrahend.ensures.1
    (λ t u v m n k. g.met.R.Algebra.laws.refuses_whole _ u (less_two_term t u v) (in_sub_left (in_sub_right whole)) (c.in_err-subtrahend.ensures.refused u n))

pub returns-in_err-difference-clause-makes : goal.returns-in_err-difference-clause-makes
returns-in_err-difference-clause-makes g c =
    let laws = g.met.R.Algebra.laws in
    let e = c.in_err-difference.field-0.0 in
    gives_up e c.from_residual-in_err-difference.ensures.1
    (λ t u v m n k. laws.refuses_whole e (sub_term t u) (less_two_term t u v) (in_sub_left whole)
    (one_by_one laws c.from_var-2.ensures.extended c.in_ok-minuend.ensures.made.1 c.in_ok-subtrahend.ensures.made.1 (g.R.Algebra.refuses e) c.in_err-difference.ensures.refused t u m n))

pub returns-clause-makes : goal.returns-clause-makes
returns-clause-makes g c =
    let laws = g.met.R.Algebra.laws in
    let read = laws.joined c.args.ring.now c.from_var.new.self c.from_var-2.new.self c.from_var.ensures.extended c.from_var-2.ensures.extended in
    let later = laws.joined c.args.ring.now c.from_var-2.new.self c.sub.new.self read c.sub.ensures.extended in
    makes_by laws c.sub-2.result c.sub-2.ensures.made c.sub-2.ensures.refused
    (λ M h t u v m n k. h (sub_term t u) v
    (one_by_one laws c.from_var-2.ensures.extended c.in_ok-minuend.ensures.made.1 c.in_ok-subtrahend.ensures.made.1 (g.R.Algebra.means c.sub.new.self c.in_ok-difference.difference) c.in_ok-difference.ensures.made.1 t u m n)
    (laws.means_stays c.args.ring.now c.sub.new.self c.args.z v later k))

pub from_var-requires : goal.from_var-requires
from_var-requires g c = c.requires.valid

pub returns-in_err-minuend-clause-extended : goal.returns-in_err-minuend-clause-extended
returns-in_err-minuend-clause-extended g c = c.from_var.ensures.extended

pub from_var-requires-2 : goal.from_var-requires-2
from_var-requires-2 g c = g.met.R.Algebra.laws.valid_stays c.args.ring.now c.from_var.new.self c.from_var.ensures.extended c.requires.valid

pub returns-in_err-subtrahend-clause-extended : goal.returns-in_err-subtrahend-clause-extended
returns-in_err-subtrahend-clause-extended g c = g.met.R.Algebra.laws.joined c.args.ring.now c.from_var.new.self c.from_var-2.new.self c.from_var.ensures.extended c.from_var-2.ensures.extended

pub sub-requires : goal.sub-requires
sub-requires g c = record {
  x_in = g.met.R.Algebra.laws.has_stays c.from_var.new.self c.from_var-2.new.self c.in_ok-minuend.minuend c.from_var-2.ensures.extended c.in_ok-minuend.ensures.made.0;
  y_in = c.in_ok-subtrahend.ensures.made.0;
}

pub returns-in_err-difference-clause-extended : goal.returns-in_err-difference-clause-extended
returns-in_err-difference-clause-extended g c =
    let laws = g.met.R.Algebra.laws in
    laws.joined c.args.ring.now c.from_var.new.self c.sub.new.self c.from_var.ensures.extended (laws.joined c.from_var.new.self c.from_var-2.new.self c.sub.new.self c.from_var-2.ensures.extended c.sub.ensures.extended)

pub sub-requires-2 : goal.sub-requires-2
sub-requires-2 g c =
    let laws = g.met.R.Algebra.laws in
    let read = laws.joined c.args.ring.now c.from_var.new.self c.from_var-2.new.self c.from_var.ensures.extended c.from_var-2.ensures.extended in record {
      x_in = c.in_ok-difference.ensures.made.0;
      y_in = laws.has_stays c.args.ring.now c.sub.new.self c.args.z (laws.joined c.args.ring.now c.from_var-2.new.self c.sub.new.self read c.sub.ensures.extended) c.requires.z_in;
    }

pub returns-clause-extended : goal.returns-clause-extended
returns-clause-extended g c =
    let laws = g.met.R.Algebra.laws in
    laws.joined c.args.ring.now c.from_var.new.self c.sub-2.new.self c.from_var.ensures.extended
    (laws.joined c.from_var.new.self c.from_var-2.new.self c.sub-2.new.self c.from_var-2.ensures.extended (laws.joined c.from_var-2.new.self c.sub.new.self c.sub-2.new.self c.sub.ensures.extended c.sub-2.ensures.extended))
