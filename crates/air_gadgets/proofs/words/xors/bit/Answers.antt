use Rattle.air_field.specs.Part.{whole, in_add_left, in_add_right, in_sub_left}
use Rattle.air_field.specs.Algebra.{xor_term}
use Rattle.air_gadgets.proofs.Making.{gives_up, makes_by, one_by_one}
use Rattle.air_gadgets.proofs.words.xors.bit.Goals as goal

pub returns-in_err-first-clause-makes : goal.returns-in_err-first-clause-makes
returns-in_err-first-clause-makes g c =
    gives_up c.in_err-first.field-0.0 c.from_residual.ensures.1
    (λ t u m n. g.met.R.Algebra.laws.refuses_whole _ t (xor_term t u) (in_sub_left (in_add_left whole)) (c.in_err-first.ensures.refused t m))

pub returns-in_err-second-clause-makes : goal.returns-in_err-second-clause-makes
returns-in_err-second-clause-makes g c =
    gives_up c.in_err-second.field-0.0 c.from_residual-in_err-second.ensures.1
    (λ t u m n. g.met.R.Algebra.laws.refuses_whole _ u (xor_term t u) (in_sub_left (in_add_right whole)) (c.in_err-second.ensures.refused u n))

pub returns-clause-makes : goal.returns-clause-makes
returns-clause-makes g c =
    makes_by g.met.R.Algebra.laws c.xor.result c.xor.ensures.made c.xor.ensures.refused
    (one_by_one g.met.R.Algebra.laws c.from_var-2.ensures.extended c.in_ok-first.ensures.made.1 c.in_ok-second.ensures.made.1)

pub from_var-requires : goal.from_var-requires
from_var-requires g c = c.requires

pub from_var-requires-2 : goal.from_var-requires-2
from_var-requires-2 g c = g.met.R.Algebra.laws.valid_stays c.args.ring.now c.from_var.new.self c.from_var.ensures.extended c.requires

pub xor-requires : goal.xor-requires
xor-requires g c = record {
  x_in = g.met.R.Algebra.laws.has_stays c.from_var.new.self c.from_var-2.new.self c.in_ok-first.first c.from_var-2.ensures.extended c.in_ok-first.ensures.made.0;
  y_in = c.in_ok-second.ensures.made.0;
}

pub returns-in_err-first-clause-extended : goal.returns-in_err-first-clause-extended
returns-in_err-first-clause-extended g c = c.from_var.ensures.extended

pub returns-in_err-second-clause-extended : goal.returns-in_err-second-clause-extended
returns-in_err-second-clause-extended g c = g.met.R.Algebra.laws.joined c.args.ring.now c.from_var.new.self c.from_var-2.new.self c.from_var.ensures.extended c.from_var-2.ensures.extended

pub returns-clause-extended : goal.returns-clause-extended
returns-clause-extended g c =
    let laws = g.met.R.Algebra.laws in
    laws.joined c.args.ring.now c.from_var.new.self c.xor.new.self c.from_var.ensures.extended
    (laws.joined c.from_var.new.self c.from_var-2.new.self c.xor.new.self c.from_var-2.ensures.extended c.xor.ensures.extended)
