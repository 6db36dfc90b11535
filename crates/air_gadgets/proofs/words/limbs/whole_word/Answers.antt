use Rattle.std.proofs.Common.{subst}
use Rattle.air_field.specs.Ring.{image}
use Rattle.air_field.specs.Term.{const_term, mul_term}
use Rattle.air_field.specs.Part.{whole, in_add_right, in_mul_right}
use Rattle.air_gadgets.specs.Gadgets.{whole_term}
use Rattle.air_gadgets.proofs.Making.{gives_up, makes_by}
use Rattle.air_gadgets.proofs.words.limbs.whole_word.Goals as goal

pub returns-in_err-scale-clause-makes : goal.returns-in_err-scale-clause-makes
returns-in_err-scale-clause-makes g c =
    let e = c.in_err-scale.field-0.0 in
    gives_up c.in_err-scale.field-0.0 c.from_residual.ensures.1
    (λ t u m n. g.met.R.Algebra.laws.refuses_whole e (const_term (image g.F.Field.ring 65536)) (whole_term g.F.Field.ring t u) (in_add_right (in_mul_right whole))
    (subst (λ v. g.R.Algebra.refuses e (const_term v)) c.from_u64.ensures c.in_err-scale.ensures.refused))

pub returns-in_err-raised-clause-makes : goal.returns-in_err-raised-clause-makes
returns-in_err-raised-clause-makes g c =
    let q = const_term (image g.F.Field.ring 65536) in
    let laws = g.met.R.Algebra.laws in
    let is = subst (λ v. g.R.Algebra.means c.constant.new.self c.in_ok-scale.scale (const_term v)) c.from_u64.ensures c.in_ok-scale.ensures.made.1 in
    gives_up c.in_err-raised.field-0.0 c.from_residual-in_err-raised.ensures.1
    (λ t u m n. laws.refuses_whole c.in_err-raised.field-0.0 (mul_term u q) (whole_term g.F.Field.ring t u) (in_add_right whole)
    (c.in_err-raised.ensures.refused u q (laws.means_stays c.args.ring.now c.constant.new.self c.args.high u c.constant.ensures.extended n) is))

pub returns-clause-makes : goal.returns-clause-makes
returns-clause-makes g c =
    let q = const_term (image g.F.Field.ring 65536) in
    let laws = g.met.R.Algebra.laws in
    let is = subst (λ v. g.R.Algebra.means c.constant.new.self c.in_ok-scale.scale (const_term v)) c.from_u64.ensures c.in_ok-scale.ensures.made.1 in
    let stays = laws.joined c.args.ring.now c.constant.new.self c.mul.new.self c.constant.ensures.extended c.mul.ensures.extended in
    makes_by laws c.add.result c.add.ensures.made c.add.ensures.refused
    (λ M h t u m n. h t (mul_term u q)
    (laws.means_stays c.args.ring.now c.mul.new.self c.args.low t stays m)
    (c.in_ok-raised.ensures.made.1 u q (laws.means_stays c.args.ring.now c.constant.new.self c.args.high u c.constant.ensures.extended n) is))

pub constant-requires : goal.constant-requires
constant-requires g c = g.met.R.Algebra.laws.has_valid c.args.ring.now c.args.low c.requires.low_in

pub returns-in_err-scale-clause-extended : goal.returns-in_err-scale-clause-extended
returns-in_err-scale-clause-extended g c = c.constant.ensures.extended

pub mul-requires : goal.mul-requires
mul-requires g c = record {
  x_in = g.met.R.Algebra.laws.has_stays c.args.ring.now c.constant.new.self c.args.high c.constant.ensures.extended c.requires.high_in;
  y_in = c.in_ok-scale.ensures.made.0;
}

pub returns-in_err-raised-clause-extended : goal.returns-in_err-raised-clause-extended
returns-in_err-raised-clause-extended g c = g.met.R.Algebra.laws.joined c.args.ring.now c.constant.new.self c.mul.new.self c.constant.ensures.extended c.mul.ensures.extended

pub add-requires : goal.add-requires
add-requires g c = record {
  x_in = g.met.R.Algebra.laws.has_stays c.args.ring.now c.mul.new.self c.args.low (g.met.R.Algebra.laws.joined c.args.ring.now c.constant.new.self c.mul.new.self c.constant.ensures.extended c.mul.ensures.extended) c.requires.low_in;
  y_in = c.in_ok-raised.ensures.made.0;
}

pub returns-clause-extended : goal.returns-clause-extended
returns-clause-extended g c =
    let laws = g.met.R.Algebra.laws in
    laws.joined c.args.ring.now c.constant.new.self c.add.new.self c.constant.ensures.extended (laws.joined c.constant.new.self c.mul.new.self c.add.new.self c.mul.ensures.extended c.add.ensures.extended)
