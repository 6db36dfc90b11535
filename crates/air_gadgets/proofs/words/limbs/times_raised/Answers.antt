use Rattle.std.proofs.Common.{subst}
use Rattle.air_field.specs.Ring.{image}
use Rattle.air_field.specs.Term.{const_term}
use Rattle.air_field.specs.Part.{whole, in_add_right, in_mul_right}
use Rattle.air_gadgets.specs.Gadgets.{raised_term, times_raised_term}
use Rattle.air_gadgets.proofs.Making.{gives_up, makes_by}
use Rattle.air_gadgets.proofs.words.limbs.times_raised.Goals as goal

pub returns-in_err-constant-clause-makes : goal.returns-in_err-constant-clause-makes
returns-in_err-constant-clause-makes g c =
    let e = c.in_err-constant.field-0.0 in
    let n = const_term (image g.F.Field.ring c.args.n) in
    gives_up e c.from_residual.ensures.1
    (λ t u m k. g.met.R.Algebra.laws.refuses_whole e n (times_raised_term g.F.Field.ring c.args.n t u) (in_mul_right (in_add_right whole))
    (subst (λ v. g.R.Algebra.refuses e (const_term v)) c.from_u64.ensures c.in_err-constant.ensures.refused))

pub returns-in_err-raised-clause-makes : goal.returns-in_err-raised-clause-makes
returns-in_err-raised-clause-makes g c =
    let n = const_term (image g.F.Field.ring c.args.n) in
    let laws = g.met.R.Algebra.laws in
    let is = subst (λ v. g.R.Algebra.means c.constant.new.self c.in_ok-constant.constant (const_term v)) c.from_u64.ensures c.in_ok-constant.ensures.made.1 in
    gives_up c.in_err-raised.field-0.0 c.from_residual-in_err-raised.ensures.1
    (λ t u m k. laws.refuses_whole c.in_err-raised.field-0.0 (raised_term g.F.Field.ring c.args.n t) (times_raised_term g.F.Field.ring c.args.n t u) (in_mul_right whole)
    (c.in_err-raised.ensures.refused t n (laws.means_stays c.args.ring.now c.constant.new.self c.args.x t c.constant.ensures.extended m) is))

pub returns-clause-makes : goal.returns-clause-makes
returns-clause-makes g c =
    let n = const_term (image g.F.Field.ring c.args.n) in
    let laws = g.met.R.Algebra.laws in
    let is = subst (λ v. g.R.Algebra.means c.constant.new.self c.in_ok-constant.constant (const_term v)) c.from_u64.ensures c.in_ok-constant.ensures.made.1 in
    let stays = laws.joined c.args.ring.now c.constant.new.self c.add.new.self c.constant.ensures.extended c.add.ensures.extended in
    makes_by laws c.mul.result c.mul.ensures.made c.mul.ensures.refused
    (λ M h t u m k. h u (raised_term g.F.Field.ring c.args.n t)
    (laws.means_stays c.args.ring.now c.add.new.self c.args.y u stays k)
    (c.in_ok-raised.ensures.made.1 t n (laws.means_stays c.args.ring.now c.constant.new.self c.args.x t c.constant.ensures.extended m) is))

pub constant-requires : goal.constant-requires
constant-requires g c = g.met.R.Algebra.laws.has_valid c.args.ring.now c.args.x c.requires.x_in

pub returns-in_err-constant-clause-extended : goal.returns-in_err-constant-clause-extended
returns-in_err-constant-clause-extended g c = c.constant.ensures.extended

pub add-requires : goal.add-requires
add-requires g c = record {
  x_in = g.met.R.Algebra.laws.has_stays c.args.ring.now c.constant.new.self c.args.x c.constant.ensures.extended c.requires.x_in;
  y_in = c.in_ok-constant.ensures.made.0;
}

pub returns-in_err-raised-clause-extended : goal.returns-in_err-raised-clause-extended
returns-in_err-raised-clause-extended g c = g.met.R.Algebra.laws.joined c.args.ring.now c.constant.new.self c.add.new.self c.constant.ensures.extended c.add.ensures.extended

pub mul-requires : goal.mul-requires
mul-requires g c = record {
  x_in = g.met.R.Algebra.laws.has_stays c.args.ring.now c.add.new.self c.args.y (g.met.R.Algebra.laws.joined c.args.ring.now c.constant.new.self c.add.new.self c.constant.ensures.extended c.add.ensures.extended) c.requires.y_in;
  y_in = c.in_ok-raised.ensures.made.0;
}

pub returns-clause-extended : goal.returns-clause-extended
returns-clause-extended g c =
    let laws = g.met.R.Algebra.laws in
    laws.joined c.args.ring.now c.constant.new.self c.mul.new.self c.constant.ensures.extended (laws.joined c.constant.new.self c.add.new.self c.mul.new.self c.add.ensures.extended c.mul.ensures.extended)
