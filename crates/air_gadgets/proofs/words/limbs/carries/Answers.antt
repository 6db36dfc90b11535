use Rattle.std.proofs.Common.{◌≡◌, true}
use Rattle.air_gadgets.specs.Gadgets.{carry_term, carries_term}
use Rattle.air_gadgets.proofs.LimbLaws.{carry_part}
use Rattle.air_gadgets.proofs.Making.{gives_up, makes_from}
use Rattle.air_gadgets.proofs.words.limbs.carries.Goals as goal

pub returns-in_err-product-clause-makes : goal.returns-in_err-product-clause-makes
returns-in_err-product-clause-makes g c =
    let r = g.F.Field.ring in
    gives_up c.in_err-product.field-0.0 c.from_residual.ensures.1
    (λ t m. g.met.R.Algebra.laws.refuses_whole _ (carry_term r c.args.n t) (carries_term r c.args.two c.args.n t) (carry_part r c.args.two c.args.n t) (c.in_err-product.ensures.makes.refused t t m m))

pub returns-clause-makes : goal.returns-clause-makes
returns-clause-makes g c =
    let two : c.args.two ≡ true = cc in
    rw (two)
    (makes_from c.times_raised-2.result
    (λ M h t m. h t (carry_term g.F.Field.ring c.args.n t)
    (g.met.R.Algebra.laws.means_stays c.args.ring.now c.times_raised.new.ring c.args.x t c.times_raised.ensures.extended m)
    (c.in_ok-product.ensures.makes.made.1 t t m m))
    c.times_raised-2.ensures.makes)

pub times_raised-requires : goal.times_raised-requires
times_raised-requires g c = record { x_in = c.requires.x_in; y_in = c.requires.x_in }

pub times_raised-requires-2 : goal.times_raised-requires-2
times_raised-requires-2 g c = record {
  x_in = g.met.R.Algebra.laws.has_stays c.args.ring.now c.times_raised.new.ring c.args.x c.times_raised.ensures.extended c.requires.x_in;
  y_in = c.in_ok-product.ensures.makes.made.0;
}

pub returns-in_err-product-clause-extended : goal.returns-in_err-product-clause-extended
returns-in_err-product-clause-extended g c = c.times_raised.ensures.extended

pub returns-then-not-two-clause-extended : goal.returns-then-not-two-clause-extended
returns-then-not-two-clause-extended g c = c.times_raised.ensures.extended

pub returns-clause-extended : goal.returns-clause-extended
returns-clause-extended g c = g.met.R.Algebra.laws.joined c.args.ring.now c.times_raised.new.ring c.times_raised-2.new.ring c.times_raised.ensures.extended c.times_raised-2.ensures.extended
