use Rattle.air_field.specs.Part.{whole, in_sub_left, in_sub_right}
use Rattle.air_gadgets.specs.Gadgets.{packed_xor_term, half_term}
use Rattle.air_gadgets.proofs.Making.{gives_up, makes_by}
use Rattle.air_gadgets.proofs.words.xors.less_packed.Goals as goal

pub returns-in_err-half-clause-makes : goal.returns-in_err-half-clause-makes
returns-in_err-half-clause-makes g c =
    let r = g.F.Field.ring in
    gives_up c.in_err-half.field-0.0 c.from_residual.ensures.1
    (λ t us vs m hu hv. g.met.R.Algebra.laws.refuses_whole _ (packed_xor_term r us vs) (half_term r t us vs) (in_sub_right whole) (c.in_err-half.ensures.makes.refused us vs hu hv))

pub returns-in_err-limb-clause-makes : goal.returns-in_err-limb-clause-makes
returns-in_err-limb-clause-makes g c =
    gives_up c.in_err-limb.field-0.0 c.from_residual-in_err-limb.ensures.1
    (λ t us vs m hu hv. g.met.R.Algebra.laws.refuses_whole _ t (half_term g.F.Field.ring t us vs) (in_sub_left whole) (c.in_err-limb.ensures.refused t m))

pub returns-clause-makes : goal.returns-clause-makes
returns-clause-makes g c =
    let laws = g.met.R.Algebra.laws in
    makes_by laws c.sub.result c.sub.ensures.made c.sub.ensures.refused
    (λ M h t us vs m hu hv. h t (packed_xor_term g.F.Field.ring us vs) (c.in_ok-limb.ensures.made.1 t m)
    (laws.means_stays c.packed_xor.new.ring c.from_var.new.self c.in_ok-half.half (packed_xor_term g.F.Field.ring us vs) c.from_var.ensures.extended (c.in_ok-half.ensures.makes.made.1 us vs hu hv)))

pub packed_xor-requires : goal.packed_xor-requires
packed_xor-requires g c = record { valid = c.requires.valid; some = c.requires.some; same = c.requires.same }

pub from_var-requires : goal.from_var-requires
from_var-requires g c = g.met.R.Algebra.laws.valid_stays c.args.ring.now c.packed_xor.new.ring c.packed_xor.ensures.extended c.requires.valid

pub sub-requires : goal.sub-requires
sub-requires g c = record {
  x_in = c.in_ok-limb.ensures.made.0;
  y_in = g.met.R.Algebra.laws.has_stays c.packed_xor.new.ring c.from_var.new.self c.in_ok-half.half c.from_var.ensures.extended c.in_ok-half.ensures.makes.made.0;
}

pub returns-in_err-half-clause-extended : goal.returns-in_err-half-clause-extended
returns-in_err-half-clause-extended g c = c.packed_xor.ensures.extended

pub returns-in_err-limb-clause-extended : goal.returns-in_err-limb-clause-extended
returns-in_err-limb-clause-extended g c = g.met.R.Algebra.laws.joined c.args.ring.now c.packed_xor.new.ring c.from_var.new.self c.packed_xor.ensures.extended c.from_var.ensures.extended

pub returns-clause-extended : goal.returns-clause-extended
returns-clause-extended g c =
    let laws = g.met.R.Algebra.laws in
    laws.joined c.args.ring.now c.packed_xor.new.ring c.sub.new.self c.packed_xor.ensures.extended
    (laws.joined c.packed_xor.new.ring c.from_var.new.self c.sub.new.self c.from_var.ensures.extended c.sub.ensures.extended)
