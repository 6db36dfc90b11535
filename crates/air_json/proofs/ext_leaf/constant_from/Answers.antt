use Rattle.serde_json.specs.View.{view}
use Rattle.air_json.proofs.Lifting.{right_count, made_constant}
use Rattle.air_json.proofs.ext_leaf.constant_from.Goals as goal

pub from_basis_coefficients-requires : goal.from_basis_coefficients-requires
from_basis_coefficients-requires g c = right_count g.F.PrimeField64.residues c.DIMENSION.result g.EF.ExtensionField.DIMENSION c.args.at (view c.args.contents.now) c.in_ok-elements.elements.items c.deref.result.now c.DIMENSION.ensures c.in_ok-elements.ensures c.deref.ensures.value

pub returns : goal.returns
returns g c =
    let EF = g.EF.ExtensionField in
    made_constant g.F.PrimeField64.residues g.F.Field.ring EF.over EF.basis EF.DIMENSION g.met.EF.ExtensionField.laws c.DIMENSION.result c.args.at (view c.args.contents.now) c.in_ok-elements.elements.items c.deref.result.now c.from_basis_coefficients.result c.DIMENSION.ensures c.in_ok-elements.ensures c.deref.ensures.value c.from_basis_coefficients.ensures
