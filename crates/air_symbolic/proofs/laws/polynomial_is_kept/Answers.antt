use Rattle.air_field.specs.laws.Polynomial.{Same-poly}
use Rattle.air_symbolic.proofs.laws.polynomial_is_kept.Goals as goal

pub returns : goal.returns
returns g c = λ a laws t h s n. Same-poly g.A.F.Field.ring a laws s h.simplifies.same n
