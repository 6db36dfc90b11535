use Rattle.air_field.proofs.Binomials.{base_tells}
use Rattle.air_field.proofs.fields.binomial_field.BinomialExtensionExtensionFieldResidue.is_in_basefield.Goals as goal

pub returns : goal.returns
returns g c =
    base_tells g.M.BinomialModulus.W c.args.self.now c.eq.result c.ZERO.result c.ZERO.result c.ZERO.result c.ZERO.ensures c.ZERO.ensures c.ZERO.ensures
    c.eq.ensures
