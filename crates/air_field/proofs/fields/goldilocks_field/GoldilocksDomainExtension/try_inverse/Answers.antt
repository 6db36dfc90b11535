use Rattle.std.proofs.Common.{◌∙◌, sym, ap}
use Rattle.std.proofs.lemmas.Bool.Decides.{not_from_Decides}
use Rattle.air_field.specs.Goldilocks.{goldilocks, goldilocks_modular, goldilocks_ring}
use Rattle.air_field.specs.laws.Inverse.{modular_inverse}
use Rattle.air_field.specs.laws.Modular.{equal_is}
use Rattle.air_field.specs.laws.Primes.{goldilocks_prime}
use Rattle.air_field.proofs.fields.goldilocks_field.GoldilocksDomainExtension.try_inverse.Goals as goal

pub returns-then-eq : goal.returns-then-eq
returns-then-eq c = (equal_is goldilocks_modular c.args.self (goldilocks 0)).0 (sym c.eq.ensures ∙ c.if-eq.true)

pub returns : goal.returns
returns c =
    ap (goldilocks_ring.mul c.args.self) c.power_of.ensures
    ∙ modular_inverse goldilocks_modular goldilocks_prime c.args.self
    (λ e. not_from_Decides _ (equal_is goldilocks_modular c.args.self (goldilocks 0)) (sym c.eq.ensures ∙ c.if-eq.false) e)
