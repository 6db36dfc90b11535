use Rattle.std.proofs.Common.{◌∙◌, ◌-◌, sym, ap}
use Rattle.std.proofs.lemmas.Bool.Decides.{not_from_Decides}
use Rattle.air_field.specs.Powers.{power}
use Rattle.air_field.specs.Residue.{residue_ring, residues}
use Rattle.air_field.specs.laws.Inverse.{modular_inverse}
use Rattle.air_field.specs.laws.Modular.{equal_is}
use Rattle.air_field.proofs.fields.residue_inverse.ResidueDomainExtension.try_inverse.Goals as goal

pub returns-then-eq : goal.returns-then-eq
returns-then-eq g c = (equal_is (residues g.M.Modulus) c.args.self c.ZERO.result).0 (sym c.eq.ensures ∙ c.if-eq.true) ∙ c.ZERO.ensures

pub returns : goal.returns
returns g c =
    let ring = residue_ring g.M.Modulus in
    ap (ring.mul c.args.self) (c.power_of.ensures ∙ ap (λ p. power ring c.args.self (p - 2)) c.P.ensures)
    ∙ modular_inverse (residues g.M.Modulus) g.M.Modulus.is_prime c.args.self
    (λ e. not_from_Decides _ (equal_is (residues g.M.Modulus) c.args.self c.ZERO.result) (sym c.eq.ensures ∙ c.if-eq.false) (e ∙ sym c.ZERO.ensures))
