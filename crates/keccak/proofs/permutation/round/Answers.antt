use Rattle.std.proofs.Common.{◌∙◌, ap, ap₂}
use Rattle.keccak.specs.Steps.{rho, pi, chi, iota}
use Rattle.keccak.specs.Permutation.{round}
use Rattle.keccak.proofs.permutation.round.Goals as goal

pub returns : goal.returns
unfolding round
returns c =
    c.iota.ensures
    ∙ ap₂ iota (c.chi.ensures ∙ ap chi (c.pi.ensures ∙ ap pi (c.rho.ensures ∙ ap rho c.theta.ensures))) c.round_constant.ensures
