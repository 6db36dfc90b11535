use Rattle.std.proofs.Common.{List, ℕ, ap}
use Rattle.std.specs.Prelude.{bit_xor, slice_index}
use Rattle.keccak.specs.Steps.{lane, state_of, theta}
use Rattle.keccak.proofs.steps.theta.Goals as goal

pub returns : goal.returns
unfolding theta
returns c = ap (λ (d : List ℕ). state_of (λ x y. bit_xor (lane c.args.a x y) (slice_index d x))) c.effects-d.ensures
