use Rattle.std.proofs.Common.{rules}
use Rattle.air_symbolic.proofs.BasePart.{part-in, part-out}
use Rattle.air_symbolic.proofs.leaves.base_part.base_part.Goals as goal

pub returns-then-not-is_in_basefield : goal.returns-then-not-is_in_basefield
returns-then-not-is_in_basefield g c =
    part-out g.met.EF.ExtensionField.laws
    c.args.c.now (λ h. let t = c.is_in_basefield.ensures.1 h in let f = c.if-not-is_in_basefield.true in search rules)

pub returns-in-len1-up : goal.returns-in-len1-up
returns-in-len1-up g c =
    part-in g.met.EF.ExtensionField.laws
    c.args.c.now c.as_basis_coefficients_slice.result.now c.first-item.result c.as_basis_coefficients_slice.ensures c.in-len1-up.len_at_least c.first-item.is (c.is_in_basefield.ensures.0 (let f = c.if-not-is_in_basefield.false in search rules))
