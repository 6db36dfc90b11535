use Rattle.std.proofs.Common.{◌<◌, ◌≤◌, ◌+◌, ◌^◌, length, refl, ap₂, subst, ◌∙◌, arith}
use Rattle.air_symbolic.specs.laws.Nodes.{of_two}
use Rattle.air_symbolic.proofs.pools.pool.ExprPool.insert_mul.Goals as goal

pub insert-requires-clause-fits : goal.insert-requires-clause-fits
insert-requires-clause-fits g c =
    let added = ap₂ (λ a b. a + b) c.degree_multiple.ensures c.degree_multiple-2.ensures in
    record {
      valid = tt;
      below = of_two (λ z. z < length c.args.self.now.nodes) c.args.x c.args.y c.requires.x_in c.requires.y_in;
      degree = c.in-Some.ensures.1 ∙ added;
      in_range = omega (arith, c.in-Some.ensures);
    }

pub returns-in-None-clause-overflow : goal.returns-in-None-clause-overflow
returns-in-None-clause-overflow g c =
    let past : 2 ^ 64 ≤ c.degree_multiple.result + c.degree_multiple-2.result = omega (arith, c.in-None.ensures) in
    (λ o. subst (λ n. 2 ^ 64 ≤ n) (ap₂ (λ a b. a + b) c.degree_multiple.ensures c.degree_multiple-2.ensures) past, λ h. refl)
