use Rattle.std.proofs.Common.{ℕ, get_or, ap, subst, ◌∙◌, arith}
use Rattle.air_field.specs.Degree.{degree_by}
use Rattle.air_symbolic.specs.Weights.{leaf_weight}
use Rattle.air_symbolic.specs.Pools.{term_at}
use Rattle.air_symbolic.specs.PoolRefusals.{IsChecked}
use Rattle.air_symbolic.specs.laws.PoolRefusals.{checked_answers}
use Rattle.air_symbolic.proofs.pools.pool.ExprPool.root_degree.Goals as goal

pub returns : goal.returns
returns g c =
    let degree = λ (i : ℕ). degree_by (leaf_weight c.args.weight) (term_at g.A.SymLeaf.reads c.args.self.now i) in
    let is =
    c.degree_at.ensures ∙ ap (λ t. get_or t c.args.id 0) c.deref.ensures.value ∙ c.in_ok-table.ensures.degrees.each c.args.id (omega (arith, c.number-last.ensures)) in
    checked_answers (degree c.args.id) c.checked_degree.result (subst (λ d. IsChecked d c.checked_degree.result) is c.checked_degree.ensures)
