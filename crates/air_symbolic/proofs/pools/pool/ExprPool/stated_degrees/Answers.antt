use Rattle.std.proofs.Common.{ℕ, [], ◌∷◌, ◌++◌, map, sym, ap, ap₂, ◌∙◌}
use Rattle.std.proofs.lemmas.List.{map_more, take_all}
use Rattle.air_field.specs.Degree.{degree_by, cached_weight}
use Rattle.air_symbolic.specs.Pools.{term_at}
use Rattle.air_symbolic.proofs.pools.pool.ExprPool.stated_degrees.Goals as goal

pub loop-root-preserved : goal.loop-root-preserved
loop-root-preserved g c =
    let stated = λ (x : ℕ). degree_by cached_weight (term_at g.A.SymLeaf.reads c.args.self.now x) in
    c.in_ok-push.ensures.items
    ∙ (ap₂ (λ l d. l ++ d ∷ []) c.loop-root.invariant (c.degree_multiple.ensures ∙ ap stated c.root-item.is) ∙ sym (map_more stated c.args.roots.now c.loop-root.root-index c.root-item.result c.loop-root-test.true))

pub returns-clause-values : goal.returns-clause-values
returns-clause-values g c =
    let stated = λ (x : ℕ). degree_by cached_weight (term_at g.A.SymLeaf.reads c.args.self.now x) in
    c.loop-root.invariant ∙ ap (map stated) (take_all c.loop-root.root-index c.args.roots.now c.loop-root-test.false)
