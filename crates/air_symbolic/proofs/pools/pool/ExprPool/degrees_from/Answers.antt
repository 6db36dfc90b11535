use Rattle.std.proofs.Common.{◌≡◌, ℕ, ◌<◌, ◌∷◌, [], ◌++◌, List, length, get_or, map, sym, ap, ap₂, subst, ◌∙◌, arith}
use Rattle.std.proofs.lemmas.List.{map_more, take_all}
use Rattle.std.proofs.lemmas.Result.{err_from_is_err_and}
use Rattle.air_symbolic.specs.DegreeTables.{capped, AreDegrees}
use Rattle.air_symbolic.proofs.Overflows.{overflows-at}
use Rattle.air_symbolic.proofs.pools.pool.ExprPool.degrees_from.Goals as goal

-- a root's degree, as it is read
read : (degree : ℕ → ℕ) (table lent roots : List ℕ) (k root value : ℕ) → AreDegrees degree (length table) table → lent ≡ table → value ≡ get_or lent root 0
    → get_or roots k root < length table → root ≡ get_or roots k root → value ≡ capped (degree root)
read degree table lent roots k root value known e v here is =
    v ∙ ap (λ t. get_or t root 0) e ∙ known.each root (subst (λ i. i < length table) (sym is) here)

pub returns-in_err-degree-clause-refused : goal.returns-in_err-degree-clause-refused
returns-in_err-degree-clause-refused g c =
    let root = c.root-item.result in
    let p = err_from_is_err_and c.from_residual-in_err-degree.result c.from_residual-in_err-degree.ensures.1 in
    rw (p.1, p.2)
    (λ n. λ (degree : ℕ → ℕ). λ known.
    let at = read degree _ _ c.args.roots.now c.loop-root.root-index root c.degree_at.result known c.deref.ensures.value c.degree_at.ensures (c.requires.all_in _ root c.loop-root-test.true) c.root-item.is in
    overflows-at degree c.args.roots.now c.loop-root.root-index root c.loop-root-test.true c.root-item.is (omega (arith, at, c.in_err-degree.ensures.1)))

pub loop-root-preserved : goal.loop-root-preserved
loop-root-preserved g c =
    let root = c.root-item.result in
    λ (degree : ℕ → ℕ) known.
    let at = read degree _ _ c.args.roots.now c.loop-root.root-index root c.degree_at.result known c.deref.ensures.value c.degree_at.ensures (c.requires.all_in _ root c.loop-root-test.true) c.root-item.is in
    let is : c.in_ok-degree.degree ≡ degree root = omega (arith, at, c.in_ok-degree.ensures) in
    c.in_ok-push.ensures.items
    ∙ (ap₂ (λ l d. l ++ d ∷ []) (c.loop-root.invariant degree known) (is ∙ ap degree c.root-item.is) ∙ sym (map_more degree c.args.roots.now c.loop-root.root-index root c.loop-root-test.true))

pub returns-clause-values : goal.returns-clause-values
returns-clause-values g c = λ (degree : ℕ → ℕ) known. c.loop-root.invariant degree known ∙ ap (map degree) (take_all c.loop-root.root-index c.args.roots.now c.loop-root-test.false)
