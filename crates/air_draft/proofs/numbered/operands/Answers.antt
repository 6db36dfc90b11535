use Rattle.std.proofs.Common.{length, arith}
use Rattle.std.proofs.lemmas.Result.{err_from_is_err_and}
use Rattle.air_draft.proofs.NumberedTerms.{all_mean_still}
use Rattle.air_draft.proofs.Refusing.{refuses_more}
use Rattle.air_draft.proofs.numbered.operands.Goals as goal

pub returns-in_err-y-clause-refused : goal.returns-in_err-y-clause-refused
returns-in_err-y-clause-refused g c =
    let laws = g.met.R.Algebra.laws in
    let n = length c.args.made.now in
    let p = err_from_is_err_and c.from_residual-in_err-y.result c.from_residual-in_err-y.ensures.1 in
    rw (p.1, p.2) (λ ts t all left right.
    let then = all_mean_still laws _ _ c.args.made.now ts c.operand.ensures.extended all in
    refuses_more n n _ (omega arith) (λ h. laws.refuses_whole _ _ _ right h) (c.in_err-y.ensures.refused ts then))

pub returns-clause-made : goal.returns-clause-made
returns-clause-made g c ts all =
    let laws = g.met.R.Algebra.laws in
    let then = all_mean_still laws _ _ c.args.made.now ts c.operand.ensures.extended all in
    (laws.means_stays _ _ _ _ c.operand-2.ensures.extended (c.in_ok-x.ensures.made.1 ts all), c.in_ok-y.ensures.made.1 ts then)
