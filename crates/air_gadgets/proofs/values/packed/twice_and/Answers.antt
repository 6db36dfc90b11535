use Rattle.std.proofs.lemmas.Result.{err_from_is_err_and, IfOk-weaker, IfErr-weaker}
use Rattle.air_field.specs.Algebra.{double_term}
use Rattle.air_field.specs.Part.{whole, in_add_left}
use Rattle.air_gadgets.specs.BitTerms.{twice_and_term}
use Rattle.air_gadgets.proofs.values.packed.twice_and.Goals as goal

pub returns-in_err-twice-clause-refused : goal.returns-in_err-twice-clause-refused
returns-in_err-twice-clause-refused g c =
    let p = err_from_is_err_and c.from_residual.result c.from_residual.ensures.1 in
    rw (p.1, p.2) (λ t u m n. g.met.R.Algebra.laws.refuses_whole _ (double_term t) (twice_and_term t u) (in_add_left whole) (c.in_err-twice.ensures.refused t m))

pub returns-clause-made : goal.returns-clause-made
returns-clause-made g c =
    IfOk-weaker c.add.result _ _
    (λ z k. (k.0, λ t u m n. k.1 (double_term t) u (c.in_ok-twice.ensures.made.1 t m) (g.met.R.Algebra.laws.means_stays _ _ _ u c.double.ensures.extended n)))
    c.add.ensures.made

pub returns-clause-refused : goal.returns-clause-refused
returns-clause-refused g c =
    IfErr-weaker c.add.result _ _
    (λ e k t u m n. k (double_term t) u (c.in_ok-twice.ensures.made.1 t m) (g.met.R.Algebra.laws.means_stays _ _ _ u c.double.ensures.extended n))
    c.add.ensures.refused
