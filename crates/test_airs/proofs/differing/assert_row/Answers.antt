use Rattle.std.proofs.lemmas.Result.{err_from_is_err_and}
use Rattle.std.proofs.Common.{rules, arith, [], ◌∷◌, refl}
use Rattle.air_field.specs.Algebra.{bool_check_term}
use Rattle.air_field.specs.Term.{sub_term, mul_term}
use Rattle.air_builder.specs.Assertion.{Base}
use Rattle.air_builder.specs.laws.Batches.{grew_one, grew_none, refused_one}
use Rattle.air_builder.specs.laws.Filters.{means_kept, inside_joined, inside_refused, refused_filter, after_filter}
use Rattle.test_airs.specs.Differing.{differing_asserts}
use Rattle.air_builder.specs.Notation.{current}
use Rattle.test_airs.proofs.DifferingParts.{part_condition, inside, ended, completed}
use Rattle.test_airs.proofs.differing.assert_row.Goals as goal

pub returns-in_err-condition : goal.returns-in_err-condition
returns-in_err-condition g c =
    let ring = g.met.AB.Ring.Algebra.laws in
    let laws = g.met.AB.AirBuilder.laws in
    let one = g.AB.F.Field.ONE in
    let p = err_from_is_err_and c.from_residual.result c.from_residual.ensures.1 in
    rw (p.1, p.2)
    (ended ring laws _ _ _ (differing_asserts one) 0 (omega arith) c.in_err-condition.ensures.keeps
    (c.in_err-condition.ensures.refused (current 1) (current 2) (differing_asserts one) c.requires.means.y_means c.requires.means.z_means (part_condition one)))

pub returns-in_err-assert_bool : goal.returns-in_err-assert_bool
returns-in_err-assert_bool g c =
    let ring = g.met.AB.Ring.Algebra.laws in
    let laws = g.met.AB.AirBuilder.laws in
    let one = g.AB.F.Field.ONE in
    let s = inside ring laws c.in_ok-filter.ensures.inner c.in_ok-filter.ensures.condition c.in_ok-condition.ensures.keeps (c.in_ok-condition.ensures.made (current 1) (current 2) c.requires.means.y_means c.requires.means.z_means) c.requires.means in
    let p = err_from_is_err_and c.from_residual-in_err-assert_bool.result c.from_residual-in_err-assert_bool.ensures.1 in
    rw (p.1, p.2)
    (ended ring laws _ _ _ (differing_asserts one) 0 (omega arith)
    (after_filter ring laws _ _ _ _ _ _ _ _ [] [] (sub_term (current 1) (current 2)) s.grown s.differs (grew_none c.in_err-assert_bool.ensures) (search rules))
    (laws.refuses_first c.args.builder.now c.in_err-assert_bool.field-0.0 (Base (mul_term (sub_term (current 1) (current 2)) (bool_check_term one (current 0))) ∷ []) (Base (mul_term (sub_term (current 1) (current 2)) (sub_term (current 0) (current 1))) ∷ [])
    (refused_filter ring laws c.in_ok-filter.filter.condition c.args.builder.now c.in_ok-filter.filter.inner.now c.in_err-assert_bool.field-0.0 [] (Base (bool_check_term one (current 0)) ∷ []) (sub_term (current 1) (current 2)) s.grown s.differs
    (refused_one c.in_err-assert_bool.ensures (Base (bool_check_term one (current 0))) ((current 0), s.x_means, refl)))))

pub returns-in_err-assert_eq : goal.returns-in_err-assert_eq
returns-in_err-assert_eq g c =
    let ring = g.met.AB.Ring.Algebra.laws in
    let laws = g.met.AB.AirBuilder.laws in
    let one = g.AB.F.Field.ONE in
    let s = inside ring laws c.in_ok-filter.ensures.inner c.in_ok-filter.ensures.condition c.in_ok-condition.ensures.keeps (c.in_ok-condition.ensures.made (current 1) (current 2) c.requires.means.y_means c.requires.means.z_means) c.requires.means in
    let bit = grew_one c.in_ok-assert_bool.ensures (Base (bool_check_term one (current 0))) ((current 0), s.x_means, refl) in
    let refused = refused_one c.in_err-assert_eq.ensures (Base (sub_term (current 0) (current 1))) ((current 0), (current 1), means_kept ring laws _ _ _ (current 0) bit.keeps.inside s.x_means, means_kept ring laws _ _ _ (current 1) bit.keeps.inside s.y_means, refl) in
    let p = err_from_is_err_and c.from_residual-in_err-assert_eq.result c.from_residual-in_err-assert_eq.ensures.1 in
    rw (p.1, p.2)
    (ended ring laws _ _ _ (differing_asserts one) 1 (omega arith)
    (after_filter ring laws _ _ _ _ _ _ _ _ [] (Base (bool_check_term one (current 0)) ∷ []) (sub_term (current 1) (current 2)) s.grown s.differs
    (inside_joined ring laws _ _ _ _ _ _ _ _ _ (Base (bool_check_term one (current 0)) ∷ []) [] bit (grew_none c.in_err-assert_eq.ensures)) (search rules))
    (refused_filter ring laws c.in_ok-filter.filter.condition c.args.builder.now c.in_ok-filter.filter.inner.now c.in_err-assert_eq.field-0.0 [] (Base (bool_check_term one (current 0)) ∷ Base (sub_term (current 0) (current 1)) ∷ []) (sub_term (current 1) (current 2)) s.grown s.differs
    (inside_refused ring laws _ _ _ _ _ _ c.in_err-assert_eq.field-0.0 (Base (bool_check_term one (current 0)) ∷ []) (Base (sub_term (current 0) (current 1)) ∷ []) bit refused)))

pub returns : goal.returns
returns g c =
    let ring = g.met.AB.Ring.Algebra.laws in
    let laws = g.met.AB.AirBuilder.laws in
    let one = g.AB.F.Field.ONE in
    let s = inside ring laws c.in_ok-filter.ensures.inner c.in_ok-filter.ensures.condition c.in_ok-condition.ensures.keeps (c.in_ok-condition.ensures.made (current 1) (current 2) c.requires.means.y_means c.requires.means.z_means) c.requires.means in
    let bit = grew_one c.in_ok-assert_bool.ensures (Base (bool_check_term one (current 0))) ((current 0), s.x_means, refl) in
    let same = grew_one c.in_ok-assert_eq.ensures (Base (sub_term (current 0) (current 1))) ((current 0), (current 1), means_kept ring laws _ _ _ (current 0) bit.keeps.inside s.x_means, means_kept ring laws _ _ _ (current 1) bit.keeps.inside s.y_means, refl) in
    completed ring laws _ _ _ (differing_asserts one)
    (after_filter ring laws _ _ _ _ _ _ _ _ [] _ (sub_term (current 1) (current 2)) s.grown s.differs
    (inside_joined ring laws _ _ _ _ _ _ _ _ _ (Base (bool_check_term one (current 0)) ∷ []) (Base (sub_term (current 0) (current 1)) ∷ []) bit same) (search rules))
