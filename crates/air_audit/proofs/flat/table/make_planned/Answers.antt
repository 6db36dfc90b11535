use Rattle.std.proofs.Common.{ℕ, ◌<◌, length, get_or, All, subst, sym}
use Rattle.std.proofs.lemmas.Result.{err_from_is_err_and}
use Rattle.air_symbolic.specs.BaseLeaves.{base_reads}
use Rattle.air_symbolic.specs.Pools.{term_at}
use Rattle.air_builder.specs.Builders.{Means}
use Rattle.air_builder.specs.Refusals.{PartOf}
use Rattle.air_audit.specs.Plans.{number_at}
use Rattle.air_audit.specs.Tables.{IsMade, HasAt}
use Rattle.air_audit.proofs.Roots.{all_made, all_of_map, has_within}
use Rattle.air_audit.proofs.flat.table.make_planned.Goals as goal

pub returns-in_err-table : goal.returns-in_err-table
returns-in_err-table g c =
    let p = err_from_is_err_and c.from_residual.result c.from_residual.ensures.1 in
    let term = λ (q : ℕ). term_at base_reads c.args.pool.now (number_at c.args.plan.now.numbers.items q) in
    rw (p.1, p.2) record {
      keeps = c.in_err-table.ensures.keeps;
      made = tt;
      there = tt;
      refused = λ ss all. c.in_err-table.ensures.refused ss (all_of_map (λ t. PartOf t ss) term c.args.plan.now.places.items all);
    }

pub read_places-requires : goal.read_places-requires
read_places-requires g c =
    let A = g.AB.AirBuilder in
    let plan = c.args.plan.now in
    let made = λ (q : ℕ). IsMade (Means g.AB.Ring.Algebra.means A.ring_of A.reads_as) A.missing c.make_places.new.builder (term_at base_reads c.args.pool.now (number_at plan.numbers.items q)) in
    subst (λ v. All (λ q. q < length c.deref.result.now) v) (sym c.deref-2.ensures.value)
    (λ k d lt. subst (λ t. get_or plan.places.items k d < length t) (sym c.deref.ensures.value)
    (has_within (made (get_or plan.places.items k d)) c.in_ok-table.table.items (get_or plan.places.items k d) (c.in_ok-table.ensures.made (get_or plan.places.items k d) (c.requires.planned.within k d lt))))

pub returns : goal.returns
returns g c =
    let A = g.AB.AirBuilder in
    let plan = c.args.plan.now in
    let term = λ (q : ℕ). term_at base_reads c.args.pool.now (number_at plan.numbers.items q) in
    let made = λ (q : ℕ). IsMade (Means g.AB.Ring.Algebra.means A.ring_of A.reads_as) A.missing c.make_places.new.builder (term q) in
    let table = subst (λ t. All (λ q. HasAt (made q) t q) plan.places.items) (sym c.deref.ensures.value)
    (λ k d lt. c.in_ok-table.ensures.made (get_or plan.places.items k d) (c.requires.planned.within k d lt)) in
    let read = rw c.deref-2.ensures.value at c.read_places.ensures.read in
    all_made g.met.AB.Ring.Algebra.laws g.met.AB.AirBuilder.laws _ _ term c.deref.result.now plan.places.items c.read_places.result c.make_places.ensures.keeps table read c.read_places.ensures.refused
