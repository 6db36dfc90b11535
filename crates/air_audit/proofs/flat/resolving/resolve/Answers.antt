use Rattle.std.proofs.Common.{◌<◌, length, subst, sym}
use Rattle.std.proofs.lemmas.Result.{err_from_is_err_and}
use Rattle.air_symbolic.specs.BaseLeaves.{base_reads}
use Rattle.air_symbolic.specs.Pools.{term_at}
use Rattle.air_builder.specs.Builders.{Means}
use Rattle.air_builder.specs.Batches.{OrMemory}
use Rattle.air_audit.proofs.Roots.{has_first, one_made, one_refused}
use Rattle.air_audit.proofs.flat.resolving.resolve.Goals as goal

pub returns-in_err-expressions : goal.returns-in_err-expressions
returns-in_err-expressions g c =
    let A = g.AB.AirBuilder in
    let p = err_from_is_err_and c.from_residual.result c.from_residual.ensures.1 in
    rw (p.1, p.2) (one_refused (Means g.AB.Ring.Algebra.means A.ring_of A.reads_as) A.grew A.missing (OrMemory A.refuses) c.args.builder.now c.resolve_all.new.builder (term_at base_reads c.args.pool.now c.args.id) c.in_err-expressions.field-0.0 c.in_err-expressions.ensures)

pub expression_at-requires : goal.expression_at-requires
expression_at-requires g c =
    let A = g.AB.AirBuilder in
    subst (λ v. 0 < length v) (sym c.deref.ensures.value)
    (has_first (Means g.AB.Ring.Algebra.means A.ring_of A.reads_as c.resolve_all.new.builder) c.in_ok-expressions.expressions.items (term_at base_reads c.args.pool.now c.args.id) c.in_ok-expressions.ensures.made)

pub returns : goal.returns
returns g c =
    let A = g.AB.AirBuilder in
    one_made (Means g.AB.Ring.Algebra.means A.ring_of A.reads_as) A.grew A.missing (OrMemory A.refuses) c.args.builder.now c.resolve_all.new.builder (term_at base_reads c.args.pool.now c.args.id) c.in_ok-expressions.expressions c.expression_at.result c.in_ok-expressions.ensures (rw c.deref.ensures.value at c.expression_at.ensures)
