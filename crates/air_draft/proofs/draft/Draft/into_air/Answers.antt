use Rattle.std.proofs.Common.{◌<◌, inr, rules}
use Rattle.std.proofs.lemmas.Result.{err_from_is_err_and}
use Rattle.air_symbolic.specs.BaseLeaves.{base_reads}
use Rattle.air_symbolic.specs.Pools.{PoolMeans, size}
use Rattle.air_draft.specs.Drafts.{claim_terms}
use Rattle.air_draft.proofs.NumberedTerms.{All-beside}
use Rattle.air_draft.proofs.Recording.{records_terms}
use Rattle.air_draft.proofs.draft.Draft.into_air.Goals as goal

pub new-requires : goal.new-requires
new-requires g c =
    let made = c.in_ok-pool.field-0 in
    record {
      here = All-beside (PoolMeans base_reads g.F.Field.ring made.pool) (λ i. i < size made.pool) (λ i t m. m.here)
          made.roots.items (claim_terms g.F.Field.ring g.F.Field.ONE c.args.self) c.in_ok-pool.ensures.means;
    }

pub returns-in_err-air-clause-refused : goal.returns-in_err-air-clause-refused
returns-in_err-air-clause-refused g c =
    let p = err_from_is_err_and c.from_residual-in_err-air.result c.from_residual-in_err-air.ensures.1 in
    rw (p.1, p.2, c.in_err-air.ensures.refused) (inr (search rules, tt))

pub returns-clause-records : goal.returns-clause-records
returns-clause-records g c =
    let made = c.in_ok-pool.field-0 in
    let labelled = c.with_labels.ensures in
    let air = c.in_ok-air.ensures in
    rw (labelled.pool, labelled.roots, air.pool, air.roots)
    (records_terms g.F.Field.ring made.pool made.roots.items (claim_terms g.F.Field.ring g.F.Field.ONE c.args.self) c.in_ok-pool.ensures.means)
