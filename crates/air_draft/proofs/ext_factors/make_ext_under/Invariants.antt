use Rattle.std.proofs.Common.{List, take}
use Rattle.std.specs.List.{AllZip}
use Rattle.air_field.specs.Term.{Term}
use Rattle.air_symbolic.specs.ExtLeaves.{ext_reads, ext_grows}
use Rattle.air_symbolic.specs.ExtPool.{BaseMeans}
use Rattle.air_symbolic.specs.Pools.{PoolHas, PoolMeans, Grown}
use Rattle.air_draft.specs.DraftTerms.{term_at}
use Rattle.air_draft.specs.ExtDraftTerms.{under_lifted}
use Rattle.air_draft.proofs.ext_factors.make_ext_under.Given as goal

-- the product has the factors so far
abbrev pub invariant-loop-factor : goal.invariant-loop-factor
invariant-loop-factor g l =
    let ring = g.F.Field.ring in
    let basis = g.EF.ExtensionField.basis in
    let means = PoolMeans (ext_reads basis) ring in
    let first = l.initial.pool in
    record {
      grown : Grown ext_grows (ext_reads basis) first l.pool;
      here : PoolHas (ext_reads basis) l.pool l.all;
      made : (bs : List (Term g.row.F.Denot)) (t : Term g.row.F.Denot) → AllZip (BaseMeans ring basis first) l.base bs → means first l.fn.x t
          → means l.pool l.all (under_lifted (term_at bs) (take l.factor-index l.factors) t);
    }
