use Rattle.std.proofs.Common.{List, take}
use Rattle.std.specs.List.{AllZip}
use Rattle.air_field.specs.Term.{Term}
use Rattle.air_symbolic.specs.BaseLeaves.{base_reads, base_grows}
use Rattle.air_symbolic.specs.Pools.{PoolHas, PoolMeans, Grown}
use Rattle.air_draft.specs.DraftTerms.{term_at, under_conditions}
use Rattle.air_draft.proofs.factors.make_under.Given as goal

-- the product has the factors so far
abbrev pub invariant-loop-factor : goal.invariant-loop-factor
invariant-loop-factor g l =
    let means = PoolMeans base_reads g.F.Field.ring in
    let first = l.initial.pool in
    record {
      grown : Grown base_grows base_reads first l.pool;
      here : PoolHas base_reads l.pool l.all;
      made : (ts : List (Term g.row.F.Denot)) (t : Term g.row.F.Denot) → AllZip (means first) l.made ts → means first l.fn.x t
          → means l.pool l.all (under_conditions (term_at ts) (take l.factor-index l.factors) t);
    }
