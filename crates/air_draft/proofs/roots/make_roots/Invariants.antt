use Rattle.std.proofs.Common.{List, map, take}
use Rattle.std.specs.List.{AllZip}
use Rattle.air_field.specs.Term.{Term}
use Rattle.air_symbolic.specs.BaseLeaves.{base_reads, base_grows}
use Rattle.air_symbolic.specs.Pools.{IsPool, PoolMeans, Grown}
use Rattle.air_draft.specs.DraftTerms.{term_at, claim_term}
use Rattle.air_draft.proofs.roots.make_roots.Given as goal

-- the roots of the claims so far are made
abbrev pub invariant-loop-claim : goal.invariant-loop-claim
invariant-loop-claim g l =
    let means = PoolMeans base_reads g.F.Field.ring in
    let first = l.initial.pool in
    record {
      grown : Grown base_grows base_reads first l.pool;
      pool : IsPool base_reads l.pool;
      made : (ts : List (Term g.row.F.Denot)) → AllZip (means first) l.made ts → AllZip (means l.pool) l.roots.items
          (map (claim_term g.F.Field.ONE (term_at ts) l.conditions) (take l.claim-index l.claims));
    }
