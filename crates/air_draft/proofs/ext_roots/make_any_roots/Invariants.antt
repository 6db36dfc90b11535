use Rattle.std.proofs.Common.{List, map, take}
use Rattle.std.specs.List.{AllZip}
use Rattle.air_field.specs.Term.{Term}
use Rattle.air_symbolic.specs.ExtLeaves.{ext_reads, ext_grows}
use Rattle.air_symbolic.specs.ExtPool.{BaseMeans}
use Rattle.air_symbolic.specs.Pools.{IsPool, PoolMeans, Grown}
use Rattle.air_draft.specs.DraftTerms.{term_at}
use Rattle.air_draft.specs.ExtDraftTerms.{claim_assertion}
use Rattle.air_draft.specs.ExtRoots.{RootMeans}
use Rattle.air_draft.proofs.ext_roots.make_any_roots.Given as goal

-- the roots of the claims so far are made
abbrev pub invariant-loop-claim : goal.invariant-loop-claim
invariant-loop-claim g l =
    let basis = g.EF.ExtensionField.basis in
    let ring = g.F.Field.ring in
    let first = l.initial.pool in
    record {
      grown : Grown ext_grows (ext_reads basis) first l.pool;
      pool : IsPool (ext_reads basis) l.pool;
      made : (bs ts : List (Term g.row.F.Denot)) → AllZip (BaseMeans ring basis first) l.base bs
          → AllZip (PoolMeans (ext_reads basis) ring first) l.made ts
          → AllZip (RootMeans ring basis l.pool) l.roots.items
          (map (claim_assertion g.F.Field.ONE (term_at bs) (term_at ts) l.conditions) (take l.claim-index l.claims));
    }
